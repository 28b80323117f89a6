use Rattle.canonical_abi.proofs.Calls.HalvesKeepPromise.{return-keeps-promise}
use Rattle.canonical_abi.proofs.laws.return_keeps_promise.Goals as goal

pub returns : goal.returns
returns g c = λ honest. return-keeps-promise _ _ honest
