use Rattle.canonical_abi.proofs.Calls.HalvesKeepPromise.{entry-keeps-promise}
use Rattle.canonical_abi.proofs.laws.entry_keeps_promise.Goals as goal

pub returns : goal.returns
returns g c = λ honest. entry-keeps-promise _ _ honest
