use Rattle.canonical_abi.proofs.Calls.TameHalvesKeepPromise.{tame-return-keeps-promise}
use Rattle.canonical_abi.proofs.laws.tame_return_keeps_promise.Goals as goal

pub returns : goal.returns
returns g c = λ tame. tame-return-keeps-promise _ _ tame
