use Rattle.canonical_abi.proofs.Calls.TameCallKeepsPromise.{tame-call-keeps-promise}
use Rattle.canonical_abi.proofs.laws.tame_call_keeps_promise.Goals as goal

pub returns : goal.returns
returns g c = record { either = tame-call-keeps-promise _ _ _ _; exact = tame-call-keeps-promise _ _ _ _ }
