use Rattle.canonical_abi.proofs.Calls.TameHalvesKeepPromise.{tame-entry-keeps-promise}
use Rattle.canonical_abi.proofs.laws.tame_entry_keeps_promise.Goals as goal

pub returns : goal.returns
returns g c = λ tame. tame-entry-keeps-promise _ _ tame
