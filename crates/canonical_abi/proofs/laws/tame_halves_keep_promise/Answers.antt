use Rattle.canonical_abi.proofs.Calls.TameHalvesKeepPromise.{tame-halves-keep-promise}
use Rattle.canonical_abi.proofs.laws.tame_halves_keep_promise.Goals as goal

pub returns : goal.returns
returns g c = tame-halves-keep-promise _ _ _
