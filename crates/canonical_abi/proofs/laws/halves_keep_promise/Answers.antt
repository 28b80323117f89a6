use Rattle.canonical_abi.proofs.Calls.HalvesKeepPromise.{halves-keep-promise}
use Rattle.canonical_abi.proofs.laws.halves_keep_promise.Goals as goal

pub returns : goal.returns
returns g c = halves-keep-promise _ _ _
