use Rattle.canonical_abi.proofs.Calls.TameLinkKeepsPromise.{tame-link-keeps-promise}
use Rattle.canonical_abi.proofs.laws.tame_link_keeps_promise.Goals as goal

pub returns : goal.returns
returns g c = record { either = tame-link-keeps-promise _ _ _ _; exact = tame-link-keeps-promise _ _ _ _ }
