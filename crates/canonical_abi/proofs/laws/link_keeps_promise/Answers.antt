use Rattle.canonical_abi.proofs.Calls.LinkKeepsPromise.{link-keeps-promise}
use Rattle.canonical_abi.proofs.laws.link_keeps_promise.Goals as goal

pub returns : goal.returns
returns g c = record { either = link-keeps-promise _ _ _ _; exact = link-keeps-promise _ _ _ _ }
