use Rattle.canonical_abi.proofs.Sessions.HeldStaysHeld.{placed-is-held-live}
use Rattle.canonical_abi.proofs.laws.tame_placed_is_held.Goals as goal

pub returns : goal.returns
returns g c = placed-is-held-live _ _
