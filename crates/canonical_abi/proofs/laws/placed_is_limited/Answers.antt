use Rattle.canonical_abi.proofs.Sessions.PlacedIsHeld.{placed-is-limited}
use Rattle.canonical_abi.proofs.laws.placed_is_limited.Goals as goal

pub returns : goal.returns
returns g c = placed-is-limited _
