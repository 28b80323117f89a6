use Rattle.canonical_abi.proofs.Sessions.PlacedIsHeld.{placed-is-held}
use Rattle.canonical_abi.proofs.laws.placed_is_held.Goals as goal

pub returns : goal.returns
returns g c = λ honest. placed-is-held _ _ honest
