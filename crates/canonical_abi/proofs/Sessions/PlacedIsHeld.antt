-- A value that was placed by an honest guest is held in live blocks that were free.
use Rattle.std.proofs.Common.{◌∷◌, Err}
use Rattle.canonical_abi.specs.Guest.{Allocation, Release, IsHonest}
use Rattle.canonical_abi.specs.Trace.{grant}
use Rattle.canonical_abi.specs.TameLaws.{HonestIsTame}
use Rattle.canonical_abi.specs.Keeping.{PlacedIsHeld, PlacedIsLimited}
use Rattle.canonical_abi.proofs.Traces.ConfinedTraces.{trace-limited}
use Rattle.canonical_abi.proofs.Calls.WaysOfCalls.{own-outside}
use Rattle.canonical_abi.proofs.Sessions.HeldStaysHeld.{place-went}
use Rattle.canonical_abi.proofs.Sessions.HeldValues.{placed-held}

pub placed-is-held : (allocates : Allocation) (releases : Release) → IsHonest allocates releases → PlacedIsHeld allocates
placed-is-held allocates releases honest = record {
  placed = placed-held allocates releases honest;
  failed = λ t v old new fault places.
      own-outside allocates releases honest old new (place-went allocates releases (HonestIsTame allocates releases honest) t v old new (Err fault) places);
}

pub placed-is-limited : (allocates : Allocation) → PlacedIsLimited allocates
placed-is-limited allocates keeps t v old new held few places = trace-limited allocates keeps (grant places.0 ∷ places.1) old new places.5 few
