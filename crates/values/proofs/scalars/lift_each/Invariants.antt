use Rattle.std.proofs.Common.{◌≡◌, take, length}
use Rattle.values.specs.Scalars.{ScalarsStand}
use Rattle.values.proofs.scalars.lift_each.Given as goal

abbrev pub invariant-loop-i : goal.invariant-loop-i
invariant-loop-i l =
    ScalarsStand (take l.i l.types) (take l.i l.flats) l.values.items × (length l.values.items ≡ l.i)
