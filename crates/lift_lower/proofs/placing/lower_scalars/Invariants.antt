use Rattle.std.proofs.Common.{◌≡◌, map, take, length}
use Rattle.lift_lower.specs.Lowered.{CarryScalars}
use Rattle.values.specs.Val.{value_of}
use Rattle.lift_lower.proofs.placing.lower_scalars.Given as goal

abbrev pub invariant-loop-value : goal.invariant-loop-value
invariant-loop-value l = CarryScalars (take l.value-index (map value_of l.values)) l.flats.items × (length l.flats.items ≡ l.value-index)
