use Rattle.std.proofs.Common.{◌≡◌, ◌+◌, ◌-◌, ◌*◌, ◌≤◌, map}
use Rattle.std.specs.Prelude.{vec_len, vec_capacity}
use Rattle.canonical_abi.specs.Reading.{reading, each_at}
use Rattle.canonical_abi.specs.Types.{prim_type}
use Rattle.tables.specs.Closed.{prim_of}
use Rattle.values.specs.Val.{value_of}
use Rattle.lift_lower.proofs.ReadingStepByStep.{with_front}
use Rattle.lift_lower.proofs.scalar_lists.load_each.Given as goal

abbrev pub invariant-loop-index : goal.invariant-loop-index
invariant-loop-index l =
    let f = reading (prim_type (prim_of l.primitive)) l.memory in
    (with_front (map value_of l.items.items) (each_at f l.step (l.start + l.index * l.step) (l.count - l.index)) ≡ each_at f l.step l.start l.count)
    × (vec_len l.items + (l.count - l.index) ≤ vec_capacity l.items)
