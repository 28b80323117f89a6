use Rattle.std.proofs.Common.{◌≡◌, ◌*◌, length, map, take}
use Rattle.canonical_abi.specs.Layout.{prim_width}
use Rattle.tables.specs.Closed.{prim_of}
use Rattle.lift_lower.specs.ScalarLists.{bytes_of_scalars}
use Rattle.values.specs.Val.{value_of}
use Rattle.lift_lower.proofs.scalar_lists.fill_each.Given as goal

abbrev pub invariant-loop-index : goal.invariant-loop-index
invariant-loop-index l =
    (length l.buffer ≡ length l.initial.buffer)
    × (take (l.index * l.step) l.buffer ≡ bytes_of_scalars (prim_width (prim_of l.fn.primitive)) (take l.index (map value_of l.items)))
