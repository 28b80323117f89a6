use Rattle.std.proofs.Common.{◌≡◌, ◌-◌, ◌≤◌, length, map, take}
use Rattle.canonical_abi.specs.Layout.{prim_width}
use Rattle.canonical_abi.specs.Trace.{EventLeads, write}
use Rattle.tables.specs.Closed.{prim_of}
use Rattle.lift_lower.specs.ScalarLists.{bytes_of_scalars}
use Rattle.values.specs.Val.{value_of}
use Rattle.lift_lower.proofs.scalar_lists.store_scalars.Given as goal

abbrev pub invariant-loop-done : goal.invariant-loop-done
invariant-loop-done g l =
    (l.done ≤ length l.items)
    × EventLeads g.G.Guest.allocates (g.G.Guest.memory l.initial.guest) (write l.start (bytes_of_scalars (prim_width (prim_of l.primitive)) (take l.done (map value_of l.items)))) (g.G.Guest.memory l.guest)
    × (length (g.G.Guest.memory l.guest).bytes ≡ length (g.G.Guest.memory l.initial.guest).bytes)

abbrev pub decreases-loop-done : goal.decreases-loop-done
decreases-loop-done g l = length l.items - l.done
