use Rattle.std.proofs.Common.{◌≡◌, ◌-◌, ◌≤◌, length}
use Rattle.canonical_abi.specs.Types.{prim_type, boolean}
use Rattle.ranges.specs.Bytewise.{Crosses}
use Rattle.ranges.proofs.bools.cross_bools.Given as goal

abbrev pub invariant-loop-done : goal.invariant-loop-done
invariant-loop-done g l = (l.done ≤ l.elements.count)
    × Crosses (prim_type boolean) l.source l.elements.from l.done g.G.Guest.allocates (g.G.Guest.memory l.initial.guest) l.elements.to (g.G.Guest.memory l.guest)
    × (length (g.G.Guest.memory l.guest).bytes ≡ length (g.G.Guest.memory l.initial.guest).bytes)

abbrev pub decreases-loop-done : goal.decreases-loop-done
decreases-loop-done g l = l.elements.count - l.done
