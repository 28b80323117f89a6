use Rattle.std.proofs.Common.{◌≡◌, ◌-◌, ◌≤◌, length}
use Rattle.canonical_abi.specs.Types.{flags_type}
use Rattle.ranges.specs.Bytewise.{Crosses}
use Rattle.ranges.proofs.flags.cross_flags.Given as goal

abbrev pub invariant-loop-done : goal.invariant-loop-done
invariant-loop-done g l = (l.done ≤ l.elements.count)
    × Crosses (flags_type l.labels) l.source l.elements.from l.done g.G.Guest.allocates (g.G.Guest.memory l.initial.guest) l.elements.to (g.G.Guest.memory l.guest)
    × (length (g.G.Guest.memory l.guest).bytes ≡ length (g.G.Guest.memory l.initial.guest).bytes)

abbrev pub decreases-loop-done : goal.decreases-loop-done
decreases-loop-done g l = l.elements.count - l.done
