use Rattle.std.proofs.Common.{◌≡◌, ℕ, ◌+◌, ◌-◌, ◌*◌, ◌<◌, ◌≤◌, length}
use Rattle.canonical_abi.specs.Types.{ClosedType}
use Rattle.canonical_abi.specs.Layout.{size}
use Rattle.ranges.specs.Bytewise.{IsBytewise, IsTested, HasCaps, Crosses}
use Rattle.ranges.proofs.blend.cross_bytewise.Given as goal

abbrev pub invariant-loop-done : goal.invariant-loop-done
invariant-loop-done g l = (l.done ≤ l.elements.count)
    × ((t : ClosedType) → IsBytewise t → HasCaps t l.step l.element.bytes → ((i : ℕ) → i < l.elements.count → IsTested t l.source (l.elements.from + i * size t))
    → Crosses t l.source l.elements.from l.done g.G.Guest.allocates (g.G.Guest.memory l.initial.guest) l.elements.to (g.G.Guest.memory l.guest))
    × (length (g.G.Guest.memory l.guest).bytes ≡ length (g.G.Guest.memory l.initial.guest).bytes)

abbrev pub decreases-loop-done : goal.decreases-loop-done
decreases-loop-done g l = l.elements.count - l.done
