use Rattle.std.proofs.Common.{◌≡◌, ℕ, ◌+◌, ◌-◌, ◌*◌, ◌^◌, ◌<◌, ◌≤◌, min, List, length, get_or}
use Rattle.canonical_abi.specs.Types.{ClosedType}
use Rattle.ranges.specs.Bytewise.{Crosses, each_nodes}
use Rattle.ranges.specs.Columns.{overlaid, planned_cap, HasPlan}
use Rattle.ranges.proofs.columns.cross_columns.Given as goal

-- what is laid over the caps of any element is what is laid over those of the plan
abbrev pub invariant-loop-done : goal.invariant-loop-done
invariant-loop-done g l = (l.done ≤ l.elements.count)
    × ((t : ClosedType) → HasPlan t l.plan
    → Crosses t l.source l.elements.from l.done g.G.Guest.allocates (g.G.Guest.memory l.initial.guest) l.elements.to (g.G.Guest.memory l.guest))
    × ((t : ClosedType) → HasPlan t l.plan
    → min l.nodes (2 ^ 64 - 1) ≡ min (l.initial.nodes + each_nodes t l.source l.elements.from l.done) (2 ^ 64 - 1))
    × (length (g.G.Guest.memory l.guest).bytes ≡ length (g.G.Guest.memory l.initial.guest).bytes)
    × ((m : List ℕ) (a e j : ℕ) → e < l.whole → e < l.elements.count - l.done → j < l.plan.plain.size
    → overlaid l.plan.columns.items m a j (get_or l.caps (e * l.plan.plain.size + j) 0) ≡ planned_cap l.plan m a j)

abbrev pub decreases-loop-done : goal.decreases-loop-done
decreases-loop-done g l = l.elements.count - l.done
