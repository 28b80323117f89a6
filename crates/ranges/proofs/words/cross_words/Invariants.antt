use Rattle.std.proofs.Common.{◌≡◌, ℕ, [], ◌∷◌, ◌+◌, ◌-◌, ◌*◌, ◌<◌, ◌≤◌, length, get_or}
use Rattle.canonical_abi.specs.Types.{ClosedType}
use Rattle.canonical_abi.specs.Layout.{size}
use Rattle.ranges.specs.Bytewise.{cap_at, IsBytewise, IsTested, Crosses}
use Rattle.ranges.specs.Columns.{case_in, columns_seen}
use Rattle.ranges.proofs.words.cross_words.Given as goal

abbrev pub invariant-loop-done : goal.invariant-loop-done
invariant-loop-done g l = (l.done ≤ l.elements.count)
    × ((e : ℕ) → e < l.done → case_in l.column l.source (l.elements.from + e * l.column.rows.size) < l.column.rows.cases)
    × ((t : ClosedType) → IsBytewise t → size t ≡ l.column.rows.size
    → ((a : ℕ) → case_in l.column l.source a < l.column.rows.cases → IsTested t l.source a)
    → ((a j : ℕ) → case_in l.column l.source a < l.column.rows.cases → j < l.column.rows.size → get_or l.column.rows.caps (case_in l.column l.source a * 16 + j) 0 ≡ cap_at t l.source a j)
    → Crosses t l.source l.elements.from l.done g.G.Guest.allocates (g.G.Guest.memory l.initial.guest) l.elements.to (g.G.Guest.memory l.guest))
    × (l.seen ≡ columns_seen (l.column ∷ []) l.column.rows.size l.source l.elements.from l.done) × (l.seen ≤ l.done * 255)
    × (length (g.G.Guest.memory l.guest).bytes ≡ length (g.G.Guest.memory l.initial.guest).bytes)

abbrev pub decreases-loop-done : goal.decreases-loop-done
decreases-loop-done g l = l.elements.count - l.done
