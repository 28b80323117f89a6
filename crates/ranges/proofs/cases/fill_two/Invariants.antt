use Rattle.std.proofs.Common.{◌≡◌, ℕ, [], ◌∷◌, ◌+◌, ◌*◌, ◌<◌, ◌≤◌, get_or}
use Rattle.ranges.specs.Columns.{case_in, laid, columns_seen}
use Rattle.ranges.proofs.cases.fill_two.Given as goal

abbrev pub invariant-loop-i : goal.invariant-loop-i
invariant-loop-i l =
    (l.bad ≤ l.i) × (l.seconds ≤ l.i * 255) × (l.bad ≡ 0 → (e : ℕ) → e < l.i → case_in l.column l.source (l.elements.from + e * l.elements.step) < 2)
    × (l.bad ≡ 0 → (e j : ℕ) → e < l.i → j < l.elements.step
    → get_or l.caps (e * l.elements.step + j) 0 ≡ laid l.column (case_in l.column l.source (l.elements.from + e * l.elements.step)) j (get_or l.initial.caps (e * l.elements.step + j) 0))
    × (l.bad ≡ 0 → (z : ℕ) × (z + l.seconds ≡ l.i)
    × (columns_seen (l.column ∷ []) l.elements.step l.source l.elements.from l.i ≡ z * get_or l.column.rows.nodes 0 0 + l.seconds * get_or l.column.rows.nodes 1 0))
    × ((k : ℕ) → l.i * l.elements.step ≤ k → get_or l.caps k 0 ≡ get_or l.initial.caps k 0)
