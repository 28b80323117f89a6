use Rattle.std.proofs.Common.{◌≡◌, ℕ, [], ◌∷◌, ◌+◌, ◌*◌, ◌%◌, ◌<◌, ◌≤◌, get_or}
use Rattle.ranges.specs.Columns.{case_in, laid, columns_seen}
use Rattle.ranges.proofs.cases.fill_rows.Given as goal

abbrev pub invariant-loop-i : goal.invariant-loop-i
invariant-loop-i l =
    (l.bad ≤ l.i) × (l.bad ≡ 0 → (e : ℕ) → e < l.i → case_in l.column l.source (l.elements.from + e * l.elements.step) < l.column.rows.cases)
    × ((e j : ℕ) → e < l.i → j < l.elements.step
    → get_or l.caps (e * l.elements.step + j) 0 ≡ laid l.column (case_in l.column l.source (l.elements.from + e * l.elements.step) % 16) j (get_or l.initial.caps (e * l.elements.step + j) 0))
    × ((k : ℕ) → l.i * l.elements.step ≤ k → get_or l.caps k 0 ≡ get_or l.initial.caps k 0) × (l.seen ≤ l.i * 255)
    × (l.bad ≡ 0 → l.seen ≡ columns_seen (l.column ∷ []) l.elements.step l.source l.elements.from l.i)
