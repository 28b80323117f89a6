use Rattle.std.proofs.Common.{◌≡◌, ℕ, [], ◌∷◌, ◌+◌, ◌*◌, ◌<◌, ◌≤◌, get_or}
use Rattle.ranges.specs.Bytewise.{capped_byte}
use Rattle.ranges.specs.Columns.{case_in, columns_seen}
use Rattle.ranges.proofs.words.merge_rows.Given as goal

abbrev pub invariant-loop-i : goal.invariant-loop-i
invariant-loop-i l =
    (l.bad ≤ l.i) × (l.bad ≡ 0 → (e : ℕ) → e < l.i → case_in l.column l.new (0 + e * l.run.width) < l.column.rows.cases)
    × (l.bad ≡ 0 → (e j : ℕ) → e < l.i → j < l.run.width → get_or l.buffer (e * l.run.width + j) 0
    ≡ capped_byte (get_or l.column.rows.caps (case_in l.column l.new (0 + e * l.run.width) * 16 + j) 0) (get_or l.old (e * l.run.width + j) 0) (get_or l.new (e * l.run.width + j) 0))
    × (l.seen ≤ l.i * 255) × (l.bad ≡ 0 → l.seen ≡ columns_seen (l.column ∷ []) l.run.width l.new 0 l.i)
