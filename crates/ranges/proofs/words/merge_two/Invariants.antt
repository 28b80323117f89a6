use Rattle.std.proofs.Common.{◌≡◌, ℕ, [], ◌∷◌, ◌+◌, ◌*◌, ◌<◌, ◌≤◌, get_or}
use Rattle.ranges.specs.Bytewise.{capped_byte}
use Rattle.ranges.specs.Columns.{case_in, columns_seen}
use Rattle.ranges.proofs.words.merge_two.Given as goal

abbrev pub invariant-loop-i : goal.invariant-loop-i
invariant-loop-i l =
    (l.bad ≤ l.i) × (l.seconds ≤ l.i * 255) × (l.bad ≡ 0 → (e : ℕ) → e < l.i → case_in l.column l.new (0 + e * 8) < 2)
    × (l.bad ≡ 0 → (e j : ℕ) → e < l.i → j < 8 → get_or l.buffer (e * 8 + j) 0
    ≡ capped_byte (get_or l.column.rows.caps (case_in l.column l.new (0 + e * 8) * 16 + j) 0) (get_or l.old (e * 8 + j) 0) (get_or l.new (e * 8 + j) 0))
    × (l.bad ≡ 0 → (z : ℕ) × (z + l.seconds ≡ l.i)
    × (columns_seen (l.column ∷ []) 8 l.new 0 l.i ≡ z * get_or l.column.rows.nodes 0 0 + l.seconds * get_or l.column.rows.nodes 1 0))
