use Rattle.std.proofs.Common.{◌≡◌, ◌⊎◌, ℕ, ◌<◌, get_or}
use Rattle.ranges.proofs.words.are_masks.Given as goal

abbrev pub invariant-loop-i : goal.invariant-loop-i
invariant-loop-i l = (j : ℕ) → j < l.i → (get_or l.rows.caps j 0 ≡ 0) ⊎ (get_or l.rows.caps j 0 ≡ 255)
