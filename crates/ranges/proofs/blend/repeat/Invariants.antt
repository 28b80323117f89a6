use Rattle.std.proofs.Common.{◌≡◌, ℕ, ◌%◌, ◌<◌, get_or}
use Rattle.ranges.proofs.blend.repeat.Given as goal

abbrev pub invariant-loop-i : goal.invariant-loop-i
invariant-loop-i l = (j : ℕ) → j < l.i → get_or l.caps j 0 ≡ get_or l.pattern j 0

abbrev pub invariant-loop-i-2 : goal.invariant-loop-i-2
invariant-loop-i-2 l = (j : ℕ) → j < l.i → get_or l.caps j 0 ≡ get_or l.pattern (j % l.size) 0
