use Rattle.std.proofs.Common.{◌≡◌, ℕ, ◌<◌, get_or}
use Rattle.ranges.specs.Bytewise.{capped_byte}
use Rattle.ranges.proofs.blend.blend.Given as goal

abbrev pub invariant-loop-i : goal.invariant-loop-i
invariant-loop-i l = (j : ℕ) → j < l.i → get_or l.buffer j 0 ≡ capped_byte (get_or l.caps j 0) (get_or l.old j 0) (get_or l.new j 0)
