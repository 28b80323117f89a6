use Rattle.std.proofs.Common.{ℕ, ◌*◌, ◌<◌, ◌≤◌}
use Rattle.std.specs.Int.{w32}
use Rattle.canonical_abi.specs.Reading.{number_at}
use Rattle.ranges.proofs.flags.are_words_at_most.Given as goal

abbrev pub invariant-loop-i : goal.invariant-loop-i
invariant-loop-i l = (j : ℕ) → j < l.i → number_at l.part (j * 4) w32 ≤ l.largest
