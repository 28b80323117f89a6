use Rattle.std.proofs.Common.{ℕ, ◌*◌, ◌<◌, ◌≤◌}
use Rattle.std.specs.Int.{w16}
use Rattle.canonical_abi.specs.Reading.{number_at}
use Rattle.ranges.proofs.flags.are_pairs_at_most.Given as goal

abbrev pub invariant-loop-i : goal.invariant-loop-i
invariant-loop-i l = (j : ℕ) → j < l.i → number_at l.part (j * 2) w16 ≤ l.largest
