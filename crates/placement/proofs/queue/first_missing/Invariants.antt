use Rattle.std.proofs.Common.{◌≡◌, ◌≤◌, ◌<◌, true, false, slice_index_or, ℕ}
use Rattle.placement.proofs.queue.first_missing.Given as goal

abbrev pub invariant-loop-place : goal.invariant-loop-place
invariant-loop-place l = (j : ℕ) → l.from ≤ j → j < l.place → slice_index_or l.placed (slice_index_or l.used j 0) false ≡ true
