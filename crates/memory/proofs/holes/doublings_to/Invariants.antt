use Rattle.std.proofs.Common.{ℕ, ◌-◌, ◌^◌, ◌<◌, ◌≤◌}
use Rattle.memory.proofs.holes.doublings_to.Given as goal

abbrev pub invariant-loop-depth : goal.invariant-loop-depth
invariant-loop-depth l = record {
  few : l.depth ≤ 21;
  least : (d : ℕ) → d < l.depth → 2 ^ d < l.count;
}

abbrev pub decreases-loop-depth : goal.decreases-loop-depth
decreases-loop-depth l = 22 - l.depth
