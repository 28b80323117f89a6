use Rattle.std.proofs.Common.{◌≡◌, ℕ, ◌<◌, ◌≤◌, get_or}
use Rattle.ranges.specs.Plan.{IsBlank}
use Rattle.ranges.proofs.caps.put.Given as goal

abbrev pub invariant-loop-i : goal.invariant-loop-i
invariant-loop-i l =
    ((j : ℕ) → l.at ≤ j → j < l.i → get_or l.bytes j 0 ≡ l.cap)
    × ((j : ℕ) → j < l.at → get_or l.bytes j 0 ≡ get_or l.initial.bytes j 0)
    × IsBlank l.bytes l.i
