use Rattle.std.proofs.Common.{◌≡◌, ℕ, ◌*◌, ◌<◌, ◌≤◌, true}
use Rattle.std.specs.Int.{w32}
use Rattle.canonical_abi.specs.Reading.{number_at}
use Rattle.canonical_abi.specs.Values.{is_scalar}
use Rattle.ranges.proofs.chars.all_chars.Given as goal

abbrev pub invariant-loop-i : goal.invariant-loop-i
invariant-loop-i l = (l.bad ≤ l.i) × (l.bad ≡ 0 → (j : ℕ) → j < l.i → is_scalar (number_at l.part (j * 4) w32) ≡ true)
