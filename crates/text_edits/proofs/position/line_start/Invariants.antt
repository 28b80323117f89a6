use Rattle.std.proofs.Common.{◌≡◌, ℕ, ◌-◌, ◌<◌, ◌≤◌, get_or}
use Rattle.text_edits.proofs.position.line_start.Given as goal

abbrev pub invariant-loop-at : goal.invariant-loop-at
invariant-loop-at l = record {
  within : l.start ≤ l.at;
  begins : 0 < l.start → get_or l.front (l.start - 1) 0 ≡ 10;
  is_last : (k : ℕ) → l.start ≤ k → k < l.at → get_or l.front k 0 ≡ 10 → ⊥;
}
