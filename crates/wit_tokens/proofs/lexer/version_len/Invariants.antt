use Rattle.std.proofs.Common.{◌≡◌, ◌+◌, ◌-◌, ◌≤◌, ◌==◌, length, drop, if◌then◌else◌}
use Rattle.wit_tokens.specs.Lexing.{version_run}
use Rattle.wit_tokens.proofs.lexer.version_len.Given as goal

abbrev pub invariant-loop-at : goal.invariant-loop-at
invariant-loop-at l = record {
  so_far : (if version_run (drop l.at l.text) == 0 then l.len else l.at + version_run (drop l.at l.text)) ≡ version_run l.text;
  within : l.at ≤ length l.text;
  before : l.len ≤ l.at;
}

abbrev pub decreases-loop-at : goal.decreases-loop-at
decreases-loop-at l = length l.text - l.at
