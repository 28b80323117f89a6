use Rattle.std.proofs.Common.{◌≡◌, ◌+◌, ◌-◌, ◌≤◌, length, drop}
use Rattle.wit_tokens.specs.Lexing.{comment_run, plus}
use Rattle.wit_format.proofs.comment.comment_len.Given as goal

abbrev pub invariant-loop-level : goal.invariant-loop-level
invariant-loop-level l = record {
  so_far : plus l.len (comment_run l.level (drop l.len l.text)) ≡ comment_run 1 l.text;
  shallow : l.level ≤ l.len + 1;
  within : l.len ≤ length l.text;
}

abbrev pub decreases-loop-level : goal.decreases-loop-level
decreases-loop-level l = length l.text - l.len
