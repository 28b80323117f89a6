use Rattle.std.proofs.Common.{◌≡◌, ◌+◌, ◌-◌, ◌≤◌, length, drop}
use Rattle.wit_tokens.specs.Lexing.{word_run}
use Rattle.wit_tokens.proofs.lexer.word_len.Given as goal

abbrev pub invariant-loop-len : goal.invariant-loop-len
invariant-loop-len l = record {
  so_far : l.len + word_run (drop l.len l.text) ≡ word_run l.text;
  within : l.len ≤ length l.text;
}

abbrev pub decreases-loop-len : goal.decreases-loop-len
decreases-loop-len l = length l.text - l.len
