use Rattle.std.proofs.Common.{◌≡◌, ◌+◌, drop}
use Rattle.wit_tokens.specs.Lexing.{digit_run}
use Rattle.wit_tokens.proofs.lexer.digit_len.Given as goal

abbrev pub invariant-loop-byte : goal.invariant-loop-byte
invariant-loop-byte l = record {
  so_far : l.len + digit_run (drop l.byte-index l.text) ≡ digit_run l.text;
  place : l.len ≡ l.byte-index;
}
