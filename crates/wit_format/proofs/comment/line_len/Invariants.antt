use Rattle.std.proofs.Common.{◌≡◌, ◌+◌, drop}
use Rattle.wit_tokens.specs.Lexing.{line_run}
use Rattle.wit_format.proofs.comment.line_len.Given as goal

abbrev pub invariant-loop-byte : goal.invariant-loop-byte
invariant-loop-byte l = record {
  so_far : l.len + line_run (drop l.byte-index l.text) ≡ line_run l.text;
  place : l.len ≡ l.byte-index;
}
