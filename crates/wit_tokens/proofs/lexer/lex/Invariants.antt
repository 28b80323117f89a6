use Rattle.std.proofs.Common.{◌-◌, ◌≤◌, length}
use Rattle.wit_tokens.specs.Lexing.{Upto}
use Rattle.wit_tokens.proofs.lexer.lex.Given as goal

abbrev pub invariant-loop-at : goal.invariant-loop-at
invariant-loop-at l = record {
  so_far : Upto l.bytes l.at l.tokens.items;
  few : length l.tokens.items ≤ l.at;
  within : l.at ≤ length l.bytes;
}

abbrev pub decreases-loop-at : goal.decreases-loop-at
decreases-loop-at l = length l.bytes - l.at
