use Rattle.std.proofs.Common.{◌≡◌, ◌-◌, ◌<◌, false, length}
use Rattle.wit_tokens.proofs.LowerWords.{lower_from}
use Rattle.wit_tokens.proofs.WordsByLanes.{word_from}
use Rattle.wit_tokens.proofs.lexer.lower_word_len.Given as goal

abbrev pub invariant-loop-last : goal.invariant-loop-last
invariant-loop-last l = record {
  so_far : word_from l.text l.last ≡ lower_from false l.text;
  within : l.last < length l.text;
}

abbrev pub decreases-loop-last : goal.decreases-loop-last
decreases-loop-last l = length l.text - l.last
