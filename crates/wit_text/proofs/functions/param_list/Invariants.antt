use Rattle.std.proofs.Common.{◌≡◌, ◌≤◌, ◌+◌, ◌-◌, length, map}
use Rattle.atoms.proofs.productions.ListLoops.{with_front}
use Rattle.wit_tokens.specs.Lexing.{limit}
use Rattle.wit_tokens.specs.View.{field_view}
use Rattle.wit_grammar.specs.Left.{tokens_from, count_from, text_end}
use Rattle.wit_grammar.specs.Grammar.{nesting, param_list}
use Rattle.wit_text.proofs.functions.param_list.Given as goal

abbrev pub invariant-list : goal.invariant-list
invariant-list l = record {
  so_far : with_front (map field_view l.list.items) ((param_list (text_end l.tokens) nesting (limit - length l.list.items)).read (tokens_from l.tokens l.left)) ≡ (param_list (text_end l.tokens) nesting limit).read (tokens_from l.tokens l.at);
  shrinks : length l.list.items + count_from l.tokens l.left ≤ count_from l.tokens l.at;
}

abbrev pub decreases-list : goal.decreases-list
decreases-list l = count_from l.tokens l.left
