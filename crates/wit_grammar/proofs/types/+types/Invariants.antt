use Rattle.std.proofs.Common.{◌≡◌, ◌≤◌, ◌+◌, ◌*◌, ◌-◌, length, map}
use Rattle.atoms.proofs.productions.ListLoops.{with_front}
use Rattle.wit_tokens.specs.Lexing.{limit}
use Rattle.wit_grammar.specs.Left.{tokens_from, count_from, text_end}
use Rattle.wit_tokens.specs.View.{ty_view}
use Rattle.wit_grammar.specs.Grammar.{ty, members}
use Rattle.wit_grammar.proofs.types.+types.Given as goal

abbrev pub decreases-list_type : goal.decreases-list_type
decreases-list_type l = 8 * l.nesting + 1

abbrev pub decreases-option_type : goal.decreases-option_type
decreases-option_type l = 8 * l.nesting + 1

abbrev pub decreases-error_type : goal.decreases-error_type
decreases-error_type l = 8 * l.nesting + 1

abbrev pub decreases-result_error : goal.decreases-result_error
decreases-result_error l = 8 * l.nesting + 2

abbrev pub decreases-result_ok : goal.decreases-result_ok
decreases-result_ok l = 8 * l.nesting + 2

abbrev pub decreases-result_parts : goal.decreases-result_parts
decreases-result_parts l = 8 * l.nesting + 3

abbrev pub decreases-result_type : goal.decreases-result_type
decreases-result_type l = 8 * l.nesting + 4

abbrev pub decreases-member_list : goal.decreases-member_list
decreases-member_list l = 8 * l.nesting + 1

abbrev pub decreases-tuple_type : goal.decreases-tuple_type
decreases-tuple_type l = 8 * l.nesting + 2

abbrev pub decreases-type_at : goal.decreases-type_at
decreases-type_at l = 8 * l.nesting

abbrev pub decreases-begun : goal.decreases-begun
decreases-begun l = 8 * l.nesting + 5

abbrev pub decreases-type_behind : goal.decreases-type_behind
decreases-type_behind l = 8 * l.nesting + 6

abbrev pub decreases-type_of : goal.decreases-type_of
decreases-type_of l = 8 * l.nesting + 7

abbrev pub invariant-member_list-list : goal.invariant-member_list-list
invariant-member_list-list l = record {
  so_far : with_front (map ty_view l.list.items) ((members (text_end l.tokens) (ty (text_end l.tokens) l.nesting) (limit - length l.list.items)).read (tokens_from l.tokens l.left)) ≡ (members (text_end l.tokens) (ty (text_end l.tokens) l.nesting) limit).read (tokens_from l.tokens l.at);
  shrinks : length l.list.items + count_from l.tokens l.left ≤ count_from l.tokens l.at;
}

abbrev pub decreases-member_list-list : goal.decreases-member_list-list
decreases-member_list-list l = count_from l.tokens l.left
