use Rattle.std.proofs.Common.{◌≡◌, ◌≤◌, ◌+◌, ◌-◌, length, map}
use Rattle.atoms.specs.Production.{listed}
use Rattle.atoms.proofs.productions.ListLoops.{with_front}
use Rattle.wit_tokens.specs.Lexing.{limit}
use Rattle.wit_grammar.specs.Left.{tokens_from, count_from, text_end}
use Rattle.wit_grammar.specs.Faults.{is, wanted}
use Rattle.wit_grammar.specs.Grammar.{comma, close_brace}
use Rattle.wit_grammar.proofs.lists.comma_list.Given as goal

abbrev pub invariant-list : goal.invariant-list
invariant-list g l = record {
  so_far : with_front (map g.R.EntryReader.meaning l.list.items) ((listed (is comma) (is close_brace) (λ x. wanted (text_end l.tokens) (g.R.EntryReader.wanted_behind x)) (g.R.EntryReader.production l.reader (text_end l.tokens)) (limit - length l.list.items)).read (tokens_from l.tokens l.left))
      ≡ (listed (is comma) (is close_brace) (λ x. wanted (text_end l.tokens) (g.R.EntryReader.wanted_behind x)) (g.R.EntryReader.production l.reader (text_end l.tokens)) limit).read (tokens_from l.tokens l.at);
  shrinks : length l.list.items + count_from l.tokens l.left ≤ count_from l.tokens l.at;
}

abbrev pub decreases-list : goal.decreases-list
decreases-list g l = count_from l.tokens l.left
