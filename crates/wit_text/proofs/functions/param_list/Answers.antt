use Rattle.std.proofs.Common.{◌≡◌, ◌≤◌, ◌<◌, ◌+◌, ℕ, suc, ◌-◌, length, map, List, [], ◌∷◌, ◌++◌, arith}
use Rattle.std.proofs.lemmas.Result.{err_from_is_err_and}
use Rattle.std.proofs.lemmas.List.{map_push, length-append}
use Rattle.atoms.specs.Production.{never}
use Rattle.atoms.proofs.productions.ListLoops.{entry_goes_on, entry_is_last, entry_fails, more_fails}
use Rattle.wit_tokens.specs.declared.error.Expected.TheVariants as want
use Rattle.wit_tokens.specs.Lexing.{limit}
use Rattle.wit_tokens.specs.View.{field_view}
use Rattle.wit_tokens.specs.Syntax.{Member}
use Rattle.wit_grammar.specs.Lookahead.{Phrase}
use Rattle.wit_grammar.specs.Faults.{wanted}
use Rattle.wit_grammar.specs.Left.{tokens_from, text_end}
use Rattle.wit_grammar.specs.Grammar.{nesting, member, after_member}
use Rattle.wit_grammar.proofs.FaultsAreHandedOn.{Fails-on}
use Rattle.wit_text.proofs.functions.param_list.Goals as goal

abbrev last : ℕ → Phrase (List Member)
last end = never (wanted end want.Identifier)

room : (n : ℕ) → n < limit → limit - n ≡ suc (limit - suc n)
room n h = omega arith

few : (n left all : ℕ) → n + left ≤ all → all < limit → n < limit
few n left all h l = omega arith

pub returns-in_err-entry-clause-gives : goal.returns-in_err-entry-clause-gives
returns-in_err-entry-clause-gives c =
    let tokens = c.args.tokens.now in
    let end = text_end tokens in
    let before = c.list.list.items in
    let p = err_from_is_err_and c.from_residual.result c.from_residual.ensures.1 in
    rw (p.1, p.2) (Fails-on c.in_err-entry.field-0.0 _ _
    (entry_fails (λ m. after_member end) (member end nesting) (last end) (map field_view before) _ _ (tokens_from tokens c.list.left) c.in_err-entry.field-0.0 _ (room (length before) (few _ _ _ c.list.invariant.shrinks c.requires)) c.list.invariant.so_far)
    c.in_err-entry.ensures.gives)

pub returns-in_err-more-clause-gives : goal.returns-in_err-more-clause-gives
returns-in_err-more-clause-gives c =
    let tokens = c.args.tokens.now in
    let end = text_end tokens in
    let before = c.list.list.items in
    let p = err_from_is_err_and c.from_residual-in_err-more.result c.from_residual-in_err-more.ensures.1 in
    rw (p.1, p.2) (Fails-on c.in_err-more.field-0.0 _ _
    (more_fails (λ m. after_member end) (member end nesting) (last end) (map field_view before) _ _ (tokens_from tokens c.list.left) (field_view c.in_ok-entry.entry) (tokens_from tokens c.in_ok-entry.after) c.in_err-more.field-0.0 _ (room (length before) (omega (arith, c.requires, c.in_ok-entry.ensures.shorter, c.list.invariant.shrinks))) c.in_ok-entry.ensures.gives c.list.invariant.so_far)
    c.in_err-more.ensures.gives)

pub returns-then-not-more-clause-gives : goal.returns-then-not-more-clause-gives
returns-then-not-more-clause-gives c =
    let tokens = c.args.tokens.now in
    let end = text_end tokens in
    let before = c.list.list.items in
    let front = map field_view before in
    let pushed : map field_view c.push.new.self.items ≡ front ++ field_view c.in_ok-entry.entry ∷ [] = rw c.in_ok-push.ensures.items (map_push field_view before c.in_ok-entry.entry) in
    rw pushed (entry_is_last (λ m. after_member end) (member end nesting) (last end) front _ _ (tokens_from tokens c.list.left) (field_view c.in_ok-entry.entry) (tokens_from tokens c.in_ok-entry.after) (tokens_from tokens c.in_ok-more.after) _ (room (length before) (omega (arith, c.requires, c.in_ok-entry.ensures.shorter, c.list.invariant.shrinks))) c.in_ok-entry.ensures.gives (rw (← c.if-not-more.true) c.in_ok-more.ensures.gives) c.list.invariant.so_far)

pub list-preserved : goal.list-preserved
list-preserved c =
    let tokens = c.args.tokens.now in
    let end = text_end tokens in
    let before = c.list.list.items in
    let front = map field_view before in
    let pushed : map field_view c.push.new.self.items ≡ front ++ field_view c.in_ok-entry.entry ∷ [] = rw c.in_ok-push.ensures.items (map_push field_view before c.in_ok-entry.entry) in
    let longer : length c.push.new.self.items ≡ suc (length before) = rw c.in_ok-push.ensures.items (omega (arith, length-append before (c.in_ok-entry.entry ∷ []))) in
    record {
      so_far = rw (pushed, longer) (entry_goes_on (λ m. after_member end) (member end nesting) (last end) front _ _ (tokens_from tokens c.list.left) (field_view c.in_ok-entry.entry) (tokens_from tokens c.in_ok-entry.after) (tokens_from tokens c.in_ok-more.after) _ (room (length before) (omega (arith, c.requires, c.in_ok-entry.ensures.shorter, c.list.invariant.shrinks))) c.in_ok-entry.ensures.gives (rw (← c.if-not-more.false) c.in_ok-more.ensures.gives) c.list.invariant.so_far);
      shrinks = omega (arith, longer, c.in_ok-entry.ensures.shorter, c.in_ok-more.ensures.shorter, c.list.invariant.shrinks);
    }
