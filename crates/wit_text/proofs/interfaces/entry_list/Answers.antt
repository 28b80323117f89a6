use Rattle.std.proofs.Common.{◌≡◌, ◌<◌, ℕ, suc, ◌-◌, length, map, List, [], ◌∷◌, ◌++◌, arith}
use Rattle.std.proofs.lemmas.Result.{err_from_is_err_and}
use Rattle.std.proofs.lemmas.List.{map_push, length-append}
use Rattle.atoms.proofs.productions.ListLoops.{many_goes_on, many_fails, many_closes}
use Rattle.wit_tokens.specs.Lexing.{limit}
use Rattle.wit_tokens.specs.Tokens.{Lexeme, lexeme}
use Rattle.wit_tokens.specs.View.{entry_view}
use Rattle.wit_grammar.specs.Faults.{is, wanted}
use Rattle.wit_grammar.specs.Left.{tokens_from, text_end}
use Rattle.wit_grammar.specs.Grammar.{entry, nesting, close_brace}
use Rattle.wit_tokens.specs.declared.error.TextError.{TextError}
use Rattle.wit_tokens.specs.declared.error.Expected.TheVariants as want
use Rattle.wit_grammar.proofs.FaultsAreHandedOn.{Fails-on, peeked}
use Rattle.wit_text.proofs.interfaces.entry_list.Goals as goal

abbrev fault : ℕ → List Lexeme → TextError
fault end = wanted end want.Identifier

room : (n : ℕ) → n < limit → limit - n ≡ suc (limit - suc n)
room n h = omega arith

pub returns-in-Some-clause-gives : goal.returns-in-Some-clause-gives
returns-in-Some-clause-gives c =
    let tokens = c.args.tokens.now in
    let end = text_end tokens in
    let before = c.list.list.items in
    rw c.shrink_to_fit.ensures.items (many_closes (is close_brace) (fault end) (entry end nesting) (map entry_view before) (limit - length before) _ (tokens_from tokens c.list.left) (lexeme tokens.text.now c.in-Some.field-0) _ _ (room (length before) (omega (arith, c.requires, c.list.invariant.shrinks))) (peeked tokens.text.now _ _ _ _ c.in-Some.is c.peek-brace.ensures.gives) c.list.invariant.so_far)

pub returns-in_err-entry-clause-gives : goal.returns-in_err-entry-clause-gives
returns-in_err-entry-clause-gives c =
    let tokens = c.args.tokens.now in
    let end = text_end tokens in
    let before = c.list.list.items in
    let p = err_from_is_err_and c.from_residual.result c.from_residual.ensures.1 in
    rw (p.1, p.2) (Fails-on c.in_err-entry.field-0.0 _ _
    (many_fails (is close_brace) (fault end) (entry end nesting) (map entry_view before) (limit - length before) _ (tokens_from tokens c.list.left) (tokens_from tokens c.peek-brace.result.1) c.in_err-entry.field-0.0 _ (room (length before) (omega (arith, c.requires, c.list.invariant.shrinks))) (peeked tokens.text.now _ _ _ _ c.in_default.is c.peek-brace.ensures.gives) c.list.invariant.so_far)
    c.in_err-entry.ensures.gives)

pub list-preserved : goal.list-preserved
list-preserved c =
    let tokens = c.args.tokens.now in
    let end = text_end tokens in
    let before = c.list.list.items in
    let front = map entry_view before in
    let pushed : map entry_view c.push.new.self.items ≡ front ++ entry_view c.in_ok-entry.entry ∷ [] = rw c.in_ok-push.ensures.items (map_push entry_view before c.in_ok-entry.entry) in
    let longer : length c.push.new.self.items ≡ suc (length before) = rw c.in_ok-push.ensures.items (omega (arith, length-append before (c.in_ok-entry.entry ∷ []))) in
    record {
      so_far = rw (pushed, longer) (many_goes_on (is close_brace) (fault end) (entry end nesting) front (limit - length before) _ (tokens_from tokens c.list.left) (entry_view c.in_ok-entry.entry) (tokens_from tokens c.peek-brace.result.1) (tokens_from tokens c.in_ok-entry.rest) _ (room (length before) (omega (arith, c.requires, c.list.invariant.shrinks))) (peeked tokens.text.now _ _ _ _ c.in_default.is c.peek-brace.ensures.gives) c.in_ok-entry.ensures.gives c.list.invariant.so_far);
      shrinks = omega (arith, longer, c.in_ok-entry.ensures.shorter, c.peek-brace.ensures.shorter, c.list.invariant.shrinks);
    }
