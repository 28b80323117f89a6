use Rattle.std.proofs.Common.{◌≡◌, ◌<◌, ℕ, suc, ◌-◌, length, map, [], ◌∷◌, ◌++◌, arith}
use Rattle.std.proofs.lemmas.Result.{err_from_is_err_and}
use Rattle.std.proofs.lemmas.List.{map_push, length-append}
use Rattle.atoms.proofs.productions.ListLoops.{goes_on, is_done, item_fails, separator_fails}
use Rattle.wit_tokens.specs.Lexing.{limit}
use Rattle.wit_grammar.specs.Left.{tokens_from, text_end}
use Rattle.wit_tokens.specs.View.{ty_view}
use Rattle.wit_grammar.specs.Grammar.{ty, comma, greater, comma_wanted}
use Rattle.wit_grammar.specs.Faults.{is}
use Rattle.wit_grammar.proofs.FaultsAreHandedOn.{Fails-on}
use Rattle.wit_grammar.proofs.types.+types.Goals as goal

room : (n : ℕ) → n < limit → limit - n ≡ suc (limit - suc n)
room n h = omega arith

pub member_list-returns-in_err-entry-clause-gives : goal.member_list-returns-in_err-entry-clause-gives
member_list-returns-in_err-entry-clause-gives t c =
    let tokens = c.args.tokens.now in
    let end = text_end tokens in
    let before = c.list.list.items in
    let p = err_from_is_err_and c.from_residual.result c.from_residual.ensures.1 in
    rw (p.1, p.2) (Fails-on c.in_err-entry.field-0.0 _ _
    (item_fails (is comma) (is greater) (comma_wanted end) (ty end c.args.nesting) (map ty_view before) (limit - length before) (tokens_from tokens c.list.left) c.in_err-entry.field-0.0 _ c.list.invariant.so_far)
    c.in_err-entry.ensures.gives)

pub member_list-returns-in_err-more-clause-gives : goal.member_list-returns-in_err-more-clause-gives
member_list-returns-in_err-more-clause-gives t c =
    let tokens = c.args.tokens.now in
    let end = text_end tokens in
    let before = c.list.list.items in
    let p = err_from_is_err_and c.from_residual-in_err-more.result c.from_residual-in_err-more.ensures.1 in
    rw (p.1, p.2) (Fails-on c.in_err-more.field-0.0 _ _
    (separator_fails (is comma) (is greater) (comma_wanted end) (ty end c.args.nesting) (map ty_view before) (limit - length before) (limit - suc (length before)) (tokens_from tokens c.list.left) (ty_view c.in_ok-entry.entry) (tokens_from tokens c.in_ok-entry.after) c.in_err-more.field-0.0 _ (room (length before) (omega (arith, tokens.few, c.in_ok-entry.ensures.shorter, c.list.invariant.shrinks))) c.in_ok-entry.ensures.gives c.list.invariant.so_far)
    c.in_err-more.ensures.gives)

pub member_list-returns-then-not-more-clause-gives : goal.member_list-returns-then-not-more-clause-gives
member_list-returns-then-not-more-clause-gives t c =
    let tokens = c.args.tokens.now in
    let end = text_end tokens in
    let before = c.list.list.items in
    let front = (map ty_view before) in
    let pushed : map ty_view c.push.new.self.items ≡ front ++ ty_view c.in_ok-entry.entry ∷ [] = rw c.in_ok-push.ensures.items (map_push ty_view before c.in_ok-entry.entry) in
    rw pushed (is_done (is comma) (is greater) (comma_wanted end) (ty end c.args.nesting) front (limit - length before) (limit - suc (length before)) (tokens_from tokens c.list.left) (ty_view c.in_ok-entry.entry) (tokens_from tokens c.in_ok-entry.after) (tokens_from tokens c.in_ok-more.after) _ (room (length before) (omega (arith, tokens.few, c.in_ok-entry.ensures.shorter, c.list.invariant.shrinks))) c.in_ok-entry.ensures.gives (rw (← c.if-not-more.true) c.in_ok-more.ensures.gives) c.list.invariant.so_far)

pub member_list-list-preserved : goal.member_list-list-preserved
member_list-list-preserved t c =
    let tokens = c.args.tokens.now in
    let end = text_end tokens in
    let before = c.list.list.items in
    let front = (map ty_view before) in
    let pushed : map ty_view c.push.new.self.items ≡ front ++ ty_view c.in_ok-entry.entry ∷ [] = rw c.in_ok-push.ensures.items (map_push ty_view before c.in_ok-entry.entry) in
    let longer : length c.push.new.self.items ≡ suc (length before) = rw c.in_ok-push.ensures.items (omega (arith, length-append before (c.in_ok-entry.entry ∷ []))) in
    record {
      so_far = rw (longer, pushed) (goes_on (is comma) (is greater) (comma_wanted end) (ty end c.args.nesting) front (limit - length before) (limit - suc (length before)) (tokens_from tokens c.list.left) (ty_view c.in_ok-entry.entry) (tokens_from tokens c.in_ok-entry.after) (tokens_from tokens c.in_ok-more.after) _ (room (length before) (omega (arith, tokens.few, c.in_ok-entry.ensures.shorter, c.list.invariant.shrinks))) c.in_ok-entry.ensures.gives (rw (← c.if-not-more.false) c.in_ok-more.ensures.gives) c.list.invariant.so_far);
      shrinks = omega (arith, longer, c.in_ok-entry.ensures.shorter, c.in_ok-more.ensures.shorter, c.list.invariant.shrinks);
    }
