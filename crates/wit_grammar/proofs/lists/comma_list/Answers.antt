use Rattle.std.proofs.Common.{◌≡◌, ◌<◌, ℕ, suc, ◌-◌, length, map, [], ◌∷◌, ◌++◌, arith}
use Rattle.std.proofs.lemmas.Result.{err_from_is_err_and}
use Rattle.std.proofs.lemmas.List.{map_push, length-append}
use Rattle.atoms.proofs.productions.ListLoops.{goes_on, is_done, item_fails, separator_fails}
use Rattle.wit_tokens.specs.Lexing.{limit}
use Rattle.wit_grammar.specs.Left.{tokens_from, text_end}
use Rattle.wit_grammar.specs.Faults.{is, wanted}
use Rattle.wit_grammar.specs.Grammar.{comma, close_brace}
use Rattle.wit_grammar.proofs.FaultsAreHandedOn.{Fails-on}
use Rattle.wit_grammar.proofs.lists.comma_list.Goals as goal

room : (n : ℕ) → n < limit → limit - n ≡ suc (limit - suc n)
room n h = omega arith

pub returns-in_err-entry-clause-gives : goal.returns-in_err-entry-clause-gives
returns-in_err-entry-clause-gives g c =
    let r = g.R.EntryReader in
    let tokens = c.args.tokens.now in
    let end = text_end tokens in
    let before = c.list.list.items in
    let p = err_from_is_err_and c.from_residual.result c.from_residual.ensures.1 in
    rw (p.1, p.2) (Fails-on c.in_err-entry.field-0.0 _ _
    (item_fails (is comma) (is close_brace) (λ x. wanted end (r.wanted_behind x)) (r.production c.args.reader.now end) (map r.meaning before) (limit - length before) (tokens_from tokens c.list.left) c.in_err-entry.field-0.0 _ c.list.invariant.so_far)
    c.in_err-entry.ensures.gives)

pub returns-in_err-more-clause-gives : goal.returns-in_err-more-clause-gives
returns-in_err-more-clause-gives g c =
    let r = g.R.EntryReader in
    let tokens = c.args.tokens.now in
    let end = text_end tokens in
    let before = c.list.list.items in
    let p = err_from_is_err_and c.from_residual-in_err-more.result c.from_residual-in_err-more.ensures.1 in
    rw (p.1, p.2) (Fails-on c.in_err-more.field-0.0 _ _
    (separator_fails (is comma) (is close_brace) (λ x. wanted end (r.wanted_behind x)) (r.production c.args.reader.now end) (map r.meaning before) (limit - length before) (limit - suc (length before)) (tokens_from tokens c.list.left) (r.meaning c.in_ok-entry.entry) (tokens_from tokens c.in_ok-entry.after) c.in_err-more.field-0.0 _ (room (length before) (omega (arith, tokens.few, c.in_ok-entry.ensures.shorter, c.list.invariant.shrinks))) c.in_ok-entry.ensures.gives c.list.invariant.so_far)
    (rw (← c.wanted_behind-wanted.ensures) c.in_err-more.ensures.gives))

pub returns-then-not-more-clause-gives : goal.returns-then-not-more-clause-gives
returns-then-not-more-clause-gives g c =
    let r = g.R.EntryReader in
    let tokens = c.args.tokens.now in
    let end = text_end tokens in
    let before = c.list.list.items in
    let front = (map r.meaning before) in
    let pushed : map r.meaning c.push.new.self.items ≡ front ++ r.meaning c.in_ok-entry.entry ∷ [] = rw c.in_ok-push.ensures.items (map_push r.meaning before c.in_ok-entry.entry) in
    rw pushed (is_done (is comma) (is close_brace) (λ x. wanted end (r.wanted_behind x)) (r.production c.args.reader.now end) front (limit - length before) (limit - suc (length before)) (tokens_from tokens c.list.left) (r.meaning c.in_ok-entry.entry) (tokens_from tokens c.in_ok-entry.after) (tokens_from tokens c.in_ok-more.after) _ (room (length before) (omega (arith, tokens.few, c.in_ok-entry.ensures.shorter, c.list.invariant.shrinks))) c.in_ok-entry.ensures.gives (rw (← c.if-not-more.true, ← c.wanted_behind-wanted.ensures) c.in_ok-more.ensures.gives) c.list.invariant.so_far)

pub list-preserved : goal.list-preserved
list-preserved g c =
    let r = g.R.EntryReader in
    let tokens = c.args.tokens.now in
    let end = text_end tokens in
    let before = c.list.list.items in
    let front = (map r.meaning before) in
    let pushed : map r.meaning c.push.new.self.items ≡ front ++ r.meaning c.in_ok-entry.entry ∷ [] = rw c.in_ok-push.ensures.items (map_push r.meaning before c.in_ok-entry.entry) in
    let longer : length c.push.new.self.items ≡ suc (length before) = rw c.in_ok-push.ensures.items (omega (arith, length-append before (c.in_ok-entry.entry ∷ []))) in
    record {
      so_far = rw (longer, pushed) (goes_on (is comma) (is close_brace) (λ x. wanted end (r.wanted_behind x)) (r.production c.args.reader.now end) front (limit - length before) (limit - suc (length before)) (tokens_from tokens c.list.left) (r.meaning c.in_ok-entry.entry) (tokens_from tokens c.in_ok-entry.after) (tokens_from tokens c.in_ok-more.after) _ (room (length before) (omega (arith, tokens.few, c.in_ok-entry.ensures.shorter, c.list.invariant.shrinks))) c.in_ok-entry.ensures.gives (rw (← c.if-not-more.false, ← c.wanted_behind-wanted.ensures) c.in_ok-more.ensures.gives) c.list.invariant.so_far);
      shrinks = omega (arith, longer, c.in_ok-entry.ensures.shorter, c.in_ok-more.ensures.shorter, c.list.invariant.shrinks);
    }
