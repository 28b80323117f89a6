use Rattle.std.proofs.Common.{◌≡◌, ◌≤◌, ◌<◌, ◌+◌, ℕ, suc, ◌-◌, length, map, [], ◌∷◌, ◌++◌, arith}
use Rattle.std.proofs.lemmas.Result.{err_from_is_err_and}
use Rattle.std.proofs.lemmas.List.{map_push, length-append}
use Rattle.atoms.proofs.productions.ListLoops.{all_goes_on, all_fails, all_stops, all_ends}
use Rattle.wit_tokens.specs.Lexing.{limit}
use Rattle.wit_tokens.specs.View.{item_view}
use Rattle.wit_grammar.specs.Left.{tokens_from, count_from, text_end}
use Rattle.wit_grammar.specs.Grammar.{nesting, begins_item, file_fault, item, optional_item}
use Rattle.wit_grammar.proofs.FaultsAreHandedOn.{Fails-on, item_handed}
use Rattle.wit_text.proofs.file.items.Goals as goal

room : (n : ℕ) → n < limit → limit - n ≡ suc (limit - suc n)
room n h = omega arith

few : (n left all : ℕ) → n + left ≤ all → all < limit → n < limit
few n left all h l = omega arith

pub returns-in_err-entry : goal.returns-in_err-entry
unfolding optional_item
returns-in_err-entry c =
    let tokens = c.args.tokens.now in
    let end = text_end tokens in
    let before = c.list.list.items in
    let p = err_from_is_err_and c.from_residual.result c.from_residual.ensures.1 in
    rw (p.1, p.2) (Fails-on c.in_err-entry.field-0.0 _ _
    (all_fails begins_item (file_fault end) (item end nesting) (map item_view before) (limit - length before) _ (tokens_from tokens c.list.left) c.in_err-entry.field-0.0 _ (room (length before) (few _ _ _ c.list.invariant.shrinks c.requires)) c.list.invariant.so_far)
    c.in_err-entry.ensures.gives)

pub returns-in_err-ended : goal.returns-in_err-ended
unfolding optional_item
returns-in_err-ended c =
    let tokens = c.args.tokens.now in
    let end = text_end tokens in
    let before = c.list.list.items in
    let p = err_from_is_err_and c.from_residual-in_err-ended.result c.from_residual-in_err-ended.ensures.1 in
    rw (p.1, p.2) (Fails-on c.in_err-ended.field-0.0 _ _
    (all_stops begins_item (file_fault end) (item end nesting) (map item_view before) (limit - length before) _ (tokens_from tokens c.list.left) (tokens_from tokens c.in_ok-entry.after) c.in_err-ended.field-0.0 _ (room (length before) (few _ _ _ c.list.invariant.shrinks c.requires)) (item_handed _ _ _ _ c.in_default.is c.in_ok-entry.ensures.gives) c.list.invariant.so_far)
    c.in_err-ended.ensures)

pub returns-in_default : goal.returns-in_default
unfolding optional_item
returns-in_default c =
    let tokens = c.args.tokens.now in
    let end = text_end tokens in
    let before = c.list.list.items in
    all_ends begins_item (file_fault end) (item end nesting) (map item_view before) (limit - length before) _ (tokens_from tokens c.list.left) (tokens_from tokens c.in_ok-entry.after) _ _ _ (room (length before) (few _ _ _ c.list.invariant.shrinks c.requires)) (item_handed _ _ _ _ c.in_default.is c.in_ok-entry.ensures.gives) c.list.invariant.so_far c.in_ok-ended.ensures

pub list-preserved : goal.list-preserved
unfolding optional_item
list-preserved c =
    let tokens = c.args.tokens.now in
    let end = text_end tokens in
    let before = c.list.list.items in
    let front = map item_view before in
    let entry = c.in-Some.entry in
    let pushed : map item_view c.push.new.self.items ≡ front ++ item_view entry ∷ [] = rw c.in_ok-push.ensures.items (map_push item_view before entry) in
    let longer : length c.push.new.self.items ≡ suc (length before) = rw c.in_ok-push.ensures.items (omega (arith, length-append before (entry ∷ []))) in
    let shorter : count_from tokens c.in_ok-entry.after < count_from tokens c.list.left = rw c.in-Some.is at c.in_ok-entry.ensures.shorter in
    record {
      so_far = rw (longer, pushed) (all_goes_on begins_item (file_fault end) (item end nesting) front (limit - length before) _ (tokens_from tokens c.list.left) (item_view entry) (tokens_from tokens c.in_ok-entry.after) _ (room (length before) (few _ _ _ c.list.invariant.shrinks c.requires)) (item_handed _ _ _ _ c.in-Some.is c.in_ok-entry.ensures.gives) c.list.invariant.so_far);
      shrinks = omega (arith, longer, shorter, c.list.invariant.shrinks);
    }
