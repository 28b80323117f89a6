use Rattle.std.proofs.Common.{[], map, ap, sym, ◌∙◌, arith, List}
use Rattle.std.proofs.lemmas.Result.{on_ok_weaker}
use Rattle.wit_tokens.specs.View.{ty_view}
use Rattle.wit_tokens.specs.declared.wit_syntax.ast.TypeExpression.{TypeExpression}
use Rattle.wit_tokens.specs.declared.token.Punctuation.TheVariants as mark
use Rattle.wit_print.specs.Words.{mark_word}
use Rattle.wit_print.specs.Canonical.{ty_words, listed_words}
use Rattle.wit_print.proofs.TextsOfWords.{adds_then, adds_same, leaves_all, leaves_none}
use Rattle.wit_print.proofs.ListsStillToWrite.{listed-next, listed-end, tys-listed}
use Rattle.wit_print.proofs.WordsOfResults.{words-with, words-of-ok, is-present}
use Rattle.wit_print.proofs.ty.+ty.Goals as goal

pub write_inner-returns : goal.write_inner-returns
write_inner-returns t c =
    on_ok_weaker c.write_mark-2.result (λ h. adds_then c.in_ok-write_mark.ensures (adds_then c.in_ok-write_within.ensures h)) c.write_mark-2.ensures

pub write_members-loop-index-init : goal.write_members-loop-index-init
write_members-loop-index-init t c = leaves_all

pub write_members-loop-index-preserved : goal.write_members-loop-index-preserved
write_members-loop-index-preserved t c =
    listed-next ty_words (mark_word [] mark.Greater) ty_view c.deref-member-items.result.now c.loop-index.index c.member-item.result c.in_ok-space.space.now (omega arith) c.member-item.is c.in_ok-space.ensures.space
    c.loop-index.invariant c.in_ok-space.ensures.comma c.in_ok-write_type.ensures

pub write_members-returns : goal.write_members-returns
write_members-returns t c =
    let end = listed-end ty_words (mark_word [] mark.Greater) ty_view c.deref-member-items.result.now c.loop-index.index (omega arith) c.loop-index.invariant in
    let words = ap (λ (xs : List TypeExpression). listed_words ty_words (mark_word [] mark.Greater) [] (map ty_view xs)) c.deref-member-items.ensures.value ∙ sym (tys-listed [] (map ty_view c.args.members.now.items)) in
    on_ok_weaker c.write_mark.result (λ h. adds_same (sym words) (leaves_none end h)) c.write_mark.ensures

pub write_ok_alone-returns-in_ok-write_part-in-Simple : goal.write_ok_alone-returns-in_ok-write_part-in-Simple
write_ok_alone-returns-in_ok-write_part-in-Simple t c =
    let there = is-present c.args.ok.now c.in-Simple.is in
    on_ok_weaker c.write_mark.result (λ h. adds_same (words-of-ok c.args.ok.now there.0 there.1) (adds_then c.in_ok-write_part-in-Simple.ensures h)) c.write_mark.ensures

pub write_type-returns-in_ok-write_part-in-Simple-2 : goal.write_type-returns-in_ok-write_part-in-Simple-2
write_type-returns-in_ok-write_part-in-Simple-2 t c =
    let there = is-present c.in-Result.error c.in-Simple.is in
    let words = words-with c.args.space.now c.args.ty.now c.in-Result.ok c.in-Result.error there.0 c.in-Result.is there.1 in
    on_ok_weaker c.write_mark-in-Simple.result (λ h. adds_same words (adds_then c.in_ok-write_keyword-in-Result.ensures (adds_then c.in_ok-write_part-in-Simple.ensures (adds_then c.in_ok-write_part-in-Simple-2.ensures h)))) c.write_mark-in-Simple.ensures
