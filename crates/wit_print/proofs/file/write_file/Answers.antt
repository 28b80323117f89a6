use Rattle.std.proofs.Common.{List, ap, map, sym}
use Rattle.std.proofs.lemmas.Result.{on_ok_weaker}
use Rattle.wit_tokens.specs.declared.wit_syntax.ast.Item.{Item}
use Rattle.wit_tokens.specs.View.{item_view}
use Rattle.wit_print.specs.Canonical.{items_words}
use Rattle.wit_print.proofs.TextsOfWords.{adds_then, adds_same}
use Rattle.wit_print.proofs.file.write_file.Goals as goal

pub returns : goal.returns
returns c =
    let words = ap (λ (xs : List Item). items_words (map item_view xs)) (sym c.as_slice.ensures.value) in
    on_ok_weaker c.write_items.result
    (λ h. adds_then c.in_ok-write_keyword.ensures (adds_then c.in_ok-write_name.ensures (adds_then c.in_ok-write_mark.ensures (adds_then c.in_ok-write_name-2.ensures
    (adds_then c.in_ok-write_optional_version.ensures (adds_then c.in_ok-write_mark-2.ensures (adds_same words h)))))))
    c.write_items.ensures
