use Rattle.std.proofs.Common.{List, ap, map, sym}
use Rattle.std.proofs.lemmas.Result.{on_ok_weaker}
use Rattle.wit_tokens.specs.declared.wit_syntax.ast.Item.{Item}
use Rattle.wit_tokens.specs.declared.wit_syntax.ast.InterfaceItem.{InterfaceItem}
use Rattle.wit_tokens.specs.View.{item_view, entry_view}
use Rattle.wit_print.specs.Canonical.{file_entry_words, braced_words, entry_words}
use Rattle.wit_print.proofs.TextsOfWords.{adds_then, adds_same}
use Rattle.wit_print.proofs.file.write_item.Goals as goal

pub returns-in_ok-write_mark-in-Interface : goal.returns-in_ok-write_mark-in-Interface
returns-in_ok-write_mark-in-Interface c =
    let words = ap (λ (x : Item). file_entry_words (item_view x)) c.in-Interface.is in
    let items = ap (λ (xs : List InterfaceItem). braced_words entry_words (map entry_view xs)) (sym c.as_slice.ensures.value) in
    on_ok_weaker c.write_entries.result
    (λ h. adds_same words (adds_then c.in_ok-write_keyword-in-Interface.ensures (adds_then c.in_ok-write_name-in-Interface.ensures (adds_then c.in_ok-write_mark-in-Interface.ensures (adds_same items h)))))
    c.write_entries.ensures
