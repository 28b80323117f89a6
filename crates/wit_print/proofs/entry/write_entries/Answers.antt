use Rattle.std.proofs.Common.{List, map, arith}
use Rattle.wit_tokens.specs.declared.wit_syntax.ast.InterfaceItem.{InterfaceItem}
use Rattle.wit_tokens.specs.View.{entry_view}
use Rattle.wit_print.specs.Canonical.{braced_words, entry_words}
use Rattle.wit_print.proofs.TextsOfWords.{leaves_then}
use Rattle.wit_print.proofs.ListsStillToWrite.{left-next}
use Rattle.wit_print.proofs.entry.write_entries.Goals as goal

pub loop-item-preserved : goal.loop-item-preserved
loop-item-preserved c =
    let left = left-next (λ (xs : List InterfaceItem). braced_words entry_words (map entry_view xs)) c.args.items.now c.loop-item.item-index c.item-item.result (omega arith) c.item-item.is c.loop-item.invariant in
    leaves_then left c.in_ok-write_entry.ensures
