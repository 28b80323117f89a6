use Rattle.std.proofs.Common.{List, map, arith}
use Rattle.wit_tokens.specs.declared.wit_syntax.ast.WorldItem.{WorldItem}
use Rattle.wit_tokens.specs.View.{world_entry_view}
use Rattle.wit_print.specs.Canonical.{braced_words, world_entry_words}
use Rattle.wit_print.proofs.TextsOfWords.{leaves_then}
use Rattle.wit_print.proofs.ListsStillToWrite.{left-next}
use Rattle.wit_print.proofs.entry.write_world_entries.Goals as goal

pub loop-item-preserved : goal.loop-item-preserved
loop-item-preserved c =
    let left = left-next (λ (xs : List WorldItem). braced_words world_entry_words (map world_entry_view xs)) c.args.items.now c.loop-item.item-index c.item-item.result (omega arith) c.item-item.is c.loop-item.invariant in
    leaves_then left c.in_ok-write_world_entry.ensures
