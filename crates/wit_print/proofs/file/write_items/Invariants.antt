use Rattle.std.proofs.Common.{drop, map}
use Rattle.wit_tokens.specs.View.{item_view}
use Rattle.wit_print.specs.Canonical.{items_words}
use Rattle.wit_print.proofs.LeavesWords.{LeavesWords}
use Rattle.wit_print.proofs.file.write_items.Given as goal

abbrev pub invariant-loop-item : goal.invariant-loop-item
invariant-loop-item l = LeavesWords (items_words (map item_view l.items)) (items_words (map item_view (drop l.item-index l.items))) l.initial.out l.out
