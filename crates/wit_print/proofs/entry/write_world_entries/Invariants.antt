use Rattle.std.proofs.Common.{drop, map}
use Rattle.wit_tokens.specs.View.{world_entry_view}
use Rattle.wit_print.specs.Canonical.{braced_words, world_entry_words}
use Rattle.wit_print.proofs.LeavesWords.{LeavesWords}
use Rattle.wit_print.proofs.entry.write_world_entries.Given as goal

abbrev pub invariant-loop-item : goal.invariant-loop-item
invariant-loop-item l = LeavesWords (braced_words world_entry_words (map world_entry_view l.items)) (braced_words world_entry_words (map world_entry_view (drop l.item-index l.items))) l.initial.out l.out
