use Rattle.std.proofs.Common.{◌≡◌, map, take}
use Rattle.wit_tokens.specs.View.{world_entry_view}
use Rattle.package_text.specs.Tree.{item_written}
use Rattle.package_text.proofs.world.world_tree.Given as goal

abbrev pub invariant-loop-item : goal.invariant-loop-item
invariant-loop-item l = map world_entry_view l.items.items ≡ map (item_written l.resolve) (take l.item-index l.world.items)
