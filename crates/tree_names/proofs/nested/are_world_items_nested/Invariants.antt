use Rattle.std.proofs.Common.{◌≡◌, true, map, take}
use Rattle.std.specs.List.{list_all}
use Rattle.wit_tokens.specs.View.{world_entry_view}
use Rattle.tree_meaning.specs.Resolves.{world_entry_fits}
use Rattle.tree_names.proofs.nested.are_world_items_nested.Given as goal

abbrev pub invariant-loop-item : goal.invariant-loop-item
invariant-loop-item l = list_all world_entry_fits (map world_entry_view (take l.item-index l.items)) ≡ true
