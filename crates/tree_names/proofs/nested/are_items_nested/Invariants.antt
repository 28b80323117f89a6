use Rattle.std.proofs.Common.{◌≡◌, true, map, take}
use Rattle.std.specs.List.{list_all}
use Rattle.wit_tokens.specs.View.{entry_view}
use Rattle.tree_meaning.specs.Resolves.{entry_fits}
use Rattle.tree_names.proofs.nested.are_items_nested.Given as goal

abbrev pub invariant-loop-item : goal.invariant-loop-item
invariant-loop-item l = list_all entry_fits (map entry_view (take l.item-index l.items)) ≡ true
