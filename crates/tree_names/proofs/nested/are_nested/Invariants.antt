use Rattle.std.proofs.Common.{◌≡◌, true, map, take}
use Rattle.std.specs.List.{list_all}
use Rattle.wit_tokens.specs.View.{item_view}
use Rattle.tree_meaning.specs.Resolves.{interface_fits}
use Rattle.tree_names.proofs.nested.are_nested.Given as goal

abbrev pub invariant-loop-item : goal.invariant-loop-item
invariant-loop-item l = list_all interface_fits (map item_view (take l.item-index l.items)) ≡ true
