use Rattle.std.proofs.Common.{◌≡◌, map, take}
use Rattle.std.specs.List.{filter_map}
use Rattle.wit_tokens.specs.View.{item_view}
use Rattle.tree_meaning.specs.Declarations.{interface_of}
use Rattle.tree_scopes.specs.Sources.{declared_tree}
use Rattle.tree_names.proofs.tree.all_declarations.Given as goal

abbrev pub invariant-loop-item : goal.invariant-loop-item
invariant-loop-item l = map declared_tree l.all.items ≡ filter_map interface_of (map item_view (take l.item-index l.items))
