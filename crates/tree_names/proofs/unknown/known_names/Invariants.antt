use Rattle.std.proofs.Common.{◌≡◌, All, map, take, length}
use Rattle.std.specs.List.{filter_map}
use Rattle.wit_tokens.specs.View.{item_view}
use Rattle.tree_meaning.specs.Imports.{imports_of}
use Rattle.tree_meaning.specs.Declarations.{interface_of}
use Rattle.tree_meaning.specs.Knowing.{KnowsFileEntry}
use Rattle.tree_scopes.specs.Sources.{declared_tree}
use Rattle.tree_names.proofs.unknown.known_names.Given as goal

abbrev pub invariant-loop-item : goal.invariant-loop-item
invariant-loop-item l = record {
  place_is : l.place ≡ length (filter_map interface_of (map item_view (take l.item-index l.items)));
  known : All (KnowsFileEntry (imports_of l.imports.table) (map declared_tree l.all)) (map item_view (take l.item-index l.items));
}
