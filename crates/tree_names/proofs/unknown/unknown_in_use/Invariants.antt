use Rattle.std.proofs.Common.{All, map, take}
use Rattle.wit_tokens.specs.View.{path_view, used_view}
use Rattle.tree_meaning.specs.Imports.{imports_of}
use Rattle.tree_meaning.specs.Declarations.{used_item}
use Rattle.tree_meaning.specs.Resolves.{IsKnownUseOf}
use Rattle.tree_scopes.specs.Sources.{declared_tree}
use Rattle.tree_names.proofs.unknown.unknown_in_use.Given as goal

abbrev pub invariant-loop-item : goal.invariant-loop-item
invariant-loop-item l = All (IsKnownUseOf (imports_of l.tree.imports.now.table) (map declared_tree l.tree.all.now)) (map (used_item (path_view l.path)) (map used_view (take l.item-index l.used)))
