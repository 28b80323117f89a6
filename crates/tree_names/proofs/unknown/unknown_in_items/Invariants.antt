use Rattle.std.proofs.Common.{All, map, take}
use Rattle.wit_tokens.specs.View.{entry_view}
use Rattle.tree_meaning.specs.Imports.{imports_of}
use Rattle.tree_scopes.specs.Sources.{declared_tree}
use Rattle.tree_meaning.specs.Knowing.{KnowsEntry}
use Rattle.tree_names.proofs.unknown.unknown_in_items.Given as goal

abbrev pub invariant-loop-item : goal.invariant-loop-item
invariant-loop-item l = All (KnowsEntry (imports_of l.tree.imports.now.table) (map declared_tree l.tree.all.now) (declared_tree l.declared)) (map entry_view (take l.item-index l.items))
