use Rattle.std.proofs.Common.{All, map, take}
use Rattle.wit_tokens.specs.View.{world_entry_view}
use Rattle.tree_meaning.specs.Imports.{imports_of}
use Rattle.tree_meaning.specs.Declarations.{item_tree}
use Rattle.tree_meaning.specs.Resolves.{IsKnownItemOf}
use Rattle.tree_names.proofs.unknown.unknown_in_world.Given as goal

abbrev pub invariant-loop-item : goal.invariant-loop-item
invariant-loop-item l = All (IsKnownItemOf (imports_of l.tree.imports.now.table) l.tree.names) (map item_tree (map world_entry_view (take l.item-index l.items)))
