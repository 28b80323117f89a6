use Rattle.std.proofs.Common.{All, Contains, map, flat_map, take}
use Rattle.wit_tokens.specs.View.{item_view}
use Rattle.tree_meaning.specs.Declarations.{file_entry_packages}
use Rattle.tree_names.proofs.packages.known_packages.Given as goal

abbrev pub invariant-loop-item : goal.invariant-loop-item
invariant-loop-item l = All (Contains l.packages) (flat_map file_entry_packages (map item_view (take l.item-index l.items)))
