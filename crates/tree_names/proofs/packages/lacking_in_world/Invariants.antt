use Rattle.std.proofs.Common.{All, Contains, map, flat_map, take}
use Rattle.wit_tokens.specs.View.{world_entry_view}
use Rattle.tree_meaning.specs.Declarations.{world_entry_packages}
use Rattle.tree_names.proofs.packages.lacking_in_world.Given as goal

abbrev pub invariant-loop-item : goal.invariant-loop-item
invariant-loop-item l = All (Contains l.packages) (flat_map world_entry_packages (map world_entry_view (take l.item-index l.items)))
