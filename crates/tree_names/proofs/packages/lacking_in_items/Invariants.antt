use Rattle.std.proofs.Common.{All, Contains, map, flat_map, take}
use Rattle.wit_tokens.specs.View.{entry_view}
use Rattle.tree_meaning.specs.Declarations.{entry_packages}
use Rattle.tree_names.proofs.packages.lacking_in_items.Given as goal

abbrev pub invariant-loop-item : goal.invariant-loop-item
invariant-loop-item l = All (Contains l.packages) (flat_map entry_packages (map entry_view (take l.item-index l.items)))
