use Rattle.std.proofs.Common.{◌≡◌, ◌++◌, map, take}
use Rattle.std.specs.List.{filter_map}
use Rattle.tree_meaning.specs.Declarations.{own_use}
use Rattle.tree_scopes.specs.Lent.{lent_names, used_item_of}
use Rattle.tree_names.proofs.graphs.push_interfaces.Given as goal

abbrev pub invariant-loop-used : goal.invariant-loop-used
invariant-loop-used l = lent_names l.names.items ≡ lent_names l.initial.names.items ++ filter_map own_use (map used_item_of (take l.used-index l.uses))
