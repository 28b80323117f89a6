use Rattle.std.proofs.Common.{◌≡◌, map, take}
use Rattle.tree_meaning.specs.Declarations.{names_of_trees}
use Rattle.tree_meaning.specs.Resolves.{uses_of_interface}
use Rattle.tree_scopes.specs.Sources.{declared_tree}
use Rattle.tree_names.proofs.graphs.interface_graph.Given as goal

abbrev pub invariant-loop-declared : goal.invariant-loop-declared
invariant-loop-declared l = l.graph.items ≡ map (uses_of_interface (names_of_trees (map declared_tree l.all))) (map declared_tree (take l.declared-index l.all))
