use Rattle.std.proofs.Common.{◌≡◌, map, take}
use Rattle.tree_meaning.specs.Declarations.{own_types}
use Rattle.tree_meaning.specs.Resolves.{uses_of_type}
use Rattle.tree_scopes.specs.Lent.{declared_type}
use Rattle.tree_scopes.specs.Sources.{declared_tree}
use Rattle.tree_names.proofs.graphs.type_graph.Given as goal

abbrev pub invariant-loop-definition : goal.invariant-loop-definition
invariant-loop-definition l = l.graph.items ≡ map (uses_of_type (own_types (declared_tree l.declared))) (map declared_type (take l.definition-index l.definition-items))
