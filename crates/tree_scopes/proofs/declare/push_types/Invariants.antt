use Rattle.std.proofs.Common.{◌≡◌, ◌++◌, map, take}
use Rattle.tree_meaning.specs.Declarations.{type_name}
use Rattle.tree_scopes.specs.Lent.{lent_names, declared_type}
use Rattle.tree_scopes.proofs.declare.push_types.Given as goal

abbrev pub invariant-loop-definition : goal.invariant-loop-definition
invariant-loop-definition l = lent_names l.names.items ≡ lent_names l.initial.names.items ++ map type_name (map declared_type (take l.definition-index l.types))
