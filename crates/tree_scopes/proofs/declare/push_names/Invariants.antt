use Rattle.std.proofs.Common.{◌≡◌, ◌++◌, map, take}
use Rattle.tree_meaning.specs.Declarations.{interface_tree_name}
use Rattle.tree_scopes.specs.Lent.{lent_names}
use Rattle.tree_scopes.specs.Sources.{declared_tree}
use Rattle.tree_scopes.proofs.declare.push_names.Given as goal

abbrev pub invariant-loop-declared : goal.invariant-loop-declared
invariant-loop-declared l = lent_names l.names.items ≡ lent_names l.initial.names.items ++ map interface_tree_name (map declared_tree (take l.declared-index l.all))
