use Rattle.std.proofs.Common.{All, Contains, take}
use Rattle.tree_meaning.specs.Declarations.{type_names}
use Rattle.tree_scopes.specs.Lent.{lent_names}
use Rattle.tree_scopes.specs.Sources.{declared_tree}
use Rattle.tree_names.proofs.unknown.first_unknown.Given as goal

abbrev pub invariant-loop-name : goal.invariant-loop-name
invariant-loop-name l = All (Contains (type_names (declared_tree l.declared))) (lent_names (take l.name-index l.names))
