use Rattle.std.proofs.Common.{◌≡◌, take}
use Rattle.tree_meaning.specs.Declarations.{own_types}
use Rattle.tree_scopes.specs.Sources.{declared_tree}
use Rattle.tree_meaning.specs.Resolves.{places}
use Rattle.tree_scopes.specs.Lent.{lent_names}
use Rattle.tree_names.proofs.graphs.type_places.Given as goal

abbrev pub invariant-loop-name : goal.invariant-loop-name
invariant-loop-name l = l.found.items ≡ places (own_types (declared_tree l.declared)) (lent_names (take l.name-index l.wanted))
