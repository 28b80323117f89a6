use Rattle.std.proofs.Common.{◌≡◌, ◌++◌, map, take}
use Rattle.tree_meaning.specs.Declarations.{use_local}
use Rattle.tree_scopes.specs.Lent.{lent_names, used_item_of}
use Rattle.tree_scopes.proofs.declare.push_locals.Given as goal

abbrev pub invariant-loop-used : goal.invariant-loop-used
invariant-loop-used l = lent_names l.names.items ≡ lent_names l.initial.names.items ++ map use_local (map used_item_of (take l.used-index l.uses))
