use Rattle.std.proofs.Common.{map, take}
use Rattle.tree_meaning.specs.Resolved.{in_order}
use Rattle.tree_scopes.specs.Lent.{declared_type}
use Rattle.tree_rows.specs.Defining.{Grows}
use Rattle.tree_scopes.specs.KnownScopes.{scope_name}
use Rattle.tree_rows.proofs.define.define_types.Given as goal

abbrev pub invariant-loop-place : goal.invariant-loop-place
invariant-loop-place l =
    Grows l.initial.builder l.initial.scope l.builder l.scope (in_order (scope_name l.initial.builder l.initial.scope) (map declared_type l.types) (take l.place-index l.order))
