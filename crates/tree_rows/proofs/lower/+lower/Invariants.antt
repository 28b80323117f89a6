use Rattle.std.proofs.Common.{map, take}
use Rattle.wit_tokens.specs.Syntax.{tys_of}
use Rattle.wit_tokens.specs.View.{ty_view}
use Rattle.tree_meaning.specs.Resolved.{resolved_all}
use Rattle.tree_meaning.specs.Building.{LowersAll}
use Rattle.tree_scopes.specs.KnownScopes.{scope_name}
use Rattle.tree_rows.proofs.lower.+lower.Given as goal

abbrev pub invariant-lower_all-loop-expression : goal.invariant-lower_all-loop-expression
invariant-lower_all-loop-expression l =
    LowersAll l.initial.builder l.builder l.types.items (resolved_all (scope_name l.initial.builder l.scope) (tys_of (map ty_view (take l.expression-index l.expression-items))))
