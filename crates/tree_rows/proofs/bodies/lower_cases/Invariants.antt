use Rattle.std.proofs.Common.{map, take}
use Rattle.wit_tokens.specs.View.{case_view}
use Rattle.tree_meaning.specs.Resolved.{case_meaning}
use Rattle.tree_meaning.specs.Building.{LowersCases}
use Rattle.tree_scopes.specs.KnownScopes.{scope_name}
use Rattle.tree_rows.proofs.bodies.lower_cases.Given as goal

abbrev pub invariant-loop-item : goal.invariant-loop-item
invariant-loop-item l =
    LowersCases l.initial.builder l.builder l.cases.items (map (case_meaning (scope_name l.initial.builder l.scope)) (map case_view (take l.item-index l.items)))
