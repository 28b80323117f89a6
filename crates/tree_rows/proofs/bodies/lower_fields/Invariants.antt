use Rattle.std.proofs.Common.{map, take}
use Rattle.wit_tokens.specs.View.{field_view}
use Rattle.tree_meaning.specs.Resolved.{member_meaning}
use Rattle.tree_meaning.specs.Building.{LowersFields}
use Rattle.tree_scopes.specs.KnownScopes.{scope_name}
use Rattle.tree_rows.proofs.bodies.lower_fields.Given as goal

abbrev pub invariant-loop-member : goal.invariant-loop-member
invariant-loop-member l =
    LowersFields l.initial.builder l.builder l.fields.items (map (member_meaning (scope_name l.initial.builder l.scope)) (map field_view (take l.member-index l.members)))
