use Rattle.std.proofs.Common.{List, ℕ, subst, arith, Contains}
use Rattle.wit_tokens.specs.View.{ty_view, field_view}
use Rattle.package_form.specs.Postfix.{unnamed_field}
use Rattle.tree_meaning.specs.Declarations.{named_member}
use Rattle.tree_meaning.specs.Resolved.{resolved, member_meaning}
use Rattle.tree_meaning.specs.Building.{field_typed, read_field, LowersType}
use Rattle.tree_scopes.specs.KnownScopes.{scope_name, scope_names}
use Rattle.package_form.proofs.AllAndContains.{all_flat-at, map_map-more}
use Rattle.tree_rows.proofs.LoweredTypesStay.{scope-later, same_name, labelled-same, field-stays}
use Rattle.tree_meaning.proofs.TypesReadStay.{lowers_each-none, lowers_each-more}
use Rattle.tree_rows.proofs.bodies.lower_fields.Goals as goal

pub loop-member-init : goal.loop-member-init
loop-member-init c = rw c.in_ok-fields.ensures.items (lowers_each-none field_typed read_field unnamed_field c.args.builder.now)

pub lower_type-requires-clause-scoped : goal.lower_type-requires-clause-scoped
lower_type-requires-clause-scoped c = scope-later c.args.builder.now c.loop-member.builder c.args.scope.now c.loop-member.invariant.extends.front c.requires.scoped

pub lower_type-requires-clause-known : goal.lower_type-requires-clause-known
lower_type-requires-clause-known c =
    all_flat-at (Contains (scope_names c.args.scope.now)) named_member field_view c.args.members.now c.loop-member.member-index c.member-item.result c.requires.known (omega arith) c.member-item.is

pub loop-member-preserved : goal.loop-member-preserved
loop-member-preserved c =
    let old = c.args.builder.now in
    let mid = c.loop-member.builder in
    let new = c.lower_type.new.builder in
    let scope = c.args.scope.now in
    let here = scope_name old scope in
    let so_far = c.loop-member.invariant in
    let x = c.member-item.result in
    let m = subst (λ (i : List ℕ). LowersType mid new c.in_ok-ty.ty (resolved i (ty_view x.ty))) (same_name old mid scope so_far.extends.front) c.in_ok-ty.ensures in
    let more = lowers_each-more field_typed read_field unnamed_field field-stays old mid new c.loop-member.fields.items _ (record { name = c.in_ok-copy.field-0; ty = c.in_ok-ty.ty }) (member_meaning here (field_view x))
    so_far m.extends m.stands.typed (labelled-same c.in_ok-copy.field-0 x.name _ _ c.in_ok-copy.ensures m.stands.reads) in
    rw (c.in_ok-push.ensures.items, map_map-more (member_meaning here) field_view c.args.members.now c.loop-member.member-index x (omega arith) c.member-item.is) more
