use Rattle.std.proofs.Common.{List, ℕ, subst, arith, Contains}
use Rattle.wit_tokens.specs.View.{optional_view, case_view}
use Rattle.package_form.specs.Postfix.{unnamed_case}
use Rattle.tree_meaning.specs.Declarations.{named_case}
use Rattle.tree_meaning.specs.Resolved.{resolved_if, case_meaning}
use Rattle.tree_meaning.specs.Building.{LowersIf, case_typed, read_case}
use Rattle.tree_scopes.specs.KnownScopes.{scope_name, scope_names}
use Rattle.package_form.proofs.AllAndContains.{all_flat-at, map_map-more}
use Rattle.tree_rows.proofs.LoweredTypesStay.{scope-later, same_name, choice-same, case-stays}
use Rattle.tree_meaning.proofs.TypesReadStay.{lowers_each-none, lowers_each-more}
use Rattle.tree_rows.proofs.bodies.lower_cases.Goals as goal

pub loop-item-init : goal.loop-item-init
loop-item-init c = rw c.in_ok-cases.ensures.items (lowers_each-none case_typed read_case unnamed_case c.args.builder.now)

pub lower_optional-requires-clause-scoped : goal.lower_optional-requires-clause-scoped
lower_optional-requires-clause-scoped c = scope-later c.args.builder.now c.loop-item.builder c.args.scope.now c.loop-item.invariant.extends.front c.requires.scoped

pub lower_optional-requires-clause-known : goal.lower_optional-requires-clause-known
lower_optional-requires-clause-known c =
    all_flat-at (Contains (scope_names c.args.scope.now)) named_case case_view c.args.items.now c.loop-item.item-index c.item-item.result c.requires.known (omega arith) c.item-item.is

pub loop-item-preserved : goal.loop-item-preserved
loop-item-preserved c =
    let old = c.args.builder.now in
    let mid = c.loop-item.builder in
    let new = c.lower_optional.new.builder in
    let scope = c.args.scope.now in
    let here = scope_name old scope in
    let so_far = c.loop-item.invariant in
    let x = c.item-item.result in
    let m = subst (λ (i : List ℕ). LowersIf mid new c.in_ok-ty.ty (resolved_if i (optional_view x.payload))) (same_name old mid scope so_far.extends.front) c.in_ok-ty.ensures in
    let more = lowers_each-more case_typed read_case unnamed_case case-stays old mid new c.loop-item.cases.items _ (record { name = c.in_ok-copy.field-0; ty = c.in_ok-ty.ty }) (case_meaning here (case_view x))
    so_far m.extends m.typed (choice-same c.in_ok-copy.field-0 x.name _ _ c.in_ok-copy.ensures m.reads) in
    rw (c.in_ok-push.ensures.items, map_map-more (case_meaning here) case_view c.args.items.now c.loop-item.item-index x (omega arith) c.item-item.is) more
