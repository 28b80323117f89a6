use Rattle.std.proofs.Common.{List, ℕ, map, flat_map, subst, sym, Contains}
use Rattle.wit_tokens.specs.View.{field_view, optional_view}
use Rattle.wit_tokens.specs.declared.wit_syntax.ast.Field.{Field}
use Rattle.tree_meaning.specs.Declarations.{named_member, named_if}
use Rattle.tree_meaning.specs.Resolved.{member_meaning, resolved_if}
use Rattle.tree_meaning.specs.Building.{LowersParameters, LowersIf}
use Rattle.tree_scopes.specs.KnownScopes.{KnowsNames, scope_name, scope_names}
use Rattle.package_form.proofs.AllAndContains.{all-left, all-right}
use Rattle.tree_rows.proofs.LoweredTypesStay.{scope-later, same_name}
use Rattle.tree_rows.proofs.OneDefinitionMore.{function-adds}
use Rattle.tree_rows.proofs.define.define_function.Goals as goal

pub lower_parameters-requires-clause-known : goal.lower_parameters-requires-clause-known
lower_parameters-requires-clause-known c =
    let f = c.args.item.now.ty in
    subst (λ (fs : List Field). KnowsNames c.args.scope.now (flat_map named_member (map field_view fs))) (sym c.deref.ensures.value)
    (all-left (Contains (scope_names c.args.scope.now)) (flat_map named_member (map field_view f.params.items)) (named_if (optional_view f.result)) c.requires.known)

pub lower_optional-requires-clause-known : goal.lower_optional-requires-clause-known
lower_optional-requires-clause-known c =
    let f = c.args.item.now.ty in
    all-right (Contains (scope_names c.args.scope.now)) (flat_map named_member (map field_view f.params.items)) (named_if (optional_view f.result)) c.requires.known

pub lower_optional-requires-clause-scoped : goal.lower_optional-requires-clause-scoped
lower_optional-requires-clause-scoped c = scope-later c.args.builder.now c.lower_parameters.new.builder c.args.scope.now c.in_ok-params.ensures.extends.front c.requires.scoped

pub returns : goal.returns
returns c =
    let old = c.args.builder.now in
    let mid = c.lower_parameters.new.builder in
    let last = c.lower_optional.new.builder in
    let scope = c.args.scope.now in
    let f = c.args.item.now.ty in
    let params = subst (λ (fs : List Field). LowersParameters old mid c.in_ok-params.params (map (member_meaning (scope_name old scope)) (map field_view fs))) c.deref.ensures.value c.in_ok-params.ensures in
    let result = subst (λ (i : List ℕ). LowersIf mid last c.in_ok-result.result (resolved_if i (optional_view f.result))) (same_name old mid scope params.extends.front) c.in_ok-result.ensures in
    function-adds old mid last c.define.new.self scope.interface c.in_ok-copy.field-0 c.args.item.now.name c.in_ok-params.params _ c.in_ok-result.result _
    params result c.in_ok-copy.ensures c.in_ok-define.ensures.1
