use Rattle.std.proofs.Common.{List, ℕ, [], subst, ap, ◌∙◌, Contains}
use Rattle.wit_tokens.specs.Syntax.{Named, ListOf, OptionOf, TupleOf, ResultOf}
use Rattle.wit_tokens.specs.View.{ty_view, inner_view, maybe_view}
use Rattle.tree_meaning.specs.Declarations.{named_maybe}
use Rattle.tree_meaning.specs.Resolved.{resolved_maybe}
use Rattle.tree_meaning.specs.Building.{LowersIf}
use Rattle.tree_scopes.specs.KnownScopes.{scope_name, scope_names}
use Rattle.package_form.proofs.AllAndContains.{all-head, all-left, all-right}
use Rattle.wit_tokens.proofs.wit_syntax.TreesOfExpressions.{view-Named, view-List, view-Option, view-Tuple, view-Result}
use Rattle.tree_rows.proofs.LoweredTypesStay.{known-by, inner-by, scope-later, same_name, lowers-list, lowers-option, lowers-tuple, lowers-result}
use Rattle.tree_rows.proofs.lower.lower_kind.Goals as goal

pub get-requires : goal.get-requires
get-requires c =
    let e = ap ty_view c.in-Named.is ∙ view-Named c.in-Named.name in
    all-head (Contains (scope_names c.args.scope.now)) c.in-Named.name [] (known-by c.args.scope.now _ (Named c.in-Named.name) e c.requires.known)

pub lower_within-requires-clause-known : goal.lower_within-requires-clause-known
lower_within-requires-clause-known c =
    let e = ap ty_view c.in-List.is ∙ view-List c.in-List.element in
    known-by c.args.scope.now _ (ListOf (inner_view c.in-List.element)) e c.requires.known

pub lower_within-requires-in-Option-clause-known : goal.lower_within-requires-in-Option-clause-known
lower_within-requires-in-Option-clause-known c =
    let e = ap ty_view c.in-Option.is ∙ view-Option c.in-Option.payload in
    known-by c.args.scope.now _ (OptionOf (inner_view c.in-Option.payload)) e c.requires.known

pub lower_all-requires-clause-known : goal.lower_all-requires-clause-known
lower_all-requires-clause-known c =
    let e = ap ty_view c.in-Tuple.is ∙ view-Tuple c.in-Tuple.members in
    known-by c.args.scope.now _ (TupleOf _) e c.requires.known

pub lower_maybe-requires-clause-known : goal.lower_maybe-requires-clause-known
lower_maybe-requires-clause-known c =
    let e = ap ty_view c.in-Result.is ∙ view-Result c.in-Result.ok c.in-Result.error in
    let known = known-by c.args.scope.now _ (ResultOf (maybe_view c.in-Result.ok) (maybe_view c.in-Result.error)) e c.requires.known in
    all-left (Contains (scope_names c.args.scope.now)) (named_maybe (maybe_view c.in-Result.ok)) (named_maybe (maybe_view c.in-Result.error)) known

pub lower_maybe-requires-in-Result-clause-known : goal.lower_maybe-requires-in-Result-clause-known
lower_maybe-requires-in-Result-clause-known c =
    let e = ap ty_view c.in-Result.is ∙ view-Result c.in-Result.ok c.in-Result.error in
    let known = known-by c.args.scope.now _ (ResultOf (maybe_view c.in-Result.ok) (maybe_view c.in-Result.error)) e c.requires.known in
    all-right (Contains (scope_names c.args.scope.now)) (named_maybe (maybe_view c.in-Result.ok)) (named_maybe (maybe_view c.in-Result.error)) known

pub lower_maybe-requires-in-Result-clause-scoped : goal.lower_maybe-requires-in-Result-clause-scoped
lower_maybe-requires-in-Result-clause-scoped c =
    scope-later c.args.builder.now c.lower_maybe.new.builder c.args.scope.now c.in_ok-ok-in-Result.ensures.extends.front c.requires.scoped

pub returns-in_ok-element-in-List : goal.returns-in_ok-element-in-List
returns-in_ok-element-in-List c =
    let old = c.args.builder.now in
    let new = c.lower_within.new.builder in
    let here = scope_name old c.args.scope.now in
    let e = ap ty_view c.in-List.is ∙ view-List c.in-List.element in
    inner-by old new _ here _ (ListOf (inner_view c.in-List.element)) e (lowers-list old new c.in_ok-element-in-List.element _ c.in_ok-element-in-List.ensures)

pub returns-in_ok-payload-in-Option : goal.returns-in_ok-payload-in-Option
returns-in_ok-payload-in-Option c =
    let old = c.args.builder.now in
    let new = c.lower_within-in-Option.new.builder in
    let here = scope_name old c.args.scope.now in
    let e = ap ty_view c.in-Option.is ∙ view-Option c.in-Option.payload in
    inner-by old new _ here _ (OptionOf (inner_view c.in-Option.payload)) e (lowers-option old new c.in_ok-payload-in-Option.payload _ c.in_ok-payload-in-Option.ensures)

pub returns-in_ok-members-in-Tuple : goal.returns-in_ok-members-in-Tuple
returns-in_ok-members-in-Tuple c =
    let old = c.args.builder.now in
    let here = scope_name old c.args.scope.now in
    let e = ap ty_view c.in-Tuple.is ∙ view-Tuple c.in-Tuple.members in
    inner-by old c.lower_all.new.builder _ here _ (TupleOf _) e (lowers-tuple old c.lower_all.new.builder c.in_ok-members-in-Tuple.members _ c.in_ok-members-in-Tuple.ensures)

pub returns-in_ok-error-in-Result : goal.returns-in_ok-error-in-Result
returns-in_ok-error-in-Result c =
    let old = c.args.builder.now in
    let mid = c.lower_maybe.new.builder in
    let new = c.lower_maybe-in-Result.new.builder in
    let scope = c.args.scope.now in
    let here = scope_name old scope in
    let e = ap ty_view c.in-Result.is ∙ view-Result c.in-Result.ok c.in-Result.error in
    let first = c.in_ok-ok-in-Result.ensures in
    let second = subst (λ (i : List ℕ). LowersIf mid new c.in_ok-error-in-Result.error (resolved_maybe i (maybe_view c.in-Result.error))) (same_name old mid scope first.extends.front) c.in_ok-error-in-Result.ensures in
    inner-by old new _ here _ (ResultOf (maybe_view c.in-Result.ok) (maybe_view c.in-Result.error)) e (lowers-result old mid new _ _ _ _ first second)
