use Rattle.wit_tokens.specs.declared.wit_syntax.ast.TypeExpression.{TypeExpression, the_lemmas}
use Rattle.std.proofs.Common.{List, ℕ, [], Some, subst, ap, ◌∙◌, sym, arith, rules, Contains}
use Rattle.wit_tokens.specs.Syntax.{Ty, MaybeTy, Named, ListOf, OptionOf, TupleOf, ResultOf, Present}
use Rattle.wit_tokens.specs.View.{ty_view, inner_view, maybe_view}
use Rattle.tables.specs.Package.{read_val}
use Rattle.tables.specs.Tables.{is_type}
use Rattle.package_form.specs.Postfix.{unnamed}
use Rattle.tree_meaning.specs.Declarations.{named, named_maybe}
use Rattle.tree_meaning.specs.Resolved.{resolved, resolved_maybe}
use Rattle.tree_meaning.specs.Building.{LowersIf, LowersType}
use Rattle.tree_scopes.specs.KnownScopes.{KnowsNames, scope_name, scope_names}
use Rattle.package_form.proofs.AllAndContains.{all-head, all-left, all-right}
use Rattle.wit_tokens.proofs.wit_syntax.TreesOfExpressions.{view-Named, view-List, view-Option, view-Tuple, view-Result, view-Boxed, view-Other}
use Rattle.tree_rows.proofs.LoweredTypesStay.{known-by, inner-by, scope-later, same_name, lowers-list, lowers-option, lowers-tuple, lowers-result, lowers-some, resolved_all-more, all_named-at}
use Rattle.tree_meaning.proofs.TypesReadStay.{lowers_each-more, val-stays}
use Rattle.tree_meaning.proofs.PackageOfAFile.{ok-map}
use Rattle.tree_rows.proofs.lower.+lower.Goals as goal

pub lower_type-get-requires : goal.lower_type-get-requires
lower_type-get-requires t c =
    let e = ap ty_view c.in-Named.is ∙ view-Named c.in-Named.name in
    all-head (Contains (scope_names c.args.scope.now)) c.in-Named.name [] (known-by c.args.scope.now _ (Named c.in-Named.name) e c.requires.known)

pub lower_type-lower_within-requires : goal.lower_type-lower_within-requires
lower_type-lower_within-requires t c =
    let d = c.decreases in
    let e = ap ty_view c.in-List.is ∙ view-List c.in-List.element in
    (search (rules, the_lemmas), (known-by c.args.scope.now _ (ListOf (inner_view c.in-List.element)) e c.requires.known, c.requires.scoped))

pub lower_type-lower_within-requires-in-Option : goal.lower_type-lower_within-requires-in-Option
lower_type-lower_within-requires-in-Option t c =
    let d = c.decreases in
    let e = ap ty_view c.in-Option.is ∙ view-Option c.in-Option.payload in
    (search (rules, the_lemmas), (known-by c.args.scope.now _ (OptionOf (inner_view c.in-Option.payload)) e c.requires.known, c.requires.scoped))

pub lower_type-lower_all-requires : goal.lower_type-lower_all-requires
lower_type-lower_all-requires t c =
    let d = c.decreases in
    let e = ap ty_view c.in-Tuple.is ∙ view-Tuple c.in-Tuple.members in
    (search (rules, the_lemmas), (known-by c.args.scope.now _ (TupleOf _) e c.requires.known, c.requires.scoped))

pub lower_type-lower_maybe-requires : goal.lower_type-lower_maybe-requires
lower_type-lower_maybe-requires t c =
    let d = c.decreases in
    let e = ap ty_view c.in-Result.is ∙ view-Result c.in-Result.ok c.in-Result.error in
    let known = known-by c.args.scope.now _ (ResultOf (maybe_view c.in-Result.ok) (maybe_view c.in-Result.error)) e c.requires.known in
    (search (rules, the_lemmas), (all-left (Contains (scope_names c.args.scope.now)) (named_maybe (maybe_view c.in-Result.ok)) (named_maybe (maybe_view c.in-Result.error)) known, c.requires.scoped))

pub lower_type-lower_maybe-requires-in-Result : goal.lower_type-lower_maybe-requires-in-Result
lower_type-lower_maybe-requires-in-Result t c =
    let d = c.decreases in
    let e = ap ty_view c.in-Result.is ∙ view-Result c.in-Result.ok c.in-Result.error in
    let known = known-by c.args.scope.now _ (ResultOf (maybe_view c.in-Result.ok) (maybe_view c.in-Result.error)) e c.requires.known in
    let here = scope-later c.args.builder.now c.lower_maybe.new.builder c.args.scope.now c.in_ok-ok-in-Result.ensures.extends.front c.requires.scoped in
    (search (rules, the_lemmas), (all-right (Contains (scope_names c.args.scope.now)) (named_maybe (maybe_view c.in-Result.ok)) (named_maybe (maybe_view c.in-Result.error)) known, here))

pub lower_type-returns-in_ok-element-in-List : goal.lower_type-returns-in_ok-element-in-List
lower_type-returns-in_ok-element-in-List t c =
    let old = c.args.builder.now in
    let mid = c.lower_within.new.builder in
    let here = scope_name old c.args.scope.now in
    let e = ap ty_view c.in-List.is ∙ view-List c.in-List.element in
    let l = inner-by old mid _ here (ty_view c.args.expression.now) (ListOf (inner_view c.in-List.element)) e (lowers-list old mid c.in_ok-element-in-List.element _ c.in_ok-element-in-List.ensures) in
    ok-map c.inner.result _ _ (λ v h. h old (resolved here (ty_view c.args.expression.now)) l) c.inner.ensures

pub lower_type-returns-in_ok-payload-in-Option : goal.lower_type-returns-in_ok-payload-in-Option
lower_type-returns-in_ok-payload-in-Option t c =
    let old = c.args.builder.now in
    let mid = c.lower_within-in-Option.new.builder in
    let here = scope_name old c.args.scope.now in
    let e = ap ty_view c.in-Option.is ∙ view-Option c.in-Option.payload in
    let l = inner-by old mid _ here (ty_view c.args.expression.now) (OptionOf (inner_view c.in-Option.payload)) e (lowers-option old mid c.in_ok-payload-in-Option.payload _ c.in_ok-payload-in-Option.ensures) in
    ok-map c.inner-in-Option.result _ _ (λ v h. h old (resolved here (ty_view c.args.expression.now)) l) c.inner-in-Option.ensures

pub lower_type-returns-in_ok-members-in-Tuple : goal.lower_type-returns-in_ok-members-in-Tuple
lower_type-returns-in_ok-members-in-Tuple t c =
    let old = c.args.builder.now in
    let mid = c.lower_all.new.builder in
    let here = scope_name old c.args.scope.now in
    let e = ap ty_view c.in-Tuple.is ∙ view-Tuple c.in-Tuple.members in
    let l = inner-by old mid _ here (ty_view c.args.expression.now) (TupleOf _) e (lowers-tuple old mid c.in_ok-members-in-Tuple.members _ c.in_ok-members-in-Tuple.ensures) in
    ok-map c.inner-in-Tuple.result _ _ (λ v h. h old (resolved here (ty_view c.args.expression.now)) l) c.inner-in-Tuple.ensures

pub lower_type-returns-in_ok-error-in-Result : goal.lower_type-returns-in_ok-error-in-Result
lower_type-returns-in_ok-error-in-Result t c =
    let old = c.args.builder.now in
    let mid = c.lower_maybe.new.builder in
    let new = c.lower_maybe-in-Result.new.builder in
    let scope = c.args.scope.now in
    let here = scope_name old scope in
    let e = ap ty_view c.in-Result.is ∙ view-Result c.in-Result.ok c.in-Result.error in
    let first = c.in_ok-ok-in-Result.ensures in
    let second = subst (λ (i : List ℕ). LowersIf mid new c.in_ok-error-in-Result.error (resolved_maybe i (maybe_view c.in-Result.error))) (same_name old mid scope first.extends.front) c.in_ok-error-in-Result.ensures in
    let l = inner-by old new _ here (ty_view c.args.expression.now) (ResultOf (maybe_view c.in-Result.ok) (maybe_view c.in-Result.error)) e (lowers-result old mid new _ _ _ _ first second) in
    ok-map c.inner-in-Result.result _ _ (λ v h. h old (resolved here (ty_view c.args.expression.now)) l) c.inner-in-Result.ensures

pub lower_within-lower_type-requires : goal.lower_within-lower_type-requires
lower_within-lower_type-requires t c =
    let d = c.decreases in
    let e = ap inner_view c.in-Boxed.is ∙ view-Boxed c.in-Boxed.expression ∙ ap ty_view (sym c.deref.ensures) in
    (search (rules, the_lemmas), (subst (λ (x : Ty). KnowsNames c.args.scope.now (named x)) e c.requires.known, c.requires.scoped))

pub lower_maybe-lower_type-requires : goal.lower_maybe-lower_type-requires
lower_maybe-lower_type-requires t c =
    let d = c.decreases in
    let e = ap maybe_view c.in-Other.is ∙ view-Other c.in-Other.expression ∙ ap (λ (x : TypeExpression). Present (ty_view x)) (sym c.deref.ensures) in
    (search (rules, the_lemmas), (subst (λ (x : MaybeTy). KnowsNames c.args.scope.now (named_maybe x)) e c.requires.known, c.requires.scoped))

pub lower_maybe-returns-in_ok-ty-in-Other : goal.lower_maybe-returns-in_ok-ty-in-Other
lower_maybe-returns-in_ok-ty-in-Other t c =
    let old = c.args.builder.now in
    let new = c.lower_type.new.builder in
    let here = scope_name old c.args.scope.now in
    let e = ap maybe_view c.in-Other.is ∙ view-Other c.in-Other.expression ∙ ap (λ (x : TypeExpression). Present (ty_view x)) (sym c.deref.ensures) in
    subst (λ (x : MaybeTy). LowersIf old new (Some c.in_ok-ty-in-Other.ty) (resolved_maybe here x)) (sym e) (lowers-some old new c.in_ok-ty-in-Other.ty _ c.in_ok-ty-in-Other.ensures)

pub lower_all-lower_type-requires : goal.lower_all-lower_type-requires
lower_all-lower_type-requires t c =
    let d = c.decreases in
    let here = scope-later c.args.builder.now c.loop-expression.builder c.args.scope.now c.loop-expression.invariant.extends.front c.requires.scoped in
    let known = all_named-at (Contains (scope_names c.args.scope.now)) c.deref-expression-items.result.now c.loop-expression.expression-index c.expression-item.result
    (rw (← c.deref-expression-items.ensures.value) at c.requires.known) (omega arith) c.expression-item.is in
    (search (rules, the_lemmas), (known, here))

pub lower_all-loop-expression-preserved : goal.lower_all-loop-expression-preserved
lower_all-loop-expression-preserved t c =
    let old = c.args.builder.now in
    let mid = c.loop-expression.builder in
    let new = c.lower_type.new.builder in
    let scope = c.args.scope.now in
    let here = scope_name old scope in
    let k = c.loop-expression.expression-index in
    let xs = c.deref-expression-items.result.now in
    let x = c.expression-item.result in
    let so_far = c.loop-expression.invariant in
    let m = subst (λ (i : List ℕ). LowersType mid new c.in_ok-ty.ty (resolved i (ty_view x))) (same_name old mid scope so_far.extends.front) c.in_ok-ty.ensures in
    let more = lowers_each-more is_type read_val unnamed val-stays old mid new c.loop-expression.types.items _ _ _ so_far m.extends m.stands.typed m.stands.reads in
    rw (c.in_ok-push.ensures.items, resolved_all-more here xs k x (omega arith) c.expression-item.is) more
