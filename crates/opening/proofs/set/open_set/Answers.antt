-- The packages are opened as a set within the limits, the only one, or refused for what is wrong with one of them.
use Rattle.std.proofs.Common.{◌∙◌, length, ap, sym, subst, arith}
use Rattle.std.proofs.lemmas.List.{length-map}
use Rattle.std.proofs.lemmas.Result.{err_from_is_err_and}
use Rattle.layout.specs.Layout.{RefusesFirst}
use Rattle.package_sets.specs.Tower.{IsInTower}
use Rattle.tables.specs.Same.{IsSamePackage}
use Rattle.tables.specs.declared.tables.Resolve.{Resolve}
use Rattle.opening.specs.Opening.{IsOpened}
use Rattle.opening.specs.Sets.{all_bytes, IsSetOf}
use Rattle.opening.proofs.OpensBehindPackages.{first-refused, same-laid-out, is-in-tower, count-packages, few-packages}
use Rattle.opening.proofs.set.open_set.Goals as goal

pub returns-in_err-set-clause-err : goal.returns-in_err-set-clause-err
returns-in_err-set-clause-err c =
    let p = err_from_is_err_and c.from_residual.result c.from_residual.ensures.1 in
    rw (p.1, p.2) (first-refused (all_bytes c.args.inputs.now) c.in_err-set.field-0.0 c.in_err-set.ensures.err)

pub returns-in_err-set-clause-only : goal.returns-in_err-set-clause-only
returns-in_err-set-clause-only c = λ r h.
    let q = err_from_is_err_and c.from_residual.result c.from_residual.ensures.1 in
    rw (q.1, q.2) (c.in_err-set.ensures.only r h.set)

pub of_set-requires-clause-tower : goal.of_set-requires-clause-tower
of_set-requires-clause-tower c = subst (λ (x : Resolve). ∥ IsInTower x ∥₁) (sym c.into_resolve.ensures) (is-in-tower (all_bytes c.args.inputs.now) c.in_ok-set.set.resolve c.in_ok-set.ensures.ok)

pub of_set-requires-clause-some : goal.of_set-requires-clause-some
of_set-requires-clause-some c =
    let count = count-packages (all_bytes c.args.inputs.now) c.in_ok-set.set.resolve c.in_ok-set.ensures.ok in
    omega (arith, count, length-map c.args.inputs.now (λ b. b.now), c.requires.some, ap (λ (x : Resolve). length x.packages) c.into_resolve.ensures)

pub of_set-requires-clause-few : goal.of_set-requires-clause-few
of_set-requires-clause-few c =
    let few = few-packages (all_bytes c.args.inputs.now) c.in_ok-set.set.resolve c.in_ok-set.ensures.ok in
    omega (arith, few, ap (λ (x : Resolve). length x.packages) c.into_resolve.ensures)

pub returns-in_err-of_set-clause-err : goal.returns-in_err-of_set-clause-err
returns-in_err-of_set-clause-err c =
    let p = err_from_is_err_and c.from_residual-in_err-of_set.result c.from_residual-in_err-of_set.ensures.1 in
    rw (p.1, p.2) (_, c.in_ok-set.ensures.ok, subst (RefusesFirst _) c.into_resolve.ensures c.in_err-of_set.ensures.err)

pub returns-in_err-of_set-clause-only : goal.returns-in_err-of_set-clause-only
returns-in_err-of_set-clause-only c = λ r h.
    let q = err_from_is_err_and c.from_residual-in_err-of_set.result c.from_residual-in_err-of_set.ensures.1 in
    rw (q.1, q.2) (same-laid-out _ r (c.in_ok-set.ensures.only r h.set) h.within c.in_err-of_set.field-0.0 (subst (RefusesFirst _) c.into_resolve.ensures c.in_err-of_set.ensures.err))

pub returns-clause-ok : goal.returns-clause-ok
returns-clause-ok c =
    subst (IsOpened (all_bytes c.args.inputs.now)) (sym c.in_ok-of_set.ensures.ok)
    (record { set = subst (IsSetOf (all_bytes c.args.inputs.now)) (sym c.into_resolve.ensures) c.in_ok-set.ensures.ok; within = c.in_ok-of_set.ensures.within })

pub returns-clause-only : goal.returns-clause-only
returns-clause-only c = λ r h. subst (λ (x : Resolve). IsSamePackage x r) (sym (c.in_ok-of_set.ensures.ok ∙ c.into_resolve.ensures)) (c.in_ok-set.ensures.only r h.set)
