use Rattle.std.proofs.lemmas.Result.{err_from_is_err_and}
use Rattle.wit_component.proofs.RepeatedNamesRefuse.{refuses-package}
use Rattle.wit_component.proofs.CandidateIsThePackage.{not-empty, no-duplicate}
use Rattle.wit_component.proofs.from_component.closed_from_component.Goals as goal

pub returns-then-is_empty_package-clause-only : goal.returns-then-is_empty_package-clause-only
returns-then-is_empty_package-clause-only c = λ r s d.
    let some = not-empty c.args.raw.now r s in
    let none = c.is_empty_package.ensures in
    let test = c.if-is_empty_package.true in
    absurd (cc)

pub distinct_names-requires : goal.distinct_names-requires
distinct_names-requires c = c.in_ok-package.ensures.form.parted

pub returns-in_err-distinct_names-clause-only : goal.returns-in_err-distinct_names-clause-only
returns-in_err-distinct_names-clause-only c = λ r s d.
    let p = err_from_is_err_and c.from_residual-in_err-distinct_names.result c.from_residual-in_err-distinct_names.ensures.1 in
    rw (p.1, p.2) (no-duplicate c.in_ok-package.package r _ (c.in_ok-package.ensures.same r s d) d c.in_err-distinct_names.ensures.err)

pub returns-in_err-distinct_names-clause-err : goal.returns-in_err-distinct_names-clause-err
returns-in_err-distinct_names-clause-err c =
    let p = err_from_is_err_and c.from_residual-in_err-distinct_names.result c.from_residual-in_err-distinct_names.ensures.1 in
    rw (p.1, p.2) (refuses-package c.args.raw.now c.in_ok-package.package _ c.in_ok-package.ensures.ok c.in_err-distinct_names.ensures.err)
