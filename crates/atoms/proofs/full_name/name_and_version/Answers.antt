use Rattle.std.proofs.Common.{IsTrue, sym, ap, ◌∙◌, subst, Some}
use Rattle.atoms.specs.Label.{is_label}
use Rattle.atoms.specs.FullName.{is_version_or_none}
use Rattle.atoms.proofs.FullNamesHaveOneReading.{no_version, version_cut, fails}
use Rattle.atoms.proofs.full_name.name_and_version.Goals as goal

pub returns-in_err-label-clause-only : goal.returns-in_err-label-clause-only
returns-in_err-label-clause-only c = λ name version is.
    let whole = no_version c.args.text.now name version is c.in_default.ensures.none in
    fails _ _ c.from_residual.result c.in_err-label.field-0.0 c.from_residual.ensures.1 c.in_err-label.ensures (subst (λ t. IsTrue (is_label t)) (sym whole.0) is.label)

pub returns-in_default-clause-only : goal.returns-in_default-clause-only
returns-in_default-clause-only c = λ name version is.
    let whole = no_version c.args.text.now name version is c.in_default.ensures.none in
    (c.in_ok-label.ensures.0 ∙ whole.0, sym whole.1)

pub returns-in_err-name-clause-only : goal.returns-in_err-name-clause-only
returns-in_err-name-clause-only c = λ name version is.
    let parts = version_cut c.args.text.now c.in-Some.name.now c.in-Some.version.now name version is c.in-Some.ensures.some.0 c.in-Some.ensures.some.1 in
    fails _ _ c.from_residual-in_err-name.result c.in_err-name.field-0.0 c.from_residual-in_err-name.ensures.1 c.in_err-name.ensures
    (subst (λ t. IsTrue (is_label t)) (sym parts.0) is.label)

pub returns-in_err-version-clause-only : goal.returns-in_err-version-clause-only
returns-in_err-version-clause-only c = λ name version is.
    let parts = version_cut c.args.text.now c.in-Some.name.now c.in-Some.version.now name version is c.in-Some.ensures.some.0 c.in-Some.ensures.some.1 in
    fails _ _ c.from_residual-in_err-version.result c.in_err-version.field-0.0 c.from_residual-in_err-version.ensures.1 c.in_err-version.ensures
    (subst (λ v. IsTrue (is_version_or_none v)) (sym parts.1) is.reads)

pub returns-clause-only : goal.returns-clause-only
returns-clause-only c = λ name version is.
    let parts = version_cut c.args.text.now c.in-Some.name.now c.in-Some.version.now name version is c.in-Some.ensures.some.0 c.in-Some.ensures.some.1 in
    (c.in_ok-name.ensures.0 ∙ parts.0, ap (λ t. Some t) c.in_ok-version.ensures.0 ∙ parts.1)
