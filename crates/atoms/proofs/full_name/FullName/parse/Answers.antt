use Rattle.std.proofs.Common.{IsTrue, sym, ◌∙◌, subst}
use Rattle.atoms.specs.FullName.{is_package_label, IsName}
use Rattle.atoms.proofs.FullNamesHaveOneReading.{no_namespace, namespace_cut, no_package, package_cut, fails, fails_as, same_parts}
use Rattle.atoms.proofs.full_name.FullName.parse.Goals as goal

pub returns-in_default-clause-only : goal.returns-in_default-clause-only
returns-in_default-clause-only c = λ parts is. absurd (no_namespace c.args.text.now parts is c.in_default.ensures.none)

pub returns-in_default-cut-clause-only : goal.returns-in_default-cut-clause-only
returns-in_default-cut-clause-only c = λ parts is.
    let front = namespace_cut c.args.text.now c.in-Some.namespace.now c.in-Some.rest.now parts is c.in-Some.ensures.some.0 c.in-Some.ensures.some.1 in
    absurd (no_package c.in-Some.rest.now parts front.1 c.in_default-cut.ensures.none)

pub returns-in_err-namespace-clause-only : goal.returns-in_err-namespace-clause-only
returns-in_err-namespace-clause-only c = λ parts is.
    let front = namespace_cut c.args.text.now c.in-Some.namespace.now c.in-Some.rest.now parts is c.in-Some.ensures.some.0 c.in-Some.ensures.some.1 in
    fails _ _ c.from_residual.result c.in_err-namespace.field-0.0 c.from_residual.ensures.1 c.in_err-namespace.ensures
    (subst (λ t. IsTrue (is_package_label t)) (sym front.0) is.namespace)

pub returns-in_err-package-clause-only : goal.returns-in_err-package-clause-only
returns-in_err-package-clause-only c = λ parts is.
    let front = namespace_cut c.args.text.now c.in-Some.namespace.now c.in-Some.rest.now parts is c.in-Some.ensures.some.0 c.in-Some.ensures.some.1 in
    let middle = package_cut c.args.text.now c.in-Some.rest.now c.in-Some-cut.package.now c.in-Some-cut.rest.now parts is front.1 c.in-Some-cut.ensures.some.0 c.in-Some-cut.ensures.some.1 in
    fails _ _ c.from_residual-in_err-package.result c.in_err-package.field-0.0 c.from_residual-in_err-package.ensures.1 c.in_err-package.ensures
    (subst (λ t. IsTrue (is_package_label t)) (sym middle.0) is.package_name)

pub returns-in_err-name-clause-only : goal.returns-in_err-name-clause-only
returns-in_err-name-clause-only c = λ parts is.
    let front = namespace_cut c.args.text.now c.in-Some.namespace.now c.in-Some.rest.now parts is c.in-Some.ensures.some.0 c.in-Some.ensures.some.1 in
    let middle = package_cut c.args.text.now c.in-Some.rest.now c.in-Some-cut.package.now c.in-Some-cut.rest.now parts is front.1 c.in-Some-cut.ensures.some.0 c.in-Some-cut.ensures.some.1 in
    fails_as _ c.from_residual-in_err-name.result c.in_err-name.field-0.0 c.from_residual-in_err-name.ensures.1
    (c.in_err-name.ensures.only parts.name parts.version (subst (λ t. IsName t parts.name parts.version) (sym middle.1) is.name))

pub returns-clause-only : goal.returns-clause-only
returns-clause-only c = λ parts is.
    let front = namespace_cut c.args.text.now c.in-Some.namespace.now c.in-Some.rest.now parts is c.in-Some.ensures.some.0 c.in-Some.ensures.some.1 in
    let middle = package_cut c.args.text.now c.in-Some.rest.now c.in-Some-cut.package.now c.in-Some-cut.rest.now parts is front.1 c.in-Some-cut.ensures.some.0 c.in-Some-cut.ensures.some.1 in
    let last = c.in_ok-name.ensures.only parts.name parts.version (subst (λ t. IsName t parts.name parts.version) (sym middle.1) is.name) in
    same_parts _ _ _ _ parts (c.in_ok-namespace.ensures.0 ∙ front.0) (c.in_ok-package.ensures.0 ∙ middle.0) last.0 last.1
