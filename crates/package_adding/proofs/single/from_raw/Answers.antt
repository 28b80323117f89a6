-- What is added to no package, in the words for a package that names no other.
use Rattle.std.proofs.Common.{sym, subst, All}
use Rattle.std.proofs.lemmas.Result.{err_from_is_err_and}
use Rattle.atoms.specs.Label.{IsLabel}
use Rattle.package_text.specs.Writable.{package_labels}
use Rattle.tables.specs.Same.{IsSamePackage}
use Rattle.tables.specs.declared.tables.Resolve.{Resolve}
use Rattle.package_adding.specs.Alone.{IsComponentAlone}
use Rattle.package_adding.proofs.PackagesAddedAlone.{component-alone, component-writable, component-added, component-refused}
use Rattle.package_adding.proofs.single.from_raw.Goals as goal

pub returns-clause-ok : goal.returns-clause-ok
returns-clause-ok c =
    let raw = c.args.raw.now in
    let a = c.in_ok-add_raw.ensures.ok in
    let labels = subst (λ (r : Resolve). All IsLabel (package_labels r)) c.into_resolve-package.ensures c.names_are_labels.ensures in
    subst (IsComponentAlone raw) (sym c.into_resolve-package.ensures) (component-alone c.new-set.result.resolve c.new-set.ensures raw a.closed c.add_raw.new.self.resolve c.in_ok-add_raw.field-0.0 a.adds labels)

pub returns-clause-writable : goal.returns-clause-writable
returns-clause-writable c = component-writable c.new-set.result.resolve c.new-set.ensures c.args.raw.now c.into_resolve-package.result (returns-clause-ok c)

pub returns-clause-only : goal.returns-clause-only
returns-clause-only c = λ r h.
    subst (λ (x : Resolve). IsSamePackage x r) (sym c.into_resolve-package.ensures) (c.in_ok-add_raw.ensures.only r r 0 (component-added c.new-set.result.resolve c.new-set.ensures c.args.raw.now r h))

pub returns-in_err-add_raw-clause-err : goal.returns-in_err-add_raw-clause-err
returns-in_err-add_raw-clause-err c =
    let p = err_from_is_err_and c.from_residual.result c.from_residual.ensures.1 in
    rw (p.1, p.2) (component-refused c.new-set.result.resolve c.new-set.ensures c.args.raw.now c.in_err-add_raw.field-0.0 c.in_err-add_raw.ensures.err)

pub returns-in_err-add_raw-clause-only : goal.returns-in_err-add_raw-clause-only
returns-in_err-add_raw-clause-only c = λ r h.
    let p = err_from_is_err_and c.from_residual.result c.from_residual.ensures.1 in
    rw (p.1, p.2) (c.in_err-add_raw.ensures.only r r 0 (component-added c.new-set.result.resolve c.new-set.ensures c.args.raw.now r h))
