use Rattle.std.proofs.Common.{◌≤◌, ◌<◌, ◌∙◌, inr, refl, sym, subst, All}
use Rattle.std.proofs.Math.Logic.{∥∥₁_map}
use Rattle.package_form.specs.Form.{IsInPackageForm}
use Rattle.package_form.specs.Naming.{package_scopes}
use Rattle.package_form.specs.Scope.{AreDistinct}
use Rattle.package_text.proofs.TableRows.FormOfSingleRows.{form-told}
use Rattle.tables.specs.declared.tables.Resolve.{Resolve}
use Rattle.opening.specs.Opening.{IsLast}
use Rattle.opening.proofs.LastPackageAsBinary.{begins, written-as}
use Rattle.opening.proofs.package.Package.to_binary.Goals as goal

abbrev IsFormed : Resolve → Type 0
IsFormed r = ∥ IsInPackageForm r × All AreDistinct (package_scopes r) ∥₁

pub component_with_bytes-requires : goal.component_with_bytes-requires
component_with_bytes-requires c = form-told c.table.result.now (∥∥₁_map (subst IsFormed (sym c.table.ensures) c.in-Ok.ensures.form) (λ f. f.0))

pub returns-clause-exact : goal.returns-clause-exact
returns-clause-exact c = (c.table.result.now, subst (IsLast c.args.self.now.resolve) (sym c.table.ensures) c.in-Ok.ensures.last, c.in-Ok-component_with_bytes.ensures.exact)

pub returns-clause-begins : goal.returns-clause-begins
returns-clause-begins c = begins _ _ c.in-Ok-component_with_bytes.ensures.exact

pub returns-clause-written : goal.returns-clause-written
returns-clause-written c =
    let p = c.args.self.now in
    let bytes = c.in-Ok-component_with_bytes.bytes in
    written-as bytes.items c.in-Ok-component_with_bytes.field-0-0 p.resolve c.table.result.now (subst (λ n. n ≤ 1048576) (c.len.ensures ∙ bytes.ok.0) c.if-len-gt-MAX_INPUT.false)
    c.in-Ok-component_with_bytes.ensures.ok (returns-clause-begins c) c.in-Ok-component_with_bytes.ensures.spelling (subst (IsLast p.resolve) (sym c.table.ensures) c.in-Ok.ensures.last)
    (subst IsFormed (sym c.table.ensures) c.in-Ok.ensures.form) p.within

pub returns-then-len-gt-MAX_INPUT-clause-err : goal.returns-then-len-gt-MAX_INPUT-clause-err
returns-then-len-gt-MAX_INPUT-clause-err c =
    let bytes = c.in-Ok-component_with_bytes.bytes in
    let long = subst (λ n. 1048576 < n) (c.len.ensures ∙ bytes.ok.0) c.if-len-gt-MAX_INPUT.true in
    let last = subst (IsLast c.args.self.now.resolve) (sym c.table.ensures) c.in-Ok.ensures.last in
    inr (refl, (bytes.items, (c.table.result.now, last, c.in-Ok-component_with_bytes.ensures.exact), long))
