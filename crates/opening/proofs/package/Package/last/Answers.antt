use Rattle.std.proofs.Common.{◌≡◌, ◌-◌, ◌∙◌, length, ap, arith}
use Rattle.std.proofs.Math.Logic.{∥∥₁_map}
use Rattle.package_form.specs.Closed.{own_package}
use Rattle.opening.proofs.package.Package.last.Goals as goal

pub overflow_cast-own : goal.overflow_cast-own
overflow_cast-own c =
    let p = c.args.self.now in
    let own : c.own_package-own.result ≡ length p.resolve.packages - 1 = c.own_package-own.ensures ∙ ap own_package c.as_slice-packages.ensures in
    omega (arith, own, p.few)

pub returns-clause-form : goal.returns-clause-form
returns-clause-form c =
    let p = c.args.self.now in
    let own : c.own_package-own.result ≡ length p.resolve.packages - 1 = c.own_package-own.ensures ∙ ap own_package c.as_slice-packages.ensures in
    ∥∥₁_map p.tower (λ tower. c.in_ok-table.ensures.form tower (omega (arith, own, p.some)))
