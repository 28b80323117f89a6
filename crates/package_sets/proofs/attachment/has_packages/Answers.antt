use Rattle.std.proofs.Common.{rules, ◌≡◌, inr, refl, arith, true, false}
use Rattle.package_sets.specs.Attached.{has_package}
use Rattle.package_sets.proofs.GrowingLists.{item-get, each-more}
use Rattle.package_sets.proofs.FoundImports.ImportsAreFound.{lacks-first}
use Rattle.package_sets.proofs.attachment.has_packages.Goals as goal

pub returns-then-not-has_package-clause-err : goal.returns-then-not-has_package-clause-err
returns-then-not-has_package-clause-err c =
    let lacks : has_package c.args.set.now c.package-item.result ≡ false = search rules in
    inr (
      c.in_ok-copied_name.field-0,
      refl,
      lacks-first c.args.set.now c.args.packages.now c.loop-package.package-index c.package-item.result c.in_ok-copied_name.field-0
          (item-get c.args.packages.now c.loop-package.package-index c.package-item.result (omega arith) c.package-item.is) c.in_ok-copied_name.ensures lacks c.loop-package.invariant,
    )

pub loop-package-preserved : goal.loop-package-preserved
loop-package-preserved c =
    let has : has_package c.args.set.now c.package-item.result ≡ true = search rules in
    each-more (λ k q. has_package c.args.set.now q ≡ true) c.args.packages.now c.loop-package.package-index c.package-item.result
    (item-get c.args.packages.now c.loop-package.package-index c.package-item.result (omega arith) c.package-item.is) has c.loop-package.invariant
