-- The set has a package of the tree's name.
use Rattle.std.proofs.Common.{◌≡◌, ◌∙◌, true, List, ap, sym, subst, inr}
use Rattle.std.specs.List.{list_any}
use Rattle.package_form.specs.Closed.{is_same_package}
use Rattle.tables.specs.declared.error.ResolveError.TheVariants.{SamePackage}
use Rattle.tree_meaning.specs.Finished.{header_name}
use Rattle.tree_meaning.proofs.PathNames.{parts-are}
use Rattle.tables.specs.PackageNames.{PackageParts}
use Rattle.package_adding.proofs.TestsTellFileNames.{same-there}
use Rattle.package_adding.proofs.set.PackageSet.lacks_package.Goals as goal

pub returns-then-has_package-clause-err : goal.returns-then-has_package-clause-err
returns-then-has_package-clause-err c =
    let ps = c.args.self.now.resolve.packages in
    let id = c.args.ast.now.«package» in
    let there = ap (λ (qs : List PackageParts). list_any (λ p. is_same_package p (header_name id)) qs) (sym c.as_slice.ensures) ∙ sym c.has_package.ensures ∙ c.if-has_package.true in
    inr (
      ap (λ (p : PackageParts). SamePackage p) (c.in_ok-name.ensures ∙ sym (parts-are id)),
      subst (λ (p : PackageParts). list_any (is_same_package p) ps ≡ true) (sym (parts-are id)) (same-there ps (header_name id) there),
    )
