use Rattle.std.proofs.Common.{◌∙◌, refl, [], List, All, Contains, sym, subst}
use Rattle.tables.specs.PackageNames.{PackageParts}
use Rattle.package_form.proofs.AllAndContains.{all-cons, all-none}
use Rattle.tree_meaning.specs.Finished.{header_name}
use Rattle.tree_meaning.specs.Resolves.{IsLacking}
use Rattle.tree_meaning.proofs.PathNames.{any-there, any-not, names-package}
use Rattle.tree_names.proofs.packages.lacking.Goals as goal

pub returns-then-has_package-clause-none : goal.returns-then-has_package-clause-none
returns-then-has_package-clause-none c =
    let ps = c.args.packages.now in
    let q = header_name c.in-Foreign.package in
    let there = any-there ps q (sym c.has_package.ensures ∙ c.if-has_package.true) in
    subst (All (Contains ps)) (sym (names-package c.args.path.now c.in-Foreign.package _ c.in-Foreign.is)) (all-cons (Contains ps) q [] there (all-none (Contains ps)))

pub returns-else-has_package-clause-some : goal.returns-else-has_package-clause-some
returns-else-has_package-clause-some c =
    let ps = c.args.packages.now in
    let q = header_name c.in-Foreign.package in
    let not = any-not ps q (sym c.has_package.ensures ∙ c.if-has_package.false) in
    subst (λ (qs : List PackageParts). IsLacking ps qs q) (sym (names-package c.args.path.now c.in-Foreign.package _ c.in-Foreign.is)) (record { before = []; after = []; are = refl; have = all-none (Contains ps); lacks = not })
