-- A set with a package more stays in the tower; what was attached is the table of its last package, and the others keep theirs.
use Rattle.std.proofs.Common.{◌≤◌, ℕ, [], ◌∷◌, ◌++◌, length, subst, ap, All, arith}
use Rattle.std.proofs.lemmas.List.{length-append}
use Rattle.std.proofs.Math.Logic.{∥∥₁_elim, ∥∥₁_map, ∥∥₁_prop}
use Rattle.package_form.specs.Form.{IsInPackageForm}
use Rattle.package_form.specs.Naming.{package_scopes}
use Rattle.package_form.specs.Scope.{AreDistinct}
use Rattle.package_sets.specs.Attached.{IsAttached}
use Rattle.package_sets.specs.BehindImports.{IsBehindImports}
use Rattle.package_sets.specs.Restricted.{IsRestricted}
use Rattle.package_sets.specs.Tower.{IsInTower, StaysInTower}
use Rattle.package_sets.proofs.AttachedSets.KeepsTower.{keeps-tower}
use Rattle.package_sets.proofs.SamePackagesAreOne.{same-is-prop}
use Rattle.tables.specs.declared.tables.Resolve.{Resolve}
use Rattle.package_adding.specs.Added.{HasTable, KeepsTables}

module _ (s closed r : Resolve) (id : ℕ) (a : IsAttached s closed r id) (tower : ∥ IsInTower s ∥₁) (form : ∥ IsInPackageForm closed ∥₁) (distinct : ∥ All AreDistinct (package_scopes closed) ∥₁) where
  stays : ∥ StaysInTower s closed r ∥₁
  stays = ∥∥₁_elim form ∥∥₁_prop (λ f. ∥∥₁_elim distinct ∥∥₁_prop (λ d. ∥∥₁_map tower (λ g. keeps-tower s closed g f d r id a)))

  pub stays-in-tower : ∥ IsInTower r ∥₁
  stays-in-tower = ∥∥₁_map stays (λ x. x.tower)

  pub has-table : IsBehindImports s closed → HasTable r id closed
  has-table behind t of = ∥∥₁_elim stays (same-is-prop t closed) (λ x. x.again behind t (subst (λ (n : ℕ). IsRestricted r n t) a.id_is of))

  pub keeps-tables : KeepsTables s r
  keeps-tables k l then was t now = ∥∥₁_elim stays (same-is-prop t then) (λ x. x.earlier k l t then now was)

-- a set with a package more has at most 64
pub attached-few : (s closed r : Resolve) (id : ℕ) → IsAttached s closed r id → length r.packages ≤ 64
attached-few s closed r id a = omega (arith, ap length a.packages_are, length-append s.packages (a.fits.own ∷ []), a.room)
