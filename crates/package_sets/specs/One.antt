-- What is attached to a set, and what is imported from one, is one table.
use Rattle.std.specs.Prelude.{◌≡◌, ℕ, Bool, List, length}
use Rattle.package_form.specs.Closed.{IsAlone}
use Rattle.package_form.specs.Form.{IsInPackageForm}
use Rattle.package_sets.specs.Attached.{IsAttached}
use Rattle.package_sets.specs.BehindImports.{IsBehindImports}
use Rattle.package_sets.specs.Imports.{IsImportsOf}
use Rattle.package_sets.specs.Tower.{IsInTower}
use Rattle.tables.specs.Same.{IsSamePackage}
use Rattle.tables.specs.declared.tables.Resolve.{Resolve}

-- a set with a closed table's package more is one table only, and the package has one index in it
abbrev pub AttachesOne : Resolve → Resolve → Type 0
AttachesOne set closed = (r s : Resolve) (i j : ℕ) → IsAttached set closed r i → IsAttached set closed s j → IsSamePackage r s × (i ≡ j)

-- the packages and the interfaces with these marks have one table of imports
abbrev pub ImportsOne : Resolve → List Bool → List Bool → Type 0
ImportsOne set packages interfaces = (r s : Resolve) → IsImportsOf set packages interfaces r → IsImportsOf set packages interfaces s → IsSamePackage r s

-- behind no package, a package that reaches no other is attached as it stands, and its imports are none
pub record StandsAlone (set closed : Resolve) : Type 0 where
  pub attached : IsAttached set closed closed 0
  pub behind : IsBehindImports set closed

-- in a set of no packages, a closed table without imports is the set of its package
abbrev pub AttachesAlone : Resolve → Resolve → Type 0
AttachesAlone set closed = ∥ IsInTower set ∥₁ → length set.packages ≡ 0 → ∥ IsInPackageForm closed ∥₁ → IsAlone closed → StandsAlone set closed
