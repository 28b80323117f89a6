-- What the own part of a closed table names of other packages, as tests.
use Rattle.std.specs.Prelude.{◌&&◌, ◌||◌, ℕ, Bool, false, List, [], ◌∷◌, slice_get, Some}
use Rattle.std.specs.Str.{bytes_eq}
use Rattle.package_sets.specs.Joining.{are_same_packages}
use Rattle.tables.specs.PackageNames.{PackageParts}
use Rattle.tables.specs.declared.tables.Interface.{Interface}
use Rattle.tables.specs.declared.tables.Resolve.{Resolve}

-- this import of a closed table is the interface of this name in the package of this full name
abbrev pub import_names : Resolve → Interface → PackageParts → List ℕ → Bool
import_names closed x q i = are_same_packages (Some q) (slice_get closed.packages x.«package».0) && bytes_eq i x.name

-- one of these things that has a mark has the property; those past the marks have none
abbrev pub any_marked : {A : Type 0} → (A → Bool) → List Bool → List A → Bool
any_marked has bs [] = false
any_marked has [] (x ∷ xs) = false
any_marked has (b ∷ bs) (x ∷ xs) = (b && has x) || any_marked has bs xs

-- one of the marked imports of a closed table is the interface of this name in the package of this full name
abbrev pub marked_names : Resolve → List Bool → List Interface → PackageParts → List ℕ → Bool
marked_names closed marks is q i = any_marked (λ x. import_names closed x q i) marks is
