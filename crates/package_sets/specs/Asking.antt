-- What the imports of a closed table ask of a set: its packages of the same names, for interfaces of these names.
use Rattle.std.specs.Prelude.{◌≡◌, ℕ, true, List, length, slice_get, Some, All}
use Rattle.package_form.specs.Closed.{is_same_package}
use Rattle.package_names.specs.Asked.{is_asked}
use Rattle.tables.specs.PackageNames.{PackageParts}
use Rattle.tables.specs.declared.tables.Interface.{Interface}
use Rattle.tables.specs.declared.tables.Resolve.{Resolve}

-- this interface is asked of each package that has its package's name
abbrev pub AsksForOne : Resolve → Resolve → List (List (List ℕ)) → Interface → Type 0
AsksForOne set closed asked i = (p q : PackageParts) (k : ℕ) → slice_get closed.packages i.«package».0 ≡ Some p → slice_get set.packages k ≡ Some q → is_same_package p q ≡ true → is_asked asked k i.name ≡ true

-- `asked`, a list of names for each package of the set, has the names of these interfaces of a closed table
pub record AsksFor (set closed : Resolve) (is : List Interface) (asked : List (List (List ℕ))) : Type 0 where
  pub count : length asked ≡ length set.packages
  pub each : All (AsksForOne set closed asked) is
