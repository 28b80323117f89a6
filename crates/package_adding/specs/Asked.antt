-- What is asked of a set, by a test of packages' names and interfaces'.
use Rattle.std.specs.Prelude.{◌≡◌, ◌||◌, ℕ, Bool, false, List, length, slice_get, Some}
use Rattle.package_names.specs.Asked.{is_asked}
use Rattle.tables.specs.PackageNames.{PackageParts}
use Rattle.tables.specs.declared.tables.Resolve.{Resolve}

-- the test that names no interface of any package
abbrev pub nothing : PackageParts → List ℕ → Bool
nothing q i = false

-- the interfaces that either of two tests names
abbrev pub also : (PackageParts → List ℕ → Bool) → (PackageParts → List ℕ → Bool) → PackageParts → List ℕ → Bool
also names others q i = names q i || others q i

-- Just the interfaces that are named are asked of the packages of the set, whether these have them or not.
pub record AreAsked (set : Resolve) (names : PackageParts → List ℕ → Bool) (asked : List (List (List ℕ))) : Type 0 where
  pub count : length asked ≡ length set.packages
  pub each : (k : ℕ) (q : PackageParts) (i : List ℕ) → slice_get set.packages k ≡ Some q → is_asked asked k i ≡ names q i
