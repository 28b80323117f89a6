-- The tables that sets have: that of no package, and what one is with a package more.
use Rattle.std.specs.Prelude.{◌≡◌, ℕ, true, [], slice_get, Some}
use Rattle.package_form.specs.Closed.{are_of_a_set}
use Rattle.package_form.specs.Form.{has_full_names}
use Rattle.package_form.specs.Postfix.{IsPostfix}
use Rattle.package_sets.specs.Restricted.{NamesEarlierPackages}
use Rattle.package_sets.specs.Set.{IsSet}
use Rattle.package_sets.specs.SetScopes.{HasDistinctScopes}
use Rattle.tables.specs.declared.tables.Interface.{Interface}
use Rattle.tables.specs.declared.tables.Resolve.{Resolve}

-- no two interfaces have one name in packages of one name
pub record HasNamesApart (r : Resolve) : Type 0 where
  pub each : (j k : ℕ) (x y : Interface) → slice_get r.interfaces j ≡ Some x → slice_get r.interfaces k ≡ Some y → slice_get r.packages x.«package».0 ≡ slice_get r.packages y.«package».0 → x.name ≡ y.name → j ≡ k

-- At most 64 packages, whose names differ and are those of full names; interfaces of one have names that differ, as the names of each scope do.
-- Rows stand package by package, each without a name before what is made of it, and each package behind those that it names.
pub record IsInSetForm (r : Resolve) : Type 0 where
  pub packages : are_of_a_set r.packages ≡ true
  pub names : has_full_names r ≡ true
  pub apart : HasNamesApart r
  pub rows : IsSet r
  pub postfix : IsPostfix r.definitions
  pub earlier : NamesEarlierPackages r
  pub scopes : HasDistinctScopes r

-- a table without packages, interfaces, worlds and rows
pub record IsEmpty (r : Resolve) : Type 0 where
  pub packages : r.packages ≡ []
  pub interfaces : r.interfaces ≡ []
  pub worlds : r.worlds ≡ []
  pub definitions : r.definitions ≡ []
