-- A set with one package more: the closed table of a package, behind the packages of the set.
use Rattle.std.specs.Prelude.{◌≡◌, ◌≤◌, ◌<◌, ℕ, Bool, true, false, List, [], ◌∷◌, ◌++◌, map, take, drop, length, slice_get, Some}
use Rattle.std.specs.List.{list_any}
use Rattle.package_form.specs.Closed.{own_package, is_same_package}
use Rattle.set_rows.specs.Moved.{put_interface, put_world, put_row}
use Rattle.package_sets.specs.Joining.{own_interfaces, import_rows, joined, HasImports}
use Rattle.tables.specs.PackageNames.{PackageParts}
use Rattle.tables.specs.declared.error.ResolveError.{ResolveError}
use Rattle.tables.specs.declared.error.ResolveError.TheVariants as error
use Rattle.tables.specs.declared.tables.Resolve.{Resolve}

-- what is put behind the set's rows: the closed table's own, where its imports stand at these places of the set
pub record IsOwnBehind (set closed : Resolve) (places : List ℕ) (r : Resolve) : Type 0 where
  pub interfaces : r.interfaces ≡ set.interfaces ++ map (put_interface (joined set closed places)) (own_interfaces closed)
  pub worlds : r.worlds ≡ set.worlds ++ map (put_world (joined set closed places)) closed.worlds
  pub rows : r.definitions ≡ set.definitions ++ map (put_row (joined set closed places)) (drop (length (import_rows set closed places)) closed.definitions)

-- ---- what is refused: 49 first, then 48, 47 and 44

-- the set has at most 63 packages, so that one more can be added
abbrev pub HasRoom : Resolve → Type 0
HasRoom set = length set.packages ≤ 63

-- the set has a package of this full name
abbrev pub has_package : Resolve → PackageParts → Bool
has_package set p = list_any (is_same_package p) set.packages

-- the own package of a closed table, its last, has this full name
abbrev pub IsOwn : Resolve → PackageParts → Type 0
IsOwn closed p = slice_get closed.packages (own_package closed.packages) ≡ Some p

-- the set has no package of the own package's name
abbrev pub IsNew : Resolve → Resolve → Type 0
IsNew set closed = (p : PackageParts) → IsOwn closed p → has_package set p ≡ false

-- the set has a package of the own package's name (48 same package)
pub record HasSame (set closed : Resolve) (p : PackageParts) : Type 0 where
  pub own : IsOwn closed p
  pub stands : has_package set p ≡ true

-- the packages of a closed table that it imports from: all but its own, the last
abbrev pub others : Resolve → List PackageParts
others closed = take (own_package closed.packages) closed.packages

-- the set has packages of all these names
abbrev pub HasAll : Resolve → List PackageParts → Type 0
HasAll set ps = (k : ℕ) (q : PackageParts) → slice_get ps k ≡ Some q → has_package set q ≡ true

-- this is the first of these packages that the set does not have (47 no package)
pub record LacksFirst (set : Resolve) (ps : List PackageParts) (p : PackageParts) : Type 0 where
  pub place : ℕ
  pub stands : slice_get ps place ≡ Some p
  pub lacks : has_package set p ≡ false
  pub have : (k : ℕ) (q : PackageParts) → k < place → slice_get ps k ≡ Some q → has_package set q ≡ true

-- the closed table has an own package, and its imports are interfaces of the set
pub record Fits (set closed : Resolve) : Type 0 where
  pub own : PackageParts
  pub own_is : IsOwn closed own
  pub imports : HasImports set closed

-- a closed table is not added to the set for this reason; 46 out of memory may come at any time, but not before 49
abbrev pub IsRefused : Resolve → Resolve → ResolveError → Type 0
IsRefused set closed error.SetLimit = ¬ HasRoom set
IsRefused set closed (error.SamePackage p) = HasRoom set × HasSame set closed p
IsRefused set closed (error.NoPackage p) = HasRoom set × IsNew set closed × LacksFirst set (others closed) p
IsRefused set closed error.NotThisShape = HasRoom set × IsNew set closed × HasAll set (others closed) × (¬ Fits set closed)
IsRefused set closed error.NoMemory = HasRoom set
IsRefused set closed _ = ⊥

-- ---- what is accepted

-- The set's packages and then the own one of the closed table: the set's rows are as they were, and the own ones follow them, in which each import is
-- the set's interface of that name.
pub record IsAttached (set closed r : Resolve) (id : ℕ) : Type 0 where
  pub room : HasRoom set
  pub new : IsNew set closed
  pub have : HasAll set (others closed)
  pub fits : Fits set closed
  pub packages_are : r.packages ≡ set.packages ++ fits.own ∷ []
  pub id_is : id ≡ length set.packages
  pub own_behind : IsOwnBehind set closed fits.imports.places r
