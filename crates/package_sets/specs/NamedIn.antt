-- What a closed table names of other packages: an own row uses a type of an interface, or an interface is an item of a world (WIT.md, "Item: `use`",
-- "Item: `world`").
use Rattle.std.specs.Prelude.{◌≡◌, ◌↔◌, ◌<◌, ℕ, Bool, true, false, List, ◌++◌, drop, flat_map, length, slice_get, slice_index_or, Some, Contains}
use Rattle.package_form.specs.Closed.{own_package}
use Rattle.package_form.specs.Ends.{interfaces_end}
use Rattle.package_form.specs.Reached.{reached_by_row, reached_by_world}
use Rattle.package_sets.specs.Joining.{imports}
use Rattle.tables.specs.PackageNames.{PackageParts}
use Rattle.tables.specs.declared.tables.Definition.{Definition}
use Rattle.tables.specs.declared.tables.Interface.{Interface}
use Rattle.tables.specs.declared.tables.Resolve.{Resolve}

-- ---- marks of what is named of a set

-- These are marks of just the interfaces of the set that are named, and of just the packages of which any interface is, whether they have it or not.
pub record AreMarksOf (names : PackageParts → List ℕ → Type 0) (set : Resolve) (packages interfaces : List Bool) : Type 0 where
  pub each_package : length packages ≡ length set.packages
  pub each_interface : length interfaces ≡ length set.interfaces
  pub packages_are : (k : ℕ) (q : PackageParts) → slice_get set.packages k ≡ Some q → (slice_index_or packages k false ≡ true) ↔ ((i : List ℕ) × names q i)
  pub interfaces_are : (k : ℕ) (i : Interface) (q : PackageParts) → slice_get set.interfaces k ≡ Some i → slice_get set.packages i.«package».0 ≡ Some q
      → (slice_index_or interfaces k false ≡ true) ↔ names q i.name

-- ---- what a closed table names

-- the rows of a closed table's own part, which come after those of its imports
abbrev pub own_rows : Resolve → List Definition
own_rows closed = drop (interfaces_end 0 (imports closed)) closed.definitions

-- the interfaces that the own rows and the worlds of a closed table name
abbrev pub own_reached : Resolve → List ℕ
own_reached closed = flat_map (reached_by_row closed.definitions) (own_rows closed) ++ flat_map reached_by_world closed.worlds

-- the interface at place k is the one of this name of package q, which isn't the own one
pub record IsImportAt (closed : Resolve) (q : PackageParts) (i : List ℕ) (k : ℕ) : Type 0 where
  pub interface : Interface
  pub at : slice_get closed.interfaces k ≡ Some interface
  pub of : slice_get closed.packages interface.«package».0 ≡ Some q
  pub other : interface.«package».0 < own_package closed.packages
  pub named : interface.name ≡ i

-- the closed table names the interface of this name of package q
abbrev pub NamesIn : Resolve → PackageParts → List ℕ → Type 0
NamesIn closed q i = (k : ℕ) × Contains (own_reached closed) k × IsImportAt closed q i k

-- these marks are those of the packages and interfaces of the set that the closed table names
abbrev pub AreNamedIn : Resolve → Resolve → List Bool → List Bool → Type 0
AreNamedIn closed set packages interfaces = AreMarksOf (NamesIn closed) set packages interfaces
