-- What a set is with a package more, and why one is not added: a package may use interfaces of those before it (WIT.md, "Package Names", "Item:
-- `use`"; Binary.md, "Import and Export Definitions").
use Rattle.std.specs.Prelude.{◌≡◌, ◌<◌, ◌⊎◌, ℕ, Bool, true, false, List, [], length, All}
use Rattle.ctype_bin.specs.declared.component.RawComponent.{RawComponent}
use Rattle.package_form.specs.Naming.{package_scopes}
use Rattle.package_form.specs.Scope.{AreDistinct}
use Rattle.package_sets.specs.Attached.{HasRoom, has_package, others, HasAll, IsNew, Fits, IsAttached, IsRefused}
use Rattle.tables.specs.declared.tables.Resolve.{Resolve}
use Rattle.package_sets.specs.Imports.{IsImportsOf}
use Rattle.package_sets.specs.Restricted.{IsRestricted}
use Rattle.tables.specs.Same.{IsSamePackage}
use Rattle.tree_meaning.specs.Declarations.{package_named}
use Rattle.tree_meaning.specs.Imports.{imports_of}
use Rattle.tree_meaning.specs.Resolves.{HasEntries, HasNoFaultsOf, IsClosedPackageOf, ResolveRefusesOf, file_fits}
use Rattle.tables.specs.declared.error.ResolveError.{ResolveError}
use Rattle.tables.specs.declared.error.ResolveError.TheVariants as error
use Rattle.wit_tokens.specs.Syntax.{File}
use Rattle.wit_component.specs.FromComponent.{ClosedComponentRefuses}
use Rattle.wit_component.specs.ToComponent.{ComponentStands}
use Rattle.package_sets.specs.BehindImports.{IsBehindImports}
use Rattle.package_text.specs.Writable.{IsWritable}
use Rattle.package_adding.specs.Named.{AreNamed}

-- ---- the tables of its packages

-- the closed table of the package at this index of the set is this one
abbrev pub HasTable : Resolve → ℕ → Resolve → Type 0
HasTable set id table = (r : Resolve) → IsRestricted set id r → IsSamePackage r table

-- each package that the set had keeps its closed table
abbrev pub KeepsTables : Resolve → Resolve → Type 0
KeepsTables set new = (id : ℕ) → id < length set.packages → (table : Resolve) → IsRestricted set id table → HasTable new id table

-- ---- of a component

-- the component stands for this closed table, whose names differ in each scope
pub record IsOfComponent (raw : RawComponent) (closed : Resolve) : Type 0 where
  pub stands : ∥ ComponentStands raw closed ∥₁
  pub distinct : All AreDistinct (package_scopes closed)

-- the set with the component's package more, whose closed table this is, and whose imports are just those of the set
pub record AddsComponent (raw : RawComponent) (set closed r : Resolve) (id : ℕ) : Type 0 where
  pub component : IsOfComponent raw closed
  pub behind : IsBehindImports set closed
  pub attached : IsAttached set closed r id

-- a component was added as package `id`, whose table is its closed table: it can be written, no other can be added
pub record ComponentIsAdded (raw : RawComponent) (set r : Resolve) (id : ℕ) : Type 0 where
  pub closed : Resolve
  pub adds : AddsComponent raw set closed r id
  pub table : HasTable r id closed
  pub writable : ∥ IsWritable closed ∥₁
  pub only : (other new : Resolve) (j : ℕ) → AddsComponent raw set other new j → IsSamePackage closed other

-- when a component's closed table is refused behind the set: as any other, and 44 also where its imports aren't just those of the set, in its order
abbrev pub IsRefusedBehind : Resolve → Resolve → ResolveError → Type 0
IsRefusedBehind set closed error.NotThisShape = HasRoom set × IsNew set closed × HasAll set (others closed) × ¬ (Fits set closed × IsBehindImports set closed)
IsRefusedBehind set closed e = IsRefused set closed e

-- the component stands for a closed table, and that is refused behind the set for this reason
abbrev pub IsRefusedComponent : RawComponent → Resolve → ResolveError → Type 0
IsRefusedComponent raw set e = (closed : Resolve) × IsOfComponent raw closed × IsRefusedBehind set closed e

-- why the component's package is not added: 49 comes before all, then what is wrong with the component alone (43, 44, 40), then what is wrong with it
-- in this set (48, 47, 44). 46 can come at any time, but not before 49.
abbrev pub ComponentNotAdded : RawComponent → Resolve → ResolveError → Type 0
ComponentNotAdded raw set error.SetLimit = ¬ HasRoom set
ComponentNotAdded raw set (error.SamePackage p) = IsRefusedComponent raw set (error.SamePackage p)
ComponentNotAdded raw set (error.NoPackage p) = IsRefusedComponent raw set (error.NoPackage p)
ComponentNotAdded raw set error.NotThisShape = (HasRoom set × ClosedComponentRefuses raw error.NotThisShape) ⊎ IsRefusedComponent raw set error.NotThisShape
ComponentNotAdded raw set e = HasRoom set × ClosedComponentRefuses raw e

-- ---- of a tree

-- the imports of a file: the packages and the interfaces of the set that its paths name, with what these reach
pub record AreImportsFrom (f : File) (set imports : Resolve) : Type 0 where
  pub packages : List Bool
  pub interfaces : List Bool
  pub named : AreNamed f set packages interfaces
  pub are : IsImportsOf set packages interfaces imports

-- the closed table of the file, after its imports from the set
pub record IsOfTree (f : File) (set closed : Resolve) : Type 0 where
  pub imports : Resolve
  pub from : AreImportsFrom f set imports
  pub faults : HasNoFaultsOf (imports_of imports) f
  pub resolved : IsClosedPackageOf imports f closed

-- the set with the file's package more, whose closed table this is
pub record AddsTree (f : File) (set closed r : Resolve) (id : ℕ) : Type 0 where
  pub tree : IsOfTree f set closed
  pub attached : IsAttached set closed r id

-- a file was added as package `id`: that package's table is its closed table, which begins with those imports that its
-- own part names, and is the only one that can be added and written; no type of the file is nested deeper than in a text
pub record TreeIsAdded (f : File) (set r : Resolve) (id : ℕ) : Type 0 where
  pub closed : Resolve
  pub adds : AddsTree f set closed r id
  pub table : HasTable r id closed
  pub writable : ∥ IsWritable closed ∥₁
  pub behind : IsBehindImports set closed
  pub fits : file_fits f ≡ true
  pub only : (other new : Resolve) (j : ℕ) → AddsTree f set other new j → ∥ IsWritable other ∥₁ → IsSamePackage closed other

-- the set has no package of the file's name
abbrev pub IsNewName : File → Resolve → Type 0
IsNewName f set = has_package set (package_named f) ≡ false

-- the set has a package of the file's name
abbrev pub HasName : File → Resolve → Type 0
HasName f set = has_package set (package_named f) ≡ true

-- the file is refused for this reason, after its imports from the set
pub record IsRefusedTree (f : File) (set : Resolve) (e : ResolveError) : Type 0 where
  pub imports : Resolve
  pub from : AreImportsFrom f set imports
  pub refused : ResolveRefusesOf (imports_of imports) f e

-- the file after its imports from the set is refused for this reason; out of memory may come at any time
abbrev pub CauseStands : File → Resolve → ResolveError → Type 0
CauseStands f set error.NoMemory = Unit {0}
CauseStands f set e = IsRefusedTree f set e

-- Why the file's package is not added: 49, then 43, then 48, then what is wrong with it behind its imports. 46 can come at any time, but not before 49.
abbrev pub TreeNotAdded : File → Resolve → ResolveError → Type 0
TreeNotAdded f set error.SetLimit = ¬ HasRoom set
TreeNotAdded f set (error.SamePackage p) = HasRoom set × HasEntries f × (p ≡ package_named f) × HasName f set
TreeNotAdded f set error.EmptyPackage = HasRoom set × (f.entries ≡ [])
TreeNotAdded f set error.NoMemory = HasRoom set
TreeNotAdded f set e = HasRoom set × HasEntries f × IsNewName f set × IsRefusedTree f set e

-- ---- want of memory

-- the host is out of memory (46)
abbrev pub IsWantOfMemoryToAdd : ResolveError → Type 0
IsWantOfMemoryToAdd error.NoMemory = Unit {0}
IsWantOfMemoryToAdd _ = ⊥
