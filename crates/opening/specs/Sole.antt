-- What is told of a set with one package more, told also of rows without names and of ids: names then determine the table.
use Rattle.std.specs.Prelude.{◌≡◌, ℕ, true, All, List, [], ◌∷◌, ◌++◌, length, flat_map}
use Rattle.std.specs.List.{list_all}
use Rattle.ctype_bin.specs.declared.component.RawComponent.{RawComponent}
use Rattle.package_adding.specs.Added.{AddsComponent, AddsTree}
use Rattle.package_form.specs.Closed.{is_world_of}
use Rattle.package_form.specs.Form.{functions_of}
use Rattle.package_form.specs.Ids.{is_world_function, places_where}
use Rattle.package_form.specs.Laws.{IsLabelled}
use Rattle.package_form.specs.Postfix.{IsPostfix}
use Rattle.package_sets.specs.SetForm.{IsInSetForm}
use Rattle.package_text.specs.Writable.{IsWritable}
use Rattle.tables.specs.Package.{package_of}
use Rattle.tables.specs.PackageNames.{PackageParts}
use Rattle.tables.specs.Same.{IsSamePackage}
use Rattle.tables.specs.declared.tables.Definition.{Definition}
use Rattle.tables.specs.declared.tables.Resolve.{Resolve}
use Rattle.tables.specs.declared.tables.World.{World}
use Rattle.tree_meaning.specs.Declarations.{package_named}
use Rattle.tree_meaning.specs.Resolves.{HasWorldsBehind, interfaces_behind}
use Rattle.wit_tokens.specs.Syntax.{File}
use Rattle.opening.specs.Told.{AddsFile, AddsRaw}

-- The rows of the package come after all those of the set: those of its interfaces, then those of its worlds, whose functions are the items of the worlds
-- in order, and each row without a name before what is made of it. Its interfaces have the ids of their rows.
pub record HasOwnBehind (set : Resolve) (own : PackageParts) (r : Resolve) : Type 0 where
  pub packages : r.packages ≡ set.packages ++ own ∷ []
  pub rows : List Definition
  pub rows_are : r.definitions ≡ set.definitions ++ rows
  pub behind : HasWorldsBehind rows
  pub postfix : IsPostfix r.definitions
  pub worlds : List World
  pub worlds_are : r.worlds ≡ set.worlds ++ worlds
  pub of_own : list_all (is_world_of (length set.packages)) worlds ≡ true
  pub items : places_where is_world_function (length set.definitions) rows ≡ flat_map functions_of worlds
  pub names : List (List ℕ)
  pub interfaces_are : r.interfaces ≡ set.interfaces ++ interfaces_behind (length set.packages) (length set.interfaces) r.definitions names

-- a set's table, the names of whose interfaces are labels
pub record IsSetTable (r : Resolve) : Type 0 where
  pub form : IsInSetForm r
  pub labels : All IsLabelled r.interfaces

-- the table with a file's package more, where own rows come after those of the set
pub record AddsFileInOrder (f : File) (set r : Resolve) : Type 0 where
  pub adds : AddsFile f set r
  pub table : IsSetTable r
  pub order : HasOwnBehind set (package_named f) r

-- the table with a component's package more, where own rows come after those of the set
pub record AddsRawInOrder (raw : RawComponent) (set r : Resolve) : Type 0 where
  pub adds : AddsRaw raw set r
  pub table : IsSetTable r
  pub order : HasOwnBehind set adds.own r

-- lemma: two tables in which the names are the same are the same
abbrev pub NamesDetermine : Resolve → PackageParts → Resolve → Resolve → Type 0
NamesDetermine set own r s = IsSetTable r → IsSetTable s → HasOwnBehind set own r → HasOwnBehind set own s → package_of r ≡ package_of s → IsSamePackage r s

-- a file adds its package to a set in one way
abbrev pub FileIsSole : File → Resolve → Resolve → Resolve → Type 0
FileIsSole f set r s = AddsFileInOrder f set r → AddsFileInOrder f set s → IsSamePackage r s

-- a component adds its package to a set in one way
abbrev pub RawIsSole : RawComponent → Resolve → Resolve → Resolve → Type 0
RawIsSole raw set r s = AddsRawInOrder raw set r → AddsRawInOrder raw set s → ∥ IsSamePackage r s ∥₁

-- the set that adding a file gives is that one
abbrev pub TreeIsInOrder : File → Resolve → Resolve → Resolve → ℕ → Type 0
TreeIsInOrder f set closed r id = IsSetTable set → IsWritable closed → AddsTree f set closed r id → AddsFileInOrder f set r

-- the set that adding a component gives is that one
abbrev pub ComponentIsInOrder : RawComponent → Resolve → Resolve → Resolve → ℕ → Type 0
ComponentIsInOrder raw set closed r id = IsSetTable set → IsWritable closed → AddsComponent raw set closed r id → AddsRawInOrder raw set r
