-- The interfaces of other packages that a file may name, its imports.
use Rattle.std.specs.Prelude.{◌≡◌, ◌<◌, ◌+◌, ◌==◌, ◌&&◌, ℕ, suc, List, [], ◌∷◌, ◌++◌, filter_map, length, Contains, Option, None, Some, slice_index_or, if◌then◌else◌}
use Rattle.std.specs.Option.{option_map}
use Rattle.std.specs.Str.{bytes_eq}
use Rattle.tables.specs.PackageNames.{PackageParts}
use Rattle.tables.specs.Package.{Package, package_of}
use Rattle.tables.specs.declared.tables.TypeId.{TypeId}
use Rattle.tables.specs.declared.tables.TypeName.{TypeName}
use Rattle.tables.specs.declared.tables.Definition.{Definition}
use Rattle.tables.specs.declared.tables.Interface.{Interface}
use Rattle.tables.specs.declared.tables.Resolve.{Resolve}
use Rattle.package_form.specs.Closed.{is_same_package}
use Rattle.package_form.specs.Reached.{name_at}

-- an interface of another package: the package, its own name, and the names of its used names and types
pub record Import : Type 0 where
  pub «package» : PackageParts
  pub name : List ℕ
  pub types : List (List ℕ)

-- what a file may import: other packages, their interfaces, and all their definitions by names
pub record Imports : Type 0 where
  pub packages : List PackageParts
  pub interfaces : List Import
  pub meaning : Package

-- no interfaces, worlds and definitions: what a file that imports nothing begins with
abbrev pub no_package : Package
no_package = record { interfaces = []; worlds = []; definitions = [] }

-- the imports of a file that depends on no other package
abbrev pub no_imports : Imports
no_imports = record { packages = []; interfaces = []; meaning = no_package }

-- the interface of this name of this package is there
abbrev pub HasImport : Imports → PackageParts → List ℕ → Type 0
HasImport m q i = (k : Import) × Contains m.interfaces k × (k.«package» ≡ q) × (k.name ≡ i)

-- a package name without parts, for places that a list doesn't have
abbrev pub nameless : PackageParts
nameless = record { namespace = []; name = []; version = None }

-- an import without names, for places that a list doesn't have
abbrev pub no_import : Import
no_import = record { «package» = nameless; name = []; types = [] }

-- the import at this place of the list
abbrev pub import_at : List Import → ℕ → Import
import_at ks k = slice_index_or ks k no_import

-- each import has a name of its own in its package
pub record AreApart (ks : List Import) : Type 0 where
  pub each : (j k : ℕ) → j < length ks → k < length ks → (import_at ks j).«package» ≡ (import_at ks k).«package» → (import_at ks j).name ≡ (import_at ks k).name → j ≡ k

-- ---- places

-- the place of the interface of this name of this package
abbrev pub import_place : List Import → PackageParts → List ℕ → Option ℕ
import_place [] q i = None
import_place (k ∷ ks) q i = if bytes_eq k.name i && is_same_package k.«package» q then Some 0 else option_map suc (import_place ks q i)

-- ---- those of a table

-- the name of a type, if it has one in interface k
abbrev pub name_within : ℕ → Option TypeName → Option (List ℕ)
name_within k None = None
name_within k (Some n) = if n.interface.0 == k then Some n.name else None

-- the name of the type with this id, if it has one in interface k
abbrev pub type_within : List Definition → ℕ → TypeId → Option (List ℕ)
type_within rows k t = name_within k (name_at rows (Some t))

-- the names that interface k has for types: the used ones, then its own
abbrev pub types_within : List Definition → ℕ → Interface → List (List ℕ)
types_within rows k i = filter_map (type_within rows k) (i.uses ++ i.types)

-- interface k of a table as an import: its package, its own name, and its names of types
abbrev pub import_of : List PackageParts → List Definition → ℕ → Interface → Import
import_of ps rows k i = record { «package» = slice_index_or ps i.«package».0 nameless; name = i.name; types = types_within rows k i }

-- each of these interfaces, the first of which is interface k
abbrev pub imports_from : List PackageParts → List Definition → ℕ → List Interface → List Import
imports_from ps rows k [] = []
imports_from ps rows k (i ∷ is) = import_of ps rows k i ∷ imports_from ps rows (k + 1) is

-- the interfaces of a table as imports, in its order
abbrev pub interfaces_of : Resolve → List Import
interfaces_of r = imports_from r.packages r.definitions 0 r.interfaces

-- a table of other packages as the imports of a file
abbrev pub imports_of : Resolve → Imports
imports_of r = record { packages = r.packages; interfaces = interfaces_of r; meaning = package_of r }
