-- The package that a component may stand for: its declarations read one after the other. Whether it stands for it is seen by writing it again.
use Rattle.std.specs.Prelude.{◌≡◌, ◌⊎◌, ◌-◌, ℕ, Bool, false, Result, Ok, Err, List, [], ◌∷◌, ◌++◌, length, slice_get, Option, None, Some, if◌then◌else◌}
use Rattle.std.specs.Option.{option_map}
use Rattle.atoms.specs.Label.{is_label}
use Rattle.ctype_format.specs.Names.{cut_at}
use Rattle.ctype_format.specs.Raw.{TypeEntry as AnyType, Define, Func, Component, Instance, Decl, Entry, Alias, Import, Export, Decls, none, then as more, BinaryFile}
use Rattle.ctype_format.specs.declared.raw.RawAlias.{RawAlias}
use Rattle.ctype_format.specs.declared.raw.RawAlias.TheVariants as alias
use Rattle.ctype_format.specs.declared.raw.RawDescription.{RawDescription}
use Rattle.ctype_format.specs.declared.raw.RawDescription.TheVariants as described
use Rattle.package_form.specs.Scoped.{NameEntry}
use Rattle.package_form.specs.Closed.{is_same_package}
use Rattle.package_form.specs.Ids.{package_id}
use Rattle.tables.specs.PackageNames.{PackageParts}
use Rattle.tables.specs.Parts.{is_package}
use Rattle.tables.specs.declared.tables.PackageId.{PackageId}
use Rattle.tables.specs.declared.tables.TypeId.{TypeId}
use Rattle.tables.specs.declared.tables.Definition.{Definition}
use Rattle.tables.specs.declared.tables.Interface.{Interface}
use Rattle.tables.specs.declared.tables.InterfaceId.{InterfaceId}
use Rattle.tables.specs.declared.tables.World.{World}
use Rattle.tables.specs.declared.tables.Resolve.{Resolve}
use Rattle.component_reader.specs.declared.unread.Unread.{Unread}
use Rattle.component_reader.specs.declared.unread.Unread.TheVariants as unread
use Rattle.component_reader.specs.Instance.{if_found, InstanceRead, type_named, instance_read}
use Rattle.component_reader.specs.World.{WorldRead, world_read}

-- ---- the component type

-- What was read of the component type: the packages, the table, the interfaces, the types that each exports, the worlds, of each type index the row or the
-- interface whose instance type it is, and an instance type or a component type whose export hasn't come yet.
pub record ComponentRead : Type 0 where
  pub packages : List PackageParts
  pub rows : List Definition
  pub interfaces : List Interface
  pub exports : List (List NameEntry)
  pub worlds : List World
  pub indices : List (Option TypeId)
  pub instances : List (Option InterfaceId)
  pub awaited : Option InstanceRead
  pub awaited_world : Option WorldRead

-- nothing was read of the component type yet
abbrev pub no_component : ComponentRead
no_component = record { packages = []; rows = []; interfaces = []; exports = []; worlds = []; indices = []; instances = []; awaited = None; awaited_world = None }

-- the type that instance i exports under the name n, by the exports of each interface
abbrev pub exported_type : List (List NameEntry) → ℕ → List ℕ → Option TypeId
exported_type exports i n = if_found (slice_get exports i) (λ es. type_named es n)

-- the next type index is that of this row
abbrev pub with_read_type : ComponentRead → TypeId → ComponentRead
with_read_type s t = record {
  packages = s.packages;
  rows = s.rows;
  interfaces = s.interfaces;
  exports = s.exports;
  worlds = s.worlds;
  indices = s.indices ++ Some t ∷ [];
  instances = s.instances ++ None ∷ [];
  awaited = s.awaited;
  awaited_world = s.awaited_world;
}

-- an alias of a type that an interface's instance exports; a package has no outer alias here
abbrev pub alias_read : RawAlias → ComponentRead → Option ComponentRead
alias_read (alias.InstanceExport i n) s = option_map (with_read_type s) (exported_type s.exports i n)
alias_read (alias.Outer count i) s = None

-- the next type index is that of an instance type, which is the next interface if its export comes
abbrev pub with_read_instance : ComponentRead → InstanceRead → ComponentRead
with_read_instance s i = record {
  packages = s.packages;
  rows = i.rows;
  interfaces = s.interfaces;
  exports = s.exports;
  worlds = s.worlds;
  indices = s.indices ++ None ∷ [];
  instances = s.instances ++ Some (record { 0 = length s.interfaces }) ∷ [];
  awaited = Some i;
  awaited_world = None;
}

-- the next type index is that of a component type, which is the next world if its export comes
abbrev pub with_component : ComponentRead → WorldRead → ComponentRead
with_component s w = record {
  packages = s.packages;
  rows = w.inside.rows;
  interfaces = s.interfaces;
  exports = s.exports;
  worlds = s.worlds;
  indices = s.indices ++ None ∷ [];
  instances = s.instances ++ None ∷ [];
  awaited = None;
  awaited_world = Some w;
}

-- a type declared in the component type: an instance type or a component type, and no other
abbrev pub type_read : AnyType → ComponentRead → Option ComponentRead
type_read (Instance ds) s = option_map (with_read_instance s) (instance_read s.indices (length s.interfaces) ds s.rows)
type_read (Component ds) s = option_map (with_component s) (world_read s.instances (length s.worlds) ds s.rows)
type_read (Define d) s = None
type_read (Func f) s = None

-- the text before the first such mark, or all of it if it has none
abbrev pub before : List ℕ → Option (List ℕ × List ℕ) → List ℕ
before text None = text
before text (Some x) = x.0

-- the text after the first such mark, or all of it if it has none
abbrev pub behind : List ℕ → Option (List ℕ × List ℕ) → List ℕ
behind text None = text
behind text (Some x) = x.1

-- the text after the first such mark, if it has one
abbrev pub second : Option (List ℕ × List ℕ) → Option (List ℕ)
second None = None
second (Some x) = Some x.1

-- the namespace of a full name, `namespace:package/name@version`
abbrev pub namespace_in : List ℕ → List ℕ
namespace_in text = before text (cut_at 58 text)

-- a full name after its `:`
abbrev pub text_behind_namespace : List ℕ → List ℕ
text_behind_namespace text = behind text (cut_at 58 text)

-- the package's own name in a full name
abbrev pub package_in : List ℕ → List ℕ
package_in text = before (text_behind_namespace text) (cut_at 47 (text_behind_namespace text))

-- a full name after its `/`
abbrev pub behind_package : List ℕ → List ℕ
behind_package text = behind (text_behind_namespace text) (cut_at 47 (text_behind_namespace text))

-- the own name of the interface or the world in a full name
abbrev pub interface_text : List ℕ → List ℕ
interface_text text = before (behind_package text) (cut_at 64 (behind_package text))

-- the version of the package in a full name, if it has one
abbrev pub version_in : List ℕ → Option (List ℕ)
version_in text = second (cut_at 64 (behind_package text))

-- the name of the package in a full name
abbrev pub package_in_name : List ℕ → PackageParts
package_in_name text = record { namespace = namespace_in text; name = package_in text; version = version_in text }

-- the package at this place of the list is there and has this name
abbrev pub has_name : Option PackageParts → PackageParts → Bool
has_name None p = false
has_name (Some q) p = is_same_package q p

-- the packages with this one last: it is the last already, or is added
abbrev pub with_package : List PackageParts → PackageParts → List PackageParts
with_package ps p = if has_name (slice_get ps (length ps - 1)) p then ps else ps ++ p ∷ []

-- the id of the last package
abbrev pub last_package : List PackageParts → PackageId
last_package ps = package_id (length ps - 1)

-- the interface of this package that the instance type is, under the last part of its full name
abbrev pub interface_named : PackageId → List ℕ → InstanceRead → Interface
interface_named p text i = record { «package» = p; name = interface_text text; uses = i.uses; types = i.types; functions = i.functions }

-- the instance type read last is an interface of this full name, imported or exported
abbrev pub with_interface : List ℕ → ComponentRead → InstanceRead → ComponentRead
with_interface text s i = record {
  packages = with_package s.packages (package_in_name text);
  rows = s.rows;
  interfaces = s.interfaces ++ interface_named (last_package (with_package s.packages (package_in_name text))) text i ∷ [];
  exports = s.exports ++ i.names ∷ [];
  worlds = s.worlds;
  indices = s.indices;
  instances = s.instances;
  awaited = None;
  awaited_world = s.awaited_world;
}

-- the import or the export of an instance under this full name: the instance type before it is that interface
abbrev pub instance_named : List ℕ → ComponentRead → Option ComponentRead
instance_named text s = option_map (with_interface text s) s.awaited

-- the world of this package that the component type is, under the last part of its full name
abbrev pub world_named : PackageId → List ℕ → WorldRead → World
world_named p text w = record { «package» = p; name = interface_text text; items = w.items }

-- the component type read last is exported as a world of this full name
abbrev pub with_world : List ℕ → ComponentRead → WorldRead → ComponentRead
with_world text s w = record {
  packages = with_package s.packages (package_in_name text);
  rows = s.rows;
  interfaces = s.interfaces;
  exports = s.exports;
  worlds = s.worlds ++ world_named (last_package (with_package s.packages (package_in_name text))) text w ∷ [];
  indices = s.indices;
  instances = s.instances;
  awaited = s.awaited;
  awaited_world = None;
}

-- the export of a component under this full name: the component type before it is that world
abbrev pub component_exported : List ℕ → ComponentRead → Option ComponentRead
component_exported text s = option_map (with_world text s) s.awaited_world

-- an export of the component type: an interface or a world under its full name, and no other
abbrev pub export_read : List ℕ → RawDescription → ComponentRead → Option ComponentRead
export_read text (described.Instance i) s = if is_label text then None else instance_named text s
export_read text (described.Function i) s = None
export_read text (described.TypeEqual i) s = None
export_read text (described.Component i) s = if is_label text then None else component_exported text s

-- an import of the component type: an interface under its full name, and no other
abbrev pub import_read : List ℕ → RawDescription → ComponentRead → Option ComponentRead
import_read text (described.Instance i) s = if is_label text then None else instance_named text s
import_read text (described.Function i) s = None
import_read text (described.TypeEqual i) s = None
import_read text (described.Component i) s = None

-- a declaration of the component type, by what was read before it
abbrev pub declaration_read : Decl → ComponentRead → Option ComponentRead
declaration_read (Alias a) s = alias_read a s
declaration_read (Entry t) s = type_read t s
declaration_read (Import text d) s = import_read text d s
declaration_read (Export text d) s = export_read text d s

-- these declarations of the component type in turn; none if one of them is not of a package's shape
abbrev pub declarations_read : Decls → ComponentRead → Option ComponentRead
declarations_read none s = Some s
declarations_read (more d ds) s = if_found (declaration_read d s) (declarations_read ds)

-- ---- the package

-- the tables that a component may mean: packages, interfaces, worlds and rows
pub record Candidate : Type 0 where
  pub packages : List PackageParts
  pub interfaces : List Interface
  pub worlds : List World
  pub definitions : List Definition

-- the tables that were read, if they are those of a package
abbrev pub candidate_read : ComponentRead → Option Candidate
candidate_read s =
    if is_package (length s.packages) s.rows s.interfaces s.worlds
    then Some (record { packages = s.packages; interfaces = s.interfaces; worlds = s.worlds; definitions = s.rows })
    else None

-- the tables that the declarations of a component type mean, if they are those of a package
abbrev pub candidate_of_decls : Decls → Option Candidate
candidate_of_decls ds = if_found (declarations_read ds no_component) candidate_read

-- the tables that a type of the component means, if it is a component type and they are those of a package
abbrev pub candidate_of_type : AnyType → Option Candidate
candidate_of_type (Component ds) = candidate_of_decls ds
candidate_of_type (Instance ds) = None
candidate_of_type (Define d) = None
candidate_of_type (Func f) = None

-- the component's one type is read, and makes tables of a package
abbrev pub candidate_of_types : List AnyType → Option Candidate
candidate_of_types [] = None
candidate_of_types (t ∷ []) = candidate_of_type t
candidate_of_types (t ∷ u ∷ ts) = None

-- the tables that a component means: it has one type, and that is of a package's shape
abbrev pub candidate_of : BinaryFile → Option Candidate
candidate_of f = candidate_of_types f.types

-- the package has these parts alone
pub record IsMadeOf (c : Candidate) (r : Resolve) : Type 0 where
  pub packages : r.packages ≡ c.packages
  pub interfaces : r.interfaces ≡ c.interfaces
  pub worlds : r.worlds ≡ c.worlds
  pub definitions : r.definitions ≡ c.definitions

-- what was read is a package of these parts; where they are none, the component isn't of a package's shape
abbrev pub Makes : Option Candidate → Result Resolve Unread → Type 0
Makes found (Ok r) = (c : Candidate) × (found ≡ Some c) × IsMadeOf c r
Makes found (Err e) = (e ≡ unread.NoMemory) ⊎ ((e ≡ unread.NotThisShape) × (found ≡ None))
