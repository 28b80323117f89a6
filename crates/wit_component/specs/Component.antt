-- Binary.md, "Component Definitions" and "Type Definitions": a closed table as one component type. Each interface is an instance type and an
-- export of an instance under its full name, or an import where it is of another package; before them stands an alias of each type that the
-- interface uses of another. Behind them each world is a component type and an export of a component under its full name.
use Rattle.std.specs.Prelude.{ℕ, ◌+◌, List, [], ◌∷◌, ◌++◌, flat_map, length, if◌then◌else◌, Option, None, Some}
use Rattle.ctype_format.specs.Raw.{Component, Instance, Decl, Entry, Alias, Export, BinaryFile}
use Rattle.ctype_format.specs.View.{decls_of}
use Rattle.ctype_format.specs.declared.raw.RawAlias.TheVariants as alias
use Rattle.ctype_format.specs.declared.raw.RawDescription.TheVariants as described
use Rattle.tables.specs.Names.{full_name, world_name}
use Rattle.tables.specs.Package.{interface_names}
use Rattle.tables.specs.declared.tables.TypeDefKind.TheVariants as kind
use Rattle.tables.specs.declared.tables.TypeName.{TypeName}
use Rattle.tables.specs.declared.tables.Definition.{Definition}
use Rattle.tables.specs.declared.tables.Definition.TheVariants as row
use Rattle.tables.specs.declared.tables.Interface.{Interface}
use Rattle.tables.specs.declared.tables.Direction.{Direction}
use Rattle.tables.specs.declared.tables.Direction.TheVariants as direction
use Rattle.tables.specs.declared.tables.World.{World}
use Rattle.tables.specs.declared.tables.Resolve.{Resolve}
use Rattle.package_form.specs.Ends.{end_of, rows_of, interfaces_end, world_end}
use Rattle.wit_component.specs.Rows.{Place, declarations_of, places_after}
use Rattle.package_form.specs.Reached.{used_in, name_at, is_interface_of}
use Rattle.package_form.specs.Closed.{own_package}
use Rattle.wit_component.specs.Worlds.{Surroundings, directed, items_declared, items_place}

-- ---- aliases of used types

-- an alias of a type that an interface's instance exports: the instance of this name's interface, and the name
abbrev pub instance_export : Option TypeName → List Decl
instance_export None = []
instance_export (Some n) = Alias (alias.InstanceExport n.interface.0 n.name) ∷ []

-- the alias that a row has before its interface: a used name has one of the used type, other rows have none
abbrev pub row_alias : List Definition → Definition → List Decl
row_alias rows d = instance_export (name_at rows (used_in d))

-- the aliases of the types that these rows of an interface use, in order
abbrev pub aliases_of : List Definition → List Definition → List Decl
aliases_of rows ds = flat_map (row_alias rows) ds

-- ---- interfaces

-- what the component type declares before an interface or a world: the type index of each row so far in its own scope,
-- the count of types, and the type index of each interface's instance type so far
pub record ComponentFront : Type 0 where
  pub indices : List ℕ
  pub types : ℕ
  pub instances : List ℕ

-- the start of an instance type or a component type at this point of the component type, with no types in it yet
abbrev pub first_place : ComponentFront → Place
first_place at = record { indices = at.indices; types = 0; used = at.types }

-- an interface of the own package is exported, one of another package imported
abbrev pub interface_direction : ℕ → Interface → Direction
interface_direction own i = if is_interface_of own i then direction.Export else direction.Import

-- what the component type declares for an interface of these rows: its aliases, its instance type, and its import or
-- export under this full name
abbrev pub interface_declarations : List Definition → ComponentFront → List Definition → Direction → List ℕ → List Decl
interface_declarations rows at ds way name =
    aliases_of rows ds
    ++ Entry (Instance (decls_of (declarations_of (first_place at) ds)))
    ∷ directed way name (described.Instance (at.types + length (aliases_of rows ds)))
    ∷ []

-- what the component type has declared after an interface of these rows
abbrev pub front_after : List Definition → ComponentFront → List Definition → ComponentFront
front_after rows at ds = record {
  indices = (places_after (first_place at) ds).indices;
  types = at.types + length (aliases_of rows ds) + 1;
  instances = at.instances ++ (at.types + length (aliases_of rows ds)) ∷ [];
}

-- what the component type declares for these interfaces; the rows of the first begin at start
abbrev pub interfaces_declared : Resolve → ComponentFront → ℕ → List Interface → List Decl
interfaces_declared r at start [] = []
interfaces_declared r at start (i ∷ is) =
    interface_declarations r.definitions at (rows_of r.definitions start i) (interface_direction (own_package r.packages) i) (full_name r i)
    ++ interfaces_declared r (front_after r.definitions at (rows_of r.definitions start i)) (end_of start i) is

-- the component type before its first declaration
abbrev pub no_front : ComponentFront
no_front = record { indices = []; types = 0; instances = [] }

-- what the component type has declared after these interfaces; the rows of the first begin at start
abbrev pub interfaces_front : List Definition → ComponentFront → ℕ → List Interface → ComponentFront
interfaces_front rows at start [] = at
interfaces_front rows at start (i ∷ is) = interfaces_front rows (front_after rows at (rows_of rows start i)) (end_of start i) is

-- ---- worlds

-- what the items of a world may refer to: rows, full names of interfaces, and the indices of their instance types
abbrev pub surroundings : Resolve → ComponentFront → Surroundings
surroundings r at = record { rows = r.definitions; names = interface_names r; instances = at.instances }

-- what the component type declares for a world whose rows begin at start: its component type, and the export under its
-- full name
abbrev pub world_declarations : Resolve → ComponentFront → ℕ → World → List Decl
world_declarations r at start w =
    Entry (Component (decls_of (items_declared (surroundings r at) (first_place at) start w.items)))
    ∷ Export (world_name r w) (described.Component at.types)
    ∷ []

-- what the component type has declared after a world whose rows begin at start
abbrev pub world_front : List Definition → ComponentFront → ℕ → World → ComponentFront
world_front rows at start w = record {
  indices = (items_place rows (first_place at) start w.items).indices;
  types = at.types + 1;
  instances = at.instances;
}

-- what the component type declares for these worlds; the rows of the first begin at start
abbrev pub worlds_declared : Resolve → ComponentFront → ℕ → List World → List Decl
worlds_declared r at start [] = []
worlds_declared r at start (w ∷ ws) =
    world_declarations r at start w ++ worlds_declared r (world_front r.definitions at start w) (world_end start w) ws

-- the declarations of the component type of a table: its interfaces, then its worlds
abbrev pub package_declarations : Resolve → List Decl
package_declarations r =
    interfaces_declared r no_front 0 r.interfaces
    ++ worlds_declared r (interfaces_front r.definitions no_front 0 r.interfaces) (interfaces_end 0 r.interfaces) r.worlds

-- the name of the component type's export, `package`
abbrev pub package_export : List ℕ
package_export = 112 ∷ 97 ∷ 99 ∷ 107 ∷ 97 ∷ 103 ∷ 101 ∷ []

-- the component of a table: one component type, exported under the name `package`
abbrev pub component_of : Resolve → BinaryFile
component_of r = record {
  types = Component (decls_of (package_declarations r)) ∷ [];
  exports = record { name = package_export; type = 0 } ∷ [];
}
