-- The syntax tree of a package: what is written for each of its own interfaces, its used names, then its types, then its functions, and
-- behind the interfaces for each world its items. Its imports, the interfaces of other packages, are named by their paths alone.
use Rattle.std.specs.Prelude.{ℕ, List, [], ◌∷◌, ◌++◌, map, flat_map, filter, slice_get, slice_index_or, Option, None, Some, if◌then◌else◌}
use Rattle.std.specs.Option.{option_map}
use Rattle.std.specs.Str.{bytes_eq}
use Rattle.wit_tokens.specs.Syntax.{Function, PathTo, Local, Foreign, Entry, Uses, Defines, Declares, Alias, WorldEntry, Whole, Single, FileEntry, AnInterface, AWorld, File}
use Rattle.tables.specs.PackageNames.{PackageParts}
use Rattle.tables.specs.Names.{full_name_in}
use Rattle.tables.specs.Package.{Tree, Reference, Meaning, IsUse, IsType, IsFunction, NamedDefinition, ItemMeaning, WithInterface, WithFunction, references, definition_of, item_meaning, TreeFields}
use Rattle.tables.specs.declared.tables.TypeName.{TypeName}
use Rattle.tables.specs.declared.tables.Definition.{Definition}
use Rattle.tables.specs.declared.tables.Interface.{Interface}
use Rattle.tables.specs.declared.tables.WorldItemKind.{WorldItemKind}
use Rattle.tables.specs.declared.tables.WorldItemKind.TheVariants as item
use Rattle.tables.specs.declared.tables.WorldItem.{WorldItem}
use Rattle.tables.specs.declared.tables.World.{World}
use Rattle.tables.specs.declared.tables.Resolve.{Resolve}
use Rattle.wit_print.specs.Unplaced.{nowhere}
use Rattle.package_form.specs.Closed.{own_package}
use Rattle.package_form.specs.Reached.{used_in, name_at, is_interface_of}
use Rattle.package_form.specs.Form.{ids_of}
use Rattle.tree_meaning.specs.Imports.{nameless}
use Rattle.package_text.specs.Written.{ty_of, members_in, body_of, direction_for}

-- ---- paths

-- the package of an interface, where it isn't the own one
abbrev pub other_package : Resolve → Interface → Option PackageParts
other_package r i = if is_interface_of (own_package r.packages) i then None else slice_get r.packages i.«package».0

-- the path to an interface of this name, in full where it is one of another package
abbrev pub path_in : Option PackageParts → List ℕ → PathTo
path_in None n = Local n
path_in (Some p) n = Foreign p.namespace p.name p.version n

-- the path to this interface of the table, in full if it is one of another package
abbrev pub path_to : Resolve → Interface → PathTo
path_to r i = path_in (other_package r i) i.name

-- the path to an interface of the table
abbrev pub path_if : Resolve → Option Interface → PathTo
path_if r None = Local []
path_if r (Some i) = path_to r i

-- the path to the interface at this place of the table
abbrev pub path_at : Resolve → ℕ → PathTo
path_at r k = path_if r (slice_get r.interfaces k)

-- the path to the interface of a type of this name
abbrev pub name_path : Resolve → Option TypeName → PathTo
name_path r None = Local []
name_path r (Some n) = path_at r n.interface.0

-- the path to the interface whose type a row uses
abbrev pub row_path : Resolve → Option Definition → PathTo
row_path r None = Local []
row_path r (Some d) = name_path r (name_at r.definitions (used_in d))

-- ---- what the rows stand for

-- the name that an interface goes by: its own, or the full name of one of another package
abbrev pub name_here : Resolve → Interface → List ℕ
name_here r i = full_name_in (other_package r i) i.name

-- the names that the table's interfaces go by in the text, in the order of the table
abbrev pub own_names : Resolve → List (List ℕ)
own_names r = map (name_here r) r.interfaces

-- the type tree of each row of a table, with interfaces by the names that they go by in the text
abbrev pub own_trees : Resolve → List Tree
own_trees r = references (own_names r) [] r.definitions

-- the definition of a row that has a name
abbrev pub definitions_in : List (List ℕ) → List Tree → Option Definition → List NamedDefinition
definitions_in ns trees None = []
definitions_in ns trees (Some d) = definition_of ns trees d

-- ---- what is written for a definition

-- the local name after `as`, if it isn't the used name itself
abbrev pub local_of : List ℕ → List ℕ → Option (List ℕ)
local_of n l = if bytes_eq n l then None else Some l

-- a use of a named type by this path; a used type without a name, which no package has, would be a new name of it
abbrev pub use_entry : PathTo → Tree → List ℕ → Entry
use_entry p (Reference k) l = Uses nowhere p (record { name = k.name; local = local_of k.name l } ∷ [])
use_entry p t l = Defines nowhere l (Alias (ty_of t))

-- the parameters and the result that are written for a function
abbrev pub function_by : TreeFields → Option Tree → Function
function_by fs result = record { params = members_in fs; result = option_map ty_of result }

-- the item that is written for a name with this meaning: a `use` names the interface by this path
abbrev pub entry_by : PathTo → List ℕ → Meaning → Entry
entry_by p n (IsUse t) = use_entry p t n
entry_by p n (IsType t) = Defines nowhere n (body_of t)
entry_by p n (IsFunction fs result) = Declares nowhere n (function_by fs result)

-- what is written for a definition: a use names the interface by this path
abbrev pub entry_of : PathTo → NamedDefinition → Entry
entry_of p d = entry_by p d.key.name d.meaning

-- ---- interfaces

-- what is written for a row, if it has a name in an interface
abbrev pub row_entries : Resolve → Option Definition → List Entry
row_entries r d = map (entry_of (row_path r d)) (definitions_in (own_names r) (own_trees r) d)

-- what is written for the row at this place of the table, if it has a name in an interface
abbrev pub written_at : Resolve → ℕ → List Entry
written_at r k = row_entries r (slice_get r.definitions k)

-- an interface of the own package: its used names, its types and its functions
abbrev pub interface_entry : Resolve → Interface → FileEntry
interface_entry r i = AnInterface i.name (flat_map (written_at r) (ids_of i))

-- the interfaces of the own package
abbrev pub interfaces_of_package : Resolve → List Interface
interfaces_of_package r = filter (is_interface_of (own_package r.packages)) r.interfaces

-- ---- worlds

-- the path to an interface that is an item of a world
abbrev pub item_path : Resolve → WorldItemKind → PathTo
item_path r (item.Interface i) = path_at r i.0
item_path r (item.Function f) = Local []

-- what is written for an item of a world: an interface by this path
abbrev pub item_entry : PathTo → ItemMeaning → WorldEntry
item_entry p (WithInterface way i) = Whole (direction_for way) p
item_entry p (WithFunction way n fs result) = Single (direction_for way) nowhere n (function_by fs result)

-- an item of a world by the names that interfaces go by in the text
abbrev pub own_item : Resolve → WorldItem → ItemMeaning
own_item r i = item_meaning (own_names r) (own_trees r) r.definitions i.direction i.kind

-- what is written for an item of a world of the table
abbrev pub item_written : Resolve → WorldItem → WorldEntry
item_written r i = item_entry (item_path r i.kind) (own_item r i)

-- what is written for a world of the table
abbrev pub world_written : Resolve → World → FileEntry
world_written r w = AWorld nowhere w.name (map (item_written r) w.items)

-- ---- the package

-- the name of the own package
abbrev pub own_parts : List PackageParts → PackageParts
own_parts ps = slice_index_or ps (own_package ps) nameless

-- the tree of a table's own package: its interfaces in the order of the table, then its worlds
abbrev pub file_of : Resolve → File
file_of r =
    let p = own_parts r.packages in record {
      namespace = p.namespace;
      name = p.name;
      version = p.version;
      entries = map (interface_entry r) (interfaces_of_package r) ++ map (world_written r) r.worlds;
    }
