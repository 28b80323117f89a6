-- The items of a world that a component type may be: its declarations read one after the other.
use Rattle.std.specs.Prelude.{◌==◌, ℕ, List, [], ◌∷◌, ◌++◌, length, Option, None, Some, slice_get, if◌then◌else◌}
use Rattle.std.specs.Option.{option_map}
use Rattle.atoms.specs.Label.{is_label}
use Rattle.ctype_format.specs.Raw.{TypeEntry as AnyType, Decl, Entry, Alias, Import, Export, Decls, none, then as more}
use Rattle.ctype_format.specs.declared.raw.RawAlias.{RawAlias}
use Rattle.ctype_format.specs.declared.raw.RawAlias.TheVariants as alias
use Rattle.ctype_format.specs.declared.raw.RawDescription.{RawDescription}
use Rattle.ctype_format.specs.declared.raw.RawDescription.TheVariants as described
use Rattle.package_form.specs.Ids.{function_id}
use Rattle.tables.specs.declared.tables.InterfaceId.{InterfaceId}
use Rattle.tables.specs.declared.tables.ValType.{ValType}
use Rattle.tables.specs.declared.tables.Parameter.{Parameter}
use Rattle.tables.specs.declared.tables.Owner.TheVariants as owner
use Rattle.tables.specs.declared.tables.Direction.{Direction}
use Rattle.tables.specs.declared.tables.Direction.TheVariants as direction
use Rattle.tables.specs.declared.tables.Definition.{Definition}
use Rattle.tables.specs.declared.tables.Definition.TheVariants as row
use Rattle.tables.specs.declared.tables.WorldItem.{WorldItem}
use Rattle.tables.specs.declared.tables.WorldItemKind.{WorldItemKind}
use Rattle.tables.specs.declared.tables.WorldItemKind.TheVariants as item
use Rattle.component_reader.specs.Types.{found_in}
use Rattle.component_reader.specs.Instance.{if_found, Awaited, Nothing, AType, AFunction, InstanceRead, nothing_read, settled, with_index, defined_read}

-- What was read of a world's component type: its types and functions as those of an instance type are, its items, and an interface that is
-- imported or exported next.
pub record WorldRead : Type 0 where
  pub inside : InstanceRead
  pub items : List WorldItem
  pub interface : Option InterfaceId

-- a component type of which nothing was read yet, after these rows
abbrev pub no_world : List Definition → WorldRead
no_world rows = record { inside = nothing_read rows; items = []; interface = None }

-- what was read of the world, with these types and functions
abbrev pub with_inside : WorldRead → InstanceRead → WorldRead
with_inside s i = record { inside = i; items = s.items; interface = s.interface }

-- an import or an export of a world
abbrev pub item_of : Direction → WorldItemKind → WorldItem
item_of way what = record { direction = way; kind = what }

-- ---- functions

-- the row of a function of world w
abbrev pub world_function : ℕ → List ℕ → List Parameter → Option ValType → Definition
world_function w n ps result = row.Function (record { owner = owner.World (record { 0 = w }); name = n; params = ps; result = result })

-- a function of world w, at the end of the table
abbrev pub with_world_function : ℕ → List ℕ → List Parameter → Option ValType → InstanceRead → InstanceRead
with_world_function w n ps result s = record {
  rows = s.rows ++ world_function w n ps result ∷ [];
  indices = s.indices ++ None ∷ [];
  awaited = Nothing;
  names = s.names;
  uses = s.uses;
  types = s.types;
  functions = s.functions;
}

-- a function of world w imported or exported under this name: its type must be what was defined last
abbrev pub function_named : ℕ → Direction → List ℕ → WorldRead → Awaited → Option WorldRead
function_named w way n s (AFunction ps result) = Some (record {
  inside = with_world_function w n ps result s.inside;
  items = s.items ++ item_of way (item.Function (function_id (length s.inside.rows))) ∷ [];
  interface = s.interface;
})
function_named w way n s Nothing = None
function_named w way n s (AType what) = None

-- ---- interfaces, where these types are the instance types of interfaces around it

-- the interface whose instance type has this index in the scope around; none if it is no interface's
abbrev pub interface_index : List (Option InterfaceId) → ℕ → Option InterfaceId
interface_index instances index = found_in (slice_get instances index)

-- the interface of an outer alias, one scope outward
abbrev pub aliased_interface : List (Option InterfaceId) → RawAlias → Option InterfaceId
aliased_interface instances (alias.Outer count i) = if count == 1 then interface_index instances i else None
aliased_interface instances (alias.InstanceExport i n) = None

-- the next type index is that of this interface's instance type, whose import or export comes next
abbrev pub awaiting_interface : WorldRead → InstanceRead → InterfaceId → WorldRead
awaiting_interface s i t = record { inside = with_index i; items = s.items; interface = Some t }

-- the world imports or exports this interface
abbrev pub with_interface_item : Direction → WorldRead → InterfaceId → WorldRead
with_interface_item way s t = record { inside = s.inside; items = s.items ++ item_of way (item.Interface t) ∷ []; interface = None }

-- the import or the export of the interface whose alias came before, if one came
abbrev pub interface_met : Direction → WorldRead → Option WorldRead
interface_met way s = option_map (with_interface_item way s) s.interface

-- ---- declarations

-- an import or an export of world w
abbrev pub named_read : ℕ → Direction → List ℕ → RawDescription → WorldRead → Option WorldRead
named_read w way n (described.Function i) s = if is_label n then function_named w way n s s.inside.awaited else None
named_read w way n (described.Instance i) s = if is_label n then None else interface_met way s
named_read w way n (described.TypeEqual i) s = None
named_read w way n (described.Component i) s = None

-- a type declared in a world's component type: a value type or a function type
abbrev pub entry_read : AnyType → WorldRead → Option WorldRead
entry_read t s = option_map (with_inside s) (if_found (settled s.inside) (defined_read t))

-- an alias in a world's component type: of an interface's instance type in the scope around
abbrev pub outer_read : List (Option InterfaceId) → RawAlias → WorldRead → Option WorldRead
outer_read instances a s = if_found (settled s.inside) (λ i. option_map (awaiting_interface s i) (aliased_interface instances a))

-- a declaration of world w's component type, with these instance types in the scope around it
abbrev pub item_read : List (Option InterfaceId) → ℕ → Decl → WorldRead → Option WorldRead
item_read instances w (Entry t) s = entry_read t s
item_read instances w (Alias a) s = outer_read instances a s
item_read instances w (Import n d) s = named_read w direction.Import n d s
item_read instances w (Export n d) s = named_read w direction.Export n d s

-- these declarations of world w's component type in turn; none if one is not of a package's shape
abbrev pub items_read : List (Option InterfaceId) → ℕ → Decls → WorldRead → Option WorldRead
items_read instances w none s = Some s
items_read instances w (more d ds) s = if_found (item_read instances w d s) (items_read instances w ds)

-- world w's component type read whole, its rows after these
abbrev pub world_read : List (Option InterfaceId) → ℕ → Decls → List Definition → Option WorldRead
world_read instances w ds rows = items_read instances w ds (no_world rows)
