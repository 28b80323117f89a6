-- What a table has, as it stands in another table.
use Rattle.std.specs.Prelude.{ℕ, Bool, List, map, filter}
use Rattle.std.specs.Option.{option_map}
use Rattle.tables.specs.declared.tables.TypeId.{TypeId}
use Rattle.tables.specs.declared.tables.FunctionId.{FunctionId}
use Rattle.tables.specs.declared.tables.InterfaceId.{InterfaceId}
use Rattle.tables.specs.declared.tables.PackageId.{PackageId}
use Rattle.tables.specs.declared.tables.ValType.{ValType}
use Rattle.tables.specs.declared.tables.ValType.TheVariants as val
use Rattle.tables.specs.declared.tables.TypeDefKind.{TypeDefKind}
use Rattle.tables.specs.declared.tables.TypeDefKind.TheVariants as kind
use Rattle.tables.specs.declared.tables.TypeName.{TypeName}
use Rattle.tables.specs.declared.tables.TypeDef.{TypeDef}
use Rattle.tables.specs.declared.tables.Parameter.{Parameter}
use Rattle.tables.specs.declared.tables.Field.{Field}
use Rattle.tables.specs.declared.tables.Case.{Case}
use Rattle.tables.specs.declared.tables.Owner.{Owner}
use Rattle.tables.specs.declared.tables.Owner.TheVariants as owner
use Rattle.tables.specs.declared.tables.Function.{Function}
use Rattle.tables.specs.declared.tables.Definition.{Definition}
use Rattle.tables.specs.declared.tables.Definition.TheVariants as row
use Rattle.tables.specs.declared.tables.Interface.{Interface}
use Rattle.tables.specs.declared.tables.World.{World}
use Rattle.tables.specs.declared.tables.WorldItem.{WorldItem}
use Rattle.tables.specs.declared.tables.WorldItemKind.{WorldItemKind}
use Rattle.tables.specs.declared.tables.WorldItemKind.TheVariants as item

-- the index in another table of each package, interface, world and row, and which rows are kept there
pub record Renaming : Type 0 where
  pub packages : ℕ → ℕ
  pub interfaces : ℕ → ℕ
  pub worlds : ℕ → ℕ
  pub rows : ℕ → ℕ
  pub keeps : ℕ → Bool

-- the index of the same type in the other table
abbrev pub put_id : Renaming → TypeId → TypeId
put_id to t = record { 0 = to.rows t.0 }

-- the index of the same function in the other table
abbrev pub put_function_id : Renaming → FunctionId → FunctionId
put_function_id to f = record { 0 = to.rows f.0 }

-- the index of the same interface in the other table
abbrev pub put_interface_id : Renaming → InterfaceId → InterfaceId
put_interface_id to i = record { 0 = to.interfaces i.0 }

-- the index of the same package in the other table
abbrev pub put_package_id : Renaming → PackageId → PackageId
put_package_id to p = record { 0 = to.packages p.0 }

-- a value type with the other table's indices
abbrev pub put_val : Renaming → ValType → ValType
put_val to (val.Primitive x) = val.Primitive x
put_val to val.String = val.String
put_val to (val.Id t) = val.Id (put_id to t)

-- a record's field with the other table's indices
abbrev pub put_field : Renaming → Field → Field
put_field to f = record { name = f.name; ty = put_val to f.ty }

-- a variant's case with the other table's indices
abbrev pub put_case : Renaming → Case → Case
put_case to c = record { name = c.name; ty = option_map (put_val to) c.ty }

-- a function's parameter with the other table's indices
abbrev pub put_parameter : Renaming → Parameter → Parameter
put_parameter to q = record { name = q.name; ty = put_val to q.ty }

-- what a type is made of, with the other table's indices
abbrev pub put_kind : Renaming → TypeDefKind → TypeDefKind
put_kind to (kind.Use t) = kind.Use (put_id to t)
put_kind to (kind.Alias v) = kind.Alias (put_val to v)
put_kind to (kind.List v) = kind.List (put_val to v)
put_kind to (kind.Option v) = kind.Option (put_val to v)
put_kind to (kind.Result ok error) = kind.Result (option_map (put_val to) ok) (option_map (put_val to) error)
put_kind to (kind.Tuple vs) = kind.Tuple (map (put_val to) vs)
put_kind to (kind.Record fs) = kind.Record (map (put_field to) fs)
put_kind to (kind.Variant cs) = kind.Variant (map (put_case to) cs)
put_kind to (kind.Enum names) = kind.Enum names
put_kind to (kind.Flags names) = kind.Flags names

-- a type's name in the other table: its interface's index changes
abbrev pub put_name : Renaming → TypeName → TypeName
put_name to n = record { interface = put_interface_id to n.interface; name = n.name }

-- a type's row with the other table's indices
abbrev pub put_type : Renaming → TypeDef → TypeDef
put_type to d = record { name = option_map (put_name to) d.name; kind = put_kind to d.kind }

-- a function's interface or world by its index in the other table
abbrev pub put_owner : Renaming → Owner → Owner
put_owner to (owner.Interface i) = owner.Interface (put_interface_id to i)
put_owner to (owner.World w) = owner.World (record { 0 = to.worlds w.0 })

-- a function's row with the other table's indices
abbrev pub put_function : Renaming → Function → Function
put_function to f = record { owner = put_owner to f.owner; name = f.name; params = map (put_parameter to) f.params; result = option_map (put_val to) f.result }

-- a row with the other table's indices
abbrev pub put_row : Renaming → Definition → Definition
put_row to (row.Type d) = row.Type (put_type to d)
put_row to (row.Function f) = row.Function (put_function to f)

-- the type's row is kept in the other table
abbrev pub has_type : Renaming → TypeId → Bool
has_type to t = to.keeps t.0

-- the function's row is kept in the other table
abbrev pub has_function : Renaming → FunctionId → Bool
has_function to f = to.keeps f.0

-- the indices, in the other table, of those types that are kept there
abbrev pub put_types : Renaming → List TypeId → List TypeId
put_types to ts = map (put_id to) (filter (has_type to) ts)

-- the indices, in the other table, of those functions that are kept there
abbrev pub put_functions : Renaming → List FunctionId → List FunctionId
put_functions to fs = map (put_function_id to) (filter (has_function to) fs)

-- an interface with the other table's indices, without types and functions that are not kept
abbrev pub put_interface : Renaming → Interface → Interface
put_interface to i = record {
  «package» = put_package_id to i.«package»;
  name = i.name;
  uses = put_types to i.uses;
  types = put_types to i.types;
  functions = put_functions to i.functions;
}

-- the interface or function of a world's item by its index in the other table
abbrev pub put_item_kind : Renaming → WorldItemKind → WorldItemKind
put_item_kind to (item.Interface i) = item.Interface (put_interface_id to i)
put_item_kind to (item.Function f) = item.Function (put_function_id to f)

-- a world's item with the other table's indices
abbrev pub put_item : Renaming → WorldItem → WorldItem
put_item to i = record { direction = i.direction; kind = put_item_kind to i.kind }

-- a world with the other table's indices; all its items stay
abbrev pub put_world : Renaming → World → World
put_world to w = record { «package» = put_package_id to w.«package»; name = w.name; items = map (put_item to) w.items }
