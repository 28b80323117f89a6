-- Binary.md, "Type Definitions": the declarations of an instance type for the rows of an interface.
use Rattle.std.specs.Prelude.{ℕ, ◌+◌, List, [], ◌∷◌, ◌++◌, map, slice_index, Option, None, Some, if◌then◌else◌}
use Rattle.std.specs.Option.{option_map, option_len}
use Rattle.ctype_format.specs.Raw.{Defined, Prim, Record, Variant, ListOf, Tuple, FlagSet, Enumeration, OptionOf, ResultOf, BinaryFunction, Define, Func, Decl, Entry, Alias, Export}
use Rattle.ctype_format.specs.declared.raw.Primitive.{Primitive as RawPrimitive}
use Rattle.ctype_format.specs.declared.raw.Primitive.TheVariants as raw
use Rattle.ctype_format.specs.declared.raw.RawValType.{RawValType}
use Rattle.ctype_format.specs.declared.raw.RawValType.TheVariants as valtype
use Rattle.ctype_format.specs.declared.raw.RawField.{RawField}
use Rattle.ctype_format.specs.declared.raw.RawCase.{RawCase}
use Rattle.ctype_format.specs.declared.raw.RawAlias.TheVariants as alias
use Rattle.ctype_format.specs.declared.raw.RawDescription.TheVariants as described
use Rattle.package_form.specs.Ids.{is_use}
use Rattle.tables.specs.declared.tables.Primitive.{Primitive}
use Rattle.tables.specs.declared.tables.Primitive.TheVariants as primitive
use Rattle.tables.specs.declared.tables.ValType.{ValType}
use Rattle.tables.specs.declared.tables.ValType.TheVariants as val
use Rattle.tables.specs.declared.tables.TypeDefKind.{TypeDefKind}
use Rattle.tables.specs.declared.tables.TypeDefKind.TheVariants as kind
use Rattle.tables.specs.declared.tables.TypeName.{TypeName}
use Rattle.tables.specs.declared.tables.Parameter.{Parameter}
use Rattle.tables.specs.declared.tables.Field.{Field}
use Rattle.tables.specs.declared.tables.Case.{Case}
use Rattle.tables.specs.declared.tables.Function.{Function}
use Rattle.tables.specs.declared.tables.Definition.{Definition}
use Rattle.tables.specs.declared.tables.Definition.TheVariants as row

-- ---- value types, over the type index of each row

-- a primitive type of a table as the binary has it
abbrev pub raw_primitive : Primitive → RawPrimitive
raw_primitive primitive.Bool = raw.Bool
raw_primitive primitive.S8 = raw.S8
raw_primitive primitive.U8 = raw.U8
raw_primitive primitive.S16 = raw.S16
raw_primitive primitive.U16 = raw.U16
raw_primitive primitive.S32 = raw.S32
raw_primitive primitive.U32 = raw.U32
raw_primitive primitive.S64 = raw.S64
raw_primitive primitive.U64 = raw.U64
raw_primitive primitive.Char = raw.Char

-- a value type of a table as the binary has it, with the type index of each row
abbrev pub valtype_of : List ℕ → ValType → RawValType
valtype_of indices (val.Primitive p) = valtype.Primitive (raw_primitive p)
valtype_of indices val.String = valtype.Primitive raw.String
valtype_of indices (val.Id t) = valtype.Index (slice_index indices t.0)

-- a field of a record as the binary has it
abbrev pub field_of : List ℕ → Field → RawField
field_of indices f = record { label = f.name; ty = valtype_of indices f.ty }

-- a parameter of a function as the binary has it
abbrev pub parameter_of : List ℕ → Parameter → RawField
parameter_of indices p = record { label = p.name; ty = valtype_of indices p.ty }

-- a case of a variant as the binary has it
abbrev pub case_of : List ℕ → Case → RawCase
case_of indices c = record { label = c.name; payload = option_map (valtype_of indices) c.ty }

-- the function type of a function of the table
abbrev pub signature_of : List ℕ → Function → BinaryFunction
signature_of indices f = record { params = map (parameter_of indices) f.params; outcome = option_map (valtype_of indices) f.result }

-- ---- rows

-- what an instance type or a world's component type has before a row: the type index of each row of the table so far in
-- its own scope, the count of types in it, and the index one scope outward of the next used type
pub record Place : Type 0 where
  pub indices : List ℕ
  pub types : ℕ
  pub used : ℕ

-- an outer alias of the type at this index of the component type one scope outward
abbrev pub outer_alias : ℕ → Decl
outer_alias n = Alias (alias.Outer 1 n)

-- the value type that a row declares; a used name and a new name of another row declare none
abbrev pub defined_of : List ℕ → TypeDefKind → Option Defined
defined_of indices (kind.Use t) = None
defined_of indices (kind.Alias (val.Primitive p)) = Some (Prim (raw_primitive p))
defined_of indices (kind.Alias val.String) = Some (Prim raw.String)
defined_of indices (kind.Alias (val.Id t)) = None
defined_of indices (kind.List v) = Some (ListOf (valtype_of indices v))
defined_of indices (kind.Option v) = Some (OptionOf (valtype_of indices v))
defined_of indices (kind.Result ok error) = Some (ResultOf (option_map (valtype_of indices) ok) (option_map (valtype_of indices) error))
defined_of indices (kind.Tuple vs) = Some (Tuple (map (valtype_of indices) vs))
defined_of indices (kind.Record fs) = Some (Record (map (field_of indices) fs))
defined_of indices (kind.Variant cs) = Some (Variant (map (case_of indices) cs))
defined_of indices (kind.Enum names) = Some (Enumeration names)
defined_of indices (kind.Flags names) = Some (FlagSet names)

-- the declaration of this value type, if there is one
abbrev pub definition_if : Option Defined → List Decl
definition_if None = []
definition_if (Some d) = Entry (Define d) ∷ []

-- what a row declares before its export: an outer alias of the used type, or its value type if it declares one
abbrev pub definition_declared : Place → TypeDefKind → List Decl
definition_declared at k = if is_use k then outer_alias at.used ∷ [] else definition_if (defined_of at.indices k)

-- the type index that a row's export is equal to: its alias's, its value type's, or that of the row that it renames
abbrev pub definition_index : Place → TypeDefKind → ℕ
definition_index at (kind.Alias (val.Id t)) = slice_index at.indices t.0
definition_index at _ = at.types

-- the export of a row with a name: a type under this name, equal to the one at index i; none without a name
abbrev pub type_export : Option TypeName → ℕ → List Decl
type_export None i = []
type_export (Some n) i = Export n.name (described.TypeEqual i) ∷ []

-- what an instance type declares for a row: a type and its export, or a function type and the function's export
abbrev pub row_declarations : Place → Definition → List Decl
row_declarations at (row.Type d) = definition_declared at d.kind ++ type_export d.name (definition_index at d.kind)
row_declarations at (row.Function f) = Entry (Func (signature_of at.indices f)) ∷ Export f.name (described.Function at.types) ∷ []

-- how many type indices a row takes before its export: none if it is a new name of another row
abbrev pub defined_types : TypeDefKind → ℕ
defined_types (kind.Alias (val.Id t)) = 0
defined_types _ = 1

-- how many type indices a row takes: of its alias or its type, and of its export if it is a type with a name
abbrev pub row_types : Definition → ℕ
row_types (row.Type d) = defined_types d.kind + option_len d.name
row_types (row.Function f) = 1

-- where a row's own type index is among those that it takes: its export's if it has a name, else its type's
abbrev pub export_offset : Option TypeName → TypeDefKind → ℕ
export_offset None k = 0
export_offset (Some n) k = defined_types k

-- where a row's own type index is among those that it takes, from 0
abbrev pub row_offset : Definition → ℕ
row_offset (row.Type d) = export_offset d.name d.kind
row_offset (row.Function f) = 0

-- the place after a row
abbrev pub place_after : Place → Definition → Place
place_after at d = record {
  indices = at.indices ++ (at.types + row_offset d) ∷ [];
  types = at.types + row_types d;
  used = at.used + 1;
}

-- what an instance type declares for these rows, the first of which is at this place
abbrev pub declarations_of : Place → List Definition → List Decl
declarations_of at [] = []
declarations_of at (d ∷ ds) = row_declarations at d ++ declarations_of (place_after at d) ds

-- the place after these rows, the first of which is at this place
abbrev pub places_after : Place → List Definition → Place
places_after at [] = at
places_after at (d ∷ ds) = places_after (place_after at d) ds
