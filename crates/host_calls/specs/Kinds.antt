-- WIT.md, "Types": what a type and a row of a table is, by number.
use Rattle.std.specs.Prelude.{ℕ, List, Option, None, Some, slice_get}
use Rattle.tables.specs.declared.tables.Primitive.{Primitive}
use Rattle.tables.specs.declared.tables.Primitive.TheVariants as primitive
use Rattle.tables.specs.declared.tables.ValType.{ValType}
use Rattle.tables.specs.declared.tables.ValType.TheVariants as val
use Rattle.tables.specs.declared.tables.TypeDefKind.{TypeDefKind}
use Rattle.tables.specs.declared.tables.TypeDefKind.TheVariants as kind
use Rattle.tables.specs.declared.tables.Definition.{Definition}
use Rattle.tables.specs.declared.tables.Definition.TheVariants as row

-- the number of a primitive in C: 1 to 10
abbrev pub primitive_number : Primitive → ℕ
primitive_number primitive.Bool = 1
primitive_number primitive.S8 = 2
primitive_number primitive.U8 = 3
primitive_number primitive.S16 = 4
primitive_number primitive.U16 = 5
primitive_number primitive.S32 = 6
primitive_number primitive.U32 = 7
primitive_number primitive.S64 = 8
primitive_number primitive.U64 = 9
primitive_number primitive.Char = 10

-- the number in C of a type that has a row: 12 to 21
abbrev pub definition_kind_number : TypeDefKind → ℕ
definition_kind_number (kind.List v) = 12
definition_kind_number (kind.Option v) = 13
definition_kind_number (kind.Result ok error) = 14
definition_kind_number (kind.Tuple vs) = 15
definition_kind_number (kind.Record fs) = 16
definition_kind_number (kind.Variant cs) = 17
definition_kind_number (kind.Enum names) = 18
definition_kind_number (kind.Flags names) = 19
definition_kind_number (kind.Alias v) = 20
definition_kind_number (kind.Use t) = 21

-- the number of a row: of a type by its kind, 22 of a function, 0 if there is no row
abbrev pub row_number : Option Definition → ℕ
row_number None = 0
row_number (Some (row.Type d)) = definition_kind_number d.kind
row_number (Some (row.Function f)) = 22

-- the number of a value type: of a primitive, 11 of string, or of its row
abbrev pub type_number : List Definition → ValType → ℕ
type_number rows (val.Primitive p) = primitive_number p
type_number rows val.String = 11
type_number rows (val.Id t) = row_number (slice_get rows t.0)
