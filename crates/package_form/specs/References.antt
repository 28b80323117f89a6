-- The types that a row is made of.
use Rattle.std.specs.Prelude.{List, [], ◌∷◌, ◌++◌, flat_map, Option, None, Some}
use Rattle.tables.specs.declared.tables.TypeId.{TypeId}
use Rattle.tables.specs.declared.tables.ValType.{ValType}
use Rattle.tables.specs.declared.tables.ValType.TheVariants as val
use Rattle.tables.specs.declared.tables.TypeDefKind.{TypeDefKind}
use Rattle.tables.specs.declared.tables.TypeDefKind.TheVariants as kind
use Rattle.tables.specs.declared.tables.Parameter.{Parameter}
use Rattle.tables.specs.declared.tables.Field.{Field}
use Rattle.tables.specs.declared.tables.Case.{Case}
use Rattle.tables.specs.declared.tables.Definition.{Definition}
use Rattle.tables.specs.declared.tables.Definition.TheVariants as row

-- the row that a value type refers to, as a list of one, or none of a primitive and string
abbrev pub type_references : ValType → List TypeId
type_references (val.Primitive p) = []
type_references val.String = []
type_references (val.Id t) = t ∷ []

-- the row that a value type refers to, or none if there is no type
abbrev pub references_if : Option ValType → List TypeId
references_if None = []
references_if (Some v) = type_references v

-- the row that a field's type refers to, or none
abbrev pub field_references : Field → List TypeId
field_references f = type_references f.ty

-- the row that a case's payload refers to, or none
abbrev pub case_references : Case → List TypeId
case_references c = references_if c.ty

-- the row that a parameter's type refers to, or none
abbrev pub parameter_references : Parameter → List TypeId
parameter_references p = type_references p.ty

-- the rows that a type is made of, from the left; a used name is made of none
abbrev pub kind_references : TypeDefKind → List TypeId
kind_references (kind.Alias v) = type_references v
kind_references (kind.List v) = type_references v
kind_references (kind.Option v) = type_references v
kind_references (kind.Result ok error) = references_if ok ++ references_if error
kind_references (kind.Tuple vs) = flat_map type_references vs
kind_references (kind.Record fs) = flat_map field_references fs
kind_references (kind.Variant cs) = flat_map case_references cs
kind_references _ = []

-- the rows that a row is made of, from the left; a function's result comes last
abbrev pub row_references : Definition → List TypeId
row_references (row.Type d) = kind_references d.kind
row_references (row.Function f) = flat_map parameter_references f.params ++ references_if f.result
