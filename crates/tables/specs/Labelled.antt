-- The labelled types of a table: what its types are once each name is unfolded, with their labels.
use Rattle.std.specs.Prelude.{◌≡◌, List, [], ◌∷◌, ◌++◌, slice_index_or, Option, None, Some}
use Rattle.canonical_abi.specs.Labelled.{LabelledType, labelled_prim, labelled_string, labelled_list, labelled_option, labelled_tuple, labelled_result, labelled_record, labelled_variant, labelled_enum, labelled_flags, LabelledTypes, no_member, member, Payload, no_payload, payload, LabelledFields, no_labelled_field, labelled_field, LabelledCases, no_labelled_case, labelled_case, closed}
use Rattle.tables.specs.Closed.{prim_of, closed_type}
use Rattle.tables.specs.declared.tables.ValType.{ValType}
use Rattle.tables.specs.declared.tables.ValType.TheVariants as val
use Rattle.tables.specs.declared.tables.TypeDefKind.{TypeDefKind}
use Rattle.tables.specs.declared.tables.TypeDefKind.TheVariants as kind
use Rattle.tables.specs.declared.tables.Parameter.{Parameter}
use Rattle.tables.specs.declared.tables.Field.{Field}
use Rattle.tables.specs.declared.tables.Case.{Case}
use Rattle.tables.specs.declared.tables.Definition.{Definition}
use Rattle.tables.specs.declared.tables.Definition.TheVariants as row
use Rattle.tables.specs.declared.tables.Resolve.{Resolve}

-- the labelled type of a value type, over those of the rows; a row that is not there counts as string
abbrev pub labelled_val : List LabelledType → ValType → LabelledType
labelled_val rows (val.Primitive p) = labelled_prim (prim_of p)
labelled_val rows val.String = labelled_string
labelled_val rows (val.Id t) = slice_index_or rows t.0 labelled_string

-- the labelled type of a payload, or none if there is none
abbrev pub labelled_payload : List LabelledType → Option ValType → Payload
labelled_payload rows None = no_payload
labelled_payload rows (Some v) = payload (labelled_val rows v)

-- the labelled types of a tuple's members, in order
abbrev pub labelled_members : List LabelledType → List ValType → LabelledTypes
labelled_members rows [] = no_member
labelled_members rows (v ∷ vs) = member (labelled_val rows v) (labelled_members rows vs)

-- a record's fields with their labels and labelled types, in order
abbrev pub labelled_fields : List LabelledType → List Field → LabelledFields
labelled_fields rows [] = no_labelled_field
labelled_fields rows (f ∷ fs) = labelled_field f.name (labelled_val rows f.ty) (labelled_fields rows fs)

-- a variant's cases with their labels and payloads, in order
abbrev pub labelled_cases : List LabelledType → List Case → LabelledCases
labelled_cases rows [] = no_labelled_case
labelled_cases rows (c ∷ cs) = labelled_case c.name (labelled_payload rows c.ty) (labelled_cases rows cs)

-- a function's parameters as the fields of a record, with their labels
abbrev pub labelled_params : List LabelledType → List Parameter → LabelledFields
labelled_params rows [] = no_labelled_field
labelled_params rows (p ∷ ps) = labelled_field p.name (labelled_val rows p.ty) (labelled_params rows ps)

-- the labelled type of a type of this kind, over the labelled types of the rows before it
abbrev pub labelled_kind : List LabelledType → TypeDefKind → LabelledType
labelled_kind rows (kind.Use t) = labelled_val rows (val.Id t)
labelled_kind rows (kind.Alias v) = labelled_val rows v
labelled_kind rows (kind.List v) = labelled_list (labelled_val rows v)
labelled_kind rows (kind.Option v) = labelled_option (labelled_val rows v)
labelled_kind rows (kind.Result ok error) = labelled_result (labelled_payload rows ok) (labelled_payload rows error)
labelled_kind rows (kind.Tuple vs) = labelled_tuple (labelled_members rows vs)
labelled_kind rows (kind.Record fs) = labelled_record (labelled_fields rows fs)
labelled_kind rows (kind.Variant cs) = labelled_variant (labelled_cases rows cs)
labelled_kind rows (kind.Enum names) = labelled_enum names
labelled_kind rows (kind.Flags names) = labelled_flags names

-- the labelled type of a row, over those of the rows before it; of a function the record of its parameters
abbrev pub labelled_definition : List LabelledType → Definition → LabelledType
labelled_definition rows (row.Type d) = labelled_kind rows d.kind
labelled_definition rows (row.Function f) = labelled_record (labelled_params rows f.params)

-- these labelled types, and then those of these rows, each over all before it
abbrev pub labelled_rows : List LabelledType → List Definition → List LabelledType
labelled_rows rows [] = rows
labelled_rows rows (d ∷ ds) = labelled_rows (rows ++ labelled_definition rows d ∷ []) ds

-- the labelled types of a package's rows, in table order
abbrev pub labelled_types : Resolve → List LabelledType
labelled_types r = labelled_rows [] r.definitions

-- the labelled type of a type of the package
abbrev pub labelled_type : Resolve → ValType → LabelledType
labelled_type r v = labelled_val (labelled_types r) v

-- each labelled type of the package is its closed type once its labels are erased
abbrev pub ErasesToClosed : Resolve → Type 0
ErasesToClosed r = (v : ValType) → closed (labelled_type r v) ≡ closed_type r v
