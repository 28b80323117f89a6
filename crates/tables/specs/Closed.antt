-- The closed types of a table: what its types are once each name is unfolded, each made of those before it.
use Rattle.std.specs.Prelude.{Bool, true, false, ◌&&◌, nat_le, List, [], ◌∷◌, ◌++◌, map, length, slice_index_or, slice_get, IsTrue, Option, None, Some}
use Rattle.std.specs.Option.{option_map}
use Rattle.std.specs.List.{list_all}
use Rattle.canonical_abi.specs.Types.{Prim, boolean, unsigned, signed, scalar_value, int8, int16, int32, int64, ClosedType, prim_type, string_type, list_type, record_type, variant_type, flags_type, fields_of, cases_of, no_field, FunctionType}
use Rattle.tables.specs.Tables.{function_of, is_function_id}
use Rattle.tables.specs.declared.tables.FunctionId.{FunctionId}
use Rattle.tables.specs.declared.tables.Primitive.{Primitive}
use Rattle.tables.specs.declared.tables.Primitive.TheVariants as primitive
use Rattle.tables.specs.declared.tables.ValType.{ValType}
use Rattle.tables.specs.declared.tables.ValType.TheVariants as val
use Rattle.tables.specs.declared.tables.TypeDefKind.{TypeDefKind}
use Rattle.tables.specs.declared.tables.TypeDefKind.TheVariants as kind
use Rattle.tables.specs.declared.tables.Parameter.{Parameter}
use Rattle.tables.specs.declared.tables.Function.{Function}
use Rattle.tables.specs.declared.tables.Definition.{Definition}
use Rattle.tables.specs.declared.tables.Definition.TheVariants as row
use Rattle.tables.specs.declared.tables.Resolve.{Resolve}

-- the despecialized primitive of a WIT primitive
abbrev pub prim_of : Primitive → Prim
prim_of primitive.Bool = boolean
prim_of primitive.S8 = signed int8
prim_of primitive.U8 = unsigned int8
prim_of primitive.S16 = signed int16
prim_of primitive.U16 = unsigned int16
prim_of primitive.S32 = signed int32
prim_of primitive.U32 = unsigned int32
prim_of primitive.S64 = signed int64
prim_of primitive.U64 = unsigned int64
prim_of primitive.Char = scalar_value

-- the closed type of a value type, over the closed types of the rows; a row that is not there counts as string
abbrev pub closed_val : List ClosedType → ValType → ClosedType
closed_val rows (val.Primitive p) = prim_type (prim_of p)
closed_val rows val.String = string_type
closed_val rows (val.Id t) = slice_index_or rows t.0 string_type

-- the closed type of a type of this kind, over the closed types of the rows before it
abbrev pub closed_kind : List ClosedType → TypeDefKind → ClosedType
closed_kind rows (kind.Use t) = closed_val rows (val.Id t)
closed_kind rows (kind.Alias v) = closed_val rows v
closed_kind rows (kind.List v) = list_type (closed_val rows v)
closed_kind rows (kind.Option v) = variant_type (cases_of (None ∷ Some (closed_val rows v) ∷ []))
closed_kind rows (kind.Result ok error) =
    variant_type (cases_of (option_map (closed_val rows) ok ∷ option_map (closed_val rows) error ∷ []))
closed_kind rows (kind.Tuple vs) = record_type (fields_of (map (closed_val rows) vs))
closed_kind rows (kind.Record fs) = record_type (fields_of (map (λ f. closed_val rows f.ty) fs))
closed_kind rows (kind.Variant cs) = variant_type (cases_of (map (λ c. option_map (closed_val rows) c.ty) cs))
closed_kind rows (kind.Enum names) = variant_type (cases_of (map (λ n. None) names))
closed_kind rows (kind.Flags names) = flags_type (length names)

-- the closed types of a function's parameters, in order
abbrev pub closed_params : List ClosedType → List Parameter → List ClosedType
closed_params rows ps = map (λ p. closed_val rows p.ty) ps

-- the closed type of a row, over those of the rows before it; of a function the record of its parameters
abbrev pub closed_definition : List ClosedType → Definition → ClosedType
closed_definition rows (row.Type d) = closed_kind rows d.kind
closed_definition rows (row.Function f) = record_type (fields_of (closed_params rows f.params))

-- these closed types, and then those of these rows, each over all before it
abbrev pub closed_rows : List ClosedType → List Definition → List ClosedType
closed_rows rows [] = rows
closed_rows rows (d ∷ ds) = closed_rows (rows ++ closed_definition rows d ∷ []) ds

-- the closed types of a package's definitions, in table order
abbrev pub closed_types : Resolve → List ClosedType
closed_types r = closed_rows [] r.definitions

-- the closed type of a type of the package
abbrev pub closed_type : Resolve → ValType → ClosedType
closed_type r v = closed_val (closed_types r) v

-- the function at this place of the table, or none if a type or nothing is there
abbrev pub function_at : Resolve → FunctionId → Option Function
function_at r f = function_of (slice_get r.definitions f.0)

-- the id is the place of a function in the table
abbrev pub IsFunction : Resolve → FunctionId → Type 0
IsFunction r f = IsTrue (is_function_id r.definitions f)

-- the closed types of a function's parameters and result; none and no result without a function
abbrev pub type_of_function : List ClosedType → Option Function → FunctionType
type_of_function rows None = record { params = no_field; result = None }
type_of_function rows (Some f) = record {
  params = fields_of (closed_params rows f.params);
  result = option_map (closed_val rows) f.result;
}

-- the closed types of the parameters and result of the function at this place
abbrev pub function_type : Resolve → FunctionId → FunctionType
function_type r f = type_of_function (closed_types r) (function_at r f)

-- the type is a primitive, which string is not
abbrev pub is_scalar_type : ValType → Bool
is_scalar_type (val.Primitive p) = true
is_scalar_type val.String = false
is_scalar_type (val.Id t) = false

-- there is no result, or its type is a primitive
abbrev pub is_scalar_result : Option ValType → Bool
is_scalar_result None = true
is_scalar_result (Some v) = is_scalar_type v

-- there is a function, with at most 16 parameters, and each of its types is a primitive
abbrev pub is_scalar_function : Option Function → Bool
is_scalar_function None = false
is_scalar_function (Some f) = nat_le (length f.params) 16 && (list_all (λ p. is_scalar_type p.ty) f.params && is_scalar_result f.result)

-- the function at this place has at most 16 parameters, and each of its types is a primitive
abbrev pub IsScalarFunction : Resolve → FunctionId → Type 0
IsScalarFunction r f = IsTrue (is_scalar_function (function_at r f))
