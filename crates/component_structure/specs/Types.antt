-- Binary.md, "Type Definitions": types of values and of functions, in a scope whose type indices stand for these entries.
use Rattle.std.specs.Prelude.{ℕ, ◌==◌, ◌||◌, ◌&&◌, List, [], ◌∷◌, ◌++◌, Option, Some, None, Result, Ok, Err, Bool, slice_get, nat_le, nat_lt, if◌then◌else◌}
use Rattle.atoms.specs.Production.{give, ◌>>=◌, when}
use Rattle.ctype_format.specs.Opcodes.{primitive_of}
use Rattle.ctype_format.specs.declared.raw.Primitive.{Primitive}
use Rattle.ctype_format.specs.declared.opcode.Opcode.{Opcode}
use Rattle.ctype_format.specs.declared.opcode.Opcode.TheVariants as op
use Rattle.component_structure.specs.declared.error.Feature.TheVariants.{Float, Resource, FixedLengthList, Stream, Future, ErrorContext, Map, AsyncFunction, NamedResults}
use Rattle.component_structure.specs.declared.error.Fault.{Fault}
use Rattle.component_structure.specs.declared.error.Fault.TheVariants.{UnknownByte, Outside, NameTwice, EmptyType, Limit, BadIndex, WrongSort}
use Rattle.component_structure.specs.declared.structure.ValType.{ValType}
use Rattle.component_structure.specs.declared.structure.ValType.TheVariants as types
use Rattle.component_structure.specs.declared.structure.Field.{Field}
use Rattle.component_structure.specs.declared.structure.Case.{Case}
use Rattle.component_structure.specs.declared.structure.Entry.{Entry}
use Rattle.component_structure.specs.declared.structure.Entry.TheVariants as entries
use Rattle.component_structure.specs.Bytes.{Bytes, judged, by_next, byte, zero_byte, flag, u32, s33, label, repeat}
use Rattle.component_structure.specs.Names.{has_name, with_name}
use Rattle.component_structure.specs.Parts.{TypeKind, RecordOf, VariantOf, ListOf, TupleOf, FlagsOf, EnumOf, OptionOf, ResultOf, FunctionType}

-- ---- types of values

-- what is wrong with a byte that begins no type
unfoldable pub type_fault : ℕ → Fault
type_fault b =
    if b == 0x76 || b == 0x75 then Outside Float
    else (if b == 0x69 || (b == 0x68 || (b == 0x3f || b == 0x3e)) then Outside Resource
    else (if b == 0x67 then Outside FixedLengthList else (if b == 0x66 then Outside Stream else (if b == 0x65 then Outside Future
    else (if b == 0x64 then Outside ErrorContext else (if b == 0x63 then Outside Map else (if b == 0x43 then Outside AsyncFunction
    else UnknownByte b)))))))

-- the primitive type that a byte is, or what is wrong with the byte
abbrev pub primitive_from : ℕ → Option Primitive → Result ValType Fault
primitive_from b None = Err (type_fault b)
primitive_from b (Some p) = Ok (types.Primitive p)

-- the type of values that an index stands for, or what is wrong with the index
abbrev pub value_from : Option Entry → Result ValType Fault
value_from None = Err BadIndex
value_from (Some (entries.Value t)) = Ok t
value_from (Some (entries.Function f)) = Err WrongSort
value_from (Some (entries.Component s)) = Err WrongSort
value_from (Some (entries.Instance s)) = Err WrongSort

-- the byte is a negative number of one byte in signed LEB128, so no index of a type begins with it
abbrev pub is_opcode : ℕ → Bool
is_opcode b = nat_le 64 b && nat_lt b 128

-- `valtype` of Binary.md: a primitive type, or the index of a type of values
unfoldable pub val_type : ℕ → List Entry → Bytes ValType
val_type end scope = by_next is_opcode (judged end (byte end) (λ b. primitive_from b (primitive_of b))) (judged end (s33 end) (λ i. value_from (slice_get scope i)))

-- a type of values that is there
abbrev pub present : ℕ → List Entry → Bytes (Option ValType)
present end scope = do
  t ← val_type end scope
  give (Some t)

-- `<valtype>?` of Binary.md: 0, or 1 and a type of values
unfoldable pub optional : ℕ → List Entry → Bytes (Option ValType)
optional end scope = do
  is_there ← flag end
  when is_there (present end scope) (give None)

-- a label that differs in more than case from these names
abbrev pub new_label : ℕ → List (List ℕ) → Bytes (List ℕ)
new_label end names = judged end (label end) (λ l. if has_name names l then Err NameTwice else Ok l)

-- one more field of a record or parameter of a function, behind those with these names
unfoldable pub field : ℕ → List Entry → List (List ℕ) × List Field → Bytes (List (List ℕ) × List Field)
field end scope before = do
  l ← new_label end before.0
  t ← val_type end scope
  give (with_name before.0 l, before.1 ++ record { label = l; ty = t } ∷ [])

-- so many fields or parameters, whose labels differ in more than case
abbrev pub fields : ℕ → List Entry → ℕ → Bytes (List Field)
fields end scope n = do
  all ← repeat n (field end scope) ([], [])
  give all.1

-- one more case of a variant, behind those with these names
unfoldable pub case : ℕ → List Entry → List (List ℕ) × List Case → Bytes (List (List ℕ) × List Case)
case end scope before = do
  l ← new_label end before.0
  t ← optional end scope
  close ← zero_byte end
  give (with_name before.0 l, before.1 ++ record { label = l; payload = t } ∷ [])

-- so many cases, whose labels differ in more than case
abbrev pub cases : ℕ → List Entry → ℕ → Bytes (List Case)
cases end scope n = do
  all ← repeat n (case end scope) ([], [])
  give all.1

-- one more label of flags or an enum, behind those with these names
unfoldable pub member_label : ℕ → List (List ℕ) × List (List ℕ) → Bytes (List (List ℕ) × List (List ℕ))
member_label end before = do
  l ← new_label end before.0
  give (with_name before.0 l, before.1 ++ l ∷ [])

-- so many labels that differ in more than case
abbrev pub labels : ℕ → ℕ → Bytes (List (List ℕ))
labels end n = do
  all ← repeat n (member_label end) ([], [])
  give all.1

-- one more member of a tuple
unfoldable pub member : ℕ → List Entry → List ValType → Bytes (List ValType)
member end scope before = do
  t ← val_type end scope
  give (before ++ t ∷ [])

-- a count that is not 0
abbrev pub some_of : ℕ → Result ℕ Fault
some_of n = if n == 0 then Err EmptyType else Ok n

-- a count that is not 0
abbrev pub some : ℕ → Bytes ℕ
some end = judged end (u32 end) some_of

-- how many labels flags may have
abbrev pub max_flags : ℕ
max_flags = 32

-- a count of flags: not 0, and within the limit
abbrev pub flag_count_of : ℕ → Result ℕ Fault
flag_count_of n = if n == 0 then Err EmptyType else (if nat_lt max_flags n then Err Limit else Ok n)

-- a record type behind its opcode
unfoldable pub record_kind : ℕ → List Entry → Bytes (Option TypeKind)
record_kind end scope = do
  n ← some end
  all ← fields end scope n
  give (Some (RecordOf all))

-- a variant type behind its opcode
unfoldable pub variant_kind : ℕ → List Entry → Bytes (Option TypeKind)
variant_kind end scope = do
  n ← some end
  all ← cases end scope n
  give (Some (VariantOf all))

-- a list type behind its opcode
unfoldable pub list_kind : ℕ → List Entry → Bytes (Option TypeKind)
list_kind end scope = do
  t ← val_type end scope
  give (Some (ListOf t))

-- a tuple type behind its opcode
unfoldable pub tuple_kind : ℕ → List Entry → Bytes (Option TypeKind)
tuple_kind end scope = do
  n ← some end
  all ← repeat n (member end scope) []
  give (Some (TupleOf all))

-- a flags type behind its opcode
unfoldable pub flags_kind : ℕ → Bytes (Option TypeKind)
flags_kind end = do
  n ← judged end (u32 end) flag_count_of
  all ← labels end n
  give (Some (FlagsOf all))

-- an enum type behind its opcode
unfoldable pub enum_kind : ℕ → Bytes (Option TypeKind)
enum_kind end = do
  n ← some end
  all ← labels end n
  give (Some (EnumOf all))

-- an option type behind its opcode
unfoldable pub option_kind : ℕ → List Entry → Bytes (Option TypeKind)
option_kind end scope = do
  t ← val_type end scope
  give (Some (OptionOf t))

-- a result type behind its opcode: the types of `ok` and `error`, each optional
unfoldable pub result_kind : ℕ → List Entry → Bytes (Option TypeKind)
result_kind end scope = do
  ok ← optional end scope
  error ← optional end scope
  give (Some (ResultOf ok error))

-- `defvaltype` of Binary.md behind its opcode; none for an opcode of another type, and for a primitive
unfoldable pub kind : ℕ → List Entry → Opcode → Bytes (Option TypeKind)
kind end scope op.Record = record_kind end scope
kind end scope op.Variant = variant_kind end scope
kind end scope op.List = list_kind end scope
kind end scope op.Tuple = tuple_kind end scope
kind end scope op.Flags = flags_kind end
kind end scope op.Enum = enum_kind end
kind end scope op.Option = option_kind end scope
kind end scope op.Result = result_kind end scope
kind end scope (op.Primitive p) = give None
kind end scope op.Function = give None
kind end scope op.Component = give None
kind end scope op.Instance = give None

-- ---- functions

-- the end of a `resultlist` without a type: 0 names
abbrev pub no_result_of : ℕ → Result (Option ValType) Fault
no_result_of n = if n == 0 then Ok None else Err (Outside NamedResults)

-- `resultlist` of Binary.md: 0 and a type of values, or 1 and 0
unfoldable pub outcome : ℕ → List Entry → Bytes (Option ValType)
outcome end scope = do
  is_list ← flag end
  when is_list (judged end (u32 end) no_result_of) (present end scope)

-- `functype` of Binary.md behind its opcode: its parameters and its result
unfoldable pub function : ℕ → List Entry → Bytes FunctionType
function end scope = do
  n ← u32 end
  params ← fields end scope n
  result ← outcome end scope
  give (record { params = params; outcome = result })
