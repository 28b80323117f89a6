-- Binary.md: the declarations of component types and instance types, each of which may give a type or an instance the next index.
use Rattle.std.specs.Prelude.{ℕ, zero, suc, ◌+◌, ◌-◌, ◌==◌, ◌||◌, ◌&&◌, List, [], ◌∷◌, ◌++◌, length, map, Option, Some, None, is_some, Result, Ok, Err, Bool, false, slice_get, nat_le, min, if◌then◌else◌}
use Rattle.std.specs.Ordering.{is_eq, nat_cmp}
use Rattle.std.specs.Cmp.Lexicographic.{slice_cmp}
use Rattle.std.specs.Map.{lookup}
use Rattle.atoms.specs.Production.{give, never, ◌>>=◌, when, by_option}
use Rattle.ctype_format.specs.Opcodes.{opcode_of}
use Rattle.ctype_format.specs.Grammar.{is_nested, is_component, max_entries}
use Rattle.ctype_format.specs.declared.opcode.Opcode.{Opcode}
use Rattle.ctype_format.specs.declared.opcode.Opcode.TheVariants as op
use Rattle.tables.specs.declared.tables.Direction.{Direction}
use Rattle.tables.specs.declared.tables.Direction.TheVariants.{Import, Export}
use Rattle.component_structure.specs.declared.error.Feature.TheVariants.{Resource, CoreType, CoreModule, Value}
use Rattle.component_structure.specs.declared.error.Fault.{Fault}
use Rattle.component_structure.specs.declared.error.Fault.TheVariants.{UnknownByte, Outside, NotLabel, NameTwice, Limit, BadIndex, NoSuchType, WrongSort}
use Rattle.component_structure.specs.declared.error.DecodeError.{DecodeError}
use Rattle.component_structure.specs.declared.error.DecodeError.TheVariants as errors
use Rattle.component_structure.specs.declared.structure.ScopeId.{ScopeId}
use Rattle.component_structure.specs.declared.structure.FunctionId.{FunctionId}
use Rattle.component_structure.specs.declared.structure.InstanceId.{InstanceId}
use Rattle.component_structure.specs.declared.structure.ValType.{ValType}
use Rattle.component_structure.specs.declared.structure.ValType.TheVariants as types
use Rattle.component_structure.specs.declared.structure.Entry.{Entry}
use Rattle.component_structure.specs.declared.structure.Entry.TheVariants as entries
use Rattle.component_decoding.specs.declared.declarations.Around.{Around}
use Rattle.component_decoding.specs.declared.declarations.Decoder.{Decoder}
use Rattle.component_structure.specs.Bytes.{repeat, Bytes, Name, Plain, Full, name_text, judged, here, granted, byte, u32, label, extern_name}
use Rattle.component_structure.specs.Names.{has_name}
use Rattle.component_structure.specs.Parts.{ScopePart, Parts, structure_view, new_scope, no_parts, names_of, with_noted, with_exported, TypeKind, FunctionType, Item, AType, AFunction, AComponent, AnInstance, InstancePart}
use Rattle.component_structure.specs.Types.{type_fault, kind, function}

-- what was read of a file, how many scopes began, and how many type indices all scopes have
pub record Reading : Type 0 where
  pub parts : Parts
  pub begun : ℕ
  pub indices : ℕ

-- what was read so far in the crate
abbrev pub decoder_view : Decoder → Reading
decoder_view d = record { parts = structure_view d.structure; begun = d.scopes; indices = d.types }

-- nothing was read
abbrev pub nothing_read : Reading
nothing_read = record { parts = no_parts; begun = 0; indices = 0 }

-- one more scope began
abbrev pub with_begun : Reading → Reading
with_begun s = record s { begun = min (s.begun + 1) 18446744073709551615 }

-- the scope with this type at its next type index
abbrev pub with_entry : ScopePart → Entry → ScopePart
with_entry scope entry = record scope { types = scope.types ++ entry ∷ [] }

-- the type at this offset gets the scope's next type index, if all scopes together have not too many
abbrev pub pushed : ℕ → Entry → ScopePart × Reading → Result (ScopePart × Reading) DecodeError
pushed place entry s = if nat_le max_entries s.1.indices then Err (errors.At Limit place) else Ok (with_entry s.0 entry, record s.1 { indices = s.1.indices + 1 })

-- ---- types without declarations

-- the next function's type
abbrev pub with_function : Reading → FunctionType → Reading
with_function s f = record s { parts = record s.parts { functions = s.parts.functions ++ f ∷ [] } }

-- the next definition, in the scope of this number
abbrev pub with_definition : ℕ → Reading → TypeKind → Reading
with_definition number s k = record s { parts = record s.parts { definitions = s.parts.definitions ++ record { scope = number; kind = k } ∷ [] } }

-- a function type behind its opcode, which is the next function's type
abbrev pub function_entry : ℕ → ScopePart → Reading → Bytes (Entry × Reading)
function_entry end own s = do
  f ← function end own.types
  give (entries.Function (record { 0 = length s.parts.functions }), with_function s f)

-- the entry of a definition of this kind, which is the next one
abbrev pub defined_entry : ScopePart → Reading → TypeKind → Entry × Reading
defined_entry own s k = (entries.Value (types.Defined (record { 0 = length s.parts.definitions })), with_definition own.number s k)

-- a type of values or of functions behind its opcode
abbrev pub kind_entry : ℕ → ScopePart → Reading → Opcode → Bytes (Entry × Reading)
kind_entry end own s o = do
  k ← kind end own.types o
  by_option k (function_entry end own s) (λ k. give (defined_entry own s k))

-- a type without declarations behind its opcode
unfoldable pub plain_type : ℕ → ScopePart → Reading → Opcode → Bytes (Entry × Reading)
plain_type end own s (op.Primitive p) = give (entries.Value (types.Primitive p), s)
plain_type end own s o = kind_entry end own s o

-- ---- aliases

-- the bytes that have to be 3, the sort of a type
abbrev pub sort_of : ℕ → Result ℕ Fault
sort_of b = if b == 3 then Ok b else Err (UnknownByte b)

-- the target of an alias: what an instance exports (0), or what stands in a scope around (2)
abbrev pub target_of : ℕ → Result ℕ Fault
target_of b = if b == 0 || b == 2 then Ok b else Err (UnknownByte b)

-- the types of the scope that so many scopes stand inside of; 0 is the own one
abbrev pub outward : List (List Entry) → List Entry → ℕ → Option (List Entry)
outward around own n = if n == 0 then Some own else (if nat_le n (length around) then slice_get around (length around - n) else None)

-- the type at an index, if there are types
abbrev pub entry_in : Option (List Entry) → ℕ → Option Entry
entry_in None i = None
entry_in (Some entries) i = slice_get entries i

-- the types of the scopes around, in the code
abbrev pub around_view : Around → List (List Entry)
around_view around = map (λ scope. scope.now.types.items) around.scopes.now

-- the entry at an index, or what is wrong with the index
abbrev pub entry_from : Option Entry → Result Entry Fault
entry_from None = Err BadIndex
entry_from (Some e) = Ok e

-- a count of scopes and an index
abbrev pub count_and_index : ℕ → Bytes (ℕ × ℕ)
count_and_index end = do
  n ← u32 end
  i ← u32 end
  give (n, i)

-- an alias of a type in a scope around
unfoldable pub outer_alias : ℕ → List (List Entry) → List Entry → Bytes Entry
outer_alias end around own = judged end (count_and_index end) (λ x. entry_from (entry_in (outward around own x.0) x.1))

-- the instance at an index, or what is wrong with the index
abbrev pub instance_from : Option InstanceId → Result InstanceId Fault
instance_from None = Err BadIndex
instance_from (Some i) = Ok i

-- the scope exports a type of this name
abbrev pub has_export : Option ScopePart → List ℕ → Bool
has_export None name = false
has_export (Some scope) name = is_some (lookup (λ key. is_eq (slice_cmp nat_cmp name key)) scope.exported_types)

-- the instance's type exports a type of this name
abbrev pub type_has_export : List ScopePart → Option InstancePart → List ℕ → Bool
type_has_export scopes None name = false
type_has_export scopes (Some i) name = has_export (slice_get scopes i.scope.0) name

-- the instance exports a type of this name
abbrev pub exports_type : Parts → InstanceId → List ℕ → Bool
exports_type parts i name = type_has_export parts.scopes (slice_get parts.instances i.0) name

-- the name, if the instance exports a type of it
abbrev pub export_of : Parts → InstanceId → List ℕ → Result (List ℕ) Fault
export_of parts i name = if exports_type parts i name then Ok name else Err NoSuchType

-- the next type that an instance exports under a name
abbrev pub with_used : Reading → InstanceId → List ℕ → Reading
with_used s i name = record s { parts = record s.parts { used = s.parts.used ++ record { instance = i; name = name } ∷ [] } }

-- an alias of a type that an instance of the scope exports
unfoldable pub instance_alias : ℕ → ScopePart → Reading → Bytes (Entry × Reading)
instance_alias end own s = do
  i ← judged end (u32 end) (λ i. instance_from (slice_get own.instances i))
  name ← judged end (label end) (export_of s.parts i)
  give (entries.Value (types.Used (record { 0 = length s.parts.used })), with_used s i name)

-- an alias of a type, after the byte of the declaration
unfoldable pub alias : ℕ → List (List Entry) → ScopePart → Reading → Bytes (Entry × Reading)
alias end around own s = do
  sort ← judged end (byte end) sort_of
  target ← judged end (byte end) target_of
  when (target == 0) (instance_alias end own s) (outer_alias end around own.types >>= λ e. give (e, s))

-- ---- imports and exports

-- the scope with the name at this offset, if it differs in more than case from those before
abbrev pub noted : ℕ → Direction → List ℕ → ScopePart → Result ScopePart DecodeError
noted place direction text scope = if has_name (names_of direction scope) text then Err (errors.At NameTwice place) else Ok (with_noted direction scope text)

-- the label that the name at this offset has to be
abbrev pub label_at : ℕ → Name → Result (List ℕ) DecodeError
label_at place (Plain l) = Ok l
label_at place (Full text) = Err (errors.At NotLabel place)

-- the index of a type, and the entry that it stands for
abbrev pub entry_at : ℕ → List Entry → Bytes Entry
entry_at end scope = judged end (u32 end) (λ i. entry_from (slice_get scope i))

-- the function's type that the index at this offset stands for
abbrev pub function_at : ℕ → Entry → Result FunctionId DecodeError
function_at place (entries.Function f) = Ok f
function_at place (entries.Value t) = Err (errors.At WrongSort place)
function_at place (entries.Component s) = Err (errors.At WrongSort place)
function_at place (entries.Instance s) = Err (errors.At WrongSort place)

-- the component type that the index at this offset stands for
abbrev pub component_at : ℕ → Entry → Result ScopeId DecodeError
component_at place (entries.Component s) = Ok s
component_at place (entries.Value t) = Err (errors.At WrongSort place)
component_at place (entries.Function f) = Err (errors.At WrongSort place)
component_at place (entries.Instance s) = Err (errors.At WrongSort place)

-- the instance type that the entry is; the fault is told at this offset
abbrev pub instance_at : ℕ → Entry → Result ScopeId DecodeError
instance_at place (entries.Instance s) = Ok s
instance_at place (entries.Value t) = Err (errors.At WrongSort place)
instance_at place (entries.Function f) = Err (errors.At WrongSort place)
instance_at place (entries.Component s) = Err (errors.At WrongSort place)

-- the type of values that the entry is; the fault is told at this offset
abbrev pub value_at : ℕ → Entry → Result ValType DecodeError
value_at place (entries.Value t) = Ok t
value_at place (entries.Function f) = Err (errors.At WrongSort place)
value_at place (entries.Component s) = Err (errors.At WrongSort place)
value_at place (entries.Instance s) = Err (errors.At WrongSort place)

-- what an import or an export is, and what was read with it
abbrev pub Described : Type 0
Described = Item × (ScopePart × Reading)

-- a function of the type at an index, under the name at this offset
unfoldable pub function_item : ℕ → ℕ → Name → ScopePart × Reading → Bytes Described
function_item end place name s = do
  index ← here end
  e ← entry_at end s.0.types
  f ← granted (function_at index e)
  l ← granted (label_at place name)
  give (AFunction l f, s)

-- a component of the type at an index
unfoldable pub component_item : ℕ → Name → ScopePart × Reading → Bytes Described
component_item end name s = do
  index ← here end
  e ← entry_at end s.0.types
  c ← granted (component_at index e)
  give (AComponent name c, s)

-- the scope and what was read with the next instance, which gets the scope's next instance index
abbrev pub with_instance : Direction → Name → ScopeId → ScopePart × Reading → ScopePart × Reading
with_instance direction name scope s = (
  record s.0 { instances = s.0.instances ++ record { 0 = length s.1.parts.instances } ∷ [] },
  record s.1 { parts = record s.1.parts { instances = s.1.parts.instances ++ record { direction = direction; name = name; scope = scope } ∷ [] } },
)

-- an instance of the type at an index, under the name at this offset
unfoldable pub instance_item : ℕ → ℕ → Direction → Name → ScopePart × Reading → Bytes Described
instance_item end place direction name s = do
  e ← entry_at end s.0.types
  i ← granted (instance_at place e)
  give (AnInstance (record { 0 = length s.1.parts.instances }), with_instance direction name i s)

-- the next type with a name, which is equal to this one
abbrev pub with_named : Direction → List ℕ → ValType → ScopePart × Reading → ScopePart × Reading
with_named direction l t s = (
  with_exported direction s.0 l (record { 0 = length s.1.parts.named }),
  record s.1 { parts = record s.1.parts { named = s.1.parts.named ++ record { scope = s.0.number; name = l; target = t } ∷ [] } },
)

-- `typebound` of Binary.md: 0 before a type that is equal to another one
abbrev pub bound_of : ℕ → Result ℕ Fault
bound_of b = if b == 0 then Ok b else (if b == 1 then Err (Outside Resource) else Err (UnknownByte b))

-- a type that is equal to the one at an index, under the name at this offset; it gets the scope's next type index. An entry of
-- another sort is told at the byte before the index
unfoldable pub type_item : ℕ → ℕ → Direction → Name → ScopePart × Reading → Bytes Described
type_item end place direction name s = do
  bound_place ← here end
  bound ← judged end (byte end) bound_of
  index ← here end
  e ← entry_at end s.0.types
  t ← granted (value_at bound_place e)
  l ← granted (label_at place name)
  next ← granted (pushed index (entries.Value (types.Named (record { 0 = length s.1.parts.named }))) (with_named direction l t s))
  give (AType (record { 0 = length s.1.parts.named }), next)

-- the sort of an import or an export: a function (1), a type (3), a component (4), or an instance (5)
abbrev pub item_sort_of : ℕ → Result ℕ Fault
item_sort_of b = if b == 0 then Err (Outside CoreModule) else (if b == 2 then Err (Outside Value) else (if b == 1 || (b == 3 || (b == 4 || b == 5)) then Ok b else Err (UnknownByte b)))

-- `externdesc` of Binary.md: what an import or an export under the name at this offset is
unfoldable pub described : ℕ → ℕ → Direction → Name → ScopePart × Reading → Bytes Described
described end place direction name s = do
  sort ← judged end (byte end) item_sort_of
  when (sort == 1) (function_item end place name s) (when (sort == 3) (type_item end place direction name s) (when (sort == 4) (component_item end name s) (instance_item end place direction name s)))

-- the scope with one more import or export
abbrev pub with_extern : ℕ → Direction → Described → ScopePart × Reading
with_extern place direction d = (record d.1.0 { externs = d.1.0.externs ++ record { place = place; direction = direction; item = d.0 } ∷ [] }, d.1.1)

-- an import or an export after the byte of the declaration
unfoldable pub external : ℕ → Direction → ScopePart × Reading → Bytes (ScopePart × Reading)
external end direction s = do
  place ← here end
  name ← extern_name end
  scope ← granted (noted place direction (name_text name) s.0)
  d ← described end place direction name (scope, s.1)
  give (with_extern place direction d)

-- ---- declarations, where type reads a type in a scope with those around it

-- how a type is read: the types of the scopes around, the innermost last, the own scope, and what was read before
abbrev pub TypeReader : Type 1
TypeReader = ℕ → List (List Entry) → ScopePart → Reading → Bytes (Entry × Reading)

-- a type after the byte of its declaration at this offset, which gets the scope's next type index
abbrev pub typed : TypeReader → ℕ → List (List Entry) → ℕ → ScopePart × Reading → Bytes (ScopePart × Reading)
typed type end around place s = do
  t ← type end around s.0 s.1
  granted (pushed place t.0 (s.0, t.1))

-- what is wrong with the first byte of a declaration
abbrev pub declaration_fault : ℕ → Fault
declaration_fault b = if b == 0 then Outside CoreType else UnknownByte b

-- the declaration that begins with this byte at this offset: a type (1), an alias (2), an export (4), and in component types an import (3)
abbrev pub declared : TypeReader → Bool → ℕ → List (List Entry) → ScopePart × Reading → ℕ → ℕ → Bytes (ScopePart × Reading)
declared type component end around s place b =
    when (b == 1) (typed type end around place s)
    (when (b == 2) (typed alias end around place s)
    (when (b == 4) (external end Export s)
    (when (component && b == 3) (external end Import s)
    (never (λ bytes. errors.At (declaration_fault b) place)))))

-- `componentdecl` (true) or `instancedecl` (false) of Binary.md
unfoldable pub declaration : TypeReader → Bool → ℕ → List (List Entry) → ScopePart × Reading → Bytes (ScopePart × Reading)
declaration type component end around s = do
  place ← here end
  b ← byte end
  declared type component end around s place b

-- the entry of the scope that ended, which is the next one
abbrev pub scope_entry : Opcode → ℕ → Entry
scope_entry op.Component n = entries.Component (record { 0 = n })
scope_entry _ n = entries.Instance (record { 0 = n })

-- what was read, with a scope that ended
abbrev pub with_scope : ScopePart × Reading → Reading
with_scope s = record s.1 { parts = record s.1.parts { scopes = s.1.parts.scopes ++ s.0 ∷ [] } }

-- a component type or an instance type behind its opcode: its declarations, in a scope that begins
unfoldable pub nested_type : TypeReader → Opcode → ℕ → List (List Entry) → Reading → Bytes (Entry × Reading)
nested_type type o end around s = do
  n ← u32 end
  last ← repeat n (declaration type (is_component o) end around) (new_scope s.begun, with_begun s)
  give (scope_entry o (length last.1.parts.scopes), with_scope last)

-- the opcode of a type, if so many more scopes may stand here
abbrev pub opcode_from : ℕ → ℕ → Option Opcode → Result Opcode Fault
opcode_from depth b None = Err (type_fault b)
opcode_from depth b (Some o) = if is_nested o && depth == 0 then Err Limit else Ok o

-- the first byte of a type, if so many more scopes may stand here
unfoldable pub opcode : ℕ → ℕ → Bytes Opcode
opcode depth end = judged end (byte end) (λ b. opcode_from depth b (opcode_of b))

-- `deftype` of Binary.md, if so many more scopes may stand here
unfoldable pub type : ℕ → TypeReader
type zero end around own s = do
  o ← opcode 0 end
  plain_type end own s o
type (suc depth) end around own s = do
  o ← opcode (suc depth) end
  when (is_nested o) (nested_type (type depth) o end (around ++ own.types ∷ []) s) (plain_type end own s o)
