-- Binary.md, the component types: type by type, as productions.
use Rattle.std.specs.Prelude.{◌≤◌, ℕ, zero, suc, ◌+◌, ◌-◌, List, [], ◌∷◌, ◌++◌, length, slice_index, Bool, true, false, ◌&&◌, ◌||◌, not, Option, Some, None, nat_le, nat_lt, ◌==◌, is_some, unwrap_or, if◌then◌else◌}
use Rattle.std.specs.Str.{is_utf8}
use Rattle.atoms.specs.Label.{is_label}
use Rattle.atoms.specs.Production.{give, never, ◌>>=◌, times, run, when}
use Rattle.ctype_format.specs.declared.error.Feature.TheVariants.{Float, Resource}
use Rattle.ctype_format.specs.declared.error.Fault.{Fault}
use Rattle.ctype_format.specs.declared.error.Fault.TheVariants.{UnknownOpcode, Unsupported, BadIndex, EmptyType, Limit, BadName}
use Rattle.ctype_format.specs.declared.raw.Primitive.{Primitive}
use Rattle.ctype_format.specs.declared.raw.Primitive.TheVariants as prim
use Rattle.ctype_format.specs.declared.raw.RawValType.{RawValType}
use Rattle.ctype_format.specs.declared.raw.RawValType.TheVariants as valtypes
use Rattle.ctype_format.specs.declared.raw.RawField.{RawField}
use Rattle.ctype_format.specs.declared.raw.RawCase.{RawCase}
use Rattle.ctype_format.specs.declared.raw.RawAlias.{RawAlias}
use Rattle.ctype_format.specs.declared.raw.RawAlias.TheVariants as aliases
use Rattle.ctype_format.specs.declared.raw.RawDescription.{RawDescription}
use Rattle.ctype_format.specs.declared.raw.RawDescription.TheVariants as descriptions
use Rattle.ctype_format.specs.declared.opcode.Opcode.{Opcode}
use Rattle.ctype_format.specs.declared.opcode.Opcode.TheVariants as op
use Rattle.ctype_format.specs.declared.scope.Scope.{Scope}
use Rattle.ctype_format.specs.Opcodes.{primitive_of, opcode_of}
use Rattle.ctype_format.specs.Names.{is_extern_name}
use Rattle.ctype_format.specs.Raw.{Prim, Record, Variant, ListOf, Tuple, FlagSet, Enumeration, OptionOf, ResultOf, Define, Func, Component, Instance, Decl, Entry, Alias, Import, Export, TypeEntry}
use Rattle.ctype_format.specs.View.{decls_of}
use Rattle.ctype_format.specs.Bytes.{Bytes, byte, several, only_bytes, unless, u32, s33, choose, ended}

-- an index in an index space of this count
abbrev pub index : ℕ → Bytes ℕ
index count = only_bytes u32 (λ i. unless (nat_lt i count) BadIndex)

-- a count that isn't 0
abbrev pub some : Bytes ℕ
some = only_bytes u32 (λ n. unless (nat_lt 0 n) EmptyType)

-- what is wrong with a count that may be neither 0 nor above the limit
abbrev pub count_fault : ℕ → ℕ → Option Fault
count_fault limit zero = Some EmptyType
count_fault limit (suc n) = unless (nat_lt n limit) Limit

-- a count that is neither 0 nor above the limit
abbrev pub some_upto : ℕ → Bytes ℕ
some_upto limit = only_bytes u32 (count_fault limit)

-- a byte that is 0
abbrev pub zero_byte : Bytes ℕ
zero_byte = only_bytes byte (λ b. unless (b == 0) (UnknownOpcode b))

-- a byte that is 0 or 1
abbrev pub flag_byte : Bytes ℕ
flag_byte = only_bytes byte (λ b. unless (b == 0 || b == 1) (UnknownOpcode b))

-- ---- names

-- a count of bytes and the bytes
abbrev pub name : Bytes (List ℕ)
name = do
  n ← u32
  several n

-- `label'` of Binary.md: a name that is a label
unfoldable pub label : Bytes (List ℕ)
label = only_bytes name (λ text. unless (is_label text) BadName)

-- a name that is UTF-8
unfoldable pub utf8 : Bytes (List ℕ)
utf8 = only_bytes name (λ text. unless (is_utf8 text) BadName)

-- the name of an import or an export: 0, and then a name that is a label or a full name
unfoldable pub extern_name : Bytes (List ℕ)
extern_name = do
  mark ← zero_byte
  only_bytes name (λ text. unless (is_extern_name text) BadName)

-- ---- value types

-- the byte is a negative number of one byte in signed LEB128, so no index of a type begins with it
abbrev pub is_opcode : ℕ → Bool
is_opcode b = nat_le 64 b && nat_lt b 128

-- what is wrong with a byte where a primitive may stand
abbrev pub valtype_fault : ℕ → Option Fault
valtype_fault b = if is_some (primitive_of b) then None else (if b == 0x76 || b == 0x75 then Some (Unsupported Float) else Some (UnknownOpcode b))

-- the primitive type of a byte that is one, else `bool`
abbrev pub primitive_at : ℕ → Primitive
primitive_at b = unwrap_or (primitive_of b) prim.Bool

-- `primvaltype` of Binary.md, of those that packages here may have
unfoldable pub primitive : Bytes RawValType
primitive = do
  b ← only_bytes byte valtype_fault
  give (valtypes.Primitive (primitive_at b))

-- a type index in signed LEB128 of 33 bits, below this count of types
unfoldable pub type_index : ℕ → Bytes RawValType
type_index types = do
  i ← only_bytes s33 (λ i. unless (nat_lt i types) BadIndex)
  give (valtypes.Index i)

-- `valtype` of Binary.md: a primitive type, or an index below this count of types
unfoldable pub valtype : ℕ → Bytes RawValType
valtype types = choose is_opcode primitive (type_index types)

-- a value type that is there
abbrev pub present : ℕ → Bytes (Option RawValType)
present types = do
  type ← valtype types
  give (Some type)

-- `<valtype>?` of Binary.md: 0, or 1 and a value type
unfoldable pub optional_valtype : ℕ → Bytes (Option RawValType)
optional_valtype types = do
  b ← flag_byte
  when (b == 0) (give None) (present types)

-- `labelvaltype` of Binary.md: a field of a record or a parameter
unfoldable pub field : ℕ → Bytes RawField
field types = do
  text ← label
  type ← valtype types
  give (record { label = text; ty = type })

-- `case` of Binary.md: a label, perhaps a payload, and 0
unfoldable pub case : ℕ → Bytes RawCase
case types = do
  text ← label
  payload ← optional_valtype types
  close ← zero_byte
  give (record { label = text; payload = payload })

-- ---- types without scopes of their own, behind their opcodes

-- how many cases a variant or an enum may have
abbrev pub max_cases : ℕ
max_cases = 100000

-- how many flags a type may have
abbrev pub max_flags : ℕ
max_flags = 32

-- a record type after its opcode 0x72, with one field at least
unfoldable pub record_type : ℕ → Bytes TypeEntry
record_type types = do
  n ← some
  fields ← times n (field types)
  give (Define (Record fields))

-- a variant type after its opcode 0x71, with one case at least
unfoldable pub variant_type : ℕ → Bytes TypeEntry
variant_type types = do
  n ← some_upto max_cases
  cases ← times n (case types)
  give (Define (Variant cases))

-- a list type after its opcode 0x70
unfoldable pub list_type : ℕ → Bytes TypeEntry
list_type types = do
  element ← valtype types
  give (Define (ListOf element))

-- a tuple type after its opcode 0x6f, with one member at least
unfoldable pub tuple_type : ℕ → Bytes TypeEntry
tuple_type types = do
  n ← some
  members ← times n (valtype types)
  give (Define (Tuple members))

-- a flags type after its opcode 0x6e, with one label at least
unfoldable pub flags_type : Bytes TypeEntry
flags_type = do
  n ← some_upto max_flags
  labels ← times n label
  give (Define (FlagSet labels))

-- an enum type after its opcode 0x6d, with one label at least
unfoldable pub enum_type : Bytes TypeEntry
enum_type = do
  n ← some_upto max_cases
  labels ← times n label
  give (Define (Enumeration labels))

-- an option type after its opcode 0x6b
unfoldable pub option_type : ℕ → Bytes TypeEntry
option_type types = do
  some ← valtype types
  give (Define (OptionOf some))

-- a result type after its opcode 0x6a: the types of `ok` and `error`, each optional
unfoldable pub result_entry : ℕ → Bytes TypeEntry
result_entry types = do
  ok ← optional_valtype types
  error ← optional_valtype types
  give (Define (ResultOf ok error))

-- the rest of a `resultlist` without a type: 0
abbrev pub absent : Bytes (Option RawValType)
absent = do
  close ← zero_byte
  give None

-- `resultlist` of Binary.md: 0 and a value type, or 1 and 0
unfoldable pub outcome : ℕ → Bytes (Option RawValType)
outcome types = do
  b ← flag_byte
  when (b == 0) (present types) absent

-- a function type after its opcode 0x40: its parameters and its result
unfoldable pub function_entry : ℕ → Bytes TypeEntry
function_entry types = do
  n ← u32
  params ← times n (field types)
  result ← outcome types
  give (Func (record { params = params; outcome = result }))

-- a type without declarations, after this opcode; indices are below this count of types
unfoldable pub plain_entry : ℕ → Opcode → Bytes TypeEntry
plain_entry types (op.Primitive p) = give (Define (Prim p))
plain_entry types op.Record = record_type types
plain_entry types op.Variant = variant_type types
plain_entry types op.List = list_type types
plain_entry types op.Tuple = tuple_type types
plain_entry types op.Flags = flags_type
plain_entry types op.Enum = enum_type
plain_entry types op.Option = option_type types
plain_entry types op.Result = result_entry types
plain_entry types op.Function = function_entry types
plain_entry types op.Component = never ended
plain_entry types op.Instance = never ended

-- ---- scopes

-- how many type entries all scopes of a component may have: all that takes a type index
abbrev pub max_entries : ℕ
max_entries = 65535

-- the scope has at most as many type entries as all scopes, and these have at most as many as are allowed
abbrev pub IsScopeWithin : Scope → Type 0
IsScopeWithin scope = (scope.types ≤ scope.entries) × (scope.entries ≤ max_entries)

-- all scopes together have as many type entries as they may
abbrev pub is_full : ℕ → Bool
is_full entries = nat_le max_entries entries

-- the scope with one more type index
abbrev pub with_type : Scope → Scope
with_type scope = record { types = scope.types + 1; instances = scope.instances; entries = scope.entries + 1 }

-- the scope with one more instance index
abbrev pub with_instance : Scope → Scope
with_instance scope = record { types = scope.types; instances = scope.instances + 1; entries = scope.entries }

-- the scope with one more type index, if all scopes have so many type entries after it
abbrev pub with_entries : Scope → ℕ → Scope
with_entries scope entries = record { types = scope.types + 1; instances = scope.instances; entries = entries }

-- a scope without types and instances, if all scopes have so many type entries
abbrev pub new_scope : ℕ → Scope
new_scope entries = record { types = 0; instances = 0; entries = entries }

-- the opcode begins a component type or an instance type
abbrev pub is_nested : Opcode → Bool
is_nested op.Component = true
is_nested op.Instance = true
is_nested _ = false

-- what is wrong with a byte that begins no type
abbrev pub left_out : ℕ → Fault
left_out b = if b == 0x76 || b == 0x75 then Unsupported Float else (if b == 0x69 || b == 0x68 then Unsupported Resource else UnknownOpcode b)

-- what is wrong with the first byte of a type: it is no opcode, or a limit of nesting or of type entries is met
abbrev pub opcode_fault : ℕ → ℕ → ℕ → Option Opcode → Option Fault
opcode_fault depth entries b None = Some (left_out b)
opcode_fault depth entries b (Some o) = unless (not (is_full entries || (is_nested o && depth == 0))) Limit

-- the opcode of a byte that is one, else that of a record
abbrev pub opcode_at : ℕ → Opcode
opcode_at b = unwrap_or (opcode_of b) op.Record

-- the first byte of a type, if depth more scopes may be nested here and all scopes have so many type entries
unfoldable pub opcode : ℕ → ℕ → Bytes Opcode
opcode depth entries = do
  b ← only_bytes byte (λ b. opcode_fault depth entries b (opcode_of b))
  give (opcode_at b)

-- ---- aliases, around being the counts of types of the scopes around, the innermost last

-- the count of types in the scope that is n scopes outward; 0 is the scope itself
abbrev pub types_at : List ℕ → ℕ → ℕ → ℕ
types_at around types zero = types
types_at around types (suc n) = slice_index around (length around - suc n)

-- the target of an alias after its byte 0: an instance of the scope and the name of a type that it exports
unfoldable pub instance_alias : Scope → Bytes RawAlias
instance_alias scope = do
  i ← index scope.instances
  text ← label
  give (aliases.InstanceExport i text)

-- the target of an outer alias after its byte 2: a count of scopes outward, and a type's index there
unfoldable pub outer_type : List ℕ → Scope → Bytes RawAlias
outer_type around scope = do
  n ← only_bytes u32 (λ n. unless (nat_le n (length around)) BadIndex)
  i ← index (types_at around scope.types n)
  give (aliases.Outer n i)

-- what is wrong with the byte that begins a type entry, if it is allowed there (true) or not (false)
abbrev pub opcode_entry_fault : ℕ → Bool → ℕ → Option Fault
opcode_entry_fault entries false b = Some (UnknownOpcode b)
opcode_entry_fault entries true b = unless (not (is_full entries)) Limit

-- an `alias` of a type (sort 3), after the byte of the declaration, and the scope with its type
unfoldable pub alias_entry : List ℕ → Scope → Bytes (Decl × Scope)
alias_entry around scope = do
  sort ← only_bytes byte (λ b. opcode_entry_fault scope.entries (b == 3) b)
  target ← only_bytes byte (λ b. unless (b == 0 || b == 2) (UnknownOpcode b))
  a ← when (target == 0) (instance_alias scope) (outer_type around scope)
  give (Alias a, with_type scope)

-- ---- imports and exports

-- `typebound` of Binary.md, of the form `eq i`: a type that is equal to the one at i, and the scope with it
abbrev pub equal_type : Scope → Bytes (RawDescription × Scope)
equal_type scope = do
  mark ← zero_byte
  i ← index scope.types
  give (descriptions.TypeEqual i, with_type scope)

-- what an import or an export of this sort and this type index is, and the scope with it
abbrev pub described : Scope → ℕ → ℕ → RawDescription × Scope
described scope sort i = if sort == 1 then (descriptions.Function i, scope) else (if sort == 4 then (descriptions.Component i, scope) else (descriptions.Instance i, with_instance scope))

-- the type index of an import or an export of this sort: of a function, a component or an instance type
abbrev pub indexed : Scope → ℕ → Bytes (RawDescription × Scope)
indexed scope sort = do
  i ← index scope.types
  give (described scope sort i)

-- what is wrong with the sort of an import or an export
abbrev pub description_fault : ℕ → ℕ → Option Fault
description_fault entries b = if b == 3 then opcode_entry_fault entries true b else unless (b == 1 || (b == 4 || b == 5)) (UnknownOpcode b)

-- `externdesc` of Binary.md of a function, a type, a component or an instance, and the scope with it
unfoldable pub description : Scope → Bytes (RawDescription × Scope)
description scope = do
  sort ← only_bytes byte (description_fault scope.entries)
  when (sort == 3) (equal_type scope) (indexed scope sort)

-- an import (3) or an export (4) of a component type or an instance type: its name, and what it is
unfoldable pub external : Scope → ℕ → Bytes (Decl × Scope)
external scope sort = do
  text ← extern_name
  d ← description scope
  give (if sort == 3 then Import text d.0 else Export text d.0, d.1)

-- ---- declarations and types, where type reads a type in a scope with those around it, and the entries after it

-- how a type is read, with the counts of types in the scopes around, the innermost last, and its own scope; and the
-- type entries of all scopes after it
abbrev pub Reader : Type 1
Reader = List ℕ → Scope → Bytes (TypeEntry × ℕ)

-- a declaration of a type after its byte 1, and the scope with it
abbrev pub definition_entry : Reader → List ℕ → Scope → Bytes (Decl × Scope)
definition_entry type around scope = do
  t ← type around scope
  give (Entry t.0, with_entries scope t.1)

-- the byte of a declaration: a type (1), an alias (2), an export (4), and in component types an import (3)
abbrev pub is_decl : Bool → ℕ → Bool
is_decl component b = b == 1 || (b == 2 || (b == 4 || (component && b == 3)))

-- `componentdecl` (true) or `instancedecl` (false) of Binary.md, and the scope with it
unfoldable pub decl : Reader → Bool → List ℕ → Scope → Bytes (Decl × Scope)
decl type component around scope = do
  sort ← only_bytes byte (λ b. unless (is_decl component b) (UnknownOpcode b))
  when (sort == 1) (definition_entry type around scope) (when (sort == 2) (alias_entry around scope) (external scope sort))

-- the component type or the instance type of these declarations
abbrev pub nested : Opcode → List Decl → TypeEntry
nested op.Component ds = Component (decls_of ds)
nested _ ds = Instance (decls_of ds)

-- the opcode begins a component type
abbrev pub is_component : Opcode → Bool
is_component op.Component = true
is_component _ = false

-- a component type or an instance type after its opcode: its declarations in a new scope, and the type entries after it
unfoldable pub scope_of : Reader → Opcode → List ℕ → ℕ → Bytes (TypeEntry × ℕ)
scope_of type o around entries = do
  n ← u32
  ds ← run (decl type (is_component o) around) n (new_scope entries)
  give (nested o ds.0, ds.1.entries)

-- a type without declarations in this scope, and the type entries of all scopes after it
abbrev pub plain_type : Scope → Opcode → Bytes (TypeEntry × ℕ)
plain_type scope o = do
  t ← plain_entry scope.types o
  give (t, scope.entries + 1)

-- `deftype` of Binary.md, and the type entries of all scopes after it, if depth more scopes may be nested here
unfoldable pub type : ℕ → Reader
type zero around scope = do
  o ← opcode 0 scope.entries
  plain_type scope o
type (suc depth) around scope = do
  o ← opcode (suc depth) scope.entries
  when (is_nested o) (scope_of (type depth) o (around ++ scope.types ∷ []) (scope.entries + 1)) (plain_type scope o)
