-- Types with indices as types of the table, over the row of each type index: none where an index has no row.
use Rattle.std.specs.Prelude.{◌≡◌, ◌⊎◌, ℕ, List, [], ◌∷◌, slice_get, Option, None, Some, Result, Ok, Err}
use Rattle.std.specs.Option.{option_map}
use Rattle.ctype_format.specs.Raw.{Defined, Prim, Record, Variant, ListOf, Tuple, FlagSet, Enumeration, OptionOf, ResultOf}
use Rattle.ctype_format.specs.declared.raw.Primitive.{Primitive as RawPrimitive}
use Rattle.ctype_format.specs.declared.raw.Primitive.TheVariants as raw
use Rattle.ctype_format.specs.declared.raw.RawValType.{RawValType}
use Rattle.ctype_format.specs.declared.raw.RawValType.TheVariants as valtype
use Rattle.ctype_format.specs.declared.raw.RawField.{RawField}
use Rattle.ctype_format.specs.declared.raw.RawCase.{RawCase}
use Rattle.tables.specs.declared.tables.Primitive.TheVariants as primitive
use Rattle.tables.specs.declared.tables.TypeId.{TypeId}
use Rattle.tables.specs.declared.tables.ValType.{ValType}
use Rattle.tables.specs.declared.tables.ValType.TheVariants as val
use Rattle.tables.specs.declared.tables.TypeDefKind.{TypeDefKind}
use Rattle.tables.specs.declared.tables.TypeDefKind.TheVariants as kind
use Rattle.tables.specs.declared.tables.Parameter.{Parameter}
use Rattle.tables.specs.declared.tables.Field.{Field}
use Rattle.tables.specs.declared.tables.Case.{Case}
use Rattle.component_reader.specs.declared.unread.Unread.{Unread}
use Rattle.component_reader.specs.declared.unread.Unread.TheVariants as unread

-- there was no memory, or what should be read isn't there
abbrev pub IsUnread : {A : Type 0} → Unread → Option A → Type 0
IsUnread e found = (e ≡ unread.NoMemory) ⊎ ((e ≡ unread.NotThisShape) × (found ≡ None))

-- what was read is this; where it is none, the component isn't of a package's shape
abbrev pub ReadsFound : {A : Type 0} → Option A → Result A Unread → Type 0
ReadsFound found (Ok x) = found ≡ Some x
ReadsFound found (Err e) = IsUnread e found

-- what was read is seen as this; if it is none, the component isn't of a package's shape
abbrev pub ReadsAs : {A B : Type 0} → (B → A) → Option A → Result B Unread → Type 0
ReadsAs view found (Ok x) = found ≡ Some (view x)
ReadsAs view found (Err e) = IsUnread e found

-- what was read has become this; if it is none, the component isn't of a package's shape
abbrev pub Becomes : {A B : Type 0} → Option A → A → Result B Unread → Type 0
Becomes found new (Ok x) = found ≡ Some new
Becomes found new (Err e) = IsUnread e found

-- ---- options

-- the entry of a list of optional entries, if the place has one
abbrev pub found_in : {A : Type 0} → Option (Option A) → Option A
found_in None = None
found_in (Some x) = x

-- f of both, if both were found
abbrev pub both_found : {A B C : Type 0} → (A → B → C) → Option A → Option B → Option C
both_found f None y = None
both_found f (Some x) None = None
both_found f (Some x) (Some y) = Some (f x y)

-- all of these, or none
abbrev pub all_found : {A B : Type 0} → (A → Option B) → List A → Option (List B)
all_found f [] = Some []
all_found f (x ∷ xs) = both_found (λ y ys. y ∷ ys) (f x) (all_found f xs)

-- ---- types

-- a primitive type or `string` as a value type of a table
abbrev pub primitive_type : RawPrimitive → ValType
primitive_type raw.Bool = val.Primitive primitive.Bool
primitive_type raw.S8 = val.Primitive primitive.S8
primitive_type raw.U8 = val.Primitive primitive.U8
primitive_type raw.S16 = val.Primitive primitive.S16
primitive_type raw.U16 = val.Primitive primitive.U16
primitive_type raw.S32 = val.Primitive primitive.S32
primitive_type raw.U32 = val.Primitive primitive.U32
primitive_type raw.S64 = val.Primitive primitive.S64
primitive_type raw.U64 = val.Primitive primitive.U64
primitive_type raw.Char = val.Primitive primitive.Char
primitive_type raw.String = val.String

-- the row of a type index; none if the scope has no such index or it is that of no row
abbrev pub row_at : List (Option TypeId) → ℕ → Option TypeId
row_at rows index = found_in (slice_get rows index)

-- a value type of the binary as one of a table, if its index has a row
abbrev pub val_type : List (Option TypeId) → RawValType → Option ValType
val_type rows (valtype.Primitive p) = Some (primitive_type p)
val_type rows (valtype.Index i) = option_map val.Id (row_at rows i)

-- the type of a payload or a result as one of a table; none if its index has no row
abbrev pub optional_type : List (Option TypeId) → Option RawValType → Option (Option ValType)
optional_type rows None = Some None
optional_type rows (Some t) = option_map Some (val_type rows t)

-- a field of this label and type
abbrev pub field_named : List ℕ → ValType → Field
field_named n t = record { name = n; ty = t }

-- a field of the binary as one of a table, if its type has a row
abbrev pub field_read : List (Option TypeId) → RawField → Option Field
field_read rows f = option_map (field_named f.label) (val_type rows f.ty)

-- a parameter of this label and type
abbrev pub parameter_named : List ℕ → ValType → Parameter
parameter_named n t = record { name = n; ty = t }

-- a parameter of the binary as one of a table, if its type has a row
abbrev pub parameter_read : List (Option TypeId) → RawField → Option Parameter
parameter_read rows f = option_map (parameter_named f.label) (val_type rows f.ty)

-- a case of this label and payload
abbrev pub case_named : List ℕ → Option ValType → Case
case_named n t = record { name = n; ty = t }

-- a case of the binary as one of a table, if its payload has a row or there is none
abbrev pub case_read : List (Option TypeId) → RawCase → Option Case
case_read rows c = option_map (case_named c.label) (optional_type rows c.payload)

-- the kind of a value type of the binary, if each of its type indices has a row
abbrev pub kind_defined : List (Option TypeId) → Defined → Option TypeDefKind
kind_defined rows (Prim p) = Some (kind.Alias (primitive_type p))
kind_defined rows (Record fs) = option_map kind.Record (all_found (field_read rows) fs)
kind_defined rows (Variant cs) = option_map kind.Variant (all_found (case_read rows) cs)
kind_defined rows (ListOf t) = option_map kind.List (val_type rows t)
kind_defined rows (Tuple ts) = option_map kind.Tuple (all_found (val_type rows) ts)
kind_defined rows (FlagSet names) = Some (kind.Flags names)
kind_defined rows (Enumeration names) = Some (kind.Enum names)
kind_defined rows (OptionOf t) = option_map kind.Option (val_type rows t)
kind_defined rows (ResultOf ok error) = both_found kind.Result (optional_type rows ok) (optional_type rows error)
