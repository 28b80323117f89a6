-- Binary.md: a file of a type section and an export section, with custom sections among them.
use Rattle.std.specs.Prelude.{◌≡◌, ◌⊎◌, ◌<◌, ◌≤◌, ℕ, zero, suc, ◌+◌, ◌-◌, List, [], ◌∷◌, length, ◌||◌, Option, Some, None, Result, Ok, Err, nat_lt, ◌==◌, if◌then◌else◌}
use Rattle.atoms.specs.Production.{give, never, ◌>>=◌, times, run, when, by_option, unless_some, at_end}
use Rattle.atoms.specs.Production as general
use Rattle.ctype_format.specs.declared.error.Fault.{Fault}
use Rattle.ctype_format.specs.declared.error.Fault.TheVariants.{NotComponent, BadSection, UnknownOpcode, Limit, Truncated, SizeMismatch, Trailing}
use Rattle.ctype_format.specs.declared.error.Stuck.{Stuck}
use Rattle.ctype_format.specs.declared.error.Stuck.TheVariants.{End, At, Past}
use Rattle.ctype_format.specs.declared.error.BinError.{BinError}
use Rattle.ctype_format.specs.declared.error.BinError.TheVariants as errors
use Rattle.ctype_format.specs.declared.scope.Scope.{Scope}
use Rattle.ctype_format.specs.Raw.{Exported, BinaryFile, TypeEntry}
use Rattle.ctype_format.specs.Bytes.{Bytes, byte, only_bytes, unless, u32, sized, remaining, ended}
use Rattle.ctype_format.specs.Grammar.{zero_byte, index, utf8, extern_name, new_scope, with_entries, type}

-- how many component types and instance types may be nested in one another
abbrev pub max_scope_depth : ℕ
max_scope_depth = 4

-- the bytes that an input may have, and more than the custom sections in it
abbrev pub max_length : ℕ
max_length = 1048576

-- these bytes and no others, of which 0 is read
unfoldable pub exactly : List ℕ → Bytes ℕ
exactly [] = give 0
exactly (b ∷ bs) = do
  first ← only_bytes byte (λ x. unless (x == b) NotComponent)
  exactly bs

-- `component`'s preamble in Binary.md: magic `\0asm`, version 13, layer 1
abbrev pub preamble : List ℕ
preamble = 0x00 ∷ 0x61 ∷ 0x73 ∷ 0x6d ∷ 0x0d ∷ 0x00 ∷ 0x01 ∷ 0x00 ∷ []

-- ---- custom sections

-- the content of a custom section: a name in UTF-8 and any bytes to the section's end
unfoldable pub custom_content : Bytes ℕ
custom_content = do
  text ← utf8
  remaining

-- a custom section after its number 0: its size, and a content of that size
unfoldable pub custom : Bytes ℕ
custom = do
  size ← u32
  sized (λ missing. End) size custom_content

-- a custom section after its number 0, which says nothing of the section that is looked for
abbrev pub skipped : Bytes (Option ℕ)
skipped = do
  c ← custom
  give None

-- the size of the section that is looked for, after its number
abbrev pub announced : Bytes (Option ℕ)
announced = do
  size ← u32
  give (Some size)

-- a custom section, or the number and the size of the section with this number
unfoldable pub head : ℕ → Bytes (Option ℕ)
head id = do
  b ← only_bytes byte (λ b. unless (b == 0 || b == id) (BadSection b))
  when (b == 0) skipped announced

-- the number and the size of the section with this number, after less than n custom sections
unfoldable pub section : ℕ → ℕ → Bytes ℕ
section id zero = never ended
section id (suc n) = do
  size ← head id
  by_option size (section id n) give

-- the fault of a byte after the export section: sections 7 and 11 may come once only
abbrev pub trailing_byte : ℕ → Fault
trailing_byte b = if b == 7 || b == 11 then Trailing else BadSection b

-- the fault after the export section and the custom sections: no other section may come
abbrev pub trailing_fault : List ℕ → Stuck
trailing_fault [] = End
trailing_fault (b ∷ bs) = At (trailing_byte b) (length (b ∷ bs))

-- a custom section, or nothing if the next byte isn't 0
abbrev pub custom_next : Bytes (Option ℕ)
custom_next = general.optional (λ b. b == 0) (λ b. custom)

-- less than n custom sections, and then the end of the input
unfoldable pub trailing : ℕ → Bytes ℕ
trailing zero = never ended
trailing (suc n) = do
  more ← custom_next
  unless_some more (trailing n) (at_end trailing_fault)

-- ---- the two sections and the file

-- a type of the type section, and the scope with one more type
unfoldable pub entry_of_type : Scope → Bytes (TypeEntry × Scope)
entry_of_type scope = do
  t ← type max_scope_depth [] scope
  give (t.0, with_entries scope t.1)

-- the content of a type section, number 7: its types, and the scope of the component with them
unfoldable pub type_section : Bytes (List TypeEntry × Scope)
type_section = do
  n ← u32
  run entry_of_type n (new_scope 0)

-- an export of Binary.md: a name, sort 3 (a type), an index below this count of types, and no ascribed type
unfoldable pub exported : ℕ → Bytes Exported
exported types = do
  text ← extern_name
  sort ← only_bytes byte (λ b. unless (b == 3) (UnknownOpcode b))
  i ← index types
  close ← zero_byte
  give (record { name = text; type = i })

-- the content of an export section, number 11, with indices below this count of types
unfoldable pub export_section : ℕ → Bytes (List Exported)
export_section types = do
  n ← u32
  times n (exported types)

-- a component of Binary.md: the preamble, one type section, one export section, and custom sections
unfoldable pub component_file : Bytes BinaryFile
component_file = do
  mark ← exactly preamble
  size ← section 7 max_length
  types ← sized Past size type_section
  more ← section 11 max_length
  exports ← sized Past more (export_section types.1.types)
  rest ← trailing max_length
  give (record { types = types.0; exports = exports })

-- ---- what decoding answers

-- a fault with its place as an offset in the input of n bytes
abbrev pub fault_placed : ℕ → Stuck → BinError
fault_placed n End = errors.At Truncated n
fault_placed n (At fault left) = errors.At fault (n - left)
fault_placed n (Past more) = errors.At SizeMismatch (n + more)

-- what reading an input of n bytes gives, with the place of a fault as an offset
abbrev pub at_place : ℕ → Result (BinaryFile × List ℕ) Stuck → Result BinaryFile BinError
at_place n (Ok x) = Ok x.0
at_place n (Err f) = Err (fault_placed n f)

-- the component that all of the bytes spell, or the first fault
unfoldable pub decoded : List ℕ → Result BinaryFile BinError
decoded bytes = if nat_lt max_length (length bytes) then Err (errors.At Limit max_length) else at_place (length bytes) (component_file.read bytes)

-- Why bytes are refused: there are too many, or the fault is the first that stands in them.
abbrev pub FaultyBinary : List ℕ → BinError → Type 0
FaultyBinary bytes (errors.At fault place) =
    ((max_length < length bytes) × (fault ≡ Limit) × (place ≡ max_length))
    ⊎ ((length bytes ≤ max_length) × ((stuck : Stuck) × component_file.fails bytes stuck × (fault_placed (length bytes) stuck ≡ errors.At fault place)))
FaultyBinary bytes (errors.Read place) = ⊥
FaultyBinary bytes errors.NoMemory = Unit {0}

-- What decoding returned, unless memory ran out
abbrev pub Decodes : {X : Type 0} → (X → BinaryFile) → Result X BinError → List ℕ → Type 0
Decodes view (Ok x) bytes = decoded bytes ≡ Ok (view x)
Decodes view (Err (errors.At fault place)) bytes = decoded bytes ≡ Err (errors.At fault place)
Decodes view (Err (errors.Read place)) bytes = ⊥
Decodes view (Err errors.NoMemory) bytes = Unit {0}

-- what decoding returned, unless memory ran out or the reader failed
abbrev pub DecodesOrReads : {X : Type 0} → (X → BinaryFile) → Result X BinError → List ℕ → Type 0
DecodesOrReads view (Ok x) bytes = decoded bytes ≡ Ok (view x)
DecodesOrReads view (Err (errors.At fault place)) bytes = decoded bytes ≡ Err (errors.At fault place)
DecodesOrReads view (Err (errors.Read place)) bytes = Unit {0}
DecodesOrReads view (Err errors.NoMemory) bytes = Unit {0}
