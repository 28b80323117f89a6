-- The bytes that a component type is written as: each number in its shortest spelling, and no custom section.
use Rattle.std.specs.Prelude.{ℕ, suc, List, [], ◌∷◌, ◌++◌, length, Option, Some, None}
use Rattle.ctype_format.specs.declared.raw.Primitive.{Primitive}
use Rattle.ctype_format.specs.declared.raw.Primitive.TheVariants as prim
use Rattle.ctype_format.specs.declared.raw.RawValType.{RawValType}
use Rattle.ctype_format.specs.declared.raw.RawValType.TheVariants as valtypes
use Rattle.ctype_format.specs.declared.raw.RawField.{RawField}
use Rattle.ctype_format.specs.declared.raw.RawCase.{RawCase}
use Rattle.ctype_format.specs.declared.raw.RawAlias.{RawAlias}
use Rattle.ctype_format.specs.declared.raw.RawAlias.TheVariants as aliases
use Rattle.ctype_format.specs.declared.raw.RawDescription.{RawDescription}
use Rattle.ctype_format.specs.declared.raw.RawDescription.TheVariants as descriptions
use Rattle.ctype_format.specs.Raw.{Defined, Prim, Record, Variant, ListOf, Tuple, FlagSet, Enumeration, OptionOf, ResultOf, BinaryFunction, Define, Func, Component, Instance, Decl, Entry, Alias, Import, Export, Decls, none, then, Exported, BinaryFile, TypeEntry}
use Rattle.ctype_format.specs.File.{preamble}
use Rattle.ctype_format.specs.Shortest.{groups}

-- a number of 32 bits in the fewest bytes of unsigned LEB128
abbrev pub u32_bytes : ℕ → List ℕ
u32_bytes n = groups 128 4 n

-- a type index as a value type has it: in the fewest bytes of signed LEB128
abbrev pub s33_bytes : ℕ → List ℕ
s33_bytes n = groups 64 4 n

-- the bytes of each in turn
abbrev pub each : {X : Type 0} → (X → List ℕ) → List X → List ℕ
each write [] = []
each write (x ∷ xs) = write x ++ each write xs

-- a count and as many
abbrev pub counted : {X : Type 0} → (X → List ℕ) → List X → List ℕ
counted write xs = u32_bytes (length xs) ++ each write xs

-- `name` of Binary.md: the count of bytes, and the bytes
abbrev pub name_bytes : List ℕ → List ℕ
name_bytes text = u32_bytes (length text) ++ text

-- the name of an import or an export: 0, and then the name
abbrev pub extern_bytes : List ℕ → List ℕ
extern_bytes text = 0 ∷ name_bytes text

-- the byte of a primitive type in Binary.md
abbrev pub primitive_byte : Primitive → ℕ
primitive_byte prim.Bool = 0x7f
primitive_byte prim.S8 = 0x7e
primitive_byte prim.U8 = 0x7d
primitive_byte prim.S16 = 0x7c
primitive_byte prim.U16 = 0x7b
primitive_byte prim.S32 = 0x7a
primitive_byte prim.U32 = 0x79
primitive_byte prim.S64 = 0x78
primitive_byte prim.U64 = 0x77
primitive_byte prim.Char = 0x74
primitive_byte prim.String = 0x73

-- `valtype` of Binary.md: the byte of a primitive type, or a type index
abbrev pub valtype_bytes : RawValType → List ℕ
valtype_bytes (valtypes.Primitive p) = primitive_byte p ∷ []
valtype_bytes (valtypes.Index i) = s33_bytes i

-- `<valtype>?` of Binary.md: 0, or 1 and a value type
abbrev pub optional_bytes : Option RawValType → List ℕ
optional_bytes None = 0 ∷ []
optional_bytes (Some t) = 1 ∷ valtype_bytes t

-- `labelvaltype` of Binary.md: the label and the type of a field or a parameter
abbrev pub field_bytes : RawField → List ℕ
field_bytes f = name_bytes f.label ++ valtype_bytes f.ty

-- `case` of Binary.md: a label, perhaps a payload, and 0
abbrev pub case_bytes : RawCase → List ℕ
case_bytes c = name_bytes c.label ++ (optional_bytes c.payload ++ 0 ∷ [])

-- `defvaltype` of Binary.md: a value type with its opcode
abbrev pub defined_bytes : Defined → List ℕ
defined_bytes (Prim p) = primitive_byte p ∷ []
defined_bytes (Record fs) = 0x72 ∷ counted field_bytes fs
defined_bytes (Variant cs) = 0x71 ∷ counted case_bytes cs
defined_bytes (ListOf e) = 0x70 ∷ valtype_bytes e
defined_bytes (Tuple es) = 0x6f ∷ counted valtype_bytes es
defined_bytes (FlagSet ls) = 0x6e ∷ counted name_bytes ls
defined_bytes (Enumeration ls) = 0x6d ∷ counted name_bytes ls
defined_bytes (OptionOf e) = 0x6b ∷ valtype_bytes e
defined_bytes (ResultOf ok error) = 0x6a ∷ (optional_bytes ok ++ optional_bytes error)

-- `resultlist` of Binary.md: 0 and a value type, or 1 and 0
abbrev pub outcome_bytes : Option RawValType → List ℕ
outcome_bytes (Some t) = 0 ∷ valtype_bytes t
outcome_bytes None = 1 ∷ 0 ∷ []

-- `functype` of Binary.md: its opcode, its parameters and its result
abbrev pub function_bytes : BinaryFunction → List ℕ
function_bytes f = 0x40 ∷ (counted field_bytes f.params ++ outcome_bytes f.outcome)

-- `alias` of Binary.md of a type, sort 3: of an instance's export (0), or outer (2)
abbrev pub alias_bytes : RawAlias → List ℕ
alias_bytes (aliases.InstanceExport i text) = 3 ∷ 0 ∷ (u32_bytes i ++ name_bytes text)
alias_bytes (aliases.Outer n i) = 3 ∷ 2 ∷ (u32_bytes n ++ u32_bytes i)

-- `externdesc` of Binary.md: a function (1), an equal type (3, 0), a component (4) or an instance (5)
abbrev pub description_bytes : RawDescription → List ℕ
description_bytes (descriptions.Function i) = 1 ∷ u32_bytes i
description_bytes (descriptions.TypeEqual i) = 3 ∷ 0 ∷ u32_bytes i
description_bytes (descriptions.Component i) = 4 ∷ u32_bytes i
description_bytes (descriptions.Instance i) = 5 ∷ u32_bytes i

-- how many declarations there are, without those in their types
abbrev pub decl_count : Decls → ℕ
decl_count none = 0
decl_count (then d ds) = suc (decl_count ds)

unfoldable mutual
  -- `deftype` of Binary.md: a type with its opcode and with the declarations in it
  pub type_bytes : TypeEntry → List ℕ
  type_bytes (Define d) = defined_bytes d
  type_bytes (Func f) = function_bytes f
  type_bytes (Component ds) = 0x41 ∷ (u32_bytes (decl_count ds) ++ decls_bytes ds)
  type_bytes (Instance ds) = 0x42 ∷ (u32_bytes (decl_count ds) ++ decls_bytes ds)

  -- `componentdecl` or `instancedecl` of Binary.md, with the byte that it begins with
  pub decl_bytes : Decl → List ℕ
  decl_bytes (Entry t) = 1 ∷ type_bytes t
  decl_bytes (Alias a) = 2 ∷ alias_bytes a
  decl_bytes (Import text d) = 3 ∷ (extern_bytes text ++ description_bytes d)
  decl_bytes (Export text d) = 4 ∷ (extern_bytes text ++ description_bytes d)

  -- these declarations in turn, without their count
  pub decls_bytes : Decls → List ℕ
  decls_bytes none = []
  decls_bytes (then d ds) = decl_bytes d ++ decls_bytes ds

-- an export of the component: its name, sort 3 (a type), the type's index, and 0 for no ascribed type
abbrev pub exported_bytes : Exported → List ℕ
exported_bytes e = extern_bytes e.name ++ (3 ∷ (u32_bytes e.type ++ 0 ∷ []))

-- a section: its number, its size and its bytes
abbrev pub section_bytes : ℕ → List ℕ → List ℕ
section_bytes id content = id ∷ (u32_bytes (length content) ++ content)

-- the component: the preamble, the type section (7) and the export section (11)
unfoldable pub file_bytes : BinaryFile → List ℕ
file_bytes f = preamble ++ (section_bytes 7 (counted type_bytes f.types) ++ section_bytes 11 (counted exported_bytes f.exports))
