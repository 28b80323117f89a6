-- Component types without where they lie in memory.
use Rattle.std.specs.Prelude.{ℕ, List, Option}
use Rattle.ctype_format.specs.declared.raw.Primitive.{Primitive}
use Rattle.ctype_format.specs.declared.raw.RawValType.{RawValType}
use Rattle.ctype_format.specs.declared.raw.RawField.{RawField}
use Rattle.ctype_format.specs.declared.raw.RawCase.{RawCase}
use Rattle.ctype_format.specs.declared.raw.RawAlias.{RawAlias}
use Rattle.ctype_format.specs.declared.raw.RawDescription.{RawDescription}

-- `defvaltype` of Binary.md: a value type as a type section defines it, with the types in it by index
pub data Defined : Type 0 where
  Prim : Primitive → Defined
  Record : List RawField → Defined
  Variant : List RawCase → Defined
  ListOf : RawValType → Defined
  Tuple : List RawValType → Defined
  FlagSet : List (List ℕ) → Defined
  Enumeration : List (List ℕ) → Defined
  OptionOf : RawValType → Defined
  ResultOf : Option RawValType → Option RawValType → Defined

-- `functype` of Binary.md: its parameters with labels, and its result if it has one
pub record BinaryFunction : Type 0 where
  pub params : List RawField
  pub outcome : Option RawValType

mutual
  -- `deftype` of Binary.md: a value type, a function type, or a component or an instance type with its declarations
  pub data TypeEntry : Type 0 where
    Define : Defined → TypeEntry
    Func : BinaryFunction → TypeEntry
    Component : Decls → TypeEntry
    Instance : Decls → TypeEntry

  -- `componentdecl` or `instancedecl` of Binary.md: a type, an alias, an import or an export; the first two and a type
  -- that is exported or imported take the next type index
  pub data Decl : Type 0 where
    Entry : TypeEntry → Decl
    Alias : RawAlias → Decl
    Import : List ℕ → RawDescription → Decl
    Export : List ℕ → RawDescription → Decl

  -- the declarations of a component type or an instance type, in order
  pub data Decls : Type 0 where
    none : Decls
    then : Decl → Decls → Decls

-- an export of the file: its name's text, and the index of a type
pub record Exported : Type 0 where
  pub name : List ℕ
  pub type : ℕ

-- a component of types alone: its type section and its export section, in order
pub record BinaryFile : Type 0 where
  pub types : List TypeEntry
  pub exports : List Exported
