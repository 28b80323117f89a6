-- The syntax of a text, as plain trees: what a value of the crate's types stands for.
use Rattle.std.specs.Prelude.{ℕ, ◌+◌, max, List, [], ◌∷◌, Option}
use Rattle.wit_tokens.specs.declared.token.Span.{Span}
use Rattle.wit_tokens.specs.declared.wit_syntax.ast.Primitive.{Primitive}
use Rattle.wit_tokens.specs.declared.wit_syntax.ast.Direction.{Direction}

mutual
  -- `ty` of WIT.md: a type expression; a name is that of a type in its interface
  pub data Ty : Type 0 where
    Prim : Primitive → Ty
    Named : List ℕ → Ty
    ListOf : Ty → Ty
    OptionOf : Ty → Ty
    TupleOf : Tys → Ty
    ResultOf : MaybeTy → MaybeTy → Ty

  -- the types of a `tuple`, in order
  pub data Tys : Type 0 where
    none : Tys
    more : Ty → Tys → Tys

  -- a type of a `result`, absent if it is `_` or left out
  pub data MaybeTy : Type 0 where
    Absent : MaybeTy
    Present : Ty → MaybeTy

-- a list of types as those of a `tuple`
abbrev pub tys_of : List Ty → Tys
tys_of [] = none
tys_of (t ∷ ts) = more t (tys_of ts)

-- nesting counts a type within a type, the outermost as 1
abbrev mutual
  -- how deep a type expression nests: one that has no types in it counts as 1
  pub ty_depth : Ty → ℕ
  ty_depth (Prim p) = 1
  ty_depth (Named n) = 1
  ty_depth (ListOf t) = ty_depth t + 1
  ty_depth (OptionOf t) = ty_depth t + 1
  ty_depth (TupleOf ts) = depth_all ts + 1
  ty_depth (ResultOf a b) = max (depth_maybe a) (depth_maybe b) + 1

  -- how deep the deepest type of a `tuple` nests; 0 if it has none
  pub depth_all : Tys → ℕ
  depth_all none = 0
  depth_all (more t ts) = max (ty_depth t) (depth_all ts)

  -- how deep a type of a `result` nests; 0 if it is absent
  pub depth_maybe : MaybeTy → ℕ
  depth_maybe Absent = 0
  depth_maybe (Present t) = ty_depth t

-- `named-type` of WIT.md: a field of a record or a parameter of a function
pub record Member : Type 0 where
  pub name : List ℕ
  pub ty : Ty

-- a case of a `variant`, with its payload if it has one
pub record CaseOf : Type 0 where
  pub name : List ℕ
  pub payload : Option Ty

-- a name in the braces of a `use`, and its local name if it has one after `as`
pub record UsedAs : Type 0 where
  pub name : List ℕ
  pub local : Option (List ℕ)

-- what is written after the name that a type declaration gives: an alias's type, a record's fields, a variant's cases,
-- or the names of an enum's cases or of flags
pub data TypeBody : Type 0 where
  Alias : Ty → TypeBody
  Record : List Member → TypeBody
  Variant : List CaseOf → TypeBody
  Enumeration : List (List ℕ) → TypeBody
  FlagSet : List (List ℕ) → TypeBody

-- the type of a function: its parameters in order, and the type of its result if it has one
pub record Function : Type 0 where
  pub params : List Member
  pub result : Option Ty

-- the interface that a use or an item of a world names: one of the text's own package, or one of another
pub data PathTo : Type 0 where
  Local : (name : List ℕ) → PathTo
  Foreign : (namespace name : List ℕ) → (version : Option (List ℕ)) → (interface : List ℕ) → PathTo

-- an item of an interface: a `use`, a type or a function, each with the span of its first token
pub data Entry : Type 0 where
  Uses : (at : Span) → (interface : PathTo) → List UsedAs → Entry
  Defines : (at : Span) → (name : List ℕ) → TypeBody → Entry
  Declares : (at : Span) → (name : List ℕ) → Function → Entry

-- an item of a world, imported or exported: an interface, or a function with the span of its first token
pub data WorldEntry : Type 0 where
  Whole : Direction → (interface : PathTo) → WorldEntry
  Single : Direction → (at : Span) → (name : List ℕ) → Function → WorldEntry

-- an interface, or a world with the span of `world`: its name and its items in source order
pub data FileEntry : Type 0 where
  AnInterface : (name : List ℕ) → List Entry → FileEntry
  AWorld : (at : Span) → (name : List ℕ) → List WorldEntry → FileEntry

-- the names of a package and its version, if it has one
pub record HeaderNames : Type 0 where
  pub namespace : List ℕ
  pub name : List ℕ
  pub version : Option (List ℕ)

-- a text: the names of its package and its version, if it has one, and its interfaces and worlds in source order
pub record File : Type 0 where
  pub namespace : List ℕ
  pub name : List ℕ
  pub version : Option (List ℕ)
  pub entries : List FileEntry
