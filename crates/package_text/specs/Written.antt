-- From what a package's names tell to the syntax that is written for it: a type, a definition, a use and a function.
use Rattle.std.specs.Prelude.{ℕ, List, [], ◌∷◌, None, Some}
use Rattle.wit_tokens.specs.Syntax.{Ty, Prim, Named, ListOf, OptionOf, TupleOf, ResultOf, Tys, none, more, MaybeTy, Absent, Present, Alias, Record, Variant, Enumeration, FlagSet, Member, CaseOf, TypeBody}
use Rattle.wit_tokens.specs.declared.wit_syntax.ast.Primitive.{Primitive as Keyword}
use Rattle.wit_tokens.specs.declared.wit_syntax.ast.Primitive.TheVariants as keyword
use Rattle.tables.specs.declared.tables.Primitive.{Primitive}
use Rattle.tables.specs.declared.tables.Primitive.TheVariants as primitive
use Rattle.wit_tokens.specs.declared.wit_syntax.ast.Direction.{Direction as Way}
use Rattle.wit_tokens.specs.declared.wit_syntax.ast.Direction.TheVariants as way
use Rattle.tables.specs.declared.tables.Direction.{Direction}
use Rattle.tables.specs.declared.tables.Direction.TheVariants as direction
use Rattle.tables.specs.Package.{Tree, PrimTree, TextTree, Reference, ListTree, RecordTree, VariantTree, FlagsTree, no_fields, field, Choices, no_choices, empty, holding, Plain, AsEnum, AsResult, TreeFields}

-- ---- types

-- the keyword of a primitive type
abbrev pub keyword_for : Primitive → Keyword
keyword_for primitive.Bool = keyword.Bool
keyword_for primitive.S8 = keyword.S8
keyword_for primitive.U8 = keyword.U8
keyword_for primitive.S16 = keyword.S16
keyword_for primitive.U16 = keyword.U16
keyword_for primitive.S32 = keyword.S32
keyword_for primitive.U32 = keyword.U32
keyword_for primitive.S64 = keyword.S64
keyword_for primitive.U64 = keyword.U64
keyword_for primitive.Char = keyword.Char

-- a type for places where a tree has none that an expression can name
abbrev pub no_ty : Ty
no_ty = Prim keyword.Bool

-- the type that is written for a tree; of a record, a variant, an enum or flags, which no expression has, none
abbrev mutual
  -- the type expression that is written for a tree; records, variants, enums and flags have none
  pub ty_of : Tree → Ty
  ty_of (PrimTree p) = Prim (keyword_for p)
  ty_of TextTree = Prim keyword.String
  ty_of (Reference k) = Named k.name
  ty_of (ListTree t) = ListOf (ty_of t)
  ty_of (RecordTree form fs) = TupleOf (tys_in fs)
  ty_of (VariantTree AsResult cs) = ResultOf (first_of cs) (second_of cs)
  ty_of (VariantTree form cs) = OptionOf (some_of cs)
  ty_of (FlagsTree labels) = no_ty

  -- the types of a tuple that are written for its fields, whose labels are left out
  pub tys_in : TreeFields → Tys
  tys_in no_fields = none
  tys_in (field label t fs) = more (ty_of t) (tys_in fs)

  -- the type of a result's first case, `ok`, absent if it has none
  pub first_of : Choices → MaybeTy
  first_of no_choices = Absent
  first_of (empty label cs) = Absent
  first_of (holding label t cs) = Present (ty_of t)

  -- the type of a result's second case, `error`, absent if it has none
  pub second_of : Choices → MaybeTy
  second_of no_choices = Absent
  second_of (empty label cs) = first_of cs
  second_of (holding label t cs) = first_of cs

  -- the payload of the first case that has one, which is `some` of an option
  pub some_of : Choices → Ty
  some_of no_choices = no_ty
  some_of (empty label cs) = some_of cs
  some_of (holding label t cs) = ty_of t

-- ---- definitions

-- the fields or parameters that are written, in order
abbrev pub members_in : TreeFields → List Member
members_in no_fields = []
members_in (field label t fs) = record { name = label; ty = ty_of t } ∷ members_in fs

-- the cases of a variant that are written, in order
abbrev pub cases_in : Choices → List CaseOf
cases_in no_choices = []
cases_in (empty label cs) = record { name = label; payload = None } ∷ cases_in cs
cases_in (holding label t cs) = record { name = label; payload = Some (ty_of t) } ∷ cases_in cs

-- the names of an enum's cases that are written, in order
abbrev pub labels_in : Choices → List (List ℕ)
labels_in no_choices = []
labels_in (empty label cs) = label ∷ labels_in cs
labels_in (holding label t cs) = label ∷ labels_in cs

-- the definition that is written for a tree
abbrev pub body_of : Tree → TypeBody
body_of (RecordTree Plain fs) = Record (members_in fs)
body_of (VariantTree Plain cs) = Variant (cases_in cs)
body_of (VariantTree AsEnum cs) = Enumeration (labels_in cs)
body_of (FlagsTree labels) = FlagSet labels
body_of t = Alias (ty_of t)

-- ---- items of worlds

-- whether a world's item is written as `import` or as `export`
abbrev pub direction_for : Direction → Way
direction_for direction.Import = way.Import
direction_for direction.Export = way.Export
