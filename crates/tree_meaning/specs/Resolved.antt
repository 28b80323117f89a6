-- What the syntax stands for in an interface: each name for that name of the interface's scope.
use Rattle.std.specs.Prelude.{ℕ, List, [], ◌∷◌, ◌++◌, map, slice_index_or, Option, None, Some}
use Rattle.wit_tokens.specs.Syntax.{Ty, Prim, Named, ListOf, OptionOf, TupleOf, ResultOf, Tys, none, more, MaybeTy, Absent, Present, Alias, Record, Variant, Enumeration, FlagSet, Member, CaseOf, TypeBody}
use Rattle.wit_tokens.specs.declared.wit_syntax.ast.Direction.{Direction as Syntax}
use Rattle.wit_tokens.specs.declared.wit_syntax.ast.Direction.TheVariants as syntax
use Rattle.wit_tokens.specs.declared.wit_syntax.ast.Primitive.{Primitive as Keyword}
use Rattle.wit_tokens.specs.declared.wit_syntax.ast.Primitive.TheVariants as keyword
use Rattle.canonical_abi.specs.Labelled.{none_label, some_label, ok_label, error_label}
use Rattle.tables.specs.declared.tables.Direction.{Direction}
use Rattle.tables.specs.declared.tables.Direction.TheVariants as direction
use Rattle.tables.specs.declared.tables.Primitive.TheVariants as primitive
use Rattle.tables.specs.declared.tables.ValType.{ValType}
use Rattle.tables.specs.declared.tables.ValType.TheVariants as val
use Rattle.tables.specs.PackageNames.{own_name}
use Rattle.tables.specs.Package.{Tree, PrimTree, TextTree, Reference, ListTree, RecordTree, VariantTree, FlagsTree, no_fields, field, Choices, no_choices, empty, holding, Plain, AsTuple, AsEnum, AsOption, AsResult, NamedDefinition, IsUse, IsType, IsFunction, ItemMeaning, WithInterface, WithFunction, WorldMeaning, read_enum, TreeFields}
use Rattle.tree_meaning.specs.Declarations.{UsedItem, TypeItem, FunctionItem, InterfaceTree, ItemTree, InterfaceNamed, ForeignNamed, FunctionOf, WorldTree, use_interface}

-- a primitive type or `string` as a type tree, which keeps texts apart from primitives
abbrev pub primitive_tree : Keyword → Tree
primitive_tree keyword.Bool = PrimTree primitive.Bool
primitive_tree keyword.S8 = PrimTree primitive.S8
primitive_tree keyword.U8 = PrimTree primitive.U8
primitive_tree keyword.S16 = PrimTree primitive.S16
primitive_tree keyword.U16 = PrimTree primitive.U16
primitive_tree keyword.S32 = PrimTree primitive.S32
primitive_tree keyword.U32 = PrimTree primitive.U32
primitive_tree keyword.S64 = PrimTree primitive.S64
primitive_tree keyword.U64 = PrimTree primitive.U64
primitive_tree keyword.Char = PrimTree primitive.Char
primitive_tree keyword.String = TextTree

-- a primitive type or `string` as a value type of a table
abbrev pub val_of_primitive : Keyword → ValType
val_of_primitive keyword.Bool = val.Primitive primitive.Bool
val_of_primitive keyword.S8 = val.Primitive primitive.S8
val_of_primitive keyword.U8 = val.Primitive primitive.U8
val_of_primitive keyword.S16 = val.Primitive primitive.S16
val_of_primitive keyword.U16 = val.Primitive primitive.U16
val_of_primitive keyword.S32 = val.Primitive primitive.S32
val_of_primitive keyword.U32 = val.Primitive primitive.U32
val_of_primitive keyword.S64 = val.Primitive primitive.S64
val_of_primitive keyword.U64 = val.Primitive primitive.U64
val_of_primitive keyword.Char = val.Primitive primitive.Char
val_of_primitive keyword.String = val.String

-- a field of a record or a parameter of a function: its label and its type
pub record Labelled : Type 0 where
  pub name : List ℕ
  pub tree : Tree

-- a case of a variant: its label, and its payload if it has one
pub record Choice : Type 0 where
  pub name : List ℕ
  pub payload : Option Tree

-- these fields as the fields of a record's tree, in order
abbrev pub fields_of_labelled : List Labelled → TreeFields
fields_of_labelled [] = no_fields
fields_of_labelled (f ∷ fs) = field f.name f.tree (fields_of_labelled fs)

-- the types of a tuple as fields with empty labels
abbrev pub unlabelled : List Tree → TreeFields
unlabelled [] = no_fields
unlabelled (t ∷ ts) = field [] t (unlabelled ts)

-- one more case before these, with its label and its payload, if it has one
abbrev pub choice : List ℕ → Option Tree → Choices → Choices
choice label None cs = empty label cs
choice label (Some t) cs = holding label t cs

-- these cases as the cases of a variant's tree, in order
abbrev pub choices_of : List Choice → Choices
choices_of [] = no_choices
choices_of (c ∷ cs) = choice c.name c.payload (choices_of cs)

-- `option<t>` as the variant of `none` and `some` that the Canonical ABI makes of it
abbrev pub option_tree : Tree → Tree
option_tree t = VariantTree AsOption (empty none_label (holding some_label t no_choices))

-- `result<ok, error>` as the variant of `ok` and `error`, each with a payload if its type is there
abbrev pub result_tree : Option Tree → Option Tree → Tree
result_tree ok error = VariantTree AsResult (choice ok_label ok (choice error_label error no_choices))

-- `tuple<..>` as a record whose fields have no labels
abbrev pub tuple_tree : List Tree → Tree
tuple_tree ts = RecordTree AsTuple (unlabelled ts)

-- a type in the interface of this name
abbrev mutual
  -- a type expression in the interface of this name: each name refers to that name of the interface
  pub resolved : List ℕ → Ty → Tree
  resolved i (Prim p) = primitive_tree p
  resolved i (Named n) = Reference (record { interface = i; name = n })
  resolved i (ListOf t) = ListTree (resolved i t)
  resolved i (OptionOf t) = option_tree (resolved i t)
  resolved i (TupleOf ts) = tuple_tree (resolved_all i ts)
  resolved i (ResultOf ok error) = result_tree (resolved_maybe i ok) (resolved_maybe i error)

  -- the types of a tuple in the interface of this name
  pub resolved_all : List ℕ → Tys → List Tree
  resolved_all i none = []
  resolved_all i (more t ts) = resolved i t ∷ resolved_all i ts

  -- a type of a `result` in the interface of this name, none if it is absent
  pub resolved_maybe : List ℕ → MaybeTy → Option Tree
  resolved_maybe i Absent = None
  resolved_maybe i (Present t) = Some (resolved i t)

-- the payload of a case or the result of a function in the interface of this name, none if there is none
abbrev pub resolved_if : List ℕ → Option Ty → Option Tree
resolved_if i None = None
resolved_if i (Some t) = Some (resolved i t)

-- a field or a parameter in the interface of this name
abbrev pub member_meaning : List ℕ → Member → Labelled
member_meaning i m = record { name = m.name; tree = resolved i m.ty }

-- a case in the interface of this name
abbrev pub case_meaning : List ℕ → CaseOf → Choice
case_meaning i c = record { name = c.name; payload = resolved_if i c.payload }

-- what a declared type of the interface of this name is, by what is written after its name
abbrev pub definition_meaning : List ℕ → TypeBody → Tree
definition_meaning i (Alias t) = resolved i t
definition_meaning i (Record ms) = RecordTree Plain (fields_of_labelled (map (member_meaning i) ms))
definition_meaning i (Variant cs) = VariantTree Plain (choices_of (map (case_meaning i) cs))
definition_meaning i (Enumeration ns) = VariantTree AsEnum (read_enum ns)
definition_meaning i (FlagSet ns) = FlagsTree ns

-- a used name as a definition of the interface of this name: it refers to the name in the interface that it is used of
abbrev pub use_meaning : List ℕ → UsedItem → NamedDefinition
use_meaning i u = record {
  key = record { interface = i; name = u.local };
  meaning = IsUse (Reference (record { interface = use_interface u; name = u.name }));
}

-- a declared type as a definition of the interface of this name
abbrev pub type_meaning : List ℕ → TypeItem → NamedDefinition
type_meaning i t = record {
  key = record { interface = i; name = t.name };
  meaning = IsType (definition_meaning i t.definition);
}

-- a declared function as a definition of the interface of this name
abbrev pub meaning_of_function : List ℕ → FunctionItem → NamedDefinition
meaning_of_function i f = record {
  key = record { interface = i; name = f.name };
  meaning = IsFunction (fields_of_labelled (map (member_meaning i) f.function.params)) (resolved_if i f.function.result);
}

-- a type without name and labels, for places that a list doesn't have
abbrev pub no_type : TypeItem
no_type = record { name = []; definition = FlagSet [] }

-- types in this order
abbrev pub in_order : List ℕ → List TypeItem → List ℕ → List NamedDefinition
in_order i types order = map (λ k. type_meaning i (slice_index_or types k no_type)) order

-- an interface's uses, its types in this order, and its functions
abbrev pub interface_meaning : InterfaceTree → List ℕ → List NamedDefinition
interface_meaning i order =
    map (use_meaning i.name) i.uses ++ (in_order i.name i.types order ++ map (meaning_of_function i.name) i.functions)

-- ---- worlds

-- whether a world imports or exports an item, as tables have it
abbrev pub direction_meaning : Syntax → Direction
direction_meaning syntax.Import = direction.Import
direction_meaning syntax.Export = direction.Export

-- a function of a world names no type, so the interface of its references is none
abbrev pub tree_item_meaning : ItemTree → ItemMeaning
tree_item_meaning (InterfaceNamed way i) = WithInterface (direction_meaning way) i
tree_item_meaning (ForeignNamed way q i) = WithInterface (direction_meaning way) (own_name q i)
tree_item_meaning (FunctionOf way f) =
    WithFunction (direction_meaning way) f.name (fields_of_labelled (map (member_meaning []) f.function.params)) (resolved_if [] f.function.result)

-- a world under its name, its items in order
abbrev pub meaning_of_world : WorldTree → WorldMeaning
meaning_of_world w = record { name = w.name; items = map tree_item_meaning w.items }
