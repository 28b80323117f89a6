-- Each index is below the count of its space, as that is where the index stands.
use Rattle.std.specs.Prelude.{◌<◌, ◌≤◌, ℕ, ◌+◌, List, [], ◌∷◌, ◌++◌, length, Option, Some, None}
use Rattle.ctype_format.specs.declared.raw.RawValType.{RawValType}
use Rattle.ctype_format.specs.declared.raw.RawValType.TheVariants as valtypes
use Rattle.ctype_format.specs.declared.raw.RawField.{RawField}
use Rattle.ctype_format.specs.declared.raw.RawCase.{RawCase}
use Rattle.ctype_format.specs.declared.raw.RawAlias.{RawAlias}
use Rattle.ctype_format.specs.declared.raw.RawAlias.TheVariants as aliases
use Rattle.ctype_format.specs.declared.raw.RawDescription.{RawDescription}
use Rattle.ctype_format.specs.declared.raw.RawDescription.TheVariants as descriptions
use Rattle.ctype_format.specs.Raw.{Defined, Prim, Record, Variant, ListOf, Tuple, FlagSet, Enumeration, OptionOf, ResultOf, BinaryFunction, Define, Func, Component, Instance, Decl, Entry, Alias, Import, Export, Decls, none, then, BinaryFile, TypeEntry}
use Rattle.ctype_format.specs.Grammar.{types_at}
use Rattle.ctype_format.specs.Formed.{All}

-- ---- among so many types

-- the value type is a primitive, or its index is below this count of types
abbrev pub ValTypeInRange : ℕ → RawValType → Type 0
ValTypeInRange types (valtypes.Primitive p) = Unit {0}
ValTypeInRange types (valtypes.Index i) = i < types

-- the type of a payload or a result has an index below this count of types, if it is there and has one
abbrev pub OptionInRange : ℕ → Option RawValType → Type 0
OptionInRange types None = Unit {0}
OptionInRange types (Some t) = ValTypeInRange types t

-- the type of a field or a parameter has an index below this count of types, if it has one
abbrev pub FieldInRange : ℕ → RawField → Type 0
FieldInRange types f = ValTypeInRange types f.ty

-- the payload of a case has an index below this count of types, if it is there and has one
abbrev pub CaseInRange : ℕ → RawCase → Type 0
CaseInRange types c = OptionInRange types c.payload

-- each type index in the value type is below this count of types
abbrev pub DefinedInRange : ℕ → Defined → Type 0
DefinedInRange types (Record fs) = All (FieldInRange types) fs
DefinedInRange types (Variant cs) = All (CaseInRange types) cs
DefinedInRange types (ListOf e) = ValTypeInRange types e
DefinedInRange types (Tuple es) = All (ValTypeInRange types) es
DefinedInRange types (OptionOf e) = ValTypeInRange types e
DefinedInRange types (ResultOf ok error) = OptionInRange types ok × OptionInRange types error
DefinedInRange types (Prim p) = Unit {0}
DefinedInRange types (FlagSet ls) = Unit {0}
DefinedInRange types (Enumeration ls) = Unit {0}

-- each type index of the parameters and the result is below this count of types
abbrev pub FunctionInRange : ℕ → BinaryFunction → Type 0
FunctionInRange types f = All (FieldInRange types) f.params × OptionInRange types f.outcome

-- the type index of the import or the export is below this count of types
abbrev pub DescriptionInRange : ℕ → RawDescription → Type 0
DescriptionInRange types (descriptions.Function i) = i < types
DescriptionInRange types (descriptions.TypeEqual i) = i < types
DescriptionInRange types (descriptions.Component i) = i < types
DescriptionInRange types (descriptions.Instance i) = i < types

-- ---- in a scope, around being the counts of types of the scopes around it, the innermost last

-- the alias is of an instance of the scope, or of a type of a scope outward that was defined before
abbrev pub AliasInRange : List ℕ → ℕ → ℕ → RawAlias → Type 0
AliasInRange around types instances (aliases.InstanceExport i text) = i < instances
AliasInRange around types instances (aliases.Outer n i) = (n ≤ length around) × (i < types_at around types n)

-- the count of types after an import or an export of this kind
abbrev pub described_types : ℕ → RawDescription → ℕ
described_types types (descriptions.Function i) = types
described_types types (descriptions.TypeEqual i) = types + 1
described_types types (descriptions.Component i) = types
described_types types (descriptions.Instance i) = types

-- the count of instances after an import or an export of this kind
abbrev pub instances_with : ℕ → RawDescription → ℕ
instances_with instances (descriptions.Function i) = instances
instances_with instances (descriptions.TypeEqual i) = instances
instances_with instances (descriptions.Component i) = instances
instances_with instances (descriptions.Instance i) = instances + 1

-- the count of types after this declaration
abbrev pub types_behind : ℕ → Decl → ℕ
types_behind types (Entry t) = types + 1
types_behind types (Alias a) = types + 1
types_behind types (Import text d) = described_types types d
types_behind types (Export text d) = described_types types d

-- the count of instances after this declaration
abbrev pub instances_behind : ℕ → Decl → ℕ
instances_behind instances (Entry t) = instances
instances_behind instances (Alias a) = instances
instances_behind instances (Import text d) = instances_with instances d
instances_behind instances (Export text d) = instances_with instances d

unfoldable mutual
  -- each index in the type is below the count of its space, in a scope of so many types in these scopes
  pub TypeInRange : List ℕ → ℕ → TypeEntry → Type 0
  TypeInRange around types (Define d) = DefinedInRange types d
  TypeInRange around types (Func f) = FunctionInRange types f
  TypeInRange around types (Component ds) = DeclsInRange (around ++ types ∷ []) 0 0 ds
  TypeInRange around types (Instance ds) = DeclsInRange (around ++ types ∷ []) 0 0 ds

  -- each index in the declaration is below the count of its space, in a scope of so many types and instances
  pub DeclInRange : List ℕ → ℕ → ℕ → Decl → Type 0
  DeclInRange around types instances (Entry t) = TypeInRange around types t
  DeclInRange around types instances (Alias a) = AliasInRange around types instances a
  DeclInRange around types instances (Import text d) = DescriptionInRange types d
  DeclInRange around types instances (Export text d) = DescriptionInRange types d

  -- each index in these declarations is below the count of its space at its place
  pub DeclsInRange : List ℕ → ℕ → ℕ → Decls → Type 0
  DeclsInRange around types instances none = Unit {0}
  DeclsInRange around types instances (then d ds) = DeclInRange around types instances d × DeclsInRange around (types_behind types d) (instances_behind instances d) ds

-- ---- in a file, whose scope has no other around it

-- each index in the types of a type section is below the count of its space, the first type with this index
abbrev pub TypesInRange : ℕ → List TypeEntry → Type 0
TypesInRange types [] = Unit {0}
TypesInRange types (d ∷ ds) = TypeInRange [] types d × TypesInRange (types + 1) ds

-- each index of the component is below the count of its space; an export's is that of a type of the type section
abbrev pub FileInRange : BinaryFile → Type 0
FileInRange f = TypesInRange 0 f.types × All (λ e. e.type < length f.types) f.exports
