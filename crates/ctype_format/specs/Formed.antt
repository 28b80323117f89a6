-- Parts whose numbers and names are such as their types hold.
use Rattle.std.specs.Prelude.{◌≡◌, ◌^◌, ◌<◌, ℕ, List, [], ◌∷◌, length, Option, Some, None, true}
use Rattle.atoms.specs.Label.{is_label}
use Rattle.ctype_format.specs.declared.raw.RawValType.{RawValType}
use Rattle.ctype_format.specs.declared.raw.RawValType.TheVariants as valtypes
use Rattle.ctype_format.specs.declared.raw.RawField.{RawField}
use Rattle.ctype_format.specs.declared.raw.RawCase.{RawCase}
use Rattle.ctype_format.specs.declared.raw.RawAlias.{RawAlias}
use Rattle.ctype_format.specs.declared.raw.RawAlias.TheVariants as aliases
use Rattle.ctype_format.specs.declared.raw.RawDescription.{RawDescription}
use Rattle.ctype_format.specs.declared.raw.RawDescription.TheVariants as descriptions
use Rattle.ctype_format.specs.Names.{is_extern_name}
use Rattle.ctype_format.specs.Raw.{Defined, Prim, Record, Variant, ListOf, Tuple, FlagSet, Enumeration, OptionOf, ResultOf, BinaryFunction, Define, Func, Component, Instance, Decl, Entry, Alias, Import, Export, Decls, none, then, Exported, BinaryFile, TypeEntry}
use Rattle.ctype_format.specs.Writing.{counted, decl_count, type_bytes, exported_bytes}

-- a number of 32 bits
abbrev pub FitsU32 : ℕ → Type 0
FitsU32 n = n < 2 ^ 32

-- P holds of each entry
abbrev pub All : {X : Type 0} → (X → Type 0) → List X → Type 0
All P [] = Unit {0}
All P (x ∷ xs) = P x × All P xs

-- the count of entries is a number of 32 bits, and P holds of each
abbrev pub Counted : {X : Type 0} → (X → Type 0) → List X → Type 0
Counted P xs = FitsU32 (length xs) × All P xs

-- a label whose length in bytes is a number of 32 bits
abbrev pub FormedLabel : List ℕ → Type 0
FormedLabel text = FitsU32 (length text) × (is_label text ≡ true)

-- the name of an import or an export whose length in bytes is a number of 32 bits
abbrev pub FormedName : List ℕ → Type 0
FormedName text = FitsU32 (length text) × (is_extern_name text ≡ true)

-- a primitive, or an index that is a number of 32 bits
abbrev pub FormedValType : RawValType → Type 0
FormedValType (valtypes.Primitive p) = Unit {0}
FormedValType (valtypes.Index i) = FitsU32 i

-- the type of a payload or a result, if there is one, has a number of 32 bits as its index
abbrev pub FormedOption : Option RawValType → Type 0
FormedOption None = Unit {0}
FormedOption (Some t) = FormedValType t

-- a field or a parameter: a label and a value type of such numbers
abbrev pub FormedField : RawField → Type 0
FormedField f = FormedLabel f.label × FormedValType f.ty

-- a case: a label and perhaps a payload of such numbers
abbrev pub FormedCase : RawCase → Type 0
FormedCase c = FormedLabel c.label × FormedOption c.payload

-- a defined value type whose counts and indices are numbers of 32 bits, and whose labels are labels
abbrev pub FormedDefined : Defined → Type 0
FormedDefined (Prim p) = Unit {0}
FormedDefined (Record fs) = Counted FormedField fs
FormedDefined (Variant cs) = Counted FormedCase cs
FormedDefined (ListOf e) = FormedValType e
FormedDefined (Tuple es) = Counted FormedValType es
FormedDefined (FlagSet ls) = Counted FormedLabel ls
FormedDefined (Enumeration ls) = Counted FormedLabel ls
FormedDefined (OptionOf e) = FormedValType e
FormedDefined (ResultOf ok error) = FormedOption ok × FormedOption error

-- a function type whose counts and indices are numbers of 32 bits, and whose parameters have labels
abbrev pub FormedFunction : BinaryFunction → Type 0
FormedFunction f = Counted FormedField f.params × FormedOption f.outcome

-- an alias whose count and indices are numbers of 32 bits, and whose name is a label
abbrev pub FormedAlias : RawAlias → Type 0
FormedAlias (aliases.InstanceExport i text) = FitsU32 i × FormedLabel text
FormedAlias (aliases.Outer n i) = FitsU32 n × FitsU32 i

-- what an import or an export is, by an index that is a number of 32 bits
abbrev pub FormedDescription : RawDescription → Type 0
FormedDescription (descriptions.Function i) = FitsU32 i
FormedDescription (descriptions.TypeEqual i) = FitsU32 i
FormedDescription (descriptions.Component i) = FitsU32 i
FormedDescription (descriptions.Instance i) = FitsU32 i

unfoldable mutual
  -- a type whose numbers have 32 bits and whose names are names, and so in the scopes in it
  pub FormedType : TypeEntry → Type 0
  FormedType (Define d) = FormedDefined d
  FormedType (Func f) = FormedFunction f
  FormedType (Component ds) = FitsU32 (decl_count ds) × FormedDecls ds
  FormedType (Instance ds) = FitsU32 (decl_count ds) × FormedDecls ds

  -- a declaration whose numbers have 32 bits and whose names are names, and so in its types
  pub FormedDecl : Decl → Type 0
  FormedDecl (Entry t) = FormedType t
  FormedDecl (Alias a) = FormedAlias a
  FormedDecl (Import text d) = FormedName text × FormedDescription d
  FormedDecl (Export text d) = FormedName text × FormedDescription d

  -- each of these declarations has numbers of 32 bits and names that are names
  pub FormedDecls : Decls → Type 0
  FormedDecls none = Unit {0}
  FormedDecls (then d ds) = FormedDecl d × FormedDecls ds

-- an export of the component whose name is one and whose index is a number of 32 bits
abbrev pub FormedExport : Exported → Type 0
FormedExport e = FormedName e.name × FitsU32 e.type

-- a component whose numbers have 32 bits, the sizes of its two sections too, and whose names are names
pub record FormedFile (f : BinaryFile) : Type 0 where
  pub types : Counted FormedType f.types
  pub exports : Counted FormedExport f.exports
  pub type_size : FitsU32 (length (counted type_bytes f.types))
  pub export_size : FitsU32 (length (counted exported_bytes f.exports))
