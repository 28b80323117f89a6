-- Which files have a text: their names are labels, their types nest within the limit, and no list that the grammar wants an entry of is empty.
use Rattle.std.specs.Prelude.{◌≡◌, ◌≤◌, ◌<◌, ℕ, suc, true, false, Bool, ◌&&◌, nat_le, List, Option, Some, None, length}
use Rattle.std.specs.List.{AllByRecursion}
use Rattle.atoms.specs.Label.{IsLabel, is_label}
use Rattle.atoms.specs.FullName.{is_package_label}
use Rattle.wit_tokens.specs.Lexing.{limit, begins_digit, version_run}
use Rattle.wit_tokens.specs.Syntax.{Ty, Prim, Named, ListOf, OptionOf, TupleOf, ResultOf, Tys, none, more, MaybeTy, Absent, Present, Member, CaseOf, UsedAs, Alias, Record, Variant, Enumeration, FlagSet, Function, PathTo, Local, Foreign, Entry, Uses, Defines, Declares, WorldEntry, Whole, Single, FileEntry, AnInterface, AWorld, File, ty_depth, TypeBody}
use Rattle.wit_grammar.specs.Grammar.{nesting, is_version_text}

-- how many types a tuple has
abbrev pub types_count : Tys → ℕ
types_count none = 0
types_count (more t ts) = suc (types_count ts)

-- names are labels, and a tuple has a member
abbrev mutual
  -- the names in a type expression are labels, and each tuple has one member at least and no more than a text has bytes
  pub is_spelt : Ty → Bool
  is_spelt (Prim p) = true
  is_spelt (Named n) = is_label n
  is_spelt (ListOf t) = is_spelt t
  is_spelt (OptionOf t) = is_spelt t
  is_spelt (TupleOf ts) = are_spelt ts && nat_le (types_count ts) limit
  is_spelt (ResultOf a b) = is_spelt_maybe a && is_spelt_maybe b

  -- the types of a tuple: one at least, whose names are labels
  pub are_spelt : Tys → Bool
  are_spelt none = false
  are_spelt (more t none) = is_spelt t
  are_spelt (more t (more u ts)) = is_spelt t && are_spelt (more u ts)

  -- a type of a `result` is absent, or its names are labels
  pub is_spelt_maybe : MaybeTy → Bool
  is_spelt_maybe Absent = true
  is_spelt_maybe (Present t) = is_spelt t

-- a type expression that has a text: its names are labels, no tuple is empty, and it nests at most 64 deep
pub record IsPrintableType (t : Ty) : Type 0 where
  pub spelt : is_spelt t ≡ true
  pub nested : ty_depth t ≤ nesting

-- a payload or a result has a text, if there is one
abbrev pub IsPrintableOption : Option Ty → Type 0
IsPrintableOption None = Unit {0}
IsPrintableOption (Some t) = IsPrintableType t

-- a field or a parameter that has a text
pub record IsPrintableMember (m : Member) : Type 0 where
  pub label : IsLabel m.name
  pub type : IsPrintableType m.ty

-- a case of a variant that has a text
pub record IsPrintableCase (c : CaseOf) : Type 0 where
  pub label : IsLabel c.name
  pub payload : IsPrintableOption c.payload

-- the local name of a used name is a label, if there is one
abbrev pub IsLabelOrNone : Option (List ℕ) → Type 0
IsLabelOrNone None = Unit {0}
IsLabelOrNone (Some n) = IsLabel n

-- a name of a `use` that has a text
pub record IsPrintableUse (u : UsedAs) : Type 0 where
  pub label : IsLabel u.name
  pub local : IsLabelOrNone u.local

-- at least one entry, and not more than a text has bytes, and each has a text
pub record ArePrintable {X : Type 0} (P : X → Type 0) (xs : List X) : Type 0 where
  pub some : 0 < length xs
  pub few : length xs ≤ limit
  pub each : AllByRecursion P xs

-- what is written after the name of a declared type has a text: each list of entries has one at least
abbrev pub IsPrintableDefinition : TypeBody → Type 0
IsPrintableDefinition (Alias t) = IsPrintableType t
IsPrintableDefinition (Record ms) = ArePrintable IsPrintableMember ms
IsPrintableDefinition (Variant cs) = ArePrintable IsPrintableCase cs
IsPrintableDefinition (Enumeration ns) = ArePrintable IsLabel ns
IsPrintableDefinition (FlagSet ns) = ArePrintable IsLabel ns

-- the type of a function that has a text; it may have no parameters
pub record IsPrintableFunction (f : Function) : Type 0 where
  pub few : length f.params ≤ limit
  pub params : AllByRecursion IsPrintableMember f.params
  pub result : IsPrintableOption f.result

-- a version of Semantic Versioning that is one token after its `@`
pub record IsPrintableVersion (v : List ℕ) : Type 0 where
  pub version : is_version_text v ≡ true
  pub begins : begins_digit v ≡ true
  pub runs : version_run v ≡ length v

-- the version of a package has a text, if there is one
abbrev pub IsPrintableVersionOrNone : Option (List ℕ) → Type 0
IsPrintableVersionOrNone None = Unit {0}
IsPrintableVersionOrNone (Some v) = IsPrintableVersion v

-- the path of an interface that has a text: each name is a label
abbrev pub IsPrintablePath : PathTo → Type 0
IsPrintablePath (Local n) = IsLabel n
IsPrintablePath (Foreign namespace name v i) = IsLabel namespace × IsLabel name × IsPrintableVersionOrNone v × IsLabel i

-- an item of an interface that has a text
abbrev pub IsPrintableEntry : Entry → Type 0
IsPrintableEntry (Uses at path us) = IsPrintablePath path × ArePrintable IsPrintableUse us
IsPrintableEntry (Defines at n d) = IsLabel n × IsPrintableDefinition d
IsPrintableEntry (Declares at n f) = IsLabel n × IsPrintableFunction f

-- an item of a world that has a text
abbrev pub IsPrintableWorldEntry : WorldEntry → Type 0
IsPrintableWorldEntry (Whole d path) = IsPrintablePath path
IsPrintableWorldEntry (Single d at n f) = IsLabel n × IsPrintableFunction f

-- an interface or a world that has a text; it may have no items
abbrev pub IsPrintableFileEntry : FileEntry → Type 0
IsPrintableFileEntry (AnInterface n es) = IsLabel n × (length es ≤ limit) × AllByRecursion IsPrintableEntry es
IsPrintableFileEntry (AWorld at n es) = IsLabel n × (length es ≤ limit) × AllByRecursion IsPrintableWorldEntry es

-- a file that has a text: its package's names are labels in lower case, and each item has a text
pub record IsPrintable (f : File) : Type 0 where
  pub namespace : is_package_label f.namespace ≡ true
  pub name : is_package_label f.name ≡ true
  pub version : IsPrintableVersionOrNone f.version
  pub few : length f.entries ≤ limit
  pub entries : AllByRecursion IsPrintableFileEntry f.entries
