-- Which bytes are packages that use each other, what set they make, and why others are refused: WIT.md, "Package Names", "Item: `use`"; Binary.md,
-- "Import and Export Definitions".
use Rattle.std.specs.Prelude.{◌≡◌, ◌≤◌, ◌==◌, ℕ, Bool, true, MatchBool, List, [], ◌∷◌, ◌++◌, map, length, Ok, Err}
use Rattle.std.specs.Borrow.{Bor}
use Rattle.std.specs.List.{starts_with}
use Rattle.std.specs.Str.{IsUtf8, IsValidUpTo}
use Rattle.ctype_bin.specs.FileView.{raw_component_view}
use Rattle.ctype_bin.specs.declared.component.RawComponent.{RawComponent}
use Rattle.ctype_format.specs.File as binary
use Rattle.ctype_format.specs.File.{decoded}
use Rattle.package_adding.specs.Added.{IsOfComponent, ComponentNotAdded, IsOfTree, TreeNotAdded}
use Rattle.package_sets.specs.BehindImports.{IsBehindImports}
use Rattle.package_sets.specs.Attached.{HasRoom, IsAttached}
use Rattle.package_sets.specs.SetForm.{IsEmpty}
use Rattle.package_text.specs.Writable.{IsWritable}
use Rattle.tree_meaning.specs.Resolves.{file_fits}
use Rattle.tables.specs.declared.error.ResolveError.{ResolveError}
use Rattle.tables.specs.declared.error.ResolveError.TheVariants as cause
use Rattle.tables.specs.declared.tables.Resolve.{Resolve}
use Rattle.wit_tokens.specs.Syntax.{File}
use Rattle.wit_text.specs.Reading as text
use Rattle.wit_text.specs.Reading.{IsRead}
use Rattle.wit_tokens.specs.Lexing.{limit}
use Rattle.wit_tokens.specs.declared.error.TextError.{TextError}
use Rattle.wit_tokens.specs.declared.error.TextError.TheVariants as text_error
use Rattle.opening.specs.declared.package.OpenError.{OpenError}
use Rattle.opening.specs.declared.package.OpenError.TheVariants as error

-- ---- lists of inputs

-- the bytes of the inputs, which are lent, in order
abbrev pub all_bytes : List (Bor (List ℕ)) → List (List ℕ)
all_bytes inputs = map (λ b. b.now) inputs

-- ---- one package behind a set

-- the bytes begin as a binary does, with `\0asm`
abbrev pub is_binary : List ℕ → Bool
is_binary bytes = starts_with (λ a b. a == b) bytes (0x00 ∷ 0x61 ∷ 0x73 ∷ 0x6d ∷ [])

-- the bytes are a text that is read, and this is the closed table of its package behind the set
pub record IsOfTextBehind (set : Resolve) (bytes : List ℕ) (closed : Resolve) : Type 0 where
  pub utf8 : IsUtf8 bytes
  pub file : File
  pub read : IsRead bytes file
  pub fits : file_fits file ≡ true
  pub tree : IsOfTree file set closed

-- the bytes, of which there are at most 1,048,576, spell a component that stands for the package of this closed table, whose names differ in each scope
pub record IsBinaryOf (bytes : List ℕ) (closed : Resolve) : Type 0 where
  pub raw : RawComponent
  pub spelt : decoded bytes ≡ Ok (raw_component_view raw)
  pub component : IsOfComponent raw closed

-- the bytes are a binary or a text, by how they begin, and this is the closed table of its package
abbrev pub IsMember : Resolve → List ℕ → Resolve → Type 0
IsMember set bytes closed = MatchBool (is_binary bytes) (IsBinaryOf bytes closed) (IsOfTextBehind set bytes closed)

-- the set with the package of this closed table behind it: its imports are just those of the set that its own part names, with what these reach
pub record PutsBehind (set closed r : Resolve) : Type 0 where
  pub writable : ∥ IsWritable closed ∥₁
  pub behind : IsBehindImports set closed
  pub id : ℕ
  pub attached : IsAttached set closed r id

-- the set with the package of the bytes more, whose closed table this is
pub record AddsMember (set : Resolve) (bytes : List ℕ) (closed r : Resolve) : Type 0 where
  pub member : IsMember set bytes closed
  pub puts : PutsBehind set closed r

-- ---- why it is refused

-- 36 is asked of all bytes, the text's other refusals of UTF-8 alone
abbrev pub IsUtf8Behind36 : List ℕ → TextError → Type 0
IsUtf8Behind36 bytes text_error.Limit = Unit {0}
IsUtf8Behind36 bytes _ = IsUtf8 bytes

-- the bytes are too long for a text, no UTF-8, or not read
abbrev pub IsNoText : List ℕ → OpenError → Type 0
IsNoText bytes (error.Text e) = IsUtf8Behind36 bytes e × text.FaultyText bytes e
IsNoText bytes (error.NotUtf8 place) = (length bytes ≤ limit) × ¬ (IsUtf8 bytes) × IsValidUpTo bytes place
IsNoText bytes _ = ⊥

-- the bytes are no binary that is decoded, for this reason
abbrev pub IsNoBinary : List ℕ → OpenError → Type 0
IsNoBinary bytes (error.Binary e) = binary.Decodes raw_component_view (Err e) bytes
IsNoBinary bytes _ = ⊥

-- the bytes are not decoded, or are no text that is read, for this reason
abbrev pub IsNothing : List ℕ → OpenError → Type 0
IsNothing bytes e = MatchBool (is_binary bytes) (IsNoBinary bytes e) (IsNoText bytes e)

-- the bytes are a text that is read, and its package is not added to the set for this reason
abbrev pub TextNotAdded : Resolve → List ℕ → ResolveError → Type 0
TextNotAdded set bytes e = IsUtf8 bytes × (f : File) × IsRead bytes f × TreeNotAdded f set e

-- the bytes spell a component, and its package is not added to the set for this reason
abbrev pub BinaryNotAdded : Resolve → List ℕ → ResolveError → Type 0
BinaryNotAdded set bytes e = (raw : RawComponent) × (decoded bytes ≡ Ok (raw_component_view raw)) × ComponentNotAdded raw set e

-- the package of the bytes, a binary or a text, is not added to the set for this reason
abbrev pub NotAdded : Resolve → List ℕ → ResolveError → Type 0
NotAdded set bytes e = MatchBool (is_binary bytes) (BinaryNotAdded set bytes e) (TextNotAdded set bytes e)

-- 49 comes before all, then what is wrong with the bytes alone, then what is wrong with the package in this set
abbrev pub MemberRefuses : Resolve → List ℕ → OpenError → Type 0
MemberRefuses set bytes (error.Resolve cause.SetLimit) = ¬ HasRoom set
MemberRefuses set bytes (error.Resolve e) = HasRoom set × NotAdded set bytes e
MemberRefuses set bytes e = HasRoom set × IsNothing bytes e

-- ---- sets

-- the set with these packages behind it, one behind the other: each a text or a binary that uses those before it
abbrev pub AddsMembers : Resolve → List (List ℕ) → Resolve → Type 0
AddsMembers set [] r = set ≡ r
AddsMembers set (bytes ∷ rest) r = (closed next : Resolve) × AddsMember set bytes closed next × AddsMembers next rest r

-- the set of the packages of these inputs, each of which uses only those before it
pub record IsSetOf (inputs : List (List ℕ)) (r : Resolve) : Type 0 where
  pub none : Resolve
  pub empty : IsEmpty none
  pub adds : AddsMembers none inputs r

-- the first of these inputs whose package is not added, and why
pub record FirstRefused (inputs : List (List ℕ)) (e : OpenError) : Type 0 where
  pub earlier : List (List ℕ)
  pub bytes : List ℕ
  pub rest : List (List ℕ)
  pub inputs_are : inputs ≡ earlier ++ bytes ∷ rest
  pub set : Resolve
  pub made : IsSetOf earlier set
  pub refuses : MemberRefuses set bytes e
