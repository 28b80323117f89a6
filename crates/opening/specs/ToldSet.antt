-- The set of some packages, told by names.
use Rattle.std.specs.Prelude.{◌≡◌, ℕ, true, List, [], ◌∷◌, MatchBool, Ok}
use Rattle.std.specs.Str.{IsUtf8}
use Rattle.ctype_bin.specs.FileView.{raw_component_view}
use Rattle.ctype_bin.specs.declared.component.RawComponent.{RawComponent}
use Rattle.ctype_format.specs.File.{decoded}
use Rattle.opening.specs.Sets.{IsSetOf, is_binary}
use Rattle.package_sets.specs.SetForm.{IsEmpty}
use Rattle.tables.specs.declared.tables.Resolve.{Resolve}
use Rattle.tree_meaning.specs.Resolves.{file_fits}
use Rattle.wit_tokens.specs.Syntax.{File}
use Rattle.wit_text.specs.Reading.{IsRead}
use Rattle.opening.specs.Told.{AddsFile, AddsRaw}

-- the bytes are a text, and this is the set with its package more
pub record AddsText (set : Resolve) (bytes : List ℕ) (r : Resolve) : Type 0 where
  pub utf8 : IsUtf8 bytes
  pub file : File
  pub read : IsRead bytes file
  pub fits : file_fits file ≡ true
  pub adds : AddsFile file set r

-- the bytes are a binary, and this is the set with its package more
pub record AddsBinary (set : Resolve) (bytes : List ℕ) (r : Resolve) : Type 0 where
  pub raw : RawComponent
  pub spelt : decoded bytes ≡ Ok (raw_component_view raw)
  pub adds : AddsRaw raw set r

-- the bytes are a binary or a text, by how they begin, and this is the set with its package more
abbrev pub AddsInput : Resolve → List ℕ → Resolve → Type 0
AddsInput set bytes r = MatchBool (is_binary bytes) (AddsBinary set bytes r) (AddsText set bytes r)

-- the set with the packages of these inputs more, one after the other
abbrev pub AddsInputs : Resolve → List (List ℕ) → Resolve → Type 0
AddsInputs set [] r = set ≡ r
AddsInputs set (bytes ∷ rest) r = (next : Resolve) × AddsInput set bytes next × AddsInputs next rest r

-- the set of the packages of these inputs, by names
pub record IsToldSetOf (inputs : List (List ℕ)) (r : Resolve) : Type 0 where
  pub none : Resolve
  pub empty : IsEmpty none
  pub adds : AddsInputs none inputs r

-- the set that opening gives is the one that its names describe
abbrev pub SetIsTold : List (List ℕ) → Resolve → Type 0
SetIsTold inputs r = IsSetOf inputs r → ∥ IsToldSetOf inputs r ∥₁
