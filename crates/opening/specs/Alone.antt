-- One input that is opened by itself, in the words for a package that names no other.
use Rattle.std.specs.Prelude.{◌≡◌, ℕ, [], ◌∷◌, List, MatchBool, Ok}
use Rattle.std.specs.Str.{IsUtf8}
use Rattle.ctype_bin.specs.FileView.{raw_component_view}
use Rattle.ctype_bin.specs.declared.component.RawComponent.{RawComponent}
use Rattle.ctype_format.specs.File.{decoded}
use Rattle.layout.specs.Layout.{AreWithin, RefusesFirst}
use Rattle.package_adding.specs.Alone.{IsFileAlone, IsComponentAlone, FileAloneRefuses, ComponentAloneRefuses}
use Rattle.tables.specs.declared.error.ResolveError.{ResolveError}
use Rattle.tables.specs.declared.tables.Resolve.{Resolve}
use Rattle.wit_tokens.specs.Syntax.{File}
use Rattle.wit_text.specs.Reading.{IsRead}
use Rattle.opening.specs.Opening.{IsOpened}
use Rattle.opening.specs.Sets.{is_binary, IsNothing}
use Rattle.opening.specs.declared.package.OpenError.{OpenError}
use Rattle.opening.specs.declared.package.OpenError.TheVariants as error

-- the bytes are a text that is read, and this is the package of its file
pub record IsOfText (bytes : List ℕ) (r : Resolve) : Type 0 where
  pub utf8 : IsUtf8 bytes
  pub file : File
  pub read : IsRead bytes file
  pub alone : IsFileAlone file r

-- the bytes spell a component, and this is its package
pub record IsOfBinary (bytes : List ℕ) (r : Resolve) : Type 0 where
  pub raw : RawComponent
  pub spelt : decoded bytes ≡ Ok (raw_component_view raw)
  pub alone : IsComponentAlone raw r

-- the bytes are a binary or a text, by how they begin, and this is the package of it by itself
abbrev pub IsOfBytes : List ℕ → Resolve → Type 0
IsOfBytes bytes r = MatchBool (is_binary bytes) (IsOfBinary bytes r) (IsOfText bytes r)

-- the set of one input is the package of its bytes, and this package is a set of one
pub record OpensAlone (bytes : List ℕ) (r : Resolve) : Type 0 where
  pub by_itself : IsOpened (bytes ∷ []) r → ∥ IsOfBytes bytes r ∥₁
  pub opened : IsOfBytes bytes r → AreWithin r → IsOpened (bytes ∷ []) r

-- ---- refusals

-- the bytes are a text that is read, and its file is refused by itself for this reason
abbrev pub TextIsRefused : List ℕ → ResolveError → Type 0
TextIsRefused bytes e = IsUtf8 bytes × (f : File) × IsRead bytes f × FileAloneRefuses f e

-- the bytes spell a component, and it is refused by itself for this reason
abbrev pub BinaryIsRefused : List ℕ → ResolveError → Type 0
BinaryIsRefused bytes e = (raw : RawComponent) × (decoded bytes ≡ Ok (raw_component_view raw)) × ComponentAloneRefuses raw e

-- the bytes are a binary or a text, by how they begin, and its package is refused by itself for this reason
abbrev pub IsRefusedAlone : List ℕ → ResolveError → Type 0
IsRefusedAlone bytes e = MatchBool (is_binary bytes) (BinaryIsRefused bytes e) (TextIsRefused bytes e)

-- why one input is not opened by itself
abbrev pub AloneRefuses : List ℕ → OpenError → Type 0
AloneRefuses bytes (error.Layout e) = (r : Resolve) × ∥ IsOfBytes bytes r ∥₁ × RefusesFirst e r
AloneRefuses bytes (error.Resolve e) = IsRefusedAlone bytes e
AloneRefuses bytes e = IsNothing bytes e
