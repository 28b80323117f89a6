-- What is opened of packages that use each other, what is written of the last of them, and why they aren't opened.
use Rattle.std.specs.Prelude.{◌≡◌, ◌<◌, ◌≤◌, ℕ, true, false, List, length}
use Rattle.std.specs.Str.{IsUtf8}
use Rattle.ctype_format.specs.File.{max_length}
use Rattle.ctype_format.specs.Writing.{file_bytes}
use Rattle.ctype_format.specs.declared.error.BinError.{BinError}
use Rattle.ctype_format.specs.declared.error.BinError.TheVariants as binary_error
use Rattle.ctype_format.specs.declared.error.BinError.TheVariants.{At}
use Rattle.ctype_format.specs.declared.error.Fault.TheVariants.{Limit}
use Rattle.layout.specs.Layout.{AreWithin, RefusesFirst}
use Rattle.layout.specs.declared.error.LayoutError.TheVariants as layout_error
use Rattle.package_form.specs.Closed.{own_package}
use Rattle.package_sets.specs.Restricted.{IsRestricted}
use Rattle.package_text.specs.Text.{text_of}
use Rattle.tables.specs.declared.tables.Resolve.{Resolve}
use Rattle.tables.specs.declared.error.ResolveError.TheVariants as resolve_error
use Rattle.wit_component.specs.Component.{component_of}
use Rattle.wit_tokens.specs.Lexing.{limit}
use Rattle.wit_tokens.specs.declared.error.TextError.{TextError}
use Rattle.wit_tokens.specs.declared.error.TextError.TheVariants as text_error
use Rattle.opening.specs.Sets.{is_binary, IsBinaryOf, IsSetOf, FirstRefused}
use Rattle.opening.specs.declared.package.Last.{Last}
use Rattle.opening.specs.declared.package.Last.TheVariants as last
use Rattle.opening.specs.declared.package.OpenError.{OpenError}
use Rattle.opening.specs.declared.package.OpenError.TheVariants as error

-- ---- packages

-- r is the set of the packages of these inputs, in order, and all its types are within the limits of layout
pub record IsOpened (inputs : List (List ℕ)) (r : Resolve) : Type 0 where
  pub set : IsSetOf inputs r
  pub within : AreWithin r

-- the closed table of the set's last package: this package, and the interfaces of others that it reaches
abbrev pub IsLast : Resolve → Resolve → Type 0
IsLast r closed = IsRestricted r (own_package r.packages) closed

-- the closed table of the last package, as a program keeps it: the whole set, or a table of its own
abbrev pub last_table : Last → Resolve
last_table (last.Whole set) = set.now
last_table (last.Part table) = table

-- The bytes are a binary of the set's last package, and the set is within the limits of layout: what `to_binary` gives.
pub record IsWrittenAs (bytes : List ℕ) (r : Resolve) : Type 0 where
  pub begins : is_binary bytes ≡ true
  pub closed : Resolve
  pub last : IsLast r closed
  pub binary : IsBinaryOf bytes closed
  pub within : AreWithin r

-- The bytes are the canonical text of the set's last package, which is UTF-8 and no longer than a text may be, and the set is within the limits
-- of layout: what `to_text` gives.
pub record IsPrintedAs (bytes : List ℕ) (r : Resolve) : Type 0 where
  pub begins : is_binary bytes ≡ false
  pub closed : Resolve
  pub last : IsLast r closed
  pub text : bytes ≡ text_of closed
  pub utf8 : IsUtf8 bytes
  pub short : length bytes ≤ limit
  pub within : AreWithin r

-- ---- refusals

-- the refusal is out of memory and nothing else: 21, 35, 46, 52 or 66
abbrev pub IsWantOfMemory : OpenError → Type 0
IsWantOfMemory (error.Binary e) = e ≡ binary_error.NoMemory
IsWantOfMemory (error.Resolve e) = e ≡ resolve_error.NoMemory
IsWantOfMemory (error.Layout e) = e ≡ layout_error.NoMemory
IsWantOfMemory error.NoMemory = Unit {0}
IsWantOfMemory (error.Text e) = e ≡ text_error.NoMemory
IsWantOfMemory (error.NotUtf8 place) = ⊥
IsWantOfMemory (error.Read place) = ⊥

-- Why they are not opened: the first that is refused is told, in this order. Of a text: 49, 36, 60, its tokens and its grammar (30 to 35), then 43,
-- 48, 40, 47, 41, 42, 45. Of a binary: 49, its own (10 to 19, 22, 23), then 43, 44, 40, 48, 47, 44. Behind all inputs come the layouts of the whole set (51, 50).
abbrev pub OpenRefuses : List (List ℕ) → OpenError → Type 0
OpenRefuses inputs (error.Layout e) = (r : Resolve) × IsSetOf inputs r × RefusesFirst e r
OpenRefuses inputs e = FirstRefused inputs e

-- ---- what is written of the last package

-- the bytes are the shortest binary of the component of the set's last package
abbrev pub AreBytesOf : Resolve → List ℕ → Type 0
AreBytesOf r bytes = (closed : Resolve) × IsLast r closed × (bytes ≡ file_bytes (component_of closed))

-- the binary of the set's last package is longer than a binary may be
abbrev pub HasLongBinary : Resolve → Type 0
HasLongBinary r = (bytes : List ℕ) × AreBytesOf r bytes × (max_length < length bytes)

-- the refusal of a binary that is too long to be written (17), at the first byte past the limit
abbrev pub IsTooLong : Resolve → BinError → Type 0
IsTooLong r e = (e ≡ At Limit max_length) × HasLongBinary r

-- the canonical text of the set's last package
abbrev pub IsCanonicalText : Resolve → List ℕ → Type 0
IsCanonicalText r text = (closed : Resolve) × IsLast r closed × (text ≡ text_of closed)

-- the canonical text of the set's last package is longer than a text may be
abbrev pub HasLongText : Resolve → Type 0
HasLongText r = (text : List ℕ) × IsCanonicalText r text × (limit < length text)

-- the refusal of a canonical text that is too long to be written (36)
abbrev pub IsLongText : Resolve → TextError → Type 0
IsLongText r e = (e ≡ text_error.Limit) × HasLongText r
