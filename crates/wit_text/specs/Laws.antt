-- What holds of the definitions, whatever the text.
use Rattle.std.specs.Prelude.{◌≡◌, IsTrue, ℕ, List, Err}
use Rattle.atoms.specs.Exactness.{Exact, AtEnd}
use Rattle.wit_tokens.specs.declared.error.TextError.{TextError}
use Rattle.wit_tokens.specs.Tokens.{Lexeme}
use Rattle.wit_tokens.specs.Syntax.{File}
use Rattle.wit_tokens.specs.FullNames.{file_has_full_names}
use Rattle.wit_grammar.specs.Lookahead.{lookahead, NoneBegins}
use Rattle.wit_grammar.specs.Grammar.{nesting, file}
use Rattle.wit_text.specs.Reading.{IsRead, IsFile, IsDepth}

-- reading a file finds just what its production spells, or its first fault
abbrev pub FilesAreExact : ℕ → ℕ → Type 0
FilesAreExact end n = Exact (lookahead end) AtEnd (file end n)

-- if reading a file meets a fault, no file nested at most 64 deep begins with the tokens up to the one met
abbrev pub FaultsAreFinal : ℕ → Type 0
FaultsAreFinal end = (ts : List Lexeme) (e : TextError) → (file end nesting).read ts ≡ Err e → NoneBegins end (file end nesting).spells ts e

-- if reading a file meets a fault other than nesting, no file of any nesting begins with the tokens up to the one met
abbrev pub NoneAtAnyNesting : ℕ → Type 0
NoneAtAnyNesting end = (ts : List Lexeme) (e : TextError) → (IsDepth e → ⊥) → (file end nesting).read ts ≡ Err e → NoneBegins end (IsFile end) ts e

-- tokens spell at most one file
abbrev pub OneFile : ℕ → Type 0
OneFile end = (ts : List Lexeme) (f g : File) → IsFile end ts f → IsFile end ts g → f ≡ g

-- what a text's package and its interfaces are named makes full names
abbrev pub HasFullNames : List ℕ → Type 0
HasFullNames text = (f : File) → IsRead text f → IsTrue (file_has_full_names f)
