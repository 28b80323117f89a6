-- A text as words: each a token, with the blanks that stand before it.
use Rattle.std.specs.Prelude.{ℕ, List, [], ◌∷◌, ◌++◌, is_some, if◌then◌else◌}
use Rattle.wit_tokens.specs.declared.token.Keyword.{Keyword}
use Rattle.wit_tokens.specs.declared.token.Punctuation.{Punctuation}
use Rattle.wit_tokens.specs.declared.token.TokenKind.{TokenKind}
use Rattle.wit_tokens.specs.declared.token.TokenKind.TheVariants as kind
use Rattle.wit_tokens.specs.Keywords.{spelling, keyword_of}
use Rattle.wit_tokens.specs.Marks.{mark_text}

-- a token of a text to be written: its kind and its bytes, and the blanks before it
pub record Word : Type 0 where
  pub space : List ℕ
  pub kind : TokenKind
  pub bytes : List ℕ

-- the text of these words, with these bytes behind them
abbrev pub words_text : List Word → List ℕ → List ℕ
words_text [] rest = rest
words_text (w ∷ ws) rest = w.space ++ (w.bytes ++ words_text ws rest)

-- a name that is spelled as a keyword has `%` before it
abbrev pub escaped : List ℕ → List ℕ
escaped name = if is_some (keyword_of name) then 37 ∷ name else name

-- a mark, with these blanks before it
abbrev pub mark_word : List ℕ → Punctuation → Word
mark_word space p = record { space = space; kind = kind.Punctuation p; bytes = mark_text p }

-- a keyword, with these blanks before it
abbrev pub keyword_word : List ℕ → Keyword → Word
keyword_word space k = record { space = space; kind = kind.Keyword k; bytes = spelling k }

-- a name, with `%` if it is spelled as a keyword, and these blanks before it
abbrev pub name_word : List ℕ → List ℕ → Word
name_word space name = record { space = space; kind = kind.Identifier; bytes = escaped name }

-- a version with its `@`
abbrev pub version_word : List ℕ → Word
version_word version = record { space = []; kind = kind.Version; bytes = 64 ∷ version }
