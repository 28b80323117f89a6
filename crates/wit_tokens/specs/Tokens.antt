-- Tokens as the grammar sees them, and when two kinds are one.
use Rattle.std.specs.Prelude.{◌≡◌, ℕ, List, [], ◌∷◌, map, Option, Some, None, Bool, ◌==◌, ◌&&◌, ◌||◌, nat_le, slice_range, length, if◌then◌else◌}
use denote.Enum.Declared.{tag_of}
use Rattle.atoms.specs.Label.{is_label}
use Rattle.wit_tokens.specs.contracts.token.Keyword as keyword_type
use Rattle.wit_tokens.specs.contracts.token.Punctuation as mark_type
use Rattle.wit_tokens.specs.contracts.token.TokenKind as kind_type
use Rattle.wit_tokens.specs.declared.token.TokenKind.{TokenKind}
use Rattle.wit_tokens.specs.declared.token.TokenKind.TheVariants as kind
use Rattle.wit_tokens.specs.declared.token.Span.{Span}
use Rattle.wit_tokens.specs.declared.token.Token.{Token}

-- a token with the word that it spells
pub record Lexeme : Type 0 where
  pub token : Token
  pub text : List ℕ

-- where a token stands
abbrev pub span_of : Token → Span
span_of t = record { start = t.start; end = t.end }

-- the bytes of a token
abbrev pub bytes_of : List ℕ → Token → List ℕ
bytes_of text t = if nat_le t.start t.end && nat_le t.end (length text) then slice_range text t.start t.end else []

-- a token's bytes without the `%` of an escaped word and the `@` of a version
abbrev pub word_of : List ℕ → List ℕ
word_of [] = []
word_of (c ∷ cs) = if c == 37 || c == 64 then cs else c ∷ cs

-- the word that a token spells
abbrev pub token_name : List ℕ → Token → List ℕ
token_name text t = word_of (bytes_of text t)

-- a token of this text with the word that it spells
abbrev pub lexeme : List ℕ → Token → Lexeme
lexeme text t = record { token = t; text = token_name text t }

-- a token of this text with the word that it spells, if there is one
abbrev pub optional_lexeme : List ℕ → Option Token → Option Lexeme
optional_lexeme text None = None
optional_lexeme text (Some t) = Some (lexeme text t)

-- the tokens of this text with the words that they spell
abbrev pub lexemes : List ℕ → List Token → List Lexeme
lexemes text ts = map (lexeme text) ts

-- two kinds are one: the same variant, of the same keyword or mark
abbrev pub same_kind : TokenKind → TokenKind → Bool
same_kind (kind.Keyword a) (kind.Keyword b) = tag_of keyword_type.the_type a == tag_of keyword_type.the_type b
same_kind (kind.Punctuation a) (kind.Punctuation b) = tag_of mark_type.the_type a == tag_of mark_type.the_type b
same_kind a b = tag_of kind_type.the_type a == tag_of kind_type.the_type b

-- an identifier of this text is a label
abbrev pub IsNamed : List ℕ → Token → Type 0
IsNamed text t = (same_kind t.kind kind.Identifier && is_label (token_name text t)) ≡ same_kind t.kind kind.Identifier
