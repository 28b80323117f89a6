-- The pieces of a text that the grammar sees.
use Rattle.std.specs.Prelude.{ℕ, ◌<◌, ◌≤◌, Bool, true, false, List, length, Option, option_map, All, slice_get, slice_index_or}
use Rattle.wit_tokens.specs.declared.token.TokenKind.{TokenKind}
use Rattle.wit_tokens.specs.declared.token.TokenKind.TheVariants as token
use Rattle.wit_tokens.specs.declared.piece.Piece.{Piece}
use Rattle.wit_tokens.specs.declared.piece.PieceKind.{PieceKind}
use Rattle.wit_tokens.specs.declared.piece.PieceKind.TheVariants as piece
use Rattle.wit_tree.specs.declared.word.Word.{Word}

-- whether a piece of this kind is a token or a word
abbrev pub is_word : PieceKind → Bool
is_word (piece.Token k) = true
is_word piece.BadWord = true
is_word piece.Blank = false
is_word piece.Comment = false
is_word piece.BadCharacter = false
is_word piece.OpenComment = false

-- whether a token may be meant as a name
abbrev pub is_identifier : TokenKind → Bool
is_identifier token.Identifier = true
is_identifier (token.Keyword k) = false
is_identifier (token.Punctuation m) = false
is_identifier token.Version = false
is_identifier token.Integer = false

-- whether a word of this kind may be meant as a name
abbrev pub is_name : PieceKind → Bool
is_name (piece.Token k) = is_identifier k
is_name piece.BadWord = true
is_name piece.Blank = false
is_name piece.Comment = false
is_name piece.BadCharacter = false
is_name piece.OpenComment = false

-- the piece that a word is
abbrev pub piece_of : Word → Piece
piece_of w = record { kind = w.kind; start = w.start; end = w.end }

-- the kind of the word at an index, if there is one
abbrev pub kind_at : List Word → ℕ → Option PieceKind
kind_at ws n = option_map (λ (w : Word). w.kind) (slice_get ws n)

-- a piece is in a text of so many bytes
abbrev pub IsPieceIn : ℕ → Piece → Type 0
IsPieceIn len p = (p.start ≤ p.end) × (p.end ≤ len)

-- a word is in a text of so many bytes
abbrev pub IsWordIn : ℕ → Word → Type 0
IsWordIn len w = (w.start ≤ w.end) × (w.end ≤ len)

-- words are in a text of so many bytes, in its order
pub record AreInText (len : ℕ) (ws : List Word) : Type 0 where
  pub ordered : (i j : ℕ) (d : Word) → i ≤ j → j < length ws → (slice_index_or ws i d).start ≤ (slice_index_or ws j d).end
  pub within : All (IsWordIn len) ws
