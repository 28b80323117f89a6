-- Pieces of a text, one after another.
use Rattle.std.specs.Prelude.{◌≡◌, ℕ, ◌<◌, ◌≤◌, List, [], ◌∷◌, ◌++◌, slice_range}
use Rattle.wit_tokens.specs.declared.token.Token.{Token}
use Rattle.wit_tokens.specs.declared.token.TokenKind.{TokenKind}
use Rattle.wit_tokens.specs.declared.piece.Piece.{Piece}
use Rattle.wit_tokens.specs.declared.piece.PieceKind.{PieceKind}
use Rattle.wit_tokens.specs.declared.piece.PieceKind.TheVariants as piece
use Rattle.wit_tokens.specs.Lexing.{Upto}

-- the piece of this kind from one place to another
abbrev pub piece_from : PieceKind → ℕ → ℕ → Piece
piece_from k at end = record { kind = k; start = at; end = end }

-- the bytes of a piece
abbrev pub piece_text : List ℕ → Piece → List ℕ
piece_text text p = slice_range text p.start p.end

-- the bytes of pieces, one after another
unfoldable pub pieces_text : List ℕ → List Piece → List ℕ
pieces_text text [] = []
pieces_text text (p ∷ ps) = piece_text text p ++ pieces_text text ps

-- These pieces have a byte or more each. The first begins at 0, each other where the one before it ends, and the last ends at this place.
pub data Tile : List Piece → ℕ → Type 0 where
  none : Tile [] 0
  more : (b : ℕ) (ps : List Piece) (p : Piece) → Tile ps b → p.start ≡ b → b < p.end → Tile (ps ++ p ∷ []) p.end

-- the token that a piece is, if it is one
abbrev pub token_in : PieceKind → ℕ → ℕ → List Token
token_in (piece.Token k) start end = record { kind = k; start = start; end = end } ∷ []
token_in piece.Blank start end = []
token_in piece.Comment start end = []
token_in piece.BadWord start end = []
token_in piece.BadCharacter start end = []
token_in piece.OpenComment start end = []

-- the tokens among pieces
unfoldable pub tokens_in : List Piece → List Token
tokens_in [] = []
tokens_in (p ∷ ps) = token_in p.kind p.start p.end ++ tokens_in ps

-- a piece of this kind is a token, blanks or a comment
abbrev pub IsGood : PieceKind → Type 0
IsGood (piece.Token k) = Unit {0}
IsGood piece.Blank = Unit {0}
IsGood piece.Comment = Unit {0}
IsGood piece.BadWord = ⊥
IsGood piece.BadCharacter = ⊥
IsGood piece.OpenComment = ⊥

-- each of these pieces is a token, blanks or a comment
abbrev pub AreGood : List Piece → Type 0
AreGood [] = Unit {0}
AreGood (p ∷ ps) = IsGood p.kind × AreGood ps

-- A piece goes on a text's tokens: tokens that go up to its front go up to its end with it, if it is good.
abbrev pub GoesOn : List ℕ → Piece → Type 0
GoesOn text p = (ts : List Token) → IsGood p.kind → Upto text p.start ts → Upto text p.end (ts ++ token_in p.kind p.start p.end)
