-- What a text has beside blanks, and when two texts have the same.
use Rattle.std.specs.Prelude.{◌≡◌, ℕ, ◌-◌, Bool, true, false, IsTrue, List, length, drop, map, filter, All}
use Rattle.wit_tokens.specs.Lexing.{is_blank, begins_with, front_of, Lexes}
use Rattle.wit_tokens.specs.Pieces.{piece_text, pieces_text, Tile, tokens_in, AreGood}
use Rattle.wit_tokens.specs.declared.lexer.Front.TheVariants as front
use Rattle.wit_tokens.specs.declared.piece.Piece.{Piece}
use Rattle.wit_tokens.specs.declared.piece.PieceKind.{PieceKind}
use Rattle.wit_tokens.specs.declared.piece.PieceKind.TheVariants as piece

-- a piece that is no blanks: its kind and its bytes
pub record Solid : Type 0 where
  pub kind : PieceKind
  pub bytes : List ℕ

-- whether a piece of this kind is no blanks
abbrev pub is_solid : PieceKind → Bool
is_solid (piece.Token k) = true
is_solid piece.Blank = false
is_solid piece.Comment = true
is_solid piece.BadWord = true
is_solid piece.BadCharacter = true
is_solid piece.OpenComment = true

-- a piece of this text by its kind and its bytes
abbrev pub solid_of : List ℕ → Piece → Solid
solid_of text p = record { kind = p.kind; bytes = piece_text text p }

-- what these pieces of a text are beside blanks: its tokens, words and comments, in its order
abbrev pub solid_pieces : List ℕ → List Piece → List Solid
solid_pieces text ps = map (solid_of text) (filter (λ p. is_solid p.kind) ps)

-- at this place begins a comment of so many bytes
abbrev pub IsComment : List ℕ → ℕ → ℕ → Type 0
IsComment text at len = IsTrue (begins_with 47 (drop at text)) × (front_of (drop at text) ≡ front.Blank len)

-- What is called blanks has blanks alone, and what is called a comment is one.
abbrev pub IsRightly : List ℕ → PieceKind → ℕ → ℕ → List ℕ → Type 0
IsRightly text (piece.Token k) at len bytes = Unit {0}
IsRightly text piece.Blank at len bytes = All (λ c. IsTrue (is_blank c)) bytes
IsRightly text piece.Comment at len bytes = IsComment text at len
IsRightly text piece.BadWord at len bytes = Unit {0}
IsRightly text piece.BadCharacter at len bytes = Unit {0}
IsRightly text piece.OpenComment at len bytes = Unit {0}

-- a piece of this text that is blanks or a comment is called so
unfoldable pub IsCalledRightly : List ℕ → Piece → Type 0
IsCalledRightly text p = IsRightly text p.kind p.start (p.end - p.start) (piece_text text p)

-- These are the pieces of a text: one behind another they are the text, what is called blanks or a comment is that, and
-- the tokens among them are the text's, if it has tokens, blanks and comments alone.
pub record ArePiecesOf (text : List ℕ) (ps : List Piece) : Type 0 where
  pub lossless : pieces_text text ps ≡ text
  pub tile : Tile ps (length text)
  pub tokens : AreGood ps → Lexes text (tokens_in ps)
  pub rightly : All (IsCalledRightly text) ps

-- Two texts have the same tokens, words and comments in the same order, and differ in blanks alone.
pub record HaveSameSolids (text out : List ℕ) : Type 0 where
  pub before : List Piece
  pub after : List Piece
  pub are_before : ArePiecesOf text before
  pub are_after : ArePiecesOf out after
  pub same : solid_pieces text before ≡ solid_pieces out after
