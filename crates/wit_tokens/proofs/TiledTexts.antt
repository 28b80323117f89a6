-- Pieces that tile a text are the text, one after another.
use Rattle.std.proofs.Common.{◌≡◌, ℕ, ◌+◌, ◌-◌, ◌<◌, ◌≤◌, List, [], ◌∷◌, ◌++◌, length, take, drop, refl, sym, ap, subst, ◌∙◌, append_assoc, append-nil, arith}
use Rattle.std.specs.Prelude.{slice_range}
use Rattle.std.proofs.lemmas.List.{take-append-drop, take-take, drop-take, take_all}
use Rattle.wit_tokens.specs.declared.token.Token.{Token}
use Rattle.wit_tokens.specs.declared.token.TokenKind.{TokenKind}
use Rattle.wit_tokens.specs.declared.piece.Piece.{Piece}
use Rattle.wit_tokens.specs.declared.piece.PieceKind.TheVariants as piece
use Rattle.wit_tokens.specs.declared.lexer.Front.TheVariants as front
use Rattle.wit_tokens.specs.Lexing.{Upto, begin, blank, next, front_of, blank_run}
use Rattle.wit_tokens.specs.Pieces.{Tile, none, more, piece_from, piece_text, pieces_text, token_in, tokens_in, IsGood, AreGood, GoesOn}
use Rattle.wit_tokens.proofs.BlankRuns.{over_blanks}

-- the bytes of pieces with one more
pub text-push : (text : List ℕ) (ps : List Piece) (p : Piece) → pieces_text text (ps ++ p ∷ []) ≡ pieces_text text ps ++ piece_text text p
unfolding pieces_text
text-push text [] p = append-nil (piece_text text p)
text-push text (q ∷ ps) p = ap (λ (rest : List ℕ). piece_text text q ++ rest) (text-push text ps p) ∙ sym (append_assoc (piece_text text q) (pieces_text text ps) (piece_text text p))

-- the tokens among pieces with one more
pub tokens-push : (ps : List Piece) (p : Piece) → tokens_in (ps ++ p ∷ []) ≡ tokens_in ps ++ token_in p.kind p.start p.end
unfolding tokens_in
tokens-push [] p = append-nil (token_in p.kind p.start p.end)
tokens-push (q ∷ ps) p = ap (λ (rest : List Token). token_in q.kind q.start q.end ++ rest) (tokens-push ps p) ∙ sym (append_assoc (token_in q.kind q.start q.end) (tokens_in ps) (token_in p.kind p.start p.end))

-- pieces with one more are good, if these are and that one is
pub good-push : (ps : List Piece) (p : Piece) → AreGood (ps ++ p ∷ []) → AreGood ps × IsGood p.kind
good-push [] p h = (tt, h.0)
good-push (q ∷ ps) p h = let rest = good-push ps p h.1 in ((h.0, rest.0), rest.1)

-- a front of a text, and the bytes behind it
front-grows : (text : List ℕ) (a b : ℕ) → a ≤ b → take a text ++ slice_range text a b ≡ take b text
front-grows text a b h =
    let e : a + (b - a) ≡ b = omega arith in
    let d : drop a (take b text) ≡ take (b - a) (drop a text) = subst (λ (n : ℕ). drop a (take n text) ≡ take (b - a) (drop a text)) e (drop-take a (b - a) text) in
    sym (ap (λ (xs : List ℕ). xs ++ take (b - a) (drop a text)) (take-take a b text h)) ∙ ap (λ (xs : List ℕ). take a (take b text) ++ xs) (sym d) ∙ take-append-drop a (take b text)

-- the pieces up to a place are the text up to there
pub text-so-far : (text : List ℕ) (ps : List Piece) (b : ℕ) → Tile ps b → pieces_text text ps ≡ take b text
unfolding pieces_text
text-so-far text _ _ none = refl
text-so-far text _ _ (more b ps p t start first) =
    text-push text ps p
    ∙ ap (λ (xs : List ℕ). xs ++ piece_text text p) (text-so-far text ps b t)
    ∙ ap (λ (n : ℕ). take b text ++ slice_range text n p.end) start
    ∙ front-grows text b p.end (omega arith)

-- a token goes on the tokens before it
pub token-on : (text : List ℕ) (k : TokenKind) (at n : ℕ) → front_of (drop at text) ≡ front.Token k n → GoesOn text (piece_from (piece.Token k) at (at + n))
token-on text k at n e ts good u = next at n k ts u e

-- a comment goes on the tokens before it
pub comment-on : (text : List ℕ) (at n : ℕ) → front_of (drop at text) ≡ front.Blank n → GoesOn text (piece_from piece.Comment at (at + n))
comment-on text at n e ts good u = subst (λ (us : List Token). Upto text (at + n) us) (sym (append-nil ts)) (blank at n ts u e)

-- blanks go on the tokens before them
pub blanks-on : (text : List ℕ) (at n : ℕ) → front_of (drop at text) ≡ front.Blank n → GoesOn text (piece_from piece.Blank at (at + n + blank_run (drop (at + n) text)))
blanks-on text at n e ts good u = subst (λ (us : List Token). Upto text (at + n + blank_run (drop (at + n) text)) us) (sym (append-nil ts)) (over_blanks text (at + n) ts (blank at n ts u e))

-- good pieces with one more have the text's tokens up to there
pub tokens-so-far : (text : List ℕ) (ps : List Piece) (p : Piece) → GoesOn text p → (AreGood ps → Upto text p.start (tokens_in ps)) → AreGood (ps ++ p ∷ []) → Upto text p.end (tokens_in (ps ++ p ∷ []))
tokens-so-far text ps p on before good =
    let parts = good-push ps p good in
    subst (λ (us : List Token). Upto text p.end us) (sym (tokens-push ps p)) (on (tokens_in ps) parts.1 (before parts.0))

-- no piece has the text's tokens up to its front
pub tokens-begin : (text : List ℕ) → Upto text 0 (tokens_in [])
unfolding tokens_in
tokens-begin text = begin

-- pieces up to the end of a text are the text
pub whole-text : (text : List ℕ) (ps : List Piece) (b : ℕ) → Tile ps b → length text ≤ b → pieces_text text ps ≡ text
whole-text text ps b t h = text-so-far text ps b t ∙ take_all b text h

-- one more piece, where the one before it ends
pub tile-push : (ps : List Piece) (p : Piece) (b : ℕ) → Tile ps b → p.start ≡ b → b < p.end → Tile (ps ++ p ∷ []) p.end
tile-push ps p b t start first = more b ps p t start first
