-- A text has one reading as tokens and blanks.
use Rattle.std.proofs.Common.{◌≡◌, ℕ, ◌+◌, List, [], ◌∷◌, ◌++◌, drop, length, refl, sym, ◌≤◌, ◌⊎◌, inl, inr, arith}
use Rattle.std.proofs.Math.ListN.{drop_of_length-le}
use Rattle.wit_tokens.specs.declared.token.Token.{Token}
use Rattle.wit_tokens.specs.declared.token.TokenKind.{TokenKind}
use Rattle.wit_tokens.specs.declared.lexer.Front.{Front}
use Rattle.wit_tokens.specs.declared.lexer.Front.TheVariants as front
use Rattle.wit_tokens.specs.Lexing.{Upto, begin, blank, next, front_of, token_from}

-- from one place on to another
pub data Reach (text : List ℕ) (a : ℕ) (xs : List Token) : ℕ → List Token → Type 0 where
  here : Reach text a xs a xs
  over : (b n : ℕ) (ys : List Token) → Reach text a xs b ys → front_of (drop b text) ≡ front.Blank n → Reach text a xs (b + n) ys
  past : (b n : ℕ) (k : TokenKind) (ys : List Token) → Reach text a xs b ys → front_of (drop b text) ≡ front.Token k n → Reach text a xs (b + n) (ys ++ token_from k b n ∷ [])

from_begin : (text : List ℕ) (c : ℕ) (zs : List Token) → Upto text c zs → Reach text 0 [] c zs
from_begin text _ _ begin = here
from_begin text _ _ (blank at n ts u e) = over at n ts (from_begin text at ts u) e
from_begin text _ _ (next at n k ts u e) = past at n k ts (from_begin text at ts u) e

-- the first step is the one that the front asks for
abbrev Stepped : List ℕ → ℕ → List Token → Front → ℕ → List Token → Type 0
Stepped text a xs (front.Blank n) c zs = Reach text (a + n) xs c zs
Stepped text a xs (front.Token k n) c zs = Reach text (a + n) (xs ++ token_from k a n ∷ []) c zs
Stepped text a xs (front.Bad n) c zs = ⊥
Stepped text a xs front.OpenComment c zs = ⊥

go_over : (text : List ℕ) (a : ℕ) (xs : List Token) (f : Front) (b n : ℕ) (ys : List Token) → Stepped text a xs f b ys → front_of (drop b text) ≡ front.Blank n → Stepped text a xs f (b + n) ys
go_over text a xs (front.Blank m) b n ys r e = over b n ys r e
go_over text a xs (front.Token k m) b n ys r e = over b n ys r e
go_over text a xs (front.Bad m) b n ys r e = r
go_over text a xs front.OpenComment b n ys r e = r

go_past : (text : List ℕ) (a : ℕ) (xs : List Token) (f : Front) (b n : ℕ) (k : TokenKind) (ys : List Token) → Stepped text a xs f b ys → front_of (drop b text) ≡ front.Token k n → Stepped text a xs f (b + n) (ys ++ token_from k b n ∷ [])
go_past text a xs (front.Blank m) b n k ys r e = past b n k ys r e
go_past text a xs (front.Token j m) b n k ys r e = past b n k ys r e
go_past text a xs (front.Bad m) b n k ys r e = r
go_past text a xs front.OpenComment b n k ys r e = r

-- a place reached is the place itself, or is reached from the next one
pub first_step : (text : List ℕ) (a : ℕ) (xs : List Token) (c : ℕ) (zs : List Token) → Reach text a xs c zs → ((c ≡ a) × (zs ≡ xs)) ⊎ Stepped text a xs (front_of (drop a text)) c zs
first_step text a xs _ _ here = inl (refl, refl)
first_step text a xs _ _ (over b n ys r e) =
    elim (first_step text a xs b ys r) [
      | inl h ↦ inr (rw (h.0, h.1) (let e' = rw h.0 at e in rw e' here))
      | inr s ↦ inr (go_over text a xs (front_of (drop a text)) b n ys s e)
    ]
first_step text a xs _ _ (past b n k ys r e) =
    elim (first_step text a xs b ys r) [
      | inl h ↦ inr (rw (h.0, h.1) (let e' = rw h.0 at e in rw e' here))
      | inr s ↦ inr (go_past text a xs (front_of (drop a text)) b n k ys s e)
    ]

pub along : (text : List ℕ) (c : ℕ) (zs : List Token) → Upto text c zs → (a : ℕ) (xs : List Token) → Upto text a xs → Reach text a xs c zs ⊎ Reach text c zs a xs
along text c zs v _ _ begin = inl (from_begin text c zs v)
along text c zs v _ _ (blank at n ts u e) =
    elim (along text c zs v at ts u) [
      | inl r ↦ elim (first_step text at ts c zs r) [
        | inl h ↦ inr (rw (h.0, h.1) (over at n ts here e))
        | inr s ↦ inl (rw e at s)
      ]
      | inr r ↦ inr (over at n ts r e)
    ]
along text c zs v _ _ (next at n k ts u e) =
    elim (along text c zs v at ts u) [
      | inl r ↦ elim (first_step text at ts c zs r) [
        | inl h ↦ inr (rw (h.0, h.1) (past at n k ts here e))
        | inr s ↦ inl (rw e at s)
      ]
      | inr r ↦ inr (past at n k ts r e)
    ]

goes_up : (text : List ℕ) (a : ℕ) (xs : List Token) (c : ℕ) (zs : List Token) → Reach text a xs c zs → a ≤ c
goes_up text a xs _ _ here = omega arith
goes_up text a xs _ _ (over b n ys r e) = let h = goes_up text a xs b ys r in omega arith
goes_up text a xs _ _ (past b n k ys r e) = let h = goes_up text a xs b ys r in omega arith

-- where a text is no token, it has no reading
pub bad_is_refused : (text : List ℕ) (s n : ℕ) (ts us : List Token) → Upto text s ts → front_of (drop s text) ≡ front.Bad n → Upto text (length text) us → ⊥
unfolding front_of
bad_is_refused text s n ts us u e v =
    elim (along text (length text) us v s ts u) [
      | inl r ↦ elim (first_step text s ts (length text) us r) [
        | inl h ↦ let gone : drop s text ≡ [] = drop_of_length-le text (omega (arith, h.0)) in let z = rw gone at e in cc
        | inr x ↦ rw e at x
      ]
      | inr r ↦ let up = goes_up text (length text) us s ts r in
          let gone : drop s text ≡ [] = drop_of_length-le text up in
          let z = rw gone at e in cc
    ]

-- where a comment is never closed, a text has no reading
pub open_is_refused : (text : List ℕ) (s : ℕ) (ts us : List Token) → Upto text s ts → front_of (drop s text) ≡ front.OpenComment → Upto text (length text) us → ⊥
unfolding front_of
open_is_refused text s ts us u e v =
    elim (along text (length text) us v s ts u) [
      | inl r ↦ elim (first_step text s ts (length text) us r) [
        | inl h ↦ let gone : drop s text ≡ [] = drop_of_length-le text (omega (arith, h.0)) in let z = rw gone at e in cc
        | inr x ↦ rw e at x
      ]
      | inr r ↦ let up = goes_up text (length text) us s ts r in
          let gone : drop s text ≡ [] = drop_of_length-le text up in
          let z = rw gone at e in cc
    ]

-- nothing is read behind the end
at_the_end : (text : List ℕ) (a : ℕ) (xs : List Token) (c : ℕ) (zs : List Token) → length text ≤ a → Reach text a xs c zs → zs ≡ xs
unfolding front_of
at_the_end text a xs _ _ h here = refl
at_the_end text a xs _ _ h (over b n ys r e) = at_the_end text a xs b ys h r
at_the_end text a xs _ _ h (past b n k ys r e) =
    let up = goes_up text a xs b ys r in
    let gone : drop b text ≡ [] = drop_of_length-le text (omega arith) in
    absurd (let z = rw gone at e in cc)

pub one_lexing : (text : List ℕ) (ts us : List Token) → Upto text (length text) ts → Upto text (length text) us → ts ≡ us
one_lexing text ts us u v =
    elim (along text (length text) us v (length text) ts u) [
      | inl r ↦ sym (at_the_end text (length text) ts (length text) us (omega arith) r)
      | inr r ↦ at_the_end text (length text) us (length text) ts (omega arith) r
    ]
