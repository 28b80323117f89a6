-- No list that is written has more members than the text has bytes.
use Rattle.std.proofs.Common.{◌≡◌, ◌+◌, ◌<◌, ◌≤◌, ℕ, List, [], ◌∷◌, ◌++◌, length, refl, ap, ◌∙◌, length-append, arith}
use Rattle.std.specs.Prelude.{Bool, true, false, ◌&&◌, nat_le}
use Rattle.std.proofs.lemmas.Bool.{and_parts, le-leb}
use Rattle.atoms.specs.Label.{is_label}
use Rattle.wit_tokens.specs.Lexing.{limit}
use Rattle.wit_tokens.specs.declared.token.Punctuation.TheVariants as mark
use Rattle.wit_tokens.specs.Syntax.{Ty, Prim, Named, ListOf, OptionOf, TupleOf, ResultOf, Tys, none, more, MaybeTy, Absent, Present}
use Rattle.wit_print.specs.Words.{Word, words_text, mark_word}
use Rattle.wit_print.specs.Canonical.{blank, ty_words, tys_words, listed_words, lined_words, braced_words}
use Rattle.wit_print.specs.Printable.{types_count, is_spelt, are_spelt}
use Rattle.tree_meaning.proofs.ReferencesOfDefinitions.{Every}

-- how many bytes words have, without blanks
abbrev pub weight : List Word → ℕ
weight [] = 0
weight (w ∷ ws) = length w.bytes + weight ws

pub weight-append : (xs ys : List Word) → weight (xs ++ ys) ≡ weight xs + weight ys
weight-append [] ys = omega arith
weight-append (x ∷ xs) ys = let h = weight-append xs ys in omega (arith, h)

pub weight-text : (ws : List Word) (rest : List ℕ) → weight ws ≤ length (words_text ws rest)
weight-text [] rest = omega arith
weight-text (w ∷ ws) rest =
    let h = weight-text ws rest in
    let a = length-append w.space (w.bytes ++ words_text ws rest) in
    let b = length-append w.bytes (words_text ws rest) in
    omega (arith, h, a, b)

-- ---- lists

module _ {X : Type 0} (words : X → List Word) where
  pub lined-long : (xs : List X) → length xs ≤ weight (lined_words words xs)
  lined-long [] = omega arith
  lined-long (x ∷ xs) =
      let h = lined-long xs in
      let a = weight-append (words x) (mark_word [] mark.Comma ∷ lined_words words xs) in
      omega (arith, h, a)

  pub lined-each : (n : ℕ) (xs : List X) → weight (lined_words words xs) ≤ n → Every (λ x. weight (words x) ≤ n) xs
  lined-each n [] l = tt
  lined-each n (x ∷ xs) l =
      let a = weight-append (words x) (mark_word [] mark.Comma ∷ lined_words words xs) in (omega (arith, l, a), lined-each n xs (omega (arith, l, a)))

  pub braced-each : (n : ℕ) (xs : List X) → weight (braced_words words xs) ≤ n → Every (λ x. weight (words x) ≤ n) xs
  braced-each n [] l = tt
  braced-each n (x ∷ xs) l = let a = weight-append (words x) (braced_words words xs) in (omega (arith, l, a), braced-each n xs (omega (arith, l, a)))

module _ {X : Type 0} (words : List ℕ → X → List Word) (end : Word) (ends : 0 < length end.bytes) where
  pub listed-long : (space : List ℕ) (xs : List X) → length xs ≤ weight (listed_words words end space xs)
  listed-long space [] = omega arith
  listed-long space (x ∷ []) = let a = weight-append (words space x) (end ∷ []) in omega (arith, a, ends)
  listed-long space (x ∷ y ∷ xs) =
      let h = listed-long blank (y ∷ xs) in
      let a = weight-append (words space x) (mark_word [] mark.Comma ∷ listed_words words end blank (y ∷ xs)) in
      omega (arith, h, a)

  pub listed-each : (n : ℕ) (space : List ℕ) (xs : List X) → weight (listed_words words end space xs) ≤ n → Every (λ x. (s : List ℕ) × (weight (words s x) ≤ n)) xs
  listed-each n space [] l = tt
  listed-each n space (x ∷ []) l = let a = weight-append (words space x) (end ∷ []) in ((space, omega (arith, l, a)), tt)
  listed-each n space (x ∷ y ∷ xs) l =
      let a = weight-append (words space x) (mark_word [] mark.Comma ∷ listed_words words end blank (y ∷ xs)) in
      ((space, omega (arith, l, a)), listed-each n blank (y ∷ xs) (omega (arith, l, a)))

-- ---- types

-- names are labels, and a tuple has a member
abbrev mutual
  pub is_worded : Ty → Bool
  is_worded (Prim p) = true
  is_worded (Named n) = is_label n
  is_worded (ListOf t) = is_worded t
  is_worded (OptionOf t) = is_worded t
  is_worded (TupleOf ts) = are_worded ts
  is_worded (ResultOf a b) = is_worded_maybe a && is_worded_maybe b

  pub are_worded : Tys → Bool
  are_worded none = false
  are_worded (more t none) = is_worded t
  are_worded (more t (more u ts)) = is_worded t && are_worded (more u ts)

  pub is_worded_maybe : MaybeTy → Bool
  is_worded_maybe Absent = true
  is_worded_maybe (Present t) = is_worded t

types-long : (space : List ℕ) (ts : Tys) → types_count ts ≤ weight (tys_words space ts)
types-long space none = omega arith
types-long space (more t none) = let a = weight-append (ty_words space t) (mark_word [] mark.Greater ∷ []) in omega (arith, a)
types-long space (more t (more u ts)) =
    let h = types-long blank (more u ts) in
    let a = weight-append (ty_words space t) (mark_word [] mark.Comma ∷ tys_words blank (more u ts)) in
    omega (arith, h, a)

-- a type that a text has room for is spelt
mutual
  pub ty-spelt : (space : List ℕ) (t : Ty) → is_worded t ≡ true → weight (ty_words space t) ≤ limit → is_spelt t ≡ true
  ty-spelt space (Prim p) h l = refl
  ty-spelt space (Named n) h l = h
  ty-spelt space (ListOf t) h l = let a = weight-append (ty_words [] t) (mark_word [] mark.Greater ∷ []) in ty-spelt [] t h (omega (arith, l, a))
  ty-spelt space (OptionOf t) h l = let a = weight-append (ty_words [] t) (mark_word [] mark.Greater ∷ []) in ty-spelt [] t h (omega (arith, l, a))
  ty-spelt space (TupleOf ts) h l =
      let n = types-long [] ts in
      ap (λ b. b && nat_le (types_count ts) limit) (tys-spelt [] ts h (omega (arith, l))) ∙ le-leb (types_count ts) limit (omega (arith, l, n))
  ty-spelt space (ResultOf Absent Absent) h l = refl
  ty-spelt space (ResultOf Absent (Present e)) h l =
      let a = weight-append (ty_words blank e) (mark_word [] mark.Greater ∷ []) in ty-spelt blank e h (omega (arith, l, a))
  ty-spelt space (ResultOf (Present t) Absent) h l =
      let a = weight-append (ty_words [] t) (mark_word [] mark.Greater ∷ []) in
      ap (λ b. b && true) (ty-spelt [] t (and_parts (is_worded t) true h).0 (omega (arith, l, a)))
  ty-spelt space (ResultOf (Present t) (Present e)) h l =
      let s = and_parts (is_worded t) (is_worded e) h in
      let a = weight-append (ty_words [] t) (mark_word [] mark.Comma ∷ (ty_words blank e ++ mark_word [] mark.Greater ∷ [])) in
      let b = weight-append (ty_words blank e) (mark_word [] mark.Greater ∷ []) in
      ap (λ x. x && is_spelt e) (ty-spelt [] t s.0 (omega (arith, l, a))) ∙ ty-spelt blank e s.1 (omega (arith, l, a, b))

  pub tys-spelt : (space : List ℕ) (ts : Tys) → are_worded ts ≡ true → weight (tys_words space ts) ≤ limit → are_spelt ts ≡ true
  tys-spelt space none h l = h
  tys-spelt space (more t none) h l = let a = weight-append (ty_words space t) (mark_word [] mark.Greater ∷ []) in ty-spelt space t h (omega (arith, l, a))
  tys-spelt space (more t (more u ts)) h l =
      let s = and_parts (is_worded t) (are_worded (more u ts)) h in
      let a = weight-append (ty_words space t) (mark_word [] mark.Comma ∷ tys_words blank (more u ts)) in
      ap (λ x. x && are_spelt (more u ts)) (ty-spelt space t s.0 (omega (arith, l, a))) ∙ tys-spelt blank (more u ts) s.1 (omega (arith, l, a))
