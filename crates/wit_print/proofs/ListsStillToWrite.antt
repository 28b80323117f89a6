-- Lists in a text: what is still to be written from an entry on.
use Rattle.std.proofs.Common.{◌≡◌, ◌+◌, ◌<◌, ◌≤◌, ℕ, zero, suc, List, [], ◌∷◌, ◌++◌, length, get_or, drop, map, refl, ap, subst, ◌∙◌, sym, add-one}
use Rattle.std.specs.declared.alloc.Global.{Global}
use Rattle.std.specs.declared.string.String.{String}
use Rattle.std.proofs.lemmas.List.{at_drop_more, at_drop_all}
use Rattle.wit_tokens.specs.Syntax.{Ty, tys_of}
use Rattle.wit_tokens.specs.declared.token.Punctuation.TheVariants as mark
use Rattle.wit_print.specs.Words.{Word, mark_word}
use Rattle.wit_print.specs.Canonical.{blank, listed_words, ty_words, tys_words}
use Rattle.wit_print.specs.Pieces.{comma_at, space_at}
use Rattle.wit_print.specs.Adding.{AddsWords}
use Rattle.wit_print.proofs.LeavesWords.{LeavesWords}
use Rattle.wit_print.proofs.TextsOfWords.{leaves_then}

-- ---- the entries from a place on, as words

pub left-next : {A : Type 0} (words : List A → List Word) (xs : List A) (i : ℕ) (x : A) {whole : List Word} {a b : String Global} → i < length xs → x ≡ get_or xs i x
    → LeavesWords whole (words (drop i xs)) a b → LeavesWords whole (words (x ∷ drop (i + 1) xs)) a b
left-next words xs i x {whole = whole} {a = a} {b = b} l e h =
    subst (λ ws. LeavesWords whole ws a b) (at_drop_more words xs i x l ∙ ap (λ y. words (y ∷ drop (i + 1) xs)) (sym e)) h

pub left-end : {A : Type 0} (words : List A → List Word) (xs : List A) (i : ℕ) {whole : List Word} {a b : String Global} → length xs ≤ i
    → LeavesWords whole (words (drop i xs)) a b → LeavesWords whole (words []) a b
left-end words xs i {whole = whole} {a = a} {b = b} l h = subst (λ ws. LeavesWords whole ws a b) (at_drop_all words xs i l) h

-- ---- with commas between them

module _ {X : Type 0} (words : List ℕ → X → List Word) (end : Word) where
  -- what stands behind an entry
  abbrev pub behind : List X → List Word
  behind [] = end ∷ []
  behind (x ∷ xs) = mark_word [] mark.Comma ∷ listed_words words end blank (x ∷ xs)

  -- these entries, the first of which is the one at this place
  abbrev pub pending : ℕ → List X → List Word
  pending zero xs = listed_words words end [] xs
  pending (suc i) xs = behind xs

  listed-first : (space : List ℕ) (x : X) (xs : List X) → listed_words words end space (x ∷ xs) ≡ words space x ++ behind xs
  listed-first space x [] = refl
  listed-first space x (y ∷ ys) = refl

  pending-first : (i : ℕ) (x : X) (xs : List X) → pending i (x ∷ xs) ≡ comma_at i ++ (words (space_at i) x ++ pending (suc i) xs)
  pending-first zero x xs = listed-first [] x xs
  pending-first (suc i) x xs = ap (λ ws. mark_word [] mark.Comma ∷ ws) (listed-first blank x xs)

  pending-none : (i : ℕ) → pending i [] ≡ end ∷ []
  pending-none zero = refl
  pending-none (suc i) = refl

  -- an entry with its comma
  pub listed-next : {A : Type 0} (view : A → X) (xs : List A) (i : ℕ) (x : A) (space : List ℕ) {whole : List Word} {a b c d : String Global} → i < length xs → x ≡ get_or xs i x → space ≡ space_at i
      → LeavesWords whole (pending i (map view (drop i xs))) a b → AddsWords (comma_at i) b c → AddsWords (words space (view x)) c d → LeavesWords whole (pending (i + 1) (map view (drop (i + 1) xs))) a d
  listed-next view xs i x space {whole = whole} {a = a} {b = b} {c = c} {d = d} l e s h comma entry =
      let first = left-next (λ ys. pending i (map view ys)) xs i x l e h in
      let parts : LeavesWords whole (comma_at i ++ (words (space_at i) (view x) ++ pending (suc i) (map view (drop (i + 1) xs)))) a b =
      subst (λ ws. LeavesWords whole ws a b) (pending-first i (view x) (map view (drop (i + 1) xs))) first in
      let here : AddsWords (words (space_at i) (view x)) c d = subst (λ t. AddsWords (words t (view x)) c d) s entry in
      subst (λ n. LeavesWords whole (pending n (map view (drop (i + 1) xs))) a d) (sym (add-one i)) (leaves_then (leaves_then parts comma) here)

  pub listed-end : {A : Type 0} (view : A → X) (xs : List A) (i : ℕ) {whole : List Word} {a b : String Global} → length xs ≤ i → LeavesWords whole (pending i (map view (drop i xs))) a b → LeavesWords whole (end ∷ []) a b
  listed-end view xs i {whole = whole} {a = a} {b = b} l h = subst (λ ws. LeavesWords whole ws a b) (pending-none i) (left-end (λ ys. pending i (map view ys)) xs i l h)

-- the types of a tuple are such a list
pub tys-listed : (space : List ℕ) (ts : List Ty) → tys_words space (tys_of ts) ≡ listed_words ty_words (mark_word [] mark.Greater) space ts
tys-listed space [] = refl
tys-listed space (t ∷ []) = refl
tys-listed space (t ∷ u ∷ ts) = ap (λ ws. ty_words space t ++ mark_word [] mark.Comma ∷ ws) (tys-listed blank (u ∷ ts))
