-- Lists in step, one place after the other.
use Rattle.std.proofs.Common.{get_or, take, ◌++◌, ◌≡◌, ◌∙◌, ◌<◌, ℕ, zero, suc, ◌+◌, List, [], ◌∷◌, length, map, Some, slice_get, refl, ap, sym, subst, IsTrue, nat_eq, Bool, false, not, arith, ⊎_elim}
use Rattle.std.proofs.lemmas.Bool.{cases_eq}
use Rattle.std.proofs.lemmas.Bool.Decides.{nat_tests}
use Rattle.std.proofs.lemmas.Option.{slice_get_within, slice_get-map, slice_get-get_or}
use Rattle.std.specs.Option.{option_map}
use Rattle.std.specs.List.{IsSplitAt}
use Rattle.std.specs.Str.{bytes_eq}
use Rattle.std.proofs.lemmas.Slice.Eq.{bytes_eq-Decides}
use Rattle.std.proofs.lemmas.List.{take-append-drop}
use Rattle.structure_comparison.specs.InStep.{InStep}

-- R of each two items that stand at one place before this one
abbrev pub InStepBelow : {X Y : Type 0} → (X → Y → Type 0) → List X → List Y → ℕ → Type 0
InStepBelow {X = X} {Y = Y} R xs ys n = (k : ℕ) (x : X) (y : Y) → k < n → slice_get xs k ≡ Some x → slice_get ys k ≡ Some y → R x y

pub in_step_none : {X Y : Type 0} (R : X → Y → Type 0) (xs : List X) (ys : List Y) → InStepBelow R xs ys 0
in_step_none R xs ys = λ k x y below ex ey. absurd (omega (arith, below))

pub in_step_more : {X Y : Type 0} (R : X → Y → Type 0) (xs : List X) (ys : List Y) (n : ℕ) (x : X) (y : Y) → slice_get xs n ≡ Some x → slice_get ys n ≡ Some y → R x y
    → InStepBelow R xs ys n → InStepBelow R xs ys (n + 1)
in_step_more {X = X} {Y = Y} R xs ys n x y ex ey r before = λ k u v below eu ev.
    ⊎_elim
    (λ (e : k ≡ n).
    let first : Some x ≡ Some u = sym ex ∙ (ap (slice_get xs) (sym e) ∙ eu) in
    let second : Some y ≡ Some v = sym ey ∙ (ap (slice_get ys) (sym e) ∙ ev) in
    let same_x : x ≡ u = cc in
    let same_y : y ≡ v = cc in
    subst (λ (a : X). R a v) same_x (subst (λ (b : Y). R x b) same_y r))
    (λ (ne : k ≡ n → ⊥). before k u v (omega arith) eu ev)
    (cases_eq k n)

pub in_step_all : {X Y : Type 0} (R : X → Y → Type 0) (xs : List X) (ys : List Y) → length xs ≡ length ys → InStepBelow R xs ys (length xs) → InStep R xs ys
in_step_all R xs ys e below = record { lengths = e; each = λ k x y ex ey. below k x y (slice_get_within xs k x ex) ex ey }

-- what was found at a place, seen by a view
pub map_get : {A B : Type 0} (v : A → B) (xs : List A) (k : ℕ) (x : A) → slice_get xs k ≡ Some x → slice_get (map v xs) k ≡ Some (v x)
map_get v xs k x e = slice_get-map v xs k ∙ ap (option_map v) e

pub in_step_same : {X : Type 0} (xs ys : List X) → InStep (λ x y. y ≡ x) xs ys → ys ≡ xs
in_step_same [] [] s = refl
in_step_same [] (y ∷ ys) s = let e : 0 ≡ suc (length ys) = s.lengths in absurd (omega arith)
in_step_same (x ∷ xs) [] s = let e : suc (length xs) ≡ 0 = s.lengths in absurd (omega arith)
in_step_same {X = X} (x ∷ xs) (y ∷ ys) s =
    let e : suc (length xs) ≡ suc (length ys) = s.lengths in
    let n : length xs ≡ length ys = omega arith in
    let first : y ≡ x = s.each 0 x y refl refl in
    let rest : ys ≡ xs = in_step_same xs ys (record { lengths = n; each = λ k a b ea eb. s.each (suc k) a b ea eb }) in
    ap (λ (z : X). z ∷ ys) first ∙ ap (λ zs. x ∷ zs) rest

pub same_of_test : (a b : ℕ) → IsTrue (nat_eq a b) → a ≡ b
same_of_test a b t = grind (arith, nat_tests)

pub item_get : {A : Type 0} (xs : List A) (k : ℕ) (x : A) → k < length xs → x ≡ get_or xs k x → slice_get xs k ≡ Some x
item_get xs k x h e = slice_get-get_or xs k x h ∙ ap Some (sym e)

pub map_unget : {A B : Type 0} (f : A → B) (xs : List A) (k : ℕ) (y : B) → slice_get (map f xs) k ≡ Some y → (x : A) × (slice_get xs k ≡ Some x) × (f x ≡ y)
map_unget f [] k y e = absurd (cc)
map_unget f (x ∷ xs) zero y e = (x, refl, cc)
map_unget f (x ∷ xs) (suc k) y e = map_unget f xs k y e

pub map_length : {A B : Type 0} (f : A → B) (xs : List A) → length (map f xs) ≡ length xs
map_length f [] = refl
map_length f (x ∷ xs) = ap suc (map_length f xs)

-- items in step with what others are seen as
pub in_step_map : {X Y Z : Type 0} (v : Y → Z) (R : X → Z → Type 0) (xs : List X) (ys : List Y) → InStep (λ x y. R x (v y)) xs ys → InStep R xs (map v ys)
in_step_map {X = X} {Y = Y} {Z = Z} v R xs ys s = record {
  lengths = s.lengths ∙ sym (map_length v ys);
  each = λ k x z ex ez.
      let found = map_unget v ys k z ez in
      subst (λ (w : Z). R x w) found.2 (s.each k x found.0 ex found.1);
}

-- both parts of a list that was split
pub split_parts : {A : Type 0} (xs : List A) (mid : ℕ) (front back : List A) → IsSplitAt xs mid front back → xs ≡ front ++ back
split_parts {A = A} xs mid front back s =
    sym (ap (λ (a : List A). a ++ back) s.1 ∙ (ap (λ (b : List A). take mid xs ++ b) s.2 ∙ take-append-drop mid xs))

-- texts that a test did not tell apart
pub texts_same : (a b : List ℕ) (r : Bool) → r ≡ not (bytes_eq a b) → r ≡ false → a ≡ b
texts_same a b r e f = (bytes_eq-Decides a b).0 (grind arith)
