-- An element of a list, by its place.
use Rattle.std.proofs.Common.{◌≡◌, ◌+◌, ◌<◌, ℕ, zero, suc, List, [], ◌∷◌, ◌++◌, map, length, take, get_or, Bool, IsTrue, refl, sym, ap, subst, ◌∙◌, add-one, arith}
use Rattle.std.specs.List.{AllByRecursion, list_all}
use Rattle.value_json.proofs.LabelledTypesRowByRow.{all-at as every}

-- x is element i
abbrev pub IsAt : {A : Type 0} → List A → ℕ → A → Type 0
IsAt [] i x = ⊥
IsAt (y ∷ ys) zero x = y ≡ x
IsAt (y ∷ ys) (suc i) x = IsAt ys i x

pub is-at : {A : Type 0} (xs : List A) (i : ℕ) (x : A) → i < length xs → x ≡ get_or xs i x → IsAt xs i x
is-at [] i x h is = absurd (omega arith)
is-at (y ∷ ys) zero x h is = sym is
is-at (y ∷ ys) (suc i) x h is = is-at ys i x (omega (arith, h)) is

pub at-or : {A : Type 0} (xs : List A) (i : ℕ) (d : A) → i < length xs → IsAt xs i (get_or xs i d)
at-or [] i d h = absurd (omega arith)
at-or (y ∷ ys) zero d h = refl
at-or (y ∷ ys) (suc i) d h = at-or ys i d (omega (arith, h))

pub at-some : {A : Type 0} (xs : List A) (i : ℕ) → i < length xs → (x : A) × IsAt xs i x
at-some [] i h = absurd (omega arith)
at-some (y ∷ ys) zero h = (y, refl)
at-some (y ∷ ys) (suc i) h = at-some ys i (omega (arith, h))

pub at-all : {A : Type 0} (P : A → Type 0) (xs : List A) (i : ℕ) (x : A) → IsAt xs i x → AllByRecursion P xs → P x
at-all P [] i x at all = absurd at
at-all P (y ∷ ys) zero x at (here, all) = subst P at here
at-all P (y ∷ ys) (suc i) x at (here, all) = at-all P ys i x at all

pub at-inside : {A : Type 0} (xs : List A) (i : ℕ) (x : A) → IsAt xs i x → i < length xs
at-inside [] i x at = absurd at
at-inside (y ∷ ys) zero x at = omega arith
at-inside (y ∷ ys) (suc i) x at = let less = at-inside ys i x at in omega (arith, less)

pub at-map : {A B : Type 0} (f : A → B) (xs : List A) (i : ℕ) (x : A) → IsAt xs i x → IsAt (map f xs) i (f x)
at-map f [] i x at = at
at-map f (y ∷ ys) zero x at = ap f at
at-map f (y ∷ ys) (suc i) x at = at-map f ys i x at

pub at-same : {A : Type 0} (xs : List A) (i : ℕ) (x y : A) → IsAt xs i x → IsAt xs i y → x ≡ y
at-same [] i x y at also = absurd at
at-same (z ∷ zs) zero x y at also = sym at ∙ also
at-same (z ∷ zs) (suc i) x y at also = at-same zs i x y at also

pub at-true : {A : Type 0} (f : A → Bool) (xs : List A) (i : ℕ) (x : A) → IsAt xs i x → IsTrue (list_all f xs) → IsTrue (f x)
at-true f xs i x at all =
    let less = at-inside xs i x at in
    subst (λ y. IsTrue (f y)) (at-same xs i (get_or xs i x) x (at-or xs i x less) at) (every f xs i x less all)

taken-suc : {A : Type 0} (xs : List A) (i : ℕ) (x : A) → IsAt xs i x → take (suc i) xs ≡ take i xs ++ x ∷ []
taken-suc [] i x at = absurd at
taken-suc (y ∷ ys) zero x at = ap (λ z. z ∷ []) at
taken-suc (y ∷ ys) (suc i) x at = ap (λ zs. y ∷ zs) (taken-suc ys i x at)

pub at-taken : {A : Type 0} (xs : List A) (i : ℕ) (x : A) → IsAt xs i x → take (i + 1) xs ≡ take i xs ++ x ∷ []
at-taken xs i x at = ap (λ n. take n xs) (add-one i) ∙ taken-suc xs i x at
