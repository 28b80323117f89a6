-- Elements that are kept, and their places.
use Rattle.std.proofs.Common.{◌≡◌, ◌≤◌, ◌<◌, ◌⊎◌, inl, inr, ℕ, zero, suc, ◌+◌, Bool, true, false, List, [], ◌∷◌, ◌++◌, length, take, get_or, slice_get, map, Some, refl, ap, sym, ◌∙◌, arith, true≢false}
use Rattle.std.proofs.lemmas.List.{map-append}
use Rattle.set_rows.specs.Places.{place}
use Rattle.std.specs.List.{items_where_true}

pub kept-none : {A : Type 0} (bs : List Bool) → items_where_true {X = A} bs [] ≡ []
kept-none [] = refl
kept-none (b ∷ bs) = refl

pub kept-yes : {A : Type 0} (bs : List Bool) (xs : List A) (k : ℕ) (d : A) → k < length xs → get_or bs k false ≡ true → items_where_true bs (take (suc k) xs) ≡ items_where_true bs (take k xs) ++ get_or xs k d ∷ []
kept-yes bs [] k d h e = absurd (omega arith)
kept-yes [] (x ∷ xs) k d h e = absurd (true≢false (sym e))
kept-yes (false ∷ bs) (x ∷ xs) zero d h e = absurd (true≢false (sym e))
kept-yes (true ∷ bs) (x ∷ xs) zero d h e = ap (λ ys. x ∷ ys) (kept-none bs)
kept-yes (true ∷ bs) (x ∷ xs) (suc k) d h e = ap (λ ys. x ∷ ys) (kept-yes bs xs k d (omega (arith, h)) e)
kept-yes (false ∷ bs) (x ∷ xs) (suc k) d h e = kept-yes bs xs k d (omega (arith, h)) e

pub kept-no : {A : Type 0} (bs : List Bool) (xs : List A) (k : ℕ) → get_or bs k false ≡ false → items_where_true bs (take (suc k) xs) ≡ items_where_true bs (take k xs)
kept-no bs [] zero e = refl
kept-no bs [] (suc k) e = refl
kept-no [] (x ∷ xs) k e = refl
kept-no (true ∷ bs) (x ∷ xs) zero e = absurd (true≢false e)
kept-no (false ∷ bs) (x ∷ xs) zero e = kept-none bs
kept-no (true ∷ bs) (x ∷ xs) (suc k) e = ap (λ ys. x ∷ ys) (kept-no bs xs k e)
kept-no (false ∷ bs) (x ∷ xs) (suc k) e = kept-no bs xs k e

-- an element that is kept stands at its place
pub kept-at : {A : Type 0} (bs : List Bool) (xs : List A) (k : ℕ) (x : A) → get_or bs k false ≡ true → slice_get xs k ≡ Some x → slice_get (items_where_true bs xs) (place bs k) ≡ Some x
kept-at [] xs k x e h = absurd (true≢false (sym e))
kept-at (b ∷ bs) [] k x e h = absurd (cc)
kept-at (true ∷ bs) (y ∷ xs) zero x e h = h
kept-at (false ∷ bs) (y ∷ xs) zero x e h = absurd (true≢false (sym e))
kept-at (true ∷ bs) (y ∷ xs) (suc k) x e h =
    let up : 1 + place bs k ≡ suc (place bs k) = omega arith in
    rw up (kept-at bs xs k x e h)
kept-at (false ∷ bs) (y ∷ xs) (suc k) x e h = kept-at bs xs k x e h

pub kept-get : {A : Type 0} (bs : List Bool) (xs : List A) (k : ℕ) (d : A) → get_or bs k false ≡ true → k < length xs → get_or (items_where_true bs xs) (place bs k) d ≡ get_or xs k d
kept-get [] xs k d e h = absurd (true≢false (sym e))
kept-get (b ∷ bs) [] k d e h = absurd (omega arith)
kept-get (true ∷ bs) (y ∷ xs) zero d e h = refl
kept-get (false ∷ bs) (y ∷ xs) zero d e h = absurd (true≢false (sym e))
kept-get (true ∷ bs) (y ∷ xs) (suc k) d e h =
    let up : 1 + place bs k ≡ suc (place bs k) = omega arith in
    rw up (kept-get bs xs k d e (omega (arith, h)))
kept-get (false ∷ bs) (y ∷ xs) (suc k) d e h = kept-get bs xs k d e (omega (arith, h))

-- a place past the end is past the end of what is kept
pub kept-past : {A : Type 0} (bs : List Bool) (xs : List A) (k : ℕ) (d : A) → length bs ≤ k → get_or (items_where_true bs xs) (place bs k) d ≡ d
kept-past [] xs k d h = refl
kept-past (b ∷ bs) xs zero d h = absurd (omega arith)
kept-past (b ∷ bs) [] (suc k) d h = refl
kept-past (true ∷ bs) (y ∷ xs) (suc k) d h =
    let up : 1 + place bs k ≡ suc (place bs k) = omega arith in
    rw up (kept-past bs xs k d (omega (arith, h)))
kept-past (false ∷ bs) (y ∷ xs) (suc k) d h = kept-past bs xs k d (omega (arith, h))

pub length-kept : {A : Type 0} (bs : List Bool) (xs : List A) → length xs ≡ length bs → length (items_where_true bs xs) ≡ place bs (length bs)
length-kept [] xs h = refl
length-kept (b ∷ bs) [] h = absurd (omega (arith, h))
length-kept (true ∷ bs) (x ∷ xs) h =
    let rest : length (items_where_true bs xs) ≡ place bs (length bs) = length-kept bs xs (omega (arith, h)) in
    suc-of _ _ rest
  where
    suc-of : (n m : ℕ) → n ≡ m → suc n ≡ 1 + m
    suc-of n m e = omega arith
length-kept (false ∷ bs) (x ∷ xs) h = length-kept bs xs (omega (arith, h))

-- a kept place comes before each later one
pub place-before : (bs : List Bool) (t k : ℕ) → t < k → get_or bs t false ≡ true → place bs t < place bs k
place-before [] t k h e = absurd (true≢false (sym e))
place-before (b ∷ bs) t zero h e = absurd (omega arith)
place-before (false ∷ bs) zero (suc k) h e = absurd (true≢false (sym e))
place-before (true ∷ bs) zero (suc k) h e = first (place bs k)
  where
    first : (n : ℕ) → 0 < 1 + n
    first n = omega arith
place-before (true ∷ bs) (suc t) (suc k) h e = up _ _ (place-before bs t k (omega (arith, h)) e)
  where
    up : (n m : ℕ) → n < m → 1 + n < 1 + m
    up n m l = omega arith
place-before (false ∷ bs) (suc t) (suc k) h e = place-before bs t k (omega (arith, h)) e

-- places don't fall
pub place-order : (bs : List Bool) (t k : ℕ) → t ≤ k → place bs t ≤ place bs k
place-order [] t k h = omega arith
place-order (b ∷ bs) zero k h = omega arith
place-order (b ∷ bs) (suc t) zero h = absurd (omega arith)
place-order (true ∷ bs) (suc t) (suc k) h = up _ _ (place-order bs t k (omega (arith, h)))
  where
    up : (n m : ℕ) → n ≤ m → 1 + n ≤ 1 + m
    up n m l = omega arith
place-order (false ∷ bs) (suc t) (suc k) h = place-order bs t k (omega (arith, h))

-- one more element, kept or not
pub kept-more : {A B : Type 0} (f : A → B) (bs : List Bool) (xs : List A) (k : ℕ) (x : A) (old new : List B) → k < length xs → x ≡ get_or xs k x → old ≡ map f (items_where_true bs (take k xs))
    → ((get_or bs k false ≡ true) × (new ≡ old ++ f x ∷ [])) ⊎ ((get_or bs k false ≡ false) × (new ≡ old)) → new ≡ map f (items_where_true bs (take (k + 1) xs))
kept-more f bs xs k x old new h is e (inl g) =
    let up : k + 1 ≡ suc k = omega arith in
    rw up
    (g.1
    ∙ (ap (λ ys. ys ++ f x ∷ []) e
    ∙ (ap (λ y. map f (items_where_true bs (take k xs)) ++ f y ∷ []) is ∙ (sym (map-append f (items_where_true bs (take k xs)) (get_or xs k x ∷ [])) ∙ sym (ap (map f) (kept-yes bs xs k x h g.0))))))
kept-more f bs xs k x old new h is e (inr g) =
    let up : k + 1 ≡ suc k = omega arith in
    rw up (g.1 ∙ (e ∙ sym (ap (map f) (kept-no bs xs k g.0))))
