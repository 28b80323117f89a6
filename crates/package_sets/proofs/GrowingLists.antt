-- Lists that grow: what is true of all their elements, and places one behind the other.
use Rattle.std.proofs.Common.{◌≡◌, ◌≤◌, ◌<◌, ◌⊎◌, inl, inr, ℕ, zero, suc, ◌+◌, ◌-◌, List, [], ◌∷◌, ◌++◌, length, map, take, drop, get_or, slice_get, Bool, true, None, Some, refl, ap, sym, subst, ◌∙◌, arith, false, not, true≢false}
use Rattle.std.specs.Prelude.{flat_map, Contains}
use Rattle.std.specs.List.{list_all, range_with_len}
use Rattle.std.proofs.lemmas.Option.{slice_get_within, slice_get-get_or, get_or_from_slice_get}
use Rattle.std.proofs.lemmas.List.{get_or_append_left, get_or-append-add, length-take}
use Rattle.canonical_abi.proofs.Traces.TracesLeaveImages.{slice_get-take}
use Rattle.package_form.proofs.AllAndContains.{contains-here, contains-later, contains-either}
use Rattle.tables.proofs.ClosedTypesRowByRow.{split, both}
use Rattle.package_sets.specs.Joining.{all_places}

pub places-push : (first count : ℕ) → range_with_len first (count + 1) ≡ range_with_len first count ++ (first + count) ∷ []
places-push first zero = one first
  where
    one : (n : ℕ) → n ∷ [] ≡ (n + 0) ∷ []
    one n = ap (λ m. m ∷ []) (omega arith)
places-push first (suc count) = ap (range_with_len first) (up count) ∙ ap (λ xs. first ∷ xs) (places-push (first + 1) count ∙ ap (λ n. range_with_len (first + 1) count ++ n ∷ []) (next first count))
  where
    up : (n : ℕ) → suc n + 1 ≡ suc (n + 1)
    up n = omega arith

    next : (n m : ℕ) → n + 1 + m ≡ n + suc m
    next n m = omega arith

pub places-more : (first place : ℕ) → first ≤ place → range_with_len first (place + 1 - first) ≡ range_with_len first (place - first) ++ place ∷ []
places-more first place h =
    let one : place + 1 - first ≡ place - first + 1 = omega arith in
    let last : first + (place - first) ≡ place = omega arith in
    ap (range_with_len first) one ∙ (places-push first (place - first) ∙ ap (λ n. range_with_len first (place - first) ++ n ∷ []) last)

pub length-places : (first count : ℕ) → length (range_with_len first count) ≡ count
length-places first zero = refl
length-places first (suc count) = ap suc (length-places (first + 1) count)

pub place-get : (first count k : ℕ) → k < count → get_or (range_with_len first count) k 0 ≡ first + k
place-get first zero k h = absurd (omega arith)
place-get first (suc count) zero h = omega arith
place-get first (suc count) (suc k) h = place-get (first + 1) count k (omega (arith, h)) ∙ next first k
  where
    next : (n m : ℕ) → n + 1 + m ≡ n + suc m
    next n m = omega arith

-- ---- the elements of lists

pub map-get : {A B : Type 0} (f : A → B) (xs : List A) (k : ℕ) (x : A) → slice_get xs k ≡ Some x → slice_get (map f xs) k ≡ Some (f x)
map-get f [] k x e = absurd (cc)
map-get f (y ∷ xs) zero x e = let same : y ≡ x = cc in ap (λ z. Some (f z)) same
map-get f (y ∷ xs) (suc k) x e = map-get f xs k x e

pub map-unget : {A B : Type 0} (f : A → B) (xs : List A) (k : ℕ) (y : B) → slice_get (map f xs) k ≡ Some y → (x : A) × (slice_get xs k ≡ Some x) × (f x ≡ y)
map-unget f [] k y e = absurd (cc)
map-unget f (x ∷ xs) zero y e = (x, refl, cc)
map-unget f (x ∷ xs) (suc k) y e = map-unget f xs k y e

pub front-get : {A : Type 0} (xs ys : List A) (k : ℕ) (x : A) → slice_get xs k ≡ Some x → slice_get (xs ++ ys) k ≡ Some x
front-get [] ys k x e = absurd (cc)
front-get (z ∷ xs) ys zero x e = e
front-get (z ∷ xs) ys (suc k) x e = front-get xs ys k x e

pub behind-get : {A : Type 0} (xs ys : List A) (k : ℕ) → slice_get (xs ++ ys) (length xs + k) ≡ slice_get ys k
behind-get [] ys k = ap (slice_get ys) (omega arith)
behind-get (x ∷ xs) ys k = ap (slice_get (x ∷ (xs ++ ys))) (up (length xs) k) ∙ behind-get xs ys k
  where
    up : (n m : ℕ) → suc n + m ≡ suc (n + m)
    up n m = omega arith

pub last-get : {A : Type 0} (xs : List A) (x : A) → slice_get (xs ++ x ∷ []) (length xs) ≡ Some x
last-get [] x = refl
last-get (y ∷ xs) x = last-get xs x

pub item-get : {A : Type 0} (xs : List A) (k : ℕ) (x : A) → k < length xs → x ≡ get_or xs k x → slice_get xs k ≡ Some x
item-get xs k x h e = slice_get-get_or xs k x h ∙ ap Some (sym e)

-- one more element has the property
pub each-more : {A : Type 0} (P : ℕ → A → Type 0) (xs : List A) (n : ℕ) (x : A) → slice_get xs n ≡ Some x → P n x → ((k : ℕ) (y : A) → slice_get (take n xs) k ≡ Some y → P k y)
    → (k : ℕ) (y : A) → slice_get (take (n + 1) xs) k ≡ Some y → P k y
each-more P xs n x e here before k y h = by (cases k (omega (arith, slice_get_within (take (n + 1) xs) k y h, length-take (n + 1) xs)))
  where
    cases : (k : ℕ) → k < n + 1 → (k < n) ⊎ (k ≡ n)
    cases k l = grind arith

    there : k < n + 1 → slice_get xs k ≡ Some y
    there l = sym (slice_get-take (n + 1) xs k l) ∙ h

    by : (k < n) ⊎ (k ≡ n) → P k y
    by (inl l) = before k y (slice_get-take n xs k l ∙ there (omega arith))
    by (inr q) =
        let last : slice_get xs n ≡ Some y = ap (slice_get xs) (sym q) ∙ there (omega arith) in
        let same : x ≡ y = cc in
        subst (λ m. P m y) (sym q) (subst (P n) same here)

pub each-all : {A : Type 0} (P : ℕ → A → Type 0) (xs : List A) (n : ℕ) → length xs ≤ n → ((k : ℕ) (y : A) → slice_get (take n xs) k ≡ Some y → P k y) → (k : ℕ) (y : A) → slice_get xs k ≡ Some y → P k y
each-all P xs n h before k y e = before k y (slice_get-take n xs k (omega (arith, slice_get_within xs k y e)) ∙ e)

-- ---- places of a whole list

pub front-place : (front : List ℕ) (behind count k : ℕ) → k < length front → get_or (all_places front behind count) k 0 ≡ get_or front k 0
front-place front behind count k h = get_or_append_left front (range_with_len behind (count - length front)) 0 k h

pub behind-place : (front : List ℕ) (behind count k : ℕ) → length front + k < count → get_or (all_places front behind count) (length front + k) 0 ≡ behind + k
behind-place front behind count k h = get_or-append-add front (range_with_len behind (count - length front)) k 0 ∙ place-get behind (count - length front) k (omega arith)

-- ---- what is true of all

pub all-append : {A : Type 0} (f : A → Bool) (xs ys : List A) → list_all f xs ≡ true → list_all f ys ≡ true → list_all f (xs ++ ys) ≡ true
all-append f [] ys h k = k
all-append f (x ∷ xs) ys h k = let p = split (f x) (list_all f xs) h in both (f x) (list_all f (xs ++ ys)) p.0 (all-append f xs ys p.1 k)

pub all-more : {A : Type 0} (f g : A → Bool) (xs : List A) → ((x : A) → f x ≡ true → g x ≡ true) → list_all f xs ≡ true → list_all g xs ≡ true
all-more f g [] one h = refl
all-more f g (x ∷ xs) one h = let p = split (f x) (list_all f xs) h in both (g x) (list_all g xs) (one x p.0) (all-more f g xs one p.1)

pub all-put : {A B : Type 0} (put : A → B) (f : A → Bool) (g : B → Bool) (xs : List A) → ((k : ℕ) (x : A) → slice_get xs k ≡ Some x → f x ≡ true → g (put x) ≡ true) → list_all f xs ≡ true → list_all g (map put xs) ≡ true
all-put put f g [] one h = refl
all-put put f g (x ∷ xs) one h = let p = split (f x) (list_all f xs) h in both (g (put x)) (list_all g (map put xs)) (one 0 x refl p.0) (all-put put f g xs (λ k y e. one (suc k) y e) p.1)

pub all-drop : {A : Type 0} (f : A → Bool) (n : ℕ) (xs : List A) → list_all f xs ≡ true → list_all f (drop n xs) ≡ true
all-drop f zero xs h = h
all-drop f (suc n) [] h = refl
all-drop f (suc n) (x ∷ xs) h = all-drop f n xs (split (f x) (list_all f xs) h).1

pub none-within : {A : Type 0} (xs : List A) (k : ℕ) → k < length xs → slice_get xs k ≡ None → ⊥
none-within [] k h e = omega arith
none-within (x ∷ xs) zero h e = cc
none-within (x ∷ xs) (suc k) h e = none-within xs k (omega (arith, h)) e

-- ---- parts of lists that are put elsewhere

pub drop-map : {A B : Type 0} (f : A → B) (m : ℕ) (xs : List A) → drop m (map f xs) ≡ map f (drop m xs)
drop-map f zero xs = refl
drop-map f (suc m) [] = refl
drop-map f (suc m) (x ∷ xs) = drop-map f m xs

pub take-mapped : {A B : Type 0} (f : A → B) (m : ℕ) (xs : List A) → take m (map f xs) ≡ map f (take m xs)
take-mapped f zero xs = refl
take-mapped f (suc m) [] = refl
take-mapped f (suc m) (x ∷ xs) = ap (λ ys. f x ∷ ys) (take-mapped f m xs)

-- ---- lists of lists

pub contains-unflat : {A B : Type 0} (f : A → List B) (xs : List A) (y : B) → Contains (flat_map f xs) y → (x : A) × Contains xs x × Contains (f x) y
contains-unflat f [] y c = absurd (omega (arith, c.1))
contains-unflat {A = A} f (x ∷ xs) y c = elim (contains-either (f x) (flat_map f xs) y c) [ inl h ↦ (x, contains-here x xs, h) | inr h ↦ later (contains-unflat f xs y h) ]
  where
    later : (z : A) × Contains xs z × Contains (f z) y → (z : A) × Contains (x ∷ xs) z × Contains (f z) y
    later (z, a, b) = (z, contains-later x z xs a, b)

pub get-contains : {A : Type 0} (xs : List A) (k : ℕ) (x : A) → slice_get xs k ≡ Some x → Contains xs x
get-contains xs k x e = (k, slice_get_within xs k x e, get_or_from_slice_get xs k x x e)

pub contains-get : {A : Type 0} (xs : List A) (x : A) → Contains xs x → (k : ℕ) × (slice_get xs k ≡ Some x)
contains-get xs x (k, l, e) = (k, slice_get-get_or xs k x l ∙ ap Some e)

pub one-there : {A : Type 0} (xs : List A) (k : ℕ) → k < length xs → (x : A) × (slice_get xs k ≡ Some x)
one-there [] k h = absurd (omega arith)
one-there (x ∷ xs) zero h = (x, refl)
one-there (x ∷ xs) (suc k) h = one-there xs k (omega (arith, h))

pub not-is : (b : Bool) → not b ≡ true → b ≡ false
not-is true e = absurd (true≢false (sym e))
not-is false e = refl
