-- Lists of lists, and properties of all elements.
use Rattle.std.proofs.Common.{◌≡◌, ℕ, zero, suc, ◌+◌, ◌<◌, List, [], ◌∷◌, ◌++◌, map, flat_map, take, length, get_or, refl, ap, sym, ◌∙◌, subst, arith, All, Contains, ◌⊎◌, inl, inr, append_assoc, Bool, true, slice_get, Some}
use Rattle.std.specs.List.{list_all}
use Rattle.tables.proofs.ClosedTypesRowByRow.{split, both}
use Rattle.std.proofs.lemmas.List.{map-append}

-- a test that passes where another does passes all of a list that the other passes
pub list-grows : {A : Type 0} (p q : A → Bool) → ((x : A) → p x ≡ true → q x ≡ true) → (xs : List A) → list_all p xs ≡ true → list_all q xs ≡ true
list-grows p q h [] passed = refl
list-grows p q h (x ∷ xs) passed = let s = split (p x) (list_all p xs) passed in both _ _ (h x s.0) (list-grows p q h xs s.1)

module _ {A : Type 0} (P : A → Type 0) where
  pub all-head : (x : A) (xs : List A) → All P (x ∷ xs) → P x
  all-head x xs h = h 0 x (omega arith)

  pub all-tail : (x : A) (xs : List A) → All P (x ∷ xs) → All P xs
  all-tail x xs h = λ k d l. h (suc k) d (omega arith)

  pub all-none : All P []
  all-none k d l = absurd (omega arith)

  pub all-cons : (x : A) (xs : List A) → P x → All P xs → All P (x ∷ xs)
  all-cons x xs p q zero d l = p
  all-cons x xs p q (suc k) d l = q k d (omega arith)

  pub all-append : (xs ys : List A) → All P xs → All P ys → All P (xs ++ ys)
  all-append [] ys p q = q
  all-append (x ∷ xs) ys p q = all-cons x (xs ++ ys) (all-head x xs p) (all-append xs ys (all-tail x xs p) q)

  pub all-left : (xs ys : List A) → All P (xs ++ ys) → All P xs
  all-left [] ys h = all-none
  all-left (x ∷ xs) ys h = all-cons x xs (all-head x (xs ++ ys) h) (all-left xs ys (all-tail x (xs ++ ys) h))

  pub all-right : (xs ys : List A) → All P (xs ++ ys) → All P ys
  all-right [] ys h = h
  all-right (x ∷ xs) ys h = all-right xs ys (all-tail x (xs ++ ys) h)

  pub all-at : (xs : List A) (k : ℕ) (x : A) → All P xs → k < length xs → x ≡ get_or xs k x → P x
  all-at xs k x h l is = subst P (sym is) (h k x l)

  pub all-contained : (xs : List A) (x : A) → All P xs → Contains xs x → P x
  all-contained xs x h c = subst P c.2 (h c.0 x c.1)

pub all-mono : {A : Type 0} (P Q : A → Type 0) → ((x : A) → P x → Q x) → (xs : List A) → All P xs → All Q xs
all-mono P Q f xs h = λ k d l. f (get_or xs k d) (h k d l)

pub all-map : {A B : Type 0} (P : B → Type 0) (f : A → B) (xs : List A) → All P (map f xs) → All (λ x. P (f x)) xs
all-map P f [] h k d l = absurd (omega arith)
all-map P f (x ∷ xs) h zero d l = all-head P (f x) (map f xs) h
all-map P f (x ∷ xs) h (suc k) d l = all-map P f xs (all-tail P (f x) (map f xs) h) k d (omega arith)

pub all_map-at : {A B : Type 0} (P : B → Type 0) (f : A → B) (xs : List A) (k : ℕ) (x : A) → All P (map f xs) → k < length xs → x ≡ get_or xs k x → P (f x)
all_map-at P f xs k x h l is = all-at (λ y. P (f y)) xs k x (all-map P f xs h) l is

-- .. of a list that is made of lists
pub all_flat-at : {A B C : Type 0} (P : C → Type 0) (f : B → List C) (g : A → B) (xs : List A) (k : ℕ) (x : A) → All P (flat_map f (map g xs)) → k < length xs → x ≡ get_or xs k x → All P (f (g x))
all_flat-at P f g [] k x h l is = absurd (omega arith)
all_flat-at P f g (y ∷ xs) zero x h l is = subst (λ z. All P (f (g z))) (sym is) (all-left P (f (g y)) (flat_map f (map g xs)) h)
all_flat-at P f g (y ∷ xs) (suc k) x h l is = all_flat-at P f g xs k x (all-right P (f (g y)) (flat_map f (map g xs)) h) (omega arith) is

map_take-suc : {A B : Type 0} (f : A → B) (xs : List A) (k : ℕ) (x : A) → k < length xs → x ≡ get_or xs k x
    → map f (take (suc k) xs) ≡ map f (take k xs) ++ f x ∷ []
map_take-suc f [] k x l e = absurd (omega arith)
map_take-suc f (y ∷ xs) zero x l e = ap (λ z. f z ∷ []) (sym e)
map_take-suc f (y ∷ xs) (suc k) x l e = ap (λ zs. f y ∷ zs) (map_take-suc f xs k x (omega arith) e)

pub map-more : {A B : Type 0} (f : A → B) (xs : List A) (k : ℕ) (x : A) → k < length xs → x ≡ get_or xs k x
    → map f (take (k + 1) xs) ≡ map f (take k xs) ++ f x ∷ []
map-more f xs k x l e = let same : k + 1 ≡ suc k = omega arith in rw same (map_take-suc f xs k x l e)

pub map_map-more : {A B C : Type 0} (f : B → C) (g : A → B) (xs : List A) (k : ℕ) (x : A) → k < length xs → x ≡ get_or xs k x
    → map f (map g (take (k + 1) xs)) ≡ map f (map g (take k xs)) ++ f (g x) ∷ []
map_map-more f g xs k x l e = ap (map f) (map-more g xs k x l e) ∙ map-append f (map g (take k xs)) (g x ∷ [])

pub flat_map-append : {A B : Type 0} (f : A → List B) (xs ys : List A) → flat_map f (xs ++ ys) ≡ flat_map f xs ++ flat_map f ys
flat_map-append f [] ys = refl
flat_map-append f (x ∷ xs) ys = ap (λ zs. f x ++ zs) (flat_map-append f xs ys) ∙ sym (append_assoc (f x) (flat_map f xs) (flat_map f ys))

pub flat_map-one : {A B : Type 0} (f : A → List B) (x : A) → flat_map f (x ∷ []) ≡ f x
flat_map-one f x = by (f x)
  where
    by : {B : Type 0} (ys : List B) → ys ++ [] ≡ ys
    by [] = refl
    by (y ∷ ys) = ap (λ zs. y ∷ zs) (by ys)

pub flat_map-more : {A B C : Type 0} (f : B → List C) (g : A → B) (xs : List A) (k : ℕ) (x : A) → k < length xs → x ≡ get_or xs k x
    → flat_map f (map g (take (k + 1) xs)) ≡ flat_map f (map g (take k xs)) ++ f (g x)
flat_map-more f g xs k x l e =
    let one : map g (take (k + 1) xs) ≡ map g (take k xs) ++ g x ∷ [] = map-more g xs k x l e in
    ap (flat_map f) one ∙ flat_map-append f (map g (take k xs)) (g x ∷ []) ∙ ap (λ zs. flat_map f (map g (take k xs)) ++ zs) (flat_map-one f (g x))

-- ---- Contains

module _ {A : Type 0} where
  pub contains-here : (x : A) (xs : List A) → Contains (x ∷ xs) x
  contains-here x xs = (0, omega arith, refl)

  pub contains-later : (y x : A) (xs : List A) → Contains xs x → Contains (y ∷ xs) x
  contains-later y x xs h = (suc h.0, omega (arith, h.1), h.2)

  pub contains-left : (xs ys : List A) (x : A) → Contains xs x → Contains (xs ++ ys) x
  contains-left [] ys x h = absurd (omega (arith, h.1))
  contains-left (y ∷ xs) ys x (zero, l, e) = (0, omega arith, e)
  contains-left (y ∷ xs) ys x (suc k, l, e) = contains-later y x (xs ++ ys) (contains-left xs ys x (k, omega (arith, l), e))

  pub contains-right : (xs ys : List A) (x : A) → Contains ys x → Contains (xs ++ ys) x
  contains-right [] ys x h = h
  contains-right (y ∷ xs) ys x h = contains-later y x (xs ++ ys) (contains-right xs ys x h)

  pub contains-either : (xs ys : List A) (x : A) → Contains (xs ++ ys) x → Contains xs x ⊎ Contains ys x
  contains-either [] ys x h = inr h
  contains-either (y ∷ xs) ys x (zero, l, e) = inl (0, omega arith, e)
  contains-either (y ∷ xs) ys x (suc k, l, e) = elim (contains-either xs ys x (k, omega (arith, l), e)) [
    | inl h ↦ inl (contains-later y x xs h)
    | inr h ↦ inr h
  ]

  pub contains-at : (xs : List A) (k : ℕ) (x : A) → k < length xs → x ≡ get_or xs k x → Contains xs x
  contains-at xs k x l is = (k, l, sym is)

pub contains-map : {A B : Type 0} (f : A → B) (xs : List A) (x : A) → Contains xs x → Contains (map f xs) (f x)
contains-map f [] x h = absurd (omega (arith, h.1))
contains-map f (y ∷ xs) x (zero, l, e) = (0, omega arith, ap f e)
contains-map f (y ∷ xs) x (suc k, l, e) = contains-later (f y) (f x) (map f xs) (contains-map f xs x (k, omega (arith, l), e))

pub contains-unmap : {A B : Type 0} (f : A → B) (xs : List A) (y : B) → Contains (map f xs) y → (x : A) × Contains xs x × (f x ≡ y)
contains-unmap f [] y h = absurd (omega (arith, h.1))
contains-unmap f (x ∷ xs) y (zero, l, e) = (x, (0, omega arith, refl), e)
contains-unmap f (x ∷ xs) y (suc k, l, e) =
    let r = contains-unmap f xs y (k, omega (arith, l), e) in
    (r.0, contains-later x r.0 xs r.1, r.2)

pub contains-flat : {A B : Type 0} (f : A → List B) (xs : List A) (x : A) (y : B) → Contains xs x → Contains (f x) y → Contains (flat_map f xs) y
contains-flat f [] x y h c = absurd (omega (arith, h.1))
contains-flat f (z ∷ xs) x y (zero, l, e) c = contains-left (f z) (flat_map f xs) y (subst (λ w. Contains (f w) y) (sym e) c)
contains-flat f (z ∷ xs) x y (suc k, l, e) c = contains-right (f z) (flat_map f xs) y (contains-flat f xs x y (k, omega (arith, l), e) c)

-- ---- places

pub get-front : {A : Type 0} (xs ys : List A) (n : ℕ) → n < length xs → slice_get (xs ++ ys) n ≡ slice_get xs n
get-front [] ys n h = absurd (omega arith)
get-front (x ∷ xs) ys zero h = refl
get-front (x ∷ xs) ys (suc n) h = get-front xs ys n (omega arith)

pub all-get : {A : Type 0} (p : A → Bool) (xs : List A) (n : ℕ) (x : A) → list_all p xs ≡ true → slice_get xs n ≡ Some x → p x ≡ true
all-get p [] n x h e = absurd (cc)
all-get p (y ∷ xs) zero x h e = let s = split (p y) (list_all p xs) h in let is : y ≡ x = cc in ap p (sym is) ∙ s.0
all-get p (y ∷ xs) (suc n) x h e = all-get p xs n x (split (p y) (list_all p xs) h).1 e

pub compared : (a b : ℕ) → (a < b) ⊎ ((b < a) ⊎ (a ≡ b))
compared zero zero = inr (inr refl)
compared zero (suc b) = inl (omega arith)
compared (suc a) zero = inr (inl (omega arith))
compared (suc a) (suc b) = elim (compared a b) [
  | inl q ↦ inl (omega (arith, q))
  | inr q ↦ elim q [
    | inl r ↦ inr (inl (omega (arith, r)))
    | inr r ↦ inr (inr (ap suc r))
  ]
]
