-- What is kept of a list weighs at most what covers it.
use Rattle.std.proofs.Common.{◌≡◌, ◌≤◌, ◌<◌, ℕ, zero, suc, ◌+◌, Bool, true, false, List, [], ◌∷◌, ◌++◌, length, map, get_or, set as put, slice_get, Some, refl, sym, arith, true≢false}
use Rattle.std.specs.Prelude.{sum}
use Rattle.std.proofs.lemmas.List.Sums.{sum_by-cons}
use Rattle.std.specs.List.{items_where_true}

sum-cons : (n : ℕ) (ns : List ℕ) → sum (n ∷ ns) ≡ n + sum ns
sum-cons = sum_by-cons (λ m. m)

one-more : (n m s : ℕ) → n ≡ m → s ≡ 1 + m → suc n ≡ s
one-more n m s e f = omega arith

pub length-weighs : {A : Type 0} (xs : List A) → length xs ≡ sum (map (λ x. 1) xs)
length-weighs [] = refl
length-weighs (x ∷ xs) = one-more _ _ _ (length-weighs xs) (sum-cons 1 (map (λ x. 1) xs))

none-kept : {A : Type 0} (f : A → ℕ) (bs : List Bool) (xs : List A) → ((k : ℕ) (x : A) → get_or bs k false ≡ true → slice_get xs k ≡ Some x → ⊥) → sum (map f (items_where_true bs xs)) ≡ 0
none-kept f [] xs h = refl
none-kept f (b ∷ bs) [] h = refl
none-kept f (true ∷ bs) (x ∷ xs) h = absurd (h 0 x refl refl)
none-kept f (false ∷ bs) (x ∷ xs) h = none-kept f bs xs (λ k y e g. h (suc k) y e g)

-- without one mark it weighs less by that element at most
unset-weighs : {A : Type 0} (f : A → ℕ) (n : ℕ) (bs : List Bool) (xs : List A) (p : ℕ) → ((x : A) → slice_get xs p ≡ Some x → f x ≤ n) → sum (map f (items_where_true bs xs)) ≤ n + sum (map f (items_where_true (put bs p false) xs))
unset-weighs f n [] xs p h = omega arith
unset-weighs f n (b ∷ bs) [] p h = omega arith
unset-weighs f n (true ∷ bs) (x ∷ xs) zero h = here _ (f x) _ (sum-cons (f x) (map f (items_where_true bs xs))) (h x refl)
  where
    here : (s m k : ℕ) → s ≡ m + k → m ≤ n → s ≤ n + k
    here s m k e l = omega arith
unset-weighs f n (false ∷ bs) (x ∷ xs) zero h = here (sum (map f (items_where_true bs xs)))
  where
    here : (k : ℕ) → k ≤ n + k
    here k = omega arith
unset-weighs f n (true ∷ bs) (x ∷ xs) (suc p) h = later _ _ (f x) _ _ (sum-cons (f x) (map f (items_where_true bs xs))) (sum-cons (f x) (map f (items_where_true (put bs p false) xs))) (unset-weighs f n bs xs p h)
  where
    later : (s t m k l : ℕ) → s ≡ m + k → t ≡ m + l → k ≤ n + l → s ≤ n + t
    later s t m k l e g z = omega arith
unset-weighs f n (false ∷ bs) (x ∷ xs) (suc p) h = unset-weighs f n bs xs p h

unset-marked : (bs : List Bool) (p k : ℕ) → get_or (put bs p false) k false ≡ true → (get_or bs k false ≡ true) × (p ≡ k → ⊥)
unset-marked [] p k e = absurd (true≢false (sym e))
unset-marked (b ∷ bs) zero zero e = absurd (true≢false (sym e))
unset-marked (b ∷ bs) zero (suc k) e = (e, λ q. omega (arith, q))
unset-marked (b ∷ bs) (suc p) zero e = (e, λ q. omega (arith, q))
unset-marked (b ∷ bs) (suc p) (suc k) e = let r = unset-marked bs p k e in (r.0, λ q. r.1 (omega (arith, q)))

-- each element that is kept is one of those that these are put to, and weighs no more
pub covered-weighs : {A B : Type 0} (f : A → ℕ) (g : B → ℕ) (to : ℕ → ℕ) (bs : List Bool) (xs : List A) (ys : List B)
    → ((t : ℕ) (y : B) (x : A) → slice_get ys t ≡ Some y → slice_get xs (to t) ≡ Some x → f x ≤ g y)
    → ((k : ℕ) (x : A) → get_or bs k false ≡ true → slice_get xs k ≡ Some x → (t : ℕ) × (t < length ys) × (to t ≡ k)) → sum (map f (items_where_true bs xs)) ≤ sum (map g ys)
covered-weighs f g to bs xs [] weighs covered = none-left _ (none-kept f bs xs (λ k x e h. none (covered k x e h)))
  where
    none-left : (n : ℕ) → n ≡ 0 → n ≤ 0
    none-left n e = omega arith

    none : {k : ℕ} → (t : ℕ) × (t < 0) × (to t ≡ k) → ⊥
    none (t, l, q) = omega (arith, l)
covered-weighs {A = A} f g to bs xs (y ∷ ys) weighs covered =
    whole _ _ _ _ (sum-cons (g y) (map g ys)) (unset-weighs f (g y) bs xs (to 0) (λ x e. weighs 0 y x refl e)) (covered-weighs f g (λ t. to (suc t)) (put bs (to 0) false) xs ys (λ t z x e h. weighs (suc t) z x e h) later)
  where
    whole : (s k l m : ℕ) → s ≡ g y + m → k ≤ g y + l → l ≤ m → k ≤ s
    whole s k l m e a b = omega arith

    later : (k : ℕ) (x : A) → get_or (put bs (to 0) false) k false ≡ true → slice_get xs k ≡ Some x → (t : ℕ) × (t < length ys) × (to (suc t) ≡ k)
    later k x e h = let u = unset-marked bs (to 0) k e in by u.1 (covered k x u.0 h)
      where
        by : (to 0 ≡ k → ⊥) → (t : ℕ) × (t < suc (length ys)) × (to t ≡ k) → (t : ℕ) × (t < length ys) × (to (suc t) ≡ k)
        by other (zero, l, q) = absurd (other q)
        by other (suc t, l, q) = (t, omega (arith, l), q)

-- each element that is kept stands in the first list, and is kept of it
pub front-weighs : {A : Type 0} (f : A → ℕ) (bs cs : List Bool) (xs ys : List A)
    → ((k : ℕ) (x : A) → get_or bs k false ≡ true → slice_get (xs ++ ys) k ≡ Some x → (k < length xs) × (get_or cs k false ≡ true)) → sum (map f (items_where_true bs (xs ++ ys))) ≤ sum (map f (items_where_true cs xs))
front-weighs f bs cs [] ys h = none-left _ _ (none-kept f bs ys (λ k x e g. omega (arith, (h k x e g).0)))
  where
    none-left : (n m : ℕ) → n ≡ 0 → n ≤ m
    none-left n m e = omega arith
front-weighs f [] cs (x ∷ xs) ys h = omega arith
front-weighs f (false ∷ bs) [] (x ∷ xs) ys h = front-weighs f bs [] xs ys (λ k y e g. let r = h (suc k) y e g in (omega (arith, r.0), r.1))
front-weighs f (true ∷ bs) [] (x ∷ xs) ys h = absurd (true≢false (sym (h 0 x refl refl).1))
front-weighs f (false ∷ bs) (false ∷ cs) (x ∷ xs) ys h = front-weighs f bs cs xs ys (λ k y e g. let r = h (suc k) y e g in (omega (arith, r.0), r.1))
front-weighs f (true ∷ bs) (false ∷ cs) (x ∷ xs) ys h = absurd (true≢false (sym (h 0 x refl refl).1))
front-weighs f (false ∷ bs) (true ∷ cs) (x ∷ xs) ys h = more _ _ _ (sum-cons (f x) (map f (items_where_true cs xs))) (front-weighs f bs cs xs ys (λ k y e g. let r = h (suc k) y e g in (omega (arith, r.0), r.1)))
  where
    more : (s n m : ℕ) → s ≡ f x + m → n ≤ m → n ≤ s
    more s n m e l = omega arith
front-weighs f (true ∷ bs) (true ∷ cs) (x ∷ xs) ys h = more _ _ _ _ (sum-cons (f x) (map f (items_where_true bs (xs ++ ys)))) (sum-cons (f x) (map f (items_where_true cs xs))) (front-weighs f bs cs xs ys (λ k y e g. let r = h (suc k) y e g in (omega (arith, r.0), r.1)))
  where
    more : (s t n m : ℕ) → s ≡ f x + n → t ≡ f x + m → n ≤ m → s ≤ t
    more s t n m e g l = omega arith
