-- Some of the names of a scope differ where all do.
use Rattle.std.proofs.Common.{◌≡◌, ◌<◌, ◌⊎◌, inl, inr, ℕ, zero, suc, Bool, true, false, cond, ◌==◌, List, [], ◌∷◌, ◌++◌, map, flat_map, length, get_or, slice_get, Some, Contains, refl, ap, sym, subst, ◌∙◌, arith, eqb-true, eq-eqb}
use Rattle.std.proofs.lemmas.List.{get_or_default}
use Rattle.package_form.specs.Scope.{lowered, AreDistinct, IsMetBefore}
use Rattle.package_form.proofs.AllAndContains.{contains-later}
use Rattle.package_form.proofs.NamesStandForOneRow.{distinct-back}
use Rattle.std.specs.List.{items_where_true}

-- some of these names, in their order
pub data IsWithin : List (List ℕ) → List (List ℕ) → Type 0 where
  none : IsWithin [] []
  taken : (n : List ℕ) (xs ys : List (List ℕ)) → IsWithin xs ys → IsWithin (n ∷ xs) (n ∷ ys)
  over : (n : List ℕ) (xs ys : List (List ℕ)) → IsWithin xs ys → IsWithin xs (n ∷ ys)

within-contains : (xs ys : List (List ℕ)) → IsWithin xs ys → (n : List ℕ) → Contains xs n → Contains ys n
within-contains _ _ none n c = c
within-contains _ _ (taken m xs ys w) n (zero, l, e) = (0, omega arith, e)
within-contains _ _ (taken m xs ys w) n (suc k, l, e) = contains-later m n ys (within-contains xs ys w n (k, omega (arith, l), e))
within-contains _ _ (over m xs ys w) n c = contains-later m n ys (within-contains xs ys w n c)

-- ---- one name more

pub distinct-none : AreDistinct []
distinct-none = record { each = λ k l. absurd (omega arith) }

distinct-cons : (x : List ℕ) (xs : List (List ℕ)) → AreDistinct xs → ((n : List ℕ) → Contains xs n → lowered n ≡ lowered x → ⊥) → AreDistinct (x ∷ xs)
distinct-cons x xs d h = record { each = by }
  where
    by : (k : ℕ) → k < length (x ∷ xs) → IsMetBefore (x ∷ xs) k → ⊥
    by zero l m = omega (arith, m.1)
    by (suc k) l (zero, a, e) = h (get_or xs k []) (k, omega (arith, l), get_or_default xs k (get_or xs k []) [] (omega (arith, l))) (sym e)
    by (suc k) l (suc j, a, e) = d.each k (omega (arith, l)) (j, omega (arith, a), e)

distinct-head : (x : List ℕ) (xs : List (List ℕ)) → AreDistinct (x ∷ xs) → (n : List ℕ) → Contains xs n → lowered n ≡ lowered x → ⊥
distinct-head x xs d n (k, l, e) q =
    let is : get_or xs k [] ≡ n = get_or_default xs k [] n l ∙ e in
    d.each (suc k) (omega (arith, l)) (0, omega arith, sym (ap lowered is ∙ q))

pub within-distinct : (xs ys : List (List ℕ)) → IsWithin xs ys → AreDistinct ys → AreDistinct xs
within-distinct _ _ none d = d
within-distinct _ _ (taken n xs ys w) d = distinct-cons n xs (within-distinct xs ys w (distinct-back (n ∷ []) ys d)) (λ m c. distinct-head n ys d m (within-contains xs ys w m c))
within-distinct _ _ (over n xs ys w) d = within-distinct xs ys w (distinct-back (n ∷ []) ys d)

-- ---- the names that elements tell, of those that are kept

none-of : (ys : List (List ℕ)) → IsWithin [] ys
none-of [] = none
none-of (y ∷ ys) = over y [] ys (none-of ys)

all-of : (ys : List (List ℕ)) → IsWithin ys ys
all-of [] = none
all-of (y ∷ ys) = taken y ys ys (all-of ys)

pub within-append : (xs ys vs ws : List (List ℕ)) → IsWithin xs ys → IsWithin vs ws → IsWithin (xs ++ vs) (ys ++ ws)
within-append _ _ vs ws none w = w
within-append _ _ vs ws (taken n xs ys a) w = taken n (xs ++ vs) (ys ++ ws) (within-append xs ys vs ws a w)
within-append _ _ vs ws (over n xs ys a) w = over n (xs ++ vs) (ys ++ ws) (within-append xs ys vs ws a w)

-- where each element tells in one scope what it did in another, or nothing
pub names-within : {A : Type 0} (put : A → A) (f g : A → List (List ℕ)) (bs : List Bool) (xs : List A)
    → ((k : ℕ) (x : A) → get_or bs k false ≡ true → slice_get xs k ≡ Some x → (f (put x) ≡ []) ⊎ (f (put x) ≡ g x)) → IsWithin (flat_map f (map put (items_where_true bs xs))) (flat_map g xs)
names-within put f g [] xs h = none-of (flat_map g xs)
names-within put f g (b ∷ bs) [] h = none
names-within put f g (false ∷ bs) (x ∷ xs) h = within-append [] (g x) (flat_map f (map put (items_where_true bs xs))) (flat_map g xs) (none-of (g x)) (names-within put f g bs xs (λ k y e i. h (suc k) y e i))
names-within put f g (true ∷ bs) (x ∷ xs) h =
    within-append (f (put x)) (g x) (flat_map f (map put (items_where_true bs xs))) (flat_map g xs) (one (h 0 x refl refl)) (names-within put f g bs xs (λ k y e i. h (suc k) y e i))
  where
    one : (f (put x) ≡ []) ⊎ (f (put x) ≡ g x) → IsWithin (f (put x)) (g x)
    one (inl e) = subst (λ (ns : List (List ℕ)). IsWithin ns (g x)) (sym e) (none-of (g x))
    one (inr e) = subst (λ (ns : List (List ℕ)). IsWithin ns (g x)) (sym e) (all-of (g x))

-- the name of one of a package, in the scope of the package as it is numbered elsewhere
pub label-within : (a b p q : ℕ) (name : List ℕ) → (a ≡ q → b ≡ p) → (cond (a == q) (name ∷ []) [] ≡ []) ⊎ (cond (a == q) (name ∷ []) [] ≡ cond (b == p) (name ∷ []) [])
label-within a b p q name h = by (a == q) refl
  where
    by : (c : Bool) → (a == q) ≡ c → (cond (a == q) (name ∷ []) [] ≡ []) ⊎ (cond (a == q) (name ∷ []) [] ≡ cond (b == p) (name ∷ []) [])
    by false e = inl (ap (λ (c : Bool). cond c (name ∷ []) []) e)
    by true e = inr (ap (λ (c : Bool). cond c (name ∷ []) []) e ∙ sym (ap (λ (c : Bool). cond c (name ∷ []) []) (eq-eqb b p (h (eqb-true a q e)))))
