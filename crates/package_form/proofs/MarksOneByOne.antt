-- Marks that are set one after the other.
use Rattle.std.proofs.Common.{◌≡◌, ℕ, ◌+◌, ◌<◌, ◌≢◌, Bool, true, false, ◌||◌, ◌==◌, List, [], ◌∷◌, ◌++◌, flat_map, take, length, get_or, set, refl, ap, sym, subst, ◌∙◌, arith, append_assoc, append-nil, length-set, get_or-set_other, get_or-set_same}
use Rattle.std.proofs.lemmas.List.{get_or_default}
use Rattle.std.proofs.lemmas.List.Folds.{list_any-append}
use Rattle.std.proofs.lemmas.Bool.{eq-eqb, eqb-true}
use Rattle.package_form.specs.Reached.{is_among}
use Rattle.package_form.specs.Marks.{AreMarked}
use Rattle.package_form.proofs.AllAndContains.{flat_map-append, flat_map-one}
use Rattle.package_form.proofs.NamesMetOneByOne.{take-more}

pub or-false : (b : Bool) → (b || false) ≡ b
or-false true = refl
or-false false = refl

pub or-true : (b : Bool) → (b || true) ≡ true
or-true true = refl
or-true false = refl

pub one-marked : (n p : ℕ) (places : List ℕ) (marks new : List Bool) → new ≡ set marks p true → AreMarked n places marks → AreMarked n (places ++ p ∷ []) new
one-marked n p places marks new is m = record {
  counted = ap length is ∙ length-set marks p true ∙ m.counted;
  each = λ k l. ap (λ (bs : List Bool). get_or bs k false) is ∙ by k l (p == k) refl ∙ sym (list_any-append (λ q. q == k) places (p ∷ []));
}
  where
    by : (k : ℕ) → k < n → (b : Bool) → (p == k) ≡ b → get_or (set marks p true) k false ≡ (is_among places k || (b || false))
    by k l true e =
        let same : p ≡ k = eqb-true p k e in
        let here : p < length marks = omega (arith, l, same, m.counted) in
        ap (λ (j : ℕ). get_or (set marks p true) j false) (sym same) ∙ get_or-set_same marks p true false here ∙ sym (or-true (is_among places k))
    by k l false e =
        let other : k ≢ p = λ s. absurd (let q : (p == k) ≡ true = eq-eqb p k (sym s) in cc) in
        get_or-set_other marks p k true false other ∙ m.each k l ∙ sym (or-false (is_among places k))

pub none-marked : (n : ℕ) (places : List ℕ) (marks : List Bool) → AreMarked n places marks → AreMarked n (places ++ []) marks
none-marked n places marks m = subst (λ (ps : List ℕ). AreMarked n ps marks) (sym (append-nil places)) m

-- what one more of these reaches is marked
module _ {A : Type 0} (f : A → List ℕ) (xs : List A) (k : ℕ) (x : A) (l : k < length xs) (is : x ≡ get_or xs k x) where
  more : (places : List ℕ) → (places ++ flat_map f (take k xs)) ++ f x ≡ places ++ flat_map f (take (k + 1) xs)
  more places =
      append_assoc places (flat_map f (take k xs)) (f x)
      ∙ ap (λ (ps : List ℕ). places ++ ps) (sym (ap (flat_map f) (take-more xs k x l is) ∙ flat_map-append f (take k xs) (x ∷ []) ∙ ap (λ (ps : List ℕ). flat_map f (take k xs) ++ ps) (flat_map-one f x)))

  pub marked-more : (n : ℕ) (places : List ℕ) (new : List Bool) → AreMarked n ((places ++ flat_map f (take k xs)) ++ f x) new → AreMarked n (places ++ flat_map f (take (k + 1) xs)) new
  marked-more n places new m = subst (λ (ps : List ℕ). AreMarked n ps new) (more places) m

  pub marked-one : (n p : ℕ) (places : List ℕ) (marks new : List Bool) → f x ≡ p ∷ [] → new ≡ set marks p true → AreMarked n (places ++ flat_map f (take k xs)) marks
      → AreMarked n (places ++ flat_map f (take (k + 1) xs)) new
  marked-one n p places marks new one set_ m =
      marked-more n places new (subst (λ (ps : List ℕ). AreMarked n ((places ++ flat_map f (take k xs)) ++ ps) new) (sym one) (one-marked n p (places ++ flat_map f (take k xs)) marks new set_ m))

  pub marked-none : (n : ℕ) (places : List ℕ) (marks : List Bool) → f x ≡ [] → AreMarked n (places ++ flat_map f (take k xs)) marks
      → AreMarked n (places ++ flat_map f (take (k + 1) xs)) marks
  marked-none n places marks none m =
      marked-more n places marks (subst (λ (ps : List ℕ). AreMarked n ((places ++ flat_map f (take k xs)) ++ ps) marks) (sym none) (none-marked n (places ++ flat_map f (take k xs)) marks m))

-- .. told of the element at a place
module _ {A : Type 0} (f : A → List ℕ) (xs : List A) (k : ℕ) (d : A) (l : k < length xs) where
  is-there : get_or xs k d ≡ get_or xs k (get_or xs k d)
  is-there = get_or_default xs k d (get_or xs k d) l

  pub marked-one-at : (n p : ℕ) (places : List ℕ) (marks new : List Bool) → f (get_or xs k d) ≡ p ∷ [] → new ≡ set marks p true → AreMarked n (places ++ flat_map f (take k xs)) marks
      → AreMarked n (places ++ flat_map f (take (k + 1) xs)) new
  marked-one-at = marked-one f xs k (get_or xs k d) l is-there

  pub marked-none-at : (n : ℕ) (places : List ℕ) (marks : List Bool) → f (get_or xs k d) ≡ [] → AreMarked n (places ++ flat_map f (take k xs)) marks
      → AreMarked n (places ++ flat_map f (take (k + 1) xs)) marks
  marked-none-at = marked-none f xs k (get_or xs k d) l is-there
