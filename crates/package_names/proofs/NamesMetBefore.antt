-- A name was met before exactly where the set of met names has it, or it is one of the few before that set.
use Rattle.std.proofs.Common.{◌≡◌, ℕ, zero, suc, Bool, true, false, not, ◌||◌, List, [], ◌∷◌, ◌++◌, map, Contains, ap, sym, ◌∙◌, refl, subst, true≢false, arith, Bor, Result, Ok, Err, IfOk, inl, inr}
use Rattle.std.specs.List.{list_any}
use Rattle.std.specs.Str.{bytes_eq}
use Rattle.std.proofs.lemmas.Slice.Eq.{bytes_eq-Decides}
use Rattle.std.proofs.lemmas.Map.Views.{Contains-from_any, list_any-from_Contains}
use Rattle.std.specs.Cmp.Lexicographic.{on_texts_equal}
use Rattle.package_form.proofs.AllAndContains.{contains-left, contains-right, contains-either}

module _ {V : Type 0} (items : V → List ℕ) where
  any-map : (low : List ℕ) (keys : List V) → list_any (bytes_eq low) (map items keys) ≡ list_any (λ k. bytes_eq low (items k)) keys
  any-map low [] = refl
  any-map low (k ∷ keys) = ap (λ b. bytes_eq low (items k) || b) (any-map low keys)

  pub is-met : (low : List ℕ) (keys : List V) → list_any (λ k. bytes_eq low (items k)) keys ≡ true → Contains (map items keys) low
  is-met low keys h = Contains-from_any (λ x y. (bytes_eq-Decides x y).0) low (map items keys) (any-map low keys ∙ h)

  pub is-new : (low : List ℕ) (keys : List V) → list_any (λ k. bytes_eq low (items k)) keys ≡ false → ¬ Contains (map items keys) low
  is-new low keys h within =
      true≢false (sym (list_any-from_Contains (on_texts_equal (λ x. x)) low (map items keys) within) ∙ any-map low keys ∙ h)

  -- by the answer of a set's insertion
  pub new-where : (low : List ℕ) (keys : List V) (names : List (List ℕ)) (added : Bool) → added ≡ not (list_any (λ k. bytes_eq low (items k)) keys) → map items keys ≡ names
      → added ≡ true → ¬ Contains names low
  new-where low keys names added e same h within = is-new low keys (by (list_any (λ k. bytes_eq low (items k)) keys) (sym e ∙ h)) (subst (λ (ns : List (List ℕ)). Contains ns low) (sym same) within)
    where
      by : (b : Bool) → not b ≡ true → b ≡ false
      by true q = sym q
      by false q = refl

  pub met-where : (low : List ℕ) (keys : List V) (names : List (List ℕ)) (added : Bool) → added ≡ not (list_any (λ k. bytes_eq low (items k)) keys) → map items keys ≡ names
      → added ≡ false → Contains names low
  met-where low keys names added e same h = subst (λ (ns : List (List ℕ)). Contains ns low) same (is-met low keys (by (list_any (λ k. bytes_eq low (items k)) keys) (sym e ∙ h)))
    where
      by : (b : Bool) → not b ≡ false → b ≡ true
      by true q = refl
      by false q = sym q

-- ---- the few names before a table

pub none-met : (low : List ℕ) → ¬ Contains [] low
none-met low h = absurd (omega (arith, h.1))

pub is-other : (n low : List ℕ) → (n ≡ low → ⊥) → ¬ Contains (n ∷ []) low
is-other n low other (zero, l, e) = other e
is-other n low other (suc k, l, e) = absurd (omega (arith, l))

pub in-neither : (xs ys : List (List ℕ)) (low : List ℕ) → ¬ Contains xs low → ¬ Contains ys low → ¬ Contains (xs ++ ys) low
in-neither xs ys low a b h = elim (contains-either xs ys low h) [
  | inl c ↦ a c
  | inr c ↦ b c
]

module _ (front many names : List (List ℕ)) (view : front ++ many ≡ names) (low : List ℕ) where
  pub met-in-front : Contains front low → Contains names low
  met-in-front h = subst (λ (ns : List (List ℕ)). Contains ns low) view (contains-left front many low h)

  pub met-in-many : Contains many low → Contains names low
  met-in-many h = subst (λ (ns : List (List ℕ)). Contains ns low) view (contains-right front many low h)

  pub new-in-both : ¬ Contains front low → ¬ Contains many low → ¬ Contains names low
  new-in-both a b = subst (λ (ns : List (List ℕ)). ¬ Contains ns low) view (in-neither front many low a b)

-- ---- what a call answers

abbrev pub lent : Bor (List ℕ) → List ℕ
lent b = b.now

pub kept : {T E : Type 0} (r : Result T E) (P Q : T → Type 0) → ((x : T) → P x → Q x) → IfOk r P → IfOk r Q
kept (Ok x) P Q f h = f x h
kept (Err e) P Q f h = tt
