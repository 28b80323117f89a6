-- Keys that stand for texts, in the order of these.
use Rattle.std.proofs.Common.{◌≡◌, ℕ, Bool, List, [], ◌∷◌, map, refl, ap}
use Rattle.std.specs.Prelude.{◌||◌, not}
use Rattle.std.specs.declared.cmp.Ordering.TheVariants.{Less, Equal, Greater}
use Rattle.std.specs.Ordering.{is_eq, nat_cmp, match_ordering}
use Rattle.std.specs.Cmp.Lexicographic.{slice_cmp}
use Rattle.std.specs.List.{list_any}
use Rattle.std.specs.BTreeSet.{insert_key}
use Rattle.component_structure.specs.Names.{lower, has_name, with_name}

module _ {K : Type 0} (text_of : K → List ℕ) where
  any_of : (f : List ℕ → Bool) (keys : List K) → list_any (λ x. f (text_of x)) keys ≡ list_any f (map text_of keys)
  any_of f [] = refl
  any_of f (x ∷ xs) = ap (λ (b : Bool). f (text_of x) || b) (any_of f xs)

  put_in : (keys : List K) (k : K) → map text_of (insert_key (λ x y. slice_cmp nat_cmp (text_of x) (text_of y)) keys k) ≡ insert_key (slice_cmp nat_cmp) (map text_of keys) (text_of k)
  put_in [] k = refl
  put_in (x ∷ xs) k =
      elim (slice_cmp nat_cmp (text_of k) (text_of x)) as (λ o. map text_of (match_ordering o (k ∷ x ∷ xs) (x ∷ xs) (x ∷ insert_key (λ x y. slice_cmp nat_cmp (text_of x) (text_of y)) xs k))
      ≡ match_ordering o (text_of k ∷ text_of x ∷ map text_of xs) (text_of x ∷ map text_of xs) (text_of x ∷ insert_key (slice_cmp nat_cmp) (map text_of xs) (text_of k))) [
        | Less ↦ refl
        | Equal ↦ refl
        | Greater ↦ ap (λ (ts : List (List ℕ)). text_of x ∷ ts) (put_in xs k)
      ]

  pub is_new : (old : List K) (k : K) (names : List (List ℕ)) (text : List ℕ) (new : Bool) → new ≡ not (list_any (λ x. is_eq (slice_cmp nat_cmp (text_of k) (text_of x))) old) → map text_of old ≡ names → text_of k ≡ lower text → new ≡ not (has_name names text)
  is_new old k names text new added seen spelt = rw (added, any_of (λ name. is_eq (slice_cmp nat_cmp (text_of k) name)) old, seen, spelt) refl

  pub are_with : (old new : List K) (k : K) (names : List (List ℕ)) (text : List ℕ) → new ≡ insert_key (λ x y. slice_cmp nat_cmp (text_of x) (text_of y)) old k → map text_of old ≡ names → text_of k ≡ lower text → map text_of new ≡ with_name names text
  are_with old new k names text put seen spelt = rw (put, put_in old k, seen, spelt) refl
