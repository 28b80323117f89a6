-- What stands in an order in which each uses earlier ones alone is its own placement.
use Rattle.std.proofs.Common.{◌≡◌, ◌≤◌, ◌<◌, ◌+◌, ℕ, zero, suc, List, [], ◌∷◌, ◌++◌, length, map, flat_map, take, get_or, refl, sym, ap, subst, ◌∙◌, arith}
use Rattle.std.specs.Prelude.{Bool, true, false, not, ◌||◌, ◌&&◌, ◌==◌, nat_lt}
use Rattle.std.specs.List.{list_any, list_all}
use Rattle.std.proofs.lemmas.Bool.{and_parts, ltb-true, ltb-false, eq-eqb, ne_eqb}
use Rattle.std.proofs.lemmas.List.Folds.{list_any-append}
use Rattle.std.proofs.Math.Seq.{take-suc}
use Rattle.std.proofs.lemmas.List.{take_all}
use Rattle.placement.specs.Order.{has_placed, IsNext, IsPlacement}
use Rattle.tree_meaning.specs.Declarations.{InterfaceTree, interface_at}
use Rattle.tree_meaning.specs.Resolves.{interface_uses, type_uses}

-- each uses earlier ones alone
abbrev pub UsesEarlier : List (List ℕ) → Type 0
UsesEarlier uses = (k : ℕ) → k < length uses → list_all (λ u. nat_lt u k) (get_or uses k []) ≡ true

-- each interface uses earlier ones alone, and in each its types name earlier ones alone
pub record NamesEarlier (is : List InterfaceTree) : Type 0 where
  pub interfaces : UsesEarlier (interface_uses is)
  pub types : (k : ℕ) → k < length is → UsesEarlier (type_uses (interface_at is k))

-- n numbers, from a on
abbrev pub numbers : ℕ → ℕ → List ℕ
numbers a zero = []
numbers a (suc n) = a ∷ numbers (suc a) n

abbrev pub places_of : ℕ → List ℕ
places_of n = numbers 0 n

pub numbers-length : (a n : ℕ) → length (numbers a n) ≡ n
numbers-length a zero = refl
numbers-length a (suc n) = ap suc (numbers-length (suc a) n)

pub numbers-at : (a n k : ℕ) → k < n → get_or (numbers a n) k 0 ≡ a + k
numbers-at a zero k l = absurd (omega (arith, l))
numbers-at a (suc n) zero l = omega arith
numbers-at a (suc n) (suc k) l = numbers-at (suc a) n k (omega (arith, l)) ∙ omega arith

map-shift : {B : Type 0} (f : ℕ → B) (a n : ℕ) → map f (numbers (suc a) n) ≡ map (λ k. f (suc k)) (numbers a n)
map-shift f a zero = refl
map-shift f a (suc n) = ap (λ xs. f (suc a) ∷ xs) (map-shift f (suc a) n)

-- what is at each place, from the first to the last
pub map-places : {A B : Type 0} (f : A → B) (d : A) (xs : List A) → map (λ k. f (get_or xs k d)) (places_of (length xs)) ≡ map f xs
map-places f d [] = refl
map-places f d (x ∷ xs) = ap (λ ys. f x ∷ ys) (map-shift (λ k. f (get_or (x ∷ xs) k d)) 0 (length xs) ∙ map-places f d xs)

flat-shift : {B : Type 0} (f : ℕ → List B) (a n : ℕ) → flat_map f (numbers (suc a) n) ≡ flat_map (λ k. f (suc k)) (numbers a n)
flat-shift f a zero = refl
flat-shift f a (suc n) = ap (λ xs. f (suc a) ++ xs) (flat-shift f (suc a) n)

pub flat-places : {A B : Type 0} (f : A → List B) (d : A) (xs : List A) → flat_map (λ k. f (get_or xs k d)) (places_of (length xs)) ≡ flat_map f xs
flat-places f d [] = refl
flat-places f d (x ∷ xs) = ap (λ ys. f x ++ ys) (flat-shift (λ k. f (get_or (x ∷ xs) k d)) 0 (length xs) ∙ flat-places f d xs)

last-true : (a b : Bool) → b ≡ true → (a || (b || false)) ≡ true
last-true true b h = refl
last-true false b h = ap (λ x. x || false) h

earlier-or-here : (b : Bool) (k i : ℕ) → i < suc k → (i < k → b ≡ true) → (b || (k == i || false)) ≡ true
earlier-or-here b k i m h = by (nat_lt i k) refl
  where
    by : (c : Bool) → nat_lt i k ≡ c → (b || (k == i || false)) ≡ true
    by true e = ap (λ x. x || (k == i || false)) (h (ltb-true i k e))
    by false e = last-true b (k == i) (let g = ltb-false i k e in eq-eqb k i (omega (arith, m, g)))

module _ (n : ℕ) where
  one-more : (k i : ℕ) → k < n → has_placed (take (suc k) (places_of n)) i ≡ (has_placed (take k (places_of n)) i || (k == i || false))
  one-more k i l =
      let long : length (places_of n) ≡ n = numbers-length 0 n in
      let at : get_or (places_of n) k 0 ≡ k = numbers-at 0 n k l ∙ omega arith in
      ap (λ xs. list_any (λ o. o == i) xs) (take-suc (places_of n) k 0 (omega (arith, l, long)))
      ∙ (list_any-append (λ o. o == i) (take k (places_of n)) (get_or (places_of n) k 0 ∷ []) ∙ ap (λ y. has_placed (take k (places_of n)) i || (y == i || false)) at)

  pub is-before : (k i : ℕ) → k ≤ n → i < k → has_placed (take k (places_of n)) i ≡ true
  is-before zero i l m = absurd (omega (arith, m))
  is-before (suc k) i l m = one-more k i (omega (arith, l)) ∙ earlier-or-here (has_placed (take k (places_of n)) i) k i m (λ h. is-before k i (omega (arith, l)) h)

  pub not-before : (k i : ℕ) → k ≤ n → k ≤ i → has_placed (take k (places_of n)) i ≡ false
  not-before zero i l m = refl
  not-before (suc k) i l m =
      one-more k i (omega (arith, l)) ∙ (ap (λ b. b || (k == i || false)) (not-before k i (omega (arith, l)) (omega (arith, m))) ∙ ap (λ b. b || false) (ne_eqb k i (λ e. absurd (omega (arith, m, e)))))

  each-before : (k : ℕ) (us : List ℕ) → k ≤ n → list_all (λ u. nat_lt u k) us ≡ true → list_all (has_placed (take k (places_of n))) us ≡ true
  each-before k [] l h = refl
  each-before k (u ∷ us) l h =
      let t = and_parts (nat_lt u k) (list_all (λ u. nat_lt u k) us) h in
      ap (λ b. b && list_all (has_placed (take k (places_of n))) us) (is-before k u l (ltb-true u k t.0)) ∙ each-before k us l t.1

pub own-placement : (uses : List (List ℕ)) → UsesEarlier uses → IsPlacement uses (places_of (length uses))
own-placement uses earlier = record {
  next = λ k l. next k (omega (arith, l, numbers-length 0 (length uses)));
  complete = λ i l. ap (λ xs. has_placed xs i) (sym (take_all (length uses) (places_of (length uses)) (omega (arith, numbers-length 0 (length uses))))) ∙ is-before (length uses) (length uses) i (omega arith) l;
}
  where
    n : ℕ
    n = length uses

    at-place : (k : ℕ) → k < length uses → IsNext uses (has_placed (take k (places_of (length uses)))) k
    at-place k l = record {
      in_range = l;
      ready = ap (λ b. not b && list_all (has_placed (take k (places_of (length uses)))) (get_or uses k [])) (not-before (length uses) k k (omega (arith, l)) (omega arith))
          ∙ each-before (length uses) k (get_or uses k []) (omega (arith, l)) (earlier k l);
      first = λ j m. ap (λ b. not b && list_all (has_placed (take k (places_of (length uses)))) (get_or uses j [])) (is-before (length uses) k j (omega (arith, l)) m);
    }

    next : (k : ℕ) → k < length uses → IsNext uses (has_placed (take k (places_of (length uses)))) (get_or (places_of (length uses)) k 0)
    next k l = subst (IsNext uses (has_placed (take k (places_of (length uses))))) (sym (numbers-at 0 (length uses) k l ∙ omega arith)) (at-place k l)
