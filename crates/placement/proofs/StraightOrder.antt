-- Where nothing looks forward, the order of the source is a placement.
use Rattle.std.proofs.Common.{◌≡◌, ℕ, zero, suc, ◌+◌, ◌<◌, ◌≤◌, true, false, ◌||◌, ◌==◌, nat_lt, List, [], ◌∷◌, ◌++◌, length, take, get_or, refl, sym, ◌∙◌, arith, inl, inr}
use Rattle.std.specs.List.{list_all}
use Rattle.std.proofs.lemmas.List.{length-append, get_or_append_left, get_or_at, take-append-le, take_all}
use Rattle.std.proofs.lemmas.List.Folds.{list_any-append}
use Rattle.std.proofs.lemmas.Bool.{cases_lt, and_parts}
use Rattle.std.proofs.lemmas.Bool.Decides.{nat_tests}
use Rattle.placement.specs.Order.{has_placed, IsNext, IsPlacement}
use Rattle.placement.specs.Straight.{looks_back, upto}

pub length-upto : (n : ℕ) → length (upto n) ≡ n
length-upto zero = refl
length-upto (suc n) = omega (arith, length-append (upto n) (n ∷ []), length-upto n)

at-upto : (n k : ℕ) → k < n → get_or (upto n) k 0 ≡ k
at-upto zero k h = absurd (omega arith)
at-upto (suc n) k h = elim (cases_lt k n) [
  | inl l ↦ get_or_append_left (upto n) (n ∷ []) 0 k (omega (arith, length-upto n)) ∙ at-upto n k l
  | inr g ↦ let e : n ≡ k = omega arith in get_or_at (upto n) n [] 0 k (length-upto n ∙ e) ∙ e
]

take-upto : (n k : ℕ) → k ≤ n → take k (upto n) ≡ upto k
take-upto zero zero h = refl
take-upto zero (suc k) h = absurd (omega arith)
take-upto (suc n) k h = elim (cases_lt n k) [
  | inl l ↦ let e : k ≡ suc n = omega arith in rw e (take_all (suc n) (upto (suc n)) (omega (arith, length-upto (suc n))))
  | inr g ↦ take-append-le k (upto n) (n ∷ []) (omega (arith, length-upto n)) ∙ take-upto n k (omega arith)
]

one : (n i : ℕ) → has_placed (upto (suc n)) i ≡ (has_placed (upto n) i || ((n == i) || false))
one n i = list_any-append (λ o. o == i) (upto n) (n ∷ [])

placed : (n i : ℕ) → has_placed (upto n) i ≡ nat_lt i n
placed zero i = grind (arith, nat_tests)
placed (suc n) i = one n i ∙ rw (placed n i) (more i n)
  where
    more : (i n : ℕ) → (nat_lt i n || ((n == i) || false)) ≡ nat_lt i (suc n)
    more i n = grind (arith, nat_tests)

all-placed : (n : ℕ) (used : List ℕ) → list_all (λ u. nat_lt u n) used ≡ true → list_all (has_placed (upto n)) used ≡ true
all-placed n [] h = refl
all-placed n (u ∷ us) h =
    let both = and_parts (nat_lt u n) (list_all (λ x. nat_lt x n) us) h in
    rw (placed n u, both.0, all-placed n us both.1) refl

used-before : (n k : ℕ) (uses : List (List ℕ)) → looks_back n uses ≡ true → k < length uses → list_all (λ u. nat_lt u (n + k)) (get_or uses k []) ≡ true
used-before n k [] h l = absurd (omega arith)
used-before n zero (used ∷ uses) h l = let e : n + 0 ≡ n = omega arith in rw e (and_parts (list_all (λ u. nat_lt u n) used) (looks_back (n + 1) uses) h).0
used-before n (suc k) (used ∷ uses) h l =
    let e : n + suc k ≡ (n + 1) + k = omega arith in
    rw e (used-before (n + 1) k uses (and_parts (list_all (λ u. nat_lt u n) used) (looks_back (n + 1) uses) h).1 (omega arith))

here : (uses : List (List ℕ)) (k : ℕ) → looks_back 0 uses ≡ true → k < length uses → IsNext uses (has_placed (upto k)) k
here uses k h l = record {
  in_range = l;
  ready =
      let free : nat_lt k k ≡ false = grind (arith, nat_tests) in
      let same : 0 + k ≡ k = omega arith in
      let used : list_all (λ u. nat_lt u k) (get_or uses k []) ≡ true = rw same at (used-before 0 k uses h l) in
      rw (placed k k, free, all-placed k (get_or uses k []) used) refl;
  first = λ j less. let there : nat_lt j k ≡ true = grind (arith, nat_tests) in rw (placed k j, there) refl;
}

pub straight : (uses : List (List ℕ)) → true ≡ looks_back 0 uses → IsPlacement uses (upto (length uses))
straight uses h = record {
  next = λ k l.
      let m : k < length uses = omega (arith, length-upto (length uses)) in
      rw (take-upto (length uses) k (omega arith), at-upto (length uses) k m) (here uses k (sym h) m);
  complete = λ i l. placed (length uses) i ∙ (let there : nat_lt i (length uses) ≡ true = grind (arith, nat_tests) in there);
}
