-- Worked examples: in which order definitions are placed, and which of them use each other.
use Rattle.std.proofs.lemmas.Bool.Decides.{nat_tests}
use Rattle.std.proofs.Common.{take, length, nat_lt, not, ◌&&◌, ◌⊎◌, inl, inr, slice_index_or, ◌≡◌, ◌<◌, ℕ, zero, suc, Bool, true, false, List, [], ◌∷◌, Contains, refl, sym, subst, arith, true≢false}
use Rattle.tables.proofs.ClosedTypesRowByRow.{split}
use Rattle.placement.specs.Order.{has_placed, is_ready, IsNext, IsPlacement, IsCycle}

-- the first uses the second
abbrev first_uses : List (List ℕ)
first_uses = (1 ∷ []) ∷ [] ∷ [] ∷ []

-- the second is ready, then the first, before the third
abbrev placed_order : List ℕ
placed_order = 1 ∷ 0 ∷ 2 ∷ []

ready-one : (is_ready first_uses (has_placed []) 0 ≡ false) × (is_ready first_uses (has_placed []) 1 ≡ true) × (is_ready first_uses (has_placed (1 ∷ [])) 1 ≡ false) × (is_ready first_uses (has_placed (1 ∷ [])) 0 ≡ true)
ready-one = (refl, refl, refl, refl)

next-first : IsNext first_uses (has_placed []) 1
next-first = record { in_range = omega arith; ready = refl; first = first }
  where
    first : (j : ℕ) → j < 1 → is_ready first_uses (has_placed []) j ≡ false
    first zero l = refl
    first (suc j) l = absurd (omega arith)

next-second : IsNext first_uses (has_placed (1 ∷ [])) 0
next-second = record { in_range = omega arith; ready = refl; first = λ j l. absurd (omega arith) }

next-third : IsNext first_uses (has_placed (1 ∷ 0 ∷ [])) 2
next-third = record { in_range = omega arith; ready = refl; first = first }
  where
    first : (j : ℕ) → j < 2 → is_ready first_uses (has_placed (1 ∷ 0 ∷ [])) j ≡ false
    first zero l = refl
    first (suc zero) l = refl
    first (suc (suc j)) l = absurd (omega arith)

in-order : IsPlacement first_uses placed_order
in-order = record { next = next; complete = complete }
  where
    next : (k : ℕ) → k < 3 → IsNext first_uses (has_placed (take k placed_order)) (slice_index_or placed_order k 0)
    next zero l = next-first
    next (suc zero) l = next-second
    next (suc (suc zero)) l = next-third
    next (suc (suc (suc k))) l = absurd (omega arith)

    complete : (i : ℕ) → i < 3 → has_placed placed_order i ≡ true
    complete zero l = refl
    complete (suc zero) l = refl
    complete (suc (suc zero)) l = refl
    complete (suc (suc (suc i))) l = absurd (omega arith)

-- the third is not placed before the first, which stands before it in the source
not-in-order : IsPlacement first_uses (1 ∷ 2 ∷ 0 ∷ []) → ⊥
not-in-order p = true≢false ((p.next 1 (omega arith)).first 0 (omega arith))

-- a definition is not placed before what it uses, twice, or not at all
not-before-its-use : IsPlacement first_uses (0 ∷ 1 ∷ 2 ∷ []) → ⊥
not-before-its-use p = true≢false (sym ((p.next 0 (omega arith)).ready))

not-twice : IsPlacement first_uses (1 ∷ 0 ∷ 2 ∷ 1 ∷ []) → ⊥
not-twice p = true≢false (sym ((p.next 3 (omega arith)).ready))

not-left-out : IsPlacement first_uses (1 ∷ 0 ∷ []) → ⊥
not-left-out p = true≢false (sym (p.complete 2 (omega arith)))

not-another : IsPlacement first_uses (1 ∷ 0 ∷ 2 ∷ 3 ∷ []) → ⊥
not-another p = let l : 3 < 3 = (p.next 3 (omega arith)).in_range in omega (arith, l)

-- ---- cycles

-- the first and the third use each other, and the second uses the first
abbrev crossed : List (List ℕ)
crossed = (2 ∷ []) ∷ (0 ∷ []) ∷ (0 ∷ []) ∷ []

abbrev first_and_third : ℕ → Bool
first_and_third zero = true
first_and_third (suc zero) = false
first_and_third (suc (suc i)) = true

cycle : IsCycle crossed first_and_third
cycle = record { some = (0, omega arith, refl); closed = closed }
  where
    closed : (i : ℕ) → i < 3 → first_and_third i ≡ true → (u : ℕ) × Contains (slice_index_or crossed i []) u × (u < 3) × (first_and_third u ≡ true)
    closed zero l g = (2, (0, omega arith, refl), omega arith, refl)
    closed (suc zero) l g = absurd (true≢false (sym g))
    closed (suc (suc zero)) l g = (0, (0, omega arith, refl), omega arith, refl)
    closed (suc (suc (suc i))) l g = absurd (omega arith)

-- one that uses itself
alone : IsCycle ((0 ∷ []) ∷ []) (λ i. true)
alone = record { some = (0, omega arith, refl); closed = closed }
  where
    closed : (i : ℕ) → i < 1 → true ≡ true → (u : ℕ) × Contains (slice_index_or ((0 ∷ []) ∷ []) i []) u × (u < 1) × (true ≡ true)
    closed zero l g = (0, (0, omega arith, refl), omega arith, refl)
    closed (suc i) l g = absurd (omega arith)

-- no group is none, and the second of the first ones uses nothing
not-empty : IsCycle crossed (λ i. false) → ⊥
not-empty c = let e : false ≡ true = c.some.2 in true≢false (sym e)

uses-nothing : (group : ℕ → Bool) → IsCycle ((1 ∷ []) ∷ [] ∷ []) group → group 1 ≡ true → ⊥
uses-nothing group c g = let l : (c.closed 1 (omega arith) g).1.0 < 0 = (c.closed 1 (omega arith) g).1.1 in omega (arith, l)

pub no-cycle : (group : ℕ → Bool) → IsCycle ((1 ∷ []) ∷ [] ∷ []) group → ⊥
no-cycle group c = of_some c.some
  where
    of_used : (u : ℕ) → Contains (1 ∷ []) u → group u ≡ true → ⊥
    of_used u (zero, l, e) g = uses-nothing group c (subst (λ n. group n ≡ true) (sym e) g)
    of_used u (suc k, l, e) g = omega arith

    of_some : (i : ℕ) × (i < 2) × (group i ≡ true) → ⊥
    of_some (zero, l, g) = let u = c.closed 0 (omega arith) g in of_used u.0 u.1 u.3
    of_some (suc zero, l, g) = uses-nothing group c g
    of_some (suc (suc i), l, g) = omega arith

-- ---- a test of orders, by which those of larger lists are shown

abbrev pub none_ready : List (List ℕ) → (ℕ → Bool) → ℕ → Bool
none_ready uses placed zero = true
none_ready uses placed (suc j) = not (is_ready uses placed j) && none_ready uses placed j

abbrev pub is_first : List (List ℕ) → (ℕ → Bool) → ℕ → Bool
is_first uses placed i = nat_lt i (length uses) && (is_ready uses placed i && none_ready uses placed i)

-- the first n of the order
abbrev pub are_first : List (List ℕ) → List ℕ → ℕ → Bool
are_first uses order zero = true
are_first uses order (suc n) = is_first uses (has_placed (take n order)) (slice_index_or order n 0) && are_first uses order n

abbrev pub are_placed : List ℕ → ℕ → Bool
are_placed order zero = true
are_placed order (suc n) = has_placed order n && are_placed order n

abbrev pub is_placement : List (List ℕ) → List ℕ → Bool
is_placement uses order = are_first uses order (length order) && are_placed order (length uses)

pub below_or_at : (k n : ℕ) → k < suc n → (k < n) ⊎ (k ≡ n)
below_or_at k n l = elim (nat_lt k n) as (λ b. nat_lt k n ≡ b → (k < n) ⊎ (k ≡ n)) [
  | true ↦ λ e. inl (grind (arith, nat_tests))
  | false ↦ λ e. inr (grind (arith, nat_tests))
] refl

not-ready : (uses : List (List ℕ)) (placed : ℕ → Bool) (i : ℕ) → none_ready uses placed i ≡ true → (j : ℕ) → j < i → is_ready uses placed j ≡ false
not-ready uses placed zero h j l = absurd (omega arith)
not-ready uses placed (suc i) h j l =
    let s = split (not (is_ready uses placed i)) (none_ready uses placed i) h in
    elim (below_or_at j i l) [
      | inl less ↦ not-ready uses placed i s.1 j less
      | inr is ↦ rw is (is-false (is_ready uses placed i) s.0)
    ]
  where
    is-false : (b : Bool) → not b ≡ true → b ≡ false
    is-false true e = sym e
    is-false false e = refl

first-is-next : (uses : List (List ℕ)) (placed : ℕ → Bool) (i : ℕ) → is_first uses placed i ≡ true → IsNext uses placed i
first-is-next uses placed i h =
    let s = split (nat_lt i (length uses)) (is_ready uses placed i && none_ready uses placed i) h in
    let t = split (is_ready uses placed i) (none_ready uses placed i) s.1 in
    let less : nat_lt i (length uses) ≡ true = s.0 in
    record { in_range = grind (arith, nat_tests); ready = t.0; first = not-ready uses placed i t.1 }

first-each : (uses : List (List ℕ)) (order : List ℕ) (n : ℕ) → are_first uses order n ≡ true → (k : ℕ) → k < n → IsNext uses (has_placed (take k order)) (slice_index_or order k 0)
first-each uses order zero h k l = absurd (omega arith)
first-each uses order (suc n) h k l =
    let s = split (is_first uses (has_placed (take n order)) (slice_index_or order n 0)) (are_first uses order n) h in
    elim (below_or_at k n l) [
      | inl less ↦ first-each uses order n s.1 k less
      | inr is ↦ subst (λ m. IsNext uses (has_placed (take m order)) (slice_index_or order m 0)) (sym is) (first-is-next uses (has_placed (take n order)) (slice_index_or order n 0) s.0)
    ]

placed-each : (order : List ℕ) (n : ℕ) → are_placed order n ≡ true → (i : ℕ) → i < n → has_placed order i ≡ true
placed-each order zero h i l = absurd (omega arith)
placed-each order (suc n) h i l =
    let s = split (has_placed order n) (are_placed order n) h in
    elim (below_or_at i n l) [
      | inl less ↦ placed-each order n s.1 i less
      | inr is ↦ subst (λ m. has_placed order m ≡ true) (sym is) s.0
    ]

pub placement-by-test : (uses : List (List ℕ)) (order : List ℕ) → is_placement uses order ≡ true → IsPlacement uses order
placement-by-test uses order h =
    let s = split (are_first uses order (length order)) (are_placed order (length uses)) h in
    record { next = first-each uses order (length order) s.0; complete = placed-each order (length uses) s.1 }

by-test : IsPlacement ((3 ∷ []) ∷ (0 ∷ []) ∷ [] ∷ [] ∷ []) (2 ∷ 3 ∷ 0 ∷ 1 ∷ [])
by-test = placement-by-test ((3 ∷ []) ∷ (0 ∷ []) ∷ [] ∷ [] ∷ []) (2 ∷ 3 ∷ 0 ∷ 1 ∷ []) refl
