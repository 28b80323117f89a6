-- What the placing of definitions keeps.
use Rattle.std.proofs.Common.{◌≡◌, ◌≢◌, ℕ, zero, suc, ◌-◌, ◌<◌, Bool, true, false, not, ◌&&◌, ◌||◌, ◌==◌, cond, List, [], ◌∷◌, ◌++◌, length, take, get_or, set, replicate, count_by, refl, sym, ◌∙◌, arith, inl, inr, Contains, All}
use Rattle.std.specs.List.{list_all}
use Rattle.std.proofs.lemmas.List.{length-append, length-set, get_or_append_left, take-append-le, take_at, get_or_at, get_or-set_same, get_or-set_other, length-replicate}
use Rattle.std.proofs.lemmas.List.Folds.{list_any-append, sum_by-replicate}
use Rattle.std.proofs.lemmas.List.Sums.{sum_by-set, sum_by-cons}
use Rattle.std.proofs.lemmas.Bool.{cases_eq, cases_lt}
use Rattle.std.proofs.lemmas.Bool.Decides.{nat_tests}
use Rattle.placement.specs.Order.{has_placed, is_ready, IsNext, IsPlacement, IsCycle}

pub record PlacedSoFar (uses : List (List ℕ)) (placed : List Bool) (order : List ℕ) (left : ℕ) : Type 0 where
  pub len : length placed ≡ length uses
  pub left_is : left ≡ count_by not placed
  pub agrees : (i : ℕ) → get_or placed i false ≡ has_placed order i
  pub next : (k : ℕ) → k < length order → IsNext uses (has_placed (take k order)) (get_or order k 0)

list_all-same : (p q : ℕ → Bool) → ((i : ℕ) → p i ≡ q i) → (xs : List ℕ) → list_all p xs ≡ list_all q xs
list_all-same p q h [] = refl
list_all-same p q h (x ∷ xs) = rw (h x, list_all-same p q h xs) refl

is_ready-same : (uses : List (List ℕ)) (p q : ℕ → Bool) → ((i : ℕ) → p i ≡ q i) → (i : ℕ) → is_ready uses p i ≡ is_ready uses q i
is_ready-same uses p q h i = rw (h i, list_all-same p q h (get_or uses i [])) refl

IsNext-same : (uses : List (List ℕ)) (p q : ℕ → Bool) → ((i : ℕ) → p i ≡ q i) → (i : ℕ) → IsNext uses p i → IsNext uses q i
IsNext-same uses p q h i n = record {
  in_range = n.in_range;
  ready = sym (is_ready-same uses p q h i) ∙ n.ready;
  first = λ j l. sym (is_ready-same uses p q h j) ∙ n.first j l;
}

not_placed : (uses : List (List ℕ)) (p : ℕ → Bool) (i : ℕ) → is_ready uses p i ≡ true → p i ≡ false
not_placed uses p i h = go (p i) (list_all p (get_or uses i [])) h
  where
    go : (a b : Bool) → (not a && b) ≡ true → a ≡ false
    go true b e = cc
    go false b e = refl

same_or : (b : Bool) (n : ℕ) → true ≡ (b || ((n == n) || false))
same_or b n = grind (arith, nat_tests)

other_or : (b : Bool) (n i : ℕ) → i ≢ n → b ≡ (b || ((n == i) || false))
other_or b n i h = grind (arith, nat_tests)

agrees_more : (placed : List Bool) (order : List ℕ) (node : ℕ) → node < length placed → ((i : ℕ) → get_or placed i false ≡ has_placed order i)
    → (i : ℕ) → get_or (set placed node true) i false ≡ has_placed (order ++ node ∷ []) i
agrees_more placed order node h agrees i =
    let both : has_placed (order ++ node ∷ []) i ≡ (has_placed order i || ((node == i) || false)) = list_any-append (λ x. x == i) order (node ∷ []) in
    elim (cases_eq i node) [
      | inl e ↦ rw (both, e, get_or-set_same placed node true false h) (same_or (has_placed order node) node)
      | inr ne ↦ rw (both, get_or-set_other placed node i true false ne, agrees i) (other_or (has_placed order i) node i ne)
    ]

next_more : (uses : List (List ℕ)) (order : List ℕ) (node : ℕ) → ((k : ℕ) → k < length order → IsNext uses (has_placed (take k order)) (get_or order k 0))
    → IsNext uses (has_placed order) node
    → (k : ℕ) → k < length (order ++ node ∷ []) → IsNext uses (has_placed (take k (order ++ node ∷ []))) (get_or (order ++ node ∷ []) k 0)
next_more uses order node next here k h = elim (cases_lt k (length order)) [
  | inl l ↦ rw (take-append-le k order (node ∷ []) (omega arith), get_or_append_left order (node ∷ []) 0 k l) (next k l)
  | inr g ↦
      let at : length order ≡ k = omega (arith, length-append order (node ∷ [])) in
      rw (take_at order (node ∷ []) k at, get_or_at order node [] 0 k at) here
]

pub placed_more : (uses : List (List ℕ)) (placed : List Bool) (order : List ℕ) (left node : ℕ) → PlacedSoFar uses placed order left
    → IsNext uses (λ i. get_or placed i false) node → PlacedSoFar uses (set placed node true) (order ++ node ∷ []) (left - 1)
placed_more uses placed order left node so_far n =
    let here : node < length placed = omega (arith, so_far.len, n.in_range) in
    let free : get_or placed node false ≡ false = not_placed uses (λ i. get_or placed i false) node n.ready in
    record {
      len = length-set placed node true ∙ so_far.len;
      left_is = omega (arith, rw free at (sum_by-set (λ b. cond (not b) 1 0) placed node true false here), so_far.left_is);
      agrees = agrees_more placed order node here so_far.agrees;
      next = next_more uses order node so_far.next (IsNext-same uses (λ i. get_or placed i false) (has_placed order) so_far.agrees node n);
    }

some_free : (placed : List Bool) → 0 < count_by not placed → (i : ℕ) × (i < length placed) × (not (get_or placed i false) ≡ true)
some_free [] h = absurd (omega arith)
some_free (false ∷ bs) h = (0, omega arith, refl)
some_free (true ∷ bs) h = let r = some_free bs (omega arith) in (suc r.0, omega (arith, r.1), r.2)

here_or : (p : ℕ → Bool) (x : ℕ) (xs : List ℕ) (b : Bool) → p x ≡ b → (b && list_all p xs) ≡ false
    → (list_all p xs ≡ false → (u : ℕ) × Contains xs u × (p u ≡ false)) → (u : ℕ) × Contains (x ∷ xs) u × (p u ≡ false)
here_or p x xs true e h rest = let r = rest h in (r.0, (suc r.1.0, omega (arith, r.1.1), r.1.2), r.2)
here_or p x xs false e h rest = (x, (0, omega arith, refl), e)

none_free : (placed : List Bool) → count_by not placed ≡ 0 → (i : ℕ) → i < length placed → get_or placed i false ≡ true
none_free [] h i l = absurd (omega arith)
none_free (false ∷ bs) h i l = absurd (omega (arith, sum_by-cons (λ b. cond (not b) 1 0) false bs))
none_free (true ∷ bs) h zero l = refl
none_free (true ∷ bs) h (suc i) l = none_free bs h i (omega arith)

stuck_all : (a b : Bool) → (not a && b) ≡ false → not a ≡ true → b ≡ false
stuck_all true b h g = absurd (cc)
stuck_all false b h g = h

not_all : (p : ℕ → Bool) (xs : List ℕ) → list_all p xs ≡ false → (u : ℕ) × Contains xs u × (p u ≡ false)
not_all p [] h = absurd (cc)
not_all p (x ∷ xs) h = here_or p x xs (p x) refl h (λ g. not_all p xs g)

pub cycle_of : (uses : List (List ℕ)) (placed : List Bool) (order : List ℕ) (left : ℕ) → PlacedSoFar uses placed order left → 0 < left
    → All (λ used. All (λ u. u < length uses) used) uses
    → ((i : ℕ) → i < length uses → is_ready uses (λ i. get_or placed i false) i ≡ false)
    → IsCycle uses (λ i. not (get_or placed i false))
cycle_of uses placed order left so_far some within stuck = record {
  some = let r = some_free placed (omega (arith, so_far.left_is)) in (r.0, omega (arith, r.1, so_far.len), r.2);
  closed = λ i h free.
      let waits = stuck_all (get_or placed i false) (list_all (λ u. get_or placed u false) (get_or uses i [])) (stuck i h) free in
      let r = not_all (λ u. get_or placed u false) (get_or uses i []) waits in
      let node : get_or (get_or uses i []) r.1.0 r.0 < length uses = within i [] h r.1.0 r.0 r.1.1 in
      (r.0, r.1, rw r.1.2 at node, rw r.2 refl);
}

pub placed_all : (uses : List (List ℕ)) (placed : List Bool) (order : List ℕ) (left : ℕ) → PlacedSoFar uses placed order left → left ≡ 0 → IsPlacement uses order
placed_all uses placed order left so_far none = record {
  next = so_far.next;
  complete = λ i h. sym (so_far.agrees i) ∙ none_free placed (sym so_far.left_is ∙ none) i (omega (arith, so_far.len));
}

pub placed_none : (uses : List (List ℕ)) → PlacedSoFar uses (replicate (length uses) false) [] (length uses)
placed_none uses = record {
  len = length-replicate (length uses) false;
  left_is = sym (sum_by-replicate (λ b. cond (not b) 1 0) (length uses) false ∙ omega arith);
  agrees = λ i. none (length uses) i;
  next = λ k h. absurd (omega arith);
}
  where
    none : (n i : ℕ) → get_or (replicate n false) i false ≡ false
    none zero i = refl
    none (suc n) zero = refl
    none (suc n) (suc i) = none n i
