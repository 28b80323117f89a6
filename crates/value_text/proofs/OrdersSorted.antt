-- Indexes that are sorted by their fields' labels are the order of the labels.
use Rattle.std.proofs.Common.{◌≡◌, ◌⊎◌, inl, inr, ◌<◌, ◌≤◌, ℕ, zero, suc, List, [], ◌∷◌, ◌++◌, true, false, length, get_or, Ordering, Less, Equal, Greater, nat_cmp, is_lt, Vec, Global, refl, sym, ap, ◌∙◌, arith}
use Rattle.std.specs.Cmp.Lexicographic.{slice_cmp, nat_list_cmp_total}
use Rattle.std.specs.List.{swap, AllByRecursion}
use Rattle.std.specs.List.Sorted.{IsPermutation, IsSorted}
use Rattle.std.specs.Ordering.{ordering_reverse}
use Rattle.std.proofs.lemmas.Bool.{cases_eq}
use Rattle.std.proofs.lemmas.List.Edits.{Swapped, swapped_from_swap, length-swap}
use Rattle.std.proofs.lemmas.List.Sorted.{ranks_by, sorted_far, length_permutation, IsPermutation-keeps, All-permutation, Contains-permutation}
use Rattle.tables.specs.declared.tables.Definition.{Definition}
use Rattle.tables.specs.declared.tables.Field.{Field}
use Rattle.value_json.specs.Apart.{HaveLabelsApart}
use Rattle.value_json.proofs.JsonAsData.{same-key}
use Rattle.value_text.specs.Orders.{label_at, Ascends, IsIn, IsLabelOrder, RowOrdered, AreOrders}

-- ---- labels

none-named : (l : List ℕ) (fs : List Field) (j : ℕ) → j < length fs → AllByRecursion (λ g. g.name ≡ l → ⊥) fs → label_at fs j ≡ l → ⊥
none-named l [] j h all same = omega arith
none-named l (f ∷ fs) zero h (here, all) same = here same
none-named l (f ∷ fs) (suc j) h (here, all) same = none-named l fs j (omega (arith, h)) all same

pub label-there : (fs : List Field) (i : ℕ) (f : Field) → i < length fs → f ≡ get_or fs i f → label_at fs i ≡ f.name
label-there [] i f h is = absurd (omega arith)
label-there (g ∷ fs) zero f h is = ap (λ x. x.name) (sym is)
label-there (g ∷ fs) (suc i) f h is = label-there fs i f (omega (arith, h)) is

pub label-past : (fs : List Field) (i : ℕ) → length fs ≤ i → label_at fs i ≡ []
label-past [] i h = refl
label-past (f ∷ fs) zero h = absurd (omega arith)
label-past (f ∷ fs) (suc i) h = label-past fs i (omega (arith, h))

-- a label is that of one field
one-labelled : (fs : List Field) (i j : ℕ) → HaveLabelsApart fs → i < length fs → j < length fs → label_at fs i ≡ label_at fs j → i ≡ j
one-labelled [] i j apart h k same = absurd (omega arith)
one-labelled (f ∷ fs) zero zero apart h k same = refl
one-labelled (f ∷ fs) zero (suc j) (apart, rest) h k same = absurd (none-named f.name fs j (omega (arith, k)) apart (sym same))
one-labelled (f ∷ fs) (suc i) zero (apart, rest) h k same = absurd (none-named f.name fs i (omega (arith, h)) apart same)
one-labelled (f ∷ fs) (suc i) (suc j) (apart, rest) h k same = ap suc (one-labelled fs i j rest (omega (arith, h)) (omega (arith, k)) same)

-- ---- each index once

abbrev pub Injects : List ℕ → Type 0
Injects l = (i j : ℕ) → i < length l → j < length l → get_or l i 0 ≡ get_or l j 0 → i ≡ j

-- where the element at i stood before the elements at a and b changed places
abbrev Moved : ℕ → ℕ → ℕ → ℕ → Type 0
Moved a b i k = ((i ≡ a) × (k ≡ b)) ⊎ (((i ≡ b) × (k ≡ a)) ⊎ ((i ≡ a → ⊥) × (i ≡ b → ⊥) × (k ≡ i)))

same-before : (a b i j k m : ℕ) → Moved a b i k → Moved a b j m → k ≡ m → i ≡ j
same-before a b i j k m (inl (x, y)) (inl (u, v)) e = omega arith
same-before a b i j k m (inl (x, y)) (inr (inl (u, v))) e = omega arith
same-before a b i j k m (inl (x, y)) (inr (inr (p, q, v))) e = absurd (q (omega arith))
same-before a b i j k m (inr (inl (x, y))) (inl (u, v)) e = omega arith
same-before a b i j k m (inr (inl (x, y))) (inr (inl (u, v))) e = omega arith
same-before a b i j k m (inr (inl (x, y))) (inr (inr (p, q, v))) e = absurd (p (omega arith))
same-before a b i j k m (inr (inr (p, q, y))) (inl (u, v)) e = absurd (q (omega arith))
same-before a b i j k m (inr (inr (p, q, y))) (inr (inl (u, v))) e = absurd (p (omega arith))
same-before a b i j k m (inr (inr (p, q, y))) (inr (inr (r, s, v))) e = omega arith

module _ (f g : ℕ → ℕ) (n a b : ℕ) (inside-a : a < n) (inside-b : b < n) (moves : Swapped f g a b) where
  stood : (i : ℕ) → i < n → (k : ℕ) × (k < n) × (g i ≡ f k) × Moved a b i k
  stood i h = by (cases_eq i a) (cases_eq i b)
    where
      by : ((i ≡ a) ⊎ (i ≡ a → ⊥)) → ((i ≡ b) ⊎ (i ≡ b → ⊥)) → (k : ℕ) × (k < n) × (g i ≡ f k) × Moved a b i k
      by (inl e) q = (b, inside-b, ap g e ∙ moves.0, inl (e, refl))
      by (inr p) (inl e) = (a, inside-a, ap g e ∙ moves.1, inr (inl (e, refl)))
      by (inr p) (inr q) = (i, h, moves.2 i p q, inr (inr (p, q, refl)))

swapped-injects : (l : List ℕ) (a b : ℕ) → a < length l → b < length l → Injects l → Injects (swap l a b)
swapped-injects l a b h k one i j inside-i inside-j same =
    let long = length-swap l a b in
    let moves = swapped_from_swap l (swap l a b) a b 0 h k refl in
    let (x, low, is, was) = stood (λ i. get_or l i 0) (λ i. get_or (swap l a b) i 0) (length l) a b h k moves i (omega (arith, inside-i, long)) in
    let (y, low2, is2, was2) = stood (λ i. get_or l i 0) (λ i. get_or (swap l a b) i 0) (length l) a b h k moves j (omega (arith, inside-j, long)) in
    same-before a b i j x y was was2 (one x y low low2 (sym is ∙ same ∙ is2))

-- ---- the order

each-of : (P : ℕ → Type 0) (is : List ℕ) → ((k : ℕ) → k < length is → P (get_or is k 0)) → AllByRecursion P is
each-of P [] each = tt
each-of P (i ∷ is) each = (each 0 (omega arith), each-of P is (λ k h. each (suc k) (omega (arith, h))))

ascends-from : (fs : List Field) (is : List ℕ)
    → ((k m : ℕ) → k < m → m < length is → slice_cmp nat_cmp (label_at fs (get_or is k 0)) (label_at fs (get_or is m 0)) ≡ Less) → Ascends fs is
ascends-from fs [] up = tt
ascends-from fs (i ∷ is) up = (
  each-of (λ j. slice_cmp nat_cmp (label_at fs i) (label_at fs j) ≡ Less) is (λ m h. up 0 (suc m) (omega arith) (omega (arith, h))),
  ascends-from fs is (λ k m less h. up (suc k) (suc m) (omega (arith, less)) (omega (arith, h))),
)

in-from : (is : List ℕ) (k i : ℕ) → k < length is → get_or is k i ≡ i → IsIn i is
in-from [] k i h is = absurd (omega arith)
in-from (j ∷ js) zero i h is = inl (sym is)
in-from (j ∷ js) (suc k) i h is = inr (in-from js k i (omega (arith, h)) is)

-- neither later nor the same, so before
before : (x y : List ℕ) → is_lt (slice_cmp nat_cmp y x) ≡ false → (x ≡ y → ⊥) → slice_cmp nat_cmp x y ≡ Less
before x y not-less other = by (slice_cmp nat_cmp y x) refl
  where
    turned : slice_cmp nat_cmp x y ≡ ordering_reverse (slice_cmp nat_cmp y x)
    turned = nat_list_cmp_total.antisymm x y

    by : (o : Ordering) → slice_cmp nat_cmp y x ≡ o → slice_cmp nat_cmp x y ≡ Less
    by Less e = let both : true ≡ false = ap is_lt (sym e) ∙ not-less in absurd (cc)
    by Equal e = absurd (other (sym (same-key y x e)))
    by Greater e = turned ∙ ap ordering_reverse e

-- the numbers below the length, each at its place
abbrev pub CountsUp : ℕ → List ℕ → Type 0
CountsUp n is = (length is ≡ n) × ((k d : ℕ) → k < n → get_or is k d ≡ k)

pub sorted-order : (fs : List Field) (is js : List ℕ) → HaveLabelsApart fs → CountsUp (length fs) is → IsPermutation is js
    → IsSorted (λ i j. slice_cmp nat_cmp (label_at fs i) (label_at fs j)) js → IsLabelOrder fs js
sorted-order fs is js apart (long, each) moved up = (many, each-of (λ i. i < n) js inside, ascends-from fs js less, whole)
  where
    n : ℕ
    n = length fs

    many : length js ≡ n
    many = length_permutation is js moved ∙ long

    inside : (k : ℕ) → k < length js → get_or js k 0 < n
    inside k h = All-permutation (λ i. i < n) is js moved (λ m d lt. let e = each m d (omega (arith, lt, long)) in omega (arith, e, lt, long)) k 0 h

    once : Injects js
    once = IsPermutation-keeps is Injects (λ i j h k same. let e = each i 0 (omega (arith, h, long)) in let f = each j 0 (omega (arith, k, long)) in omega (arith, e, f, same)) swapped-injects js moved

    less : (k m : ℕ) → k < m → m < length js → slice_cmp nat_cmp (label_at fs (get_or js k 0)) (label_at fs (get_or js m 0)) ≡ Less
    less k m lt h =
        before (label_at fs (get_or js k 0)) (label_at fs (get_or js m 0))
        (sorted_far (λ i j. is_lt (slice_cmp nat_cmp (label_at fs i) (label_at fs j))) (ranks_by nat_list_cmp_total (label_at fs)) js up k m 0 (omega arith) h)
        (λ same. let e = once k m (omega arith) h (one-labelled fs (get_or js k 0) (get_or js m 0) apart (inside k (omega arith)) (inside m h) same) in omega (arith, e, lt))

    whole : (i : ℕ) → i < length fs → IsIn i js
    whole i h = let (k, low, at) = Contains-permutation is js i moved (i, omega (arith, h, long), each i i h) in in-from js k i low at

-- ---- a row more

pub orders-more : (ds : List Definition) (os : List (Vec ℕ Global)) (d : Definition) (o : Vec ℕ Global) → length os ≡ length ds → AreOrders ds os → RowOrdered d o.items
    → AreOrders (ds ++ d ∷ []) (os ++ o ∷ [])
orders-more [] [] d o same all one = (one, tt)
orders-more [] (p ∷ os) d o same all one = absurd (omega (arith, same))
orders-more (e ∷ ds) [] d o same all one = absurd (omega (arith, same))
orders-more (e ∷ ds) (p ∷ os) d o same (here, all) one = (here, orders-more ds os d o (omega (arith, same)) all one)
