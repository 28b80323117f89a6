-- The packages of what is kept of a set.
use Rattle.std.proofs.Common.{◌≡◌, ◌≤◌, ◌<◌, ◌⊎◌, inl, inr, ℕ, zero, suc, ◌+◌, Bool, true, false, not, ◌||◌, ◌&&◌, nat_le, nat_lt, List, [], ◌∷◌, length, get_or, slice_get, Some, refl, ap, sym, subst, ◌∙◌, arith, true≢false, IsTrue}
use Rattle.std.specs.List.{list_all, list_any, items_where_true}
use Rattle.std.proofs.lemmas.Bool.{leb-true, le-leb, ltb-true}
use Rattle.std.proofs.lemmas.Option.{slice_get_within}
use Rattle.package_form.specs.Closed.{is_same_package, are_apart, are_of_a_set, has_each_package}
use Rattle.package_form.specs.Form.{is_package_name}
use Rattle.package_form.proofs.FullNamesStandForInterfaces.{package-there}
use Rattle.tables.specs.Tables.{are_grouped}
use Rattle.tables.specs.PackageNames.{PackageParts}
use Rattle.tables.proofs.ClosedTypesRowByRow.{split, both}
use Rattle.tables.specs.declared.tables.Interface.{Interface}
use Rattle.tables.specs.declared.tables.Resolve.{Resolve}
use Rattle.set_rows.specs.Places.{place}
use Rattle.set_rows.specs.Renamed.{renaming}
use Rattle.set_rows.specs.Moved.{put_interface}
use Rattle.package_sets.specs.Restricted.{IsReachedIn}
use Rattle.package_sets.specs.Part.{IsPart, IsTableOf}
use Rattle.set_rows.specs.declared.moved.Moved.{Moved}
use Rattle.package_sets.proofs.GrowingLists.{map-get, not-is}
use Rattle.set_rows.proofs.KeptElementsAndPlaces.{kept-at}
use Rattle.package_sets.proofs.KeptParts.PlacesOfKept.{was-kept}
use Rattle.std.proofs.lemmas.List.{get_or_default}

-- ---- names of packages that are kept

kept-all : {A : Type 0} (f : A → Bool) (bs : List Bool) (xs : List A) → list_all f xs ≡ true → list_all f (items_where_true bs xs) ≡ true
kept-all f [] xs h = refl
kept-all f (b ∷ bs) [] h = refl
kept-all f (true ∷ bs) (x ∷ xs) h = let p = split (f x) (list_all f xs) h in both (f x) (list_all f (items_where_true bs xs)) p.0 (kept-all f bs xs p.1)
kept-all f (false ∷ bs) (x ∷ xs) h = kept-all f bs xs (split (f x) (list_all f xs) h).1

kept-any : {A : Type 0} (f : A → Bool) (bs : List Bool) (xs : List A) → list_any f xs ≡ false → list_any f (items_where_true bs xs) ≡ false
kept-any f [] xs h = refl
kept-any f (b ∷ bs) [] h = refl
kept-any f (false ∷ bs) (x ∷ xs) h = by (f x) refl (kept-any f bs xs)
  where
    by : (b : Bool) → f x ≡ b → (list_any f xs ≡ false → list_any f (items_where_true bs xs) ≡ false) → list_any f (items_where_true bs xs) ≡ false
    by true e r = absurd (true≢false (sym (ap (λ (c : Bool). c || list_any f xs) e) ∙ h))
    by false e r = r (sym (ap (λ (c : Bool). c || list_any f xs) e) ∙ h)
kept-any f (true ∷ bs) (x ∷ xs) h = by (f x) refl (kept-any f bs xs)
  where
    by : (b : Bool) → f x ≡ b → (list_any f xs ≡ false → list_any f (items_where_true bs xs) ≡ false) → list_any f (items_where_true (true ∷ bs) (x ∷ xs)) ≡ false
    by true e r = absurd (true≢false (sym (ap (λ (c : Bool). c || list_any f xs) e) ∙ h))
    by false e r = ap (λ (c : Bool). c || list_any f (items_where_true bs xs)) e ∙ r (sym (ap (λ (c : Bool). c || list_any f xs) e) ∙ h)

kept-apart : (bs : List Bool) (ps : List PackageParts) → are_apart ps ≡ true → are_apart (items_where_true bs ps) ≡ true
kept-apart [] ps h = refl
kept-apart (b ∷ bs) [] h = refl
kept-apart (false ∷ bs) (p ∷ ps) h = kept-apart bs ps (split (not (list_any (is_same_package p) ps)) (are_apart ps) h).1
kept-apart (true ∷ bs) (p ∷ ps) h =
    let a = split (not (list_any (is_same_package p) ps)) (are_apart ps) h in
    both (not (list_any (is_same_package p) (items_where_true bs ps))) (are_apart (items_where_true bs ps)) (ap not (kept-any (is_same_package p) bs ps (not-is (list_any (is_same_package p) ps) a.0))) (kept-apart bs ps a.1)

pub kept-fewer : {A : Type 0} (bs : List Bool) (xs : List A) → length (items_where_true bs xs) ≤ length xs
kept-fewer [] xs = omega arith
kept-fewer (b ∷ bs) [] = omega arith
kept-fewer (true ∷ bs) (x ∷ xs) = omega (arith, kept-fewer bs xs)
kept-fewer (false ∷ bs) (x ∷ xs) = omega (arith, kept-fewer bs xs)

pub kept-set : (bs : List Bool) (ps : List PackageParts) → are_of_a_set ps ≡ true → are_of_a_set (items_where_true bs ps) ≡ true
kept-set bs ps h =
    let a = split (nat_le (length ps) 64) (are_apart ps) h in
    both (nat_le (length (items_where_true bs ps)) 64) (are_apart (items_where_true bs ps)) (le-leb (length (items_where_true bs ps)) 64 (omega (arith, kept-fewer bs ps, leb-true (length ps) 64 a.0))) (kept-apart bs ps a.1)

pub kept-names : (bs : List Bool) (ps : List PackageParts) → list_all is_package_name ps ≡ true → list_all is_package_name (items_where_true bs ps) ≡ true
kept-names bs ps h = kept-all is_package_name bs ps h

-- ---- each package has an interface

-- an interface of each package from `next` on, before `last`, is among these
abbrev HasEach : ℕ → ℕ → List Interface → Type 0
HasEach last next is = (p : ℕ) → next ≤ p → p < last → (k : ℕ) × (i : Interface) × (slice_get is k ≡ Some i) × (i.«package».0 ≡ p)

grouped-first : (count first : ℕ) (is : List Interface) → are_grouped count first is ≡ true → (k : ℕ) (i : Interface) → slice_get is k ≡ Some i → first ≤ i.«package».0
grouped-first count first [] g k i e = absurd (cc)
grouped-first count first (x ∷ is) g k i e = by k e (λ h. grouped-first count x.«package».0 is p.1 h i)
  where
    p : IsTrue (nat_le first x.«package».0 && nat_lt x.«package».0 count) × IsTrue (are_grouped count x.«package».0 is)
    p = split (nat_le first x.«package».0 && nat_lt x.«package».0 count) (are_grouped count x.«package».0 is) g

    low : first ≤ x.«package».0
    low = leb-true first x.«package».0 (split (nat_le first x.«package».0) (nat_lt x.«package».0 count) p.0).0

    by : (k : ℕ) → slice_get (x ∷ is) k ≡ Some i → ((m : ℕ) → slice_get is m ≡ Some i → x.«package».0 ≤ i.«package».0) → first ≤ i.«package».0
    by zero e r = let same : x ≡ i = cc in subst (λ (y : Interface). first ≤ y.«package».0) same low
    by (suc m) e r = omega (arith, low, r m e)

pub each-package : (last count first next : ℕ) (is : List Interface) → count ≤ last + 1 → are_grouped count first is ≡ true → next ≤ first + 1 → HasEach last next is → has_each_package last next is ≡ true
each-package last count first next [] few g w h = by (cut last next)
  where
    cut : (n m : ℕ) → (n ≤ m) ⊎ (m < n)
    cut n m = grind arith

    none : (k : ℕ) (i : Interface) → slice_get [] k ≡ Some i → ⊥
    none k i e = cc

    by : (last ≤ next) ⊎ (next < last) → nat_le last next ≡ true
    by (inl a) = le-leb last next a
    by (inr a) = let x = h next (omega arith) a in absurd (none x.0 x.1 x.2)
each-package last count first next (x ∷ is) few g w h =
    both (nat_le x.«package».0 next) (has_each_package last (x.«package».0 + 1) is) (le-leb x.«package».0 next (before (cut last next))) (each-package last count x.«package».0 (x.«package».0 + 1) is few p.1 (omega arith) later)
  where
    p : IsTrue (nat_le first x.«package».0 && nat_lt x.«package».0 count) × IsTrue (are_grouped count x.«package».0 is)
    p = split (nat_le first x.«package».0 && nat_lt x.«package».0 count) (are_grouped count x.«package».0 is) g

    low : first ≤ x.«package».0
    low = leb-true first x.«package».0 (split (nat_le first x.«package».0) (nat_lt x.«package».0 count) p.0).0

    within : x.«package».0 < count
    within = ltb-true x.«package».0 count (split (nat_le first x.«package».0) (nat_lt x.«package».0 count) p.0).1

    cut : (n m : ℕ) → (n ≤ m) ⊎ (m < n)
    cut n m = grind arith

    here : (k : ℕ) (i : Interface) → slice_get (x ∷ is) k ≡ Some i → x.«package».0 ≤ i.«package».0
    here zero i e = let same : x ≡ i = cc in subst (λ (y : Interface). x.«package».0 ≤ y.«package».0) same (omega arith)
    here (suc k) i e = grouped-first count x.«package».0 is p.1 k i e

    first-is : (i : Interface) → slice_get (x ∷ is) 0 ≡ Some i → x.«package».0 ≡ i.«package».0
    first-is i e = let same : x ≡ i = cc in ap (λ (y : Interface). y.«package».0) same

    before : (last ≤ next) ⊎ (next < last) → x.«package».0 ≤ next
    before (inr a) = let y = h next (omega arith) a in omega (arith, here y.0 y.1 y.2, y.3)
    before (inl a) = omega (arith, within, a, few)

    behind : (q : ℕ) → x.«package».0 < q → (k : ℕ) (i : Interface) → slice_get (x ∷ is) k ≡ Some i → i.«package».0 ≡ q → (k : ℕ) × (i : Interface) × (slice_get is k ≡ Some i) × (i.«package».0 ≡ q)
    behind q l zero i e f = absurd (omega (arith, l, f, first-is i e))
    behind q l (suc k) i e f = (k, i, e, f)

    found : (q : ℕ) → q < last → x.«package».0 < q → (next ≤ q) ⊎ (q < next) → (k : ℕ) × (i : Interface) × (slice_get is k ≡ Some i) × (i.«package».0 ≡ q)
    found q b l (inl a) = let y = h q a b in behind q l y.0 y.1 y.2 y.3
    found q b l (inr a) = absurd (omega (arith, a, l, w, low))

    later : HasEach last (x.«package».0 + 1) is
    later q a b = found q b (omega arith) (cut next q)

-- ---- of what is kept

-- each of the first packages is kept for an interface that is reached
module _ (s : Resolve) (to : Moved) (p : IsPart s to) (r : Resolve) (t : IsTableOf s to r) (last : ℕ) (few : last ≤ length r.packages) (near : length r.packages ≤ last + 1)
    (reached : (k : ℕ) → k < length s.packages → get_or to.packages k false ≡ true → place to.packages k < last → IsReachedIn s p.marks k) where
  one-of-each : HasEach last 0 r.interfaces
  one-of-each q a b =
      let at = package-there r.packages q (omega (arith, b, few)) in
      let w = was-kept to.packages s.packages q at.0 (ap (λ (ps : List PackageParts). slice_get ps q) (sym t.packages) ∙ at.1) in
      place-of w.from w.is (reached w.from (slice_get_within s.packages w.from at.0 w.stood) w.marked (omega (arith, w.is, b)))
    where
      place-of : (k : ℕ) → place to.packages k ≡ q → IsReachedIn s p.marks k → (m : ℕ) × (i : Interface) × (slice_get r.interfaces m ≡ Some i) × (i.«package».0 ≡ q)
      place-of k e (i, x, at, m, is) =
          let marked : get_or to.interfaces i false ≡ true = ap (λ (bs : List Bool). get_or bs i false) p.interfaces_are ∙ (get_or_default p.marks.interfaces i false true (omega (arith, p.count, slice_get_within s.interfaces i x at)) ∙ m) in (
            place to.interfaces i,
            put_interface (renaming to) x,
            ap (λ (is : List Interface). slice_get is (place to.interfaces i)) t.interfaces
                ∙ map-get (put_interface (renaming to)) (items_where_true to.interfaces s.interfaces) (place to.interfaces i) x (kept-at to.interfaces s.interfaces i x marked at),
            ap (place to.packages) is ∙ e,
          )

  pub has-each : has_each_package last 0 r.interfaces ≡ true
  has-each = each-package last (length r.packages) 0 0 r.interfaces near r.grouped (omega arith) one-of-each
