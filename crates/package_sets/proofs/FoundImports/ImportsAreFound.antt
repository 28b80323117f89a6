-- Where the imports of a closed table are found in a set.
use Rattle.std.proofs.Common.{◌≡◌, ◌<◌, ◌⊎◌, inl, inr, ℕ, zero, suc, ◌+◌, Bool, true, false, ◌&&◌, List, [], ◌∷◌, ◌++◌, length, take, get_or, slice_get, Option, None, Some, MatchOption, refl, ap, sym, subst, ◌∙◌, arith, true≢false}
use Rattle.std.proofs.lemmas.List.{get_or_append_left, length-take, length_push}
use Rattle.std.proofs.Math.Seq.{get_or-append_seam}
use Rattle.std.specs.List.{position}
use Rattle.std.specs.Str.{bytes_eq}
use Rattle.std.proofs.lemmas.List.Quantifiers.{position-Some}
use Rattle.std.proofs.lemmas.Option.{slice_get_within, slice_get-get_or, get_or_from_slice_get}
use Rattle.canonical_abi.proofs.Traces.TracesLeaveImages.{slice_get-take}
use Rattle.tables.specs.PackageNames.{PackageParts}
use Rattle.tables.specs.declared.tables.Interface.{Interface}
use Rattle.tables.specs.declared.tables.Resolve.{Resolve}
use Rattle.package_names.specs.Indexed.{is_package_named, is_interface_named, interface_place}
use Rattle.package_form.proofs.PositionOfTheFirst.{position-none}
use Rattle.set_rows.specs.Moved.{Renaming}
use Rattle.package_sets.specs.Joining.{imports, import_rows, IsFirst, are_same_packages, has_name_of, AreFound, AreRowsThere, AreIdsThere, HasImports, joined, all_places, place_in}
use Rattle.package_sets.specs.Joined.{renaming_of, AreJoined, IsJoined}
use Rattle.package_sets.specs.Attached.{has_package, LacksFirst}
use Rattle.package_sets.specs.Joined.{JoinedPlaces}
use Rattle.package_sets.proofs.GrowingLists.{each-more}

-- ---- the first of a name

module _ {A : Type 0} (has : A → Bool) (xs : List A) (d : A) where
  pub is-first : (k : ℕ) → position has xs ≡ Some k → IsFirst has xs k
  is-first k e =
      let p = position-Some has xs k d e in
      record {
        one = get_or xs k d;
        stands = slice_get-get_or xs k d p.0;
        holds = p.1;
        before = λ j x l at. ap has (sym (get_or_from_slice_get xs j x d at)) ∙ p.2 j l;
      }

  pub has-none : position has xs ≡ None → (k : ℕ) → ¬ IsFirst has xs k
  has-none e k f =
      let no = position-none has xs e k d (slice_get_within xs k f.one f.stands) in
      let same = ap has (get_or_from_slice_get xs k f.one d f.stands) in
      true≢false (sym f.holds ∙ sym same ∙ no)

-- the index finds it
module _ (set closed : Resolve) (i : Interface) where
  abbrev pub IsFoundAt : Option ℕ → Type 0
  IsFoundAt o = MatchOption o ((k : ℕ) → ¬ IsFirst (has_name_of set closed i) set.interfaces k) (λ k. IsFirst (has_name_of set closed i) set.interfaces k)

  pub place-first : (p : PackageParts) → slice_get closed.packages i.«package».0 ≡ Some p → IsFoundAt (interface_place set p i.name)
  place-first p of = by (position (is_interface_named set.packages p i.name) set.interfaces) refl
    where
      one : (o : Option PackageParts) → are_same_packages (Some p) o ≡ is_package_named p o
      one None = refl
      one (Some q) = refl

      same : is_interface_named set.packages p i.name ≡ has_name_of set closed i
      same = λ j x. (sym (ap (λ (b : Bool). b && bytes_eq i.name x.name) (ap (λ (o : Option PackageParts). are_same_packages o (slice_get set.packages x.«package».0)) of ∙ one (slice_get set.packages x.«package».0)))) j

      by : (o : Option ℕ) → position (is_interface_named set.packages p i.name) set.interfaces ≡ o → IsFoundAt o
      by None e = subst (λ (has : Interface → Bool). (k : ℕ) → ¬ IsFirst has set.interfaces k) same (has-none (is_interface_named set.packages p i.name) set.interfaces i e)
      by (Some k) e = subst (λ (has : Interface → Bool). IsFirst has set.interfaces k) same (is-first (is_interface_named set.packages p i.name) set.interfaces i k e)

-- one more import is found
pub found-more : (set closed : Resolve) (is : List Interface) (n : ℕ) (i : Interface) (places : List ℕ) (place : ℕ) → slice_get is n ≡ Some i → AreFound set closed (take n is) places
    → IsFirst (has_name_of set closed i) set.interfaces place → AreFound set closed (take (n + 1) is) (places ++ place ∷ [])
found-more set closed is n i places place e f one = record {
  count = omega (arith, length_push places place, f.count, length-take n is, length-take (n + 1) is, within);
  each = each-more (λ k x. IsFirst (has_name_of set closed x) set.interfaces (get_or (places ++ place ∷ []) k 0)) is n i e here (λ k x h. before k x h);
}
  where
    within : n < length is
    within = slice_get_within is n i e

    count : length places ≡ n
    count = omega (arith, f.count, length-take n is, within)

    here : IsFirst (has_name_of set closed i) set.interfaces (get_or (places ++ place ∷ []) n 0)
    here = subst (λ m. IsFirst (has_name_of set closed i) set.interfaces m) (sym (ap (λ m. get_or (places ++ place ∷ []) m 0) (sym count) ∙ get_or-append_seam places place [] 0)) one

    before : (k : ℕ) (x : Interface) → slice_get (take n is) k ≡ Some x → IsFirst (has_name_of set closed x) set.interfaces (get_or (places ++ place ∷ []) k 0)
    before k x h =
        subst (λ m. IsFirst (has_name_of set closed x) set.interfaces m) (sym (get_or_append_left places (place ∷ []) 0 k (omega (arith, slice_get_within (take n is) k x h, f.count)))) (f.each k x h)

-- ---- there is one place for each

first-before : {A : Type 0} (has : A → Bool) (xs : List A) (j k : ℕ) → IsFirst has xs j → IsFirst has xs k → j < k → ⊥
first-before has xs j k a b l = true≢false (sym a.holds ∙ b.before j a.one l a.stands)

pub first-same : {A : Type 0} (has : A → Bool) (xs : List A) (j k : ℕ) → IsFirst has xs j → IsFirst has xs k → j ≡ k
first-same has xs j k a b = by (cases j k)
  where
    cases : (j k : ℕ) → (j < k) ⊎ ((k < j) ⊎ (j ≡ k))
    cases j k = grind arith

    by : (j < k) ⊎ ((k < j) ⊎ (j ≡ k)) → j ≡ k
    by (inl l) = absurd (first-before has xs j k a b l)
    by (inr (inl l)) = absurd (first-before has xs k j b a l)
    by (inr (inr e)) = e

same-places : (xs ys : List ℕ) → length xs ≡ length ys → ((k : ℕ) → k < length xs → get_or xs k 0 ≡ get_or ys k 0) → xs ≡ ys
same-places [] [] l h = refl
same-places [] (y ∷ ys) l h = absurd (omega (arith, l))
same-places (x ∷ xs) [] l h = absurd (omega (arith, l))
same-places (x ∷ xs) (y ∷ ys) l h =
    let first : x ≡ y = h 0 (omega arith) in
    let rest : xs ≡ ys = same-places xs ys (omega (arith, l)) (λ k b. h (suc k) (omega (arith, b))) in
    cc

one-of : (is : List Interface) (k : ℕ) → k < length is → (i : Interface) × (slice_get is k ≡ Some i)
one-of [] k h = absurd (omega arith)
one-of (i ∷ is) zero h = (i, refl)
one-of (i ∷ is) (suc k) h = one-of is k (omega (arith, h))

pub found-same : (set closed : Resolve) (is : List Interface) (ps qs : List ℕ) → AreFound set closed is ps → AreFound set closed is qs → ps ≡ qs
found-same set closed is ps qs a b = same-places ps qs (a.count ∙ sym b.count) each
  where
    each : (k : ℕ) → k < length ps → get_or ps k 0 ≡ get_or qs k 0
    each k l = let i = one-of is k (omega (arith, l, a.count)) in first-same (has_name_of set closed i.0) set.interfaces _ _ (a.each k i.0 i.1) (b.each k i.0 i.1)

-- ---- the places are those of the definition

pub renaming-is : (set closed : Resolve) (j : JoinedPlaces) (a : AreJoined set closed j) → renaming_of j ≡ joined set closed a.places
renaming-is set closed j a =
    ap (λ (n : ℕ). record { packages = λ k. n; interfaces = place_in j.interfaces; worlds = place_in j.worlds; rows = place_in j.rows; keeps = λ k. true }) a.package_is
    ∙ (ap (λ (xs : List ℕ). record { packages = λ k. length set.packages; interfaces = place_in xs; worlds = place_in j.worlds; rows = place_in j.rows; keeps = λ k. true }) a.interfaces_are
    ∙ (ap (λ (xs : List ℕ). record { packages = λ k. length set.packages; interfaces = place_in (all_places a.places (length set.interfaces) (length closed.interfaces)); worlds = place_in xs; rows = place_in j.rows; keeps = λ k. true }) a.worlds_are
    ∙ ap (λ (xs : List ℕ). record {
      packages = λ k. length set.packages;
      interfaces = place_in (all_places a.places (length set.interfaces) (length closed.interfaces));
      worlds = place_in (all_places [] (length set.worlds) (length closed.worlds));
      rows = place_in xs;
      keeps = λ k. true;
    }) a.rows_are))

-- what the definition says of imports is said of these places
pub rows-as : (set closed : Resolve) (j : JoinedPlaces) (a : AreJoined set closed j) → HasImports set closed → AreRowsThere set (renaming_of j) (take j.imported closed.definitions)
rows-as set closed j a h =
    let same : h.places ≡ a.places = found-same set closed (imports closed) h.places a.places h.found a.found in
    subst (λ (n : ℕ). AreRowsThere set (renaming_of j) (take n closed.definitions)) (sym a.imported_is)
    (subst (λ (r : Renaming). AreRowsThere set r (take (length (import_rows set closed a.places)) closed.definitions)) (sym (renaming-is set closed j a))
    (subst (λ (ps : List ℕ). AreRowsThere set (joined set closed ps) (take (length (import_rows set closed ps)) closed.definitions)) same h.rows))

pub ids-as : (set closed : Resolve) (j : JoinedPlaces) (a : AreJoined set closed j) → HasImports set closed → AreIdsThere set (renaming_of j) (imports closed)
ids-as set closed j a h =
    let same : h.places ≡ a.places = found-same set closed (imports closed) h.places a.places h.found a.found in
    subst (λ (r : Renaming). AreIdsThere set r (imports closed)) (sym (renaming-is set closed j a)) (subst (λ (ps : List ℕ). AreIdsThere set (joined set closed ps) (imports closed)) same h.ids)

-- .. and the other way round
pub imports-of : (set closed : Resolve) (j : JoinedPlaces) → IsJoined set closed j → HasImports set closed
imports-of set closed j q =
    let a = q.are_joined in
    record {
      places = a.places;
      found = a.found;
      rows = subst (λ (r : Renaming). AreRowsThere set r (take (length (import_rows set closed a.places)) closed.definitions)) (renaming-is set closed j a)
          (subst (λ (n : ℕ). AreRowsThere set (renaming_of j) (take n closed.definitions)) a.imported_is q.rows);
      ids = subst (λ (r : Renaming). AreIdsThere set r (imports closed)) (renaming-is set closed j a) q.ids;
    }

-- ---- the packages that a set has

pub lacks-first : (set : Resolve) (ps : List PackageParts) (n : ℕ) (p q : PackageParts) → slice_get ps n ≡ Some p → q ≡ p → has_package set p ≡ false → ((k : ℕ) (x : PackageParts) → slice_get (take n ps) k ≡ Some x → has_package set x ≡ true)
    → LacksFirst set ps q
lacks-first set ps n p q e s l h = record {
  place = n;
  stands = e ∙ ap Some (sym s);
  lacks = ap (has_package set) s ∙ l;
  have = λ k x b z. h k x (slice_get-take n ps k b ∙ z);
}
