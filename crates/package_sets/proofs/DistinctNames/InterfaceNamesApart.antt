-- Interfaces of one package have names that differ: in a closed table, in a set with a package more, and in what is kept of a set.
use Rattle.std.proofs.Common.{◌≡◌, ◌<◌, ◌⊎◌, inl, inr, ℕ, zero, suc, ◌+◌, ◌-◌, Bool, true, false, cond, ◌||◌, List, [], ◌∷◌, ◌++◌, All, length, map, slice_get, Some, refl, ap, sym, subst, ◌∙◌, arith, true≢false, eq-eqb}
use Rattle.std.specs.Prelude.{Contains}
use Rattle.std.specs.List.{list_any}
use Rattle.canonical_abi.proofs.Traces.TracesLeaveImages.{slice_get-drop}
use Rattle.package_form.specs.Closed.{own_package, is_same_package, is_closed}
use Rattle.package_form.specs.Naming.{interface_label_of, interface_labels_of, package_scopes}
use Rattle.package_form.specs.Scope.{AreDistinct}
use Rattle.package_form.proofs.AllAndContains.{contains-here, compared, get-front}
use Rattle.package_form.proofs.FullNamesStandForInterfaces.{apart-places, packages-apart, package-there, same-itself}
use Rattle.package_form.proofs.NamesStandForOneRow.{twice-of}
use Rattle.package_form.proofs.ScopesAreDistinct.{names-distinct}
use Rattle.tables.specs.PackageNames.{PackageParts}
use Rattle.tables.specs.declared.tables.Interface.{Interface}
use Rattle.tables.specs.declared.tables.Resolve.{Resolve}
use Rattle.set_rows.specs.Moved.{put_interface}
use Rattle.package_sets.specs.SetForm.{HasNamesApart}
use Rattle.package_sets.specs.Joining.{import_count, own_interfaces}
use Rattle.package_sets.specs.Joined.{renaming_of, IsJoined}
use Rattle.package_sets.proofs.AttachedSets.PutBehind.{IsPut}
use Rattle.package_sets.specs.Attached.{IsOwn, has_package}
use Rattle.package_sets.specs.Joined.{JoinedPlaces}
use Rattle.package_sets.proofs.GrowingLists.{behind-get, map-unget}
use Rattle.package_sets.proofs.AttachedSets.OwnPartStandsBehind.{before, own-behind}
use Rattle.package_sets.proofs.KeptParts.PropertiesOfKept.{interface-in}

-- an interface is of one of the packages
-- ---- a closed table

module _ (c : Resolve) (closed : is_closed c ≡ true) (distinct : All AreDistinct (package_scopes c)) where
  one-place : (m n : ℕ) (i j : Interface) → slice_get c.interfaces m ≡ Some i → slice_get c.interfaces n ≡ Some j → i.«package».0 ≡ j.«package».0 → i.name ≡ j.name → m ≡ n
  one-place m n i j e f same name = elim (compared m n) [
    | inl q ↦ absurd (twice-of (interface_label_of i.«package».0) c.interfaces m n i j i.name q e f here there scope)
    | inr q ↦ elim q [
      | inl l ↦ absurd (twice-of (interface_label_of i.«package».0) c.interfaces n m j i i.name l f e there here scope)
      | inr l ↦ l
    ]
  ]
    where
      scope : AreDistinct (interface_labels_of c.interfaces i.«package».0)
      scope = names-distinct c distinct i.«package».0 (interface-in c m i e)

      here : Contains (interface_label_of i.«package».0 i) i.name
      here = subst (λ (b : Bool). Contains (cond b (i.name ∷ []) []) i.name) (sym (eq-eqb i.«package».0 i.«package».0 refl)) (contains-here i.name [])

      there : Contains (interface_label_of i.«package».0 j) i.name
      there = subst (λ (b : Bool). Contains (cond b (j.name ∷ []) []) i.name) (sym (eq-eqb j.«package».0 i.«package».0 (sym same)))
          (subst (λ (n : List ℕ). Contains (n ∷ []) i.name) name (contains-here i.name []))

  pub closed-apart : HasNamesApart c
  closed-apart = record {
    each = λ j k x y e f p n.
        let at = package-there c.packages x.«package».0 (interface-in c j x e) in
        one-place j k x y e f (apart-places c.packages (packages-apart c closed) x.«package».0 y.«package».0 at.0 at.1 (sym p ∙ at.1)) n;
  }

-- ---- a set with a package more

any-is : {A : Type 0} (f : A → Bool) (xs : List A) (k : ℕ) (x : A) → slice_get xs k ≡ Some x → f x ≡ true → list_any f xs ≡ false → ⊥
any-is f [] k x e h n = cc
any-is f (y ∷ xs) zero x e h n = by (f y) refl n
  where
    is : f y ≡ true
    is = let same : y ≡ x = cc in ap f same ∙ h

    by : (b : Bool) → f y ≡ b → list_any f (y ∷ xs) ≡ false → ⊥
    by true q z = true≢false (sym (ap (λ (c : Bool). c || list_any f xs) q) ∙ z)
    by false q z = true≢false (sym is ∙ q)
any-is f (y ∷ xs) (suc k) x e h n = by (any-is f xs k x e h) (f y) refl n
  where
    by : (list_any f xs ≡ false → ⊥) → (b : Bool) → f y ≡ b → list_any f (y ∷ xs) ≡ false → ⊥
    by rest true q z = true≢false (sym (ap (λ (c : Bool). c || list_any f xs) q) ∙ z)
    by rest false q z = rest (sym (ap (λ (c : Bool). c || list_any f xs) q) ∙ z)

module _ (s c : Resolve) (j : JoinedPlaces) (q : IsJoined s c j) (own : PackageParts) (is : IsOwn c own) (r : Resolve) (put : IsPut s c own j r) (new : has_package s own ≡ false) (set : HasNamesApart s) (closed : HasNamesApart c) where
  -- the place of an interface in the set, or in the closed table
  record IsOfSet (k : ℕ) (x : Interface) : Type 0 where
    pub at : slice_get s.interfaces k ≡ Some x
    pub named : slice_get r.packages x.«package».0 ≡ slice_get s.packages x.«package».0

  record IsOwnOne (k : ℕ) (x : Interface) : Type 0 where
    pub one : Interface
    pub place : ℕ
    pub place_is : k ≡ length s.interfaces + place
    pub at : slice_get c.interfaces (import_count c + place) ≡ Some one
    pub name : one.name ≡ x.name
    pub own_one : one.«package».0 ≡ own_package c.packages
    pub named : slice_get r.packages x.«package».0 ≡ Some own

  either : (k : ℕ) (x : Interface) → slice_get r.interfaces k ≡ Some x → IsOfSet k x ⊎ IsOwnOne k x
  either k x e = by (before s c j q k (length s.interfaces))
    where
      there : slice_get (s.interfaces ++ map (put_interface (renaming_of j)) (own_interfaces c)) k ≡ Some x
      there = ap (λ (is : List Interface). slice_get is k) (sym put.interfaces) ∙ e

      by : (k < length s.interfaces) ⊎ (length s.interfaces + (k - length s.interfaces) ≡ k) → IsOfSet k x ⊎ IsOwnOne k x
      by (inl l) =
          let at = sym (get-front s.interfaces (map (put_interface (renaming_of j)) (own_interfaces c)) k l) ∙ there in
          inl (record { at = at; named = ap (λ (ps : List PackageParts). slice_get ps x.«package».0) put.packages ∙ get-front s.packages (own ∷ []) x.«package».0 (interface-in s k x at) })
      by (inr g) =
          let m = k - length s.interfaces in
          let behind : slice_get (map (put_interface (renaming_of j)) (own_interfaces c)) m ≡ Some x =
          sym (behind-get s.interfaces (map (put_interface (renaming_of j)) (own_interfaces c)) m) ∙ (ap (slice_get (s.interfaces ++ map (put_interface (renaming_of j)) (own_interfaces c))) g ∙ there) in
          let u = map-unget (put_interface (renaming_of j)) (own_interfaces c) m x behind in
          let at : slice_get c.interfaces (import_count c + m) ≡ Some u.0 = sym (slice_get-drop (import_count c) c.interfaces m) ∙ u.1 in
          let number : x.«package».0 ≡ length s.packages = ap (λ (z : Interface). z.«package».0) (sym u.2) ∙ q.are_joined.package_is in
          inr (record {
            one = u.0;
            place = m;
            place_is = sym g;
            at = at;
            name = ap (λ (z : Interface). z.name) u.2;
            own_one = own-behind (length c.packages) 0 c.interfaces c.grouped m u.0 at;
            named = ap (λ (ps : List PackageParts). slice_get ps x.«package».0) put.packages
                ∙ (ap (slice_get (s.packages ++ own ∷ [])) (number ∙ none-more (length s.packages)) ∙ behind-get s.packages (own ∷ []) 0);
          })
        where
          none-more : (n : ℕ) → n ≡ n + 0
          none-more n = omega arith

  -- no package of the set is the own one
  not-own : (k : ℕ) (x : Interface) → IsOfSet k x → slice_get r.packages x.«package».0 ≡ Some own → ⊥
  not-own k x a e = any-is (is_same_package own) s.packages x.«package».0 own (sym a.named ∙ e) (same-itself own) new

  pub put-apart : HasNamesApart r
  put-apart = record {
    each = λ a b x y e f p n. by a b x y (either a x e) (either b y f) p n;
  }
    where
      by : (a b : ℕ) (x y : Interface) → IsOfSet a x ⊎ IsOwnOne a x → IsOfSet b y ⊎ IsOwnOne b y → slice_get r.packages x.«package».0 ≡ slice_get r.packages y.«package».0 → x.name ≡ y.name → a ≡ b
      by a b x y (inl u) (inl v) p n = set.each a b x y u.at v.at (sym u.named ∙ (p ∙ v.named)) n
      by a b x y (inl u) (inr v) p n = absurd (not-own a x u (p ∙ v.named))
      by a b x y (inr u) (inl v) p n = absurd (not-own b y v (sym p ∙ u.named))
      by a b x y (inr u) (inr v) p n =
          let same = closed.each (import_count c + u.place) (import_count c + v.place) u.one v.one u.at v.at (ap (slice_get c.packages) (u.own_one ∙ sym v.own_one)) (u.name ∙ (n ∙ sym v.name)) in
          omega (arith, u.place_is, v.place_is, same)
