-- In a set with a package more each package stands behind those that it names.
use Rattle.std.proofs.Common.{◌≡◌, ◌≤◌, ◌<◌, ◌⊎◌, inl, inr, ℕ, zero, suc, ◌+◌, ◌-◌, true, List, [], ◌∷◌, ◌++◌, length, map, get_or, slice_get, Option, None, Some, refl, ap, sym, subst, ◌∙◌, arith}
use Rattle.std.specs.Prelude.{flat_map, Contains}
use Rattle.std.specs.Option.{option_map}
use Rattle.std.proofs.lemmas.Bool.{ltb-true}
use Rattle.std.proofs.lemmas.List.{length-append, length-map}
use Rattle.std.proofs.lemmas.Option.{slice_get_within, slice_get-get_or, get_or_from_slice_get}
use Rattle.package_form.proofs.AllAndContains.{contains-either, contains-map, contains-unmap, get-front}
use Rattle.tables.specs.Tables.{is_placed_item}
use Rattle.tables.specs.PackageNames.{PackageParts}
use Rattle.tables.proofs.NamesEarlierTypes.{grouped-at}
use Rattle.tables.specs.declared.tables.Owner.{Owner}
use Rattle.tables.specs.declared.tables.Owner.TheVariants as owner
use Rattle.tables.specs.declared.tables.Definition.{Definition}
use Rattle.tables.specs.declared.tables.Interface.{Interface}
use Rattle.tables.specs.declared.tables.World.{World}
use Rattle.tables.specs.declared.tables.WorldItem.{WorldItem}
use Rattle.tables.specs.declared.tables.WorldItemKind.{WorldItemKind}
use Rattle.tables.specs.declared.tables.WorldItemKind.TheVariants as item
use Rattle.tables.specs.declared.tables.Resolve.{Resolve}
use Rattle.set_rows.specs.Owners.{owners, names}
use Rattle.set_rows.specs.Reaches.{item_owners, owners_in, owner_at, named_owners}
use Rattle.set_rows.specs.Moved.{Renaming, put_interface, put_world}
use Rattle.package_sets.specs.Restricted.{number_or, package_of_owner, NamesEarlierPackages}
use Rattle.package_sets.specs.Set.{IsPackageByPackage, HasRowsInForm}
use Rattle.package_sets.specs.Joining.{own_interfaces}
use Rattle.package_sets.specs.Joined.{renaming_of, IsJoined}
use Rattle.package_sets.proofs.AttachedSets.PutBehind.{IsPut}
use Rattle.package_sets.specs.Joined.{JoinedPlaces}
use Rattle.package_sets.proofs.GrowingLists.{map-get, behind-get, contains-unflat, one-there}
use Rattle.package_sets.proofs.KeptParts.PropertiesOfKept.{list-at, placed-at, worlds-grouped-at}
use Rattle.package_sets.proofs.MovedRows.WhatRowsName.{named-before}
use Rattle.package_sets.proofs.OwnedRows.EachRowHasAnOwner.{Belongs, belongs, owner-front}
use Rattle.package_sets.proofs.AttachedSets.OwnPartStandsBehind.{before, own-rows, rows-there}
use Rattle.package_sets.proofs.AttachedSets.IsPackageByPackage.{own-stand}

-- a place behind the first list
pub get-behind : {A : Type 0} (xs ys : List A) (k : ℕ) → length xs ≤ k → slice_get (xs ++ ys) k ≡ slice_get ys (k - length xs)
get-behind xs ys k l =
    let whole : length xs + (k - length xs) ≡ k = omega arith in
    ap (slice_get (xs ++ ys)) (sym whole) ∙ behind-get xs ys (k - length xs)

module _ (s c : Resolve) (j : JoinedPlaces) (q : IsJoined s c j) (own : PackageParts) (r : Resolve) (put : IsPut s c own j r) where
  abbrev to : Renaming
  to = renaming_of j

  abbrev R : List Definition
  R = rows-there s c j q

  -- ---- owners of the set

  pub front-interface : (i : ℕ) → i < length s.interfaces → slice_get r.interfaces i ≡ slice_get s.interfaces i
  front-interface i l = ap (λ (is : List Interface). slice_get is i) put.interfaces ∙ get-front s.interfaces (map (put_interface to) (own_interfaces c)) i l

  pub front-world : (w : ℕ) → w < length s.worlds → slice_get r.worlds w ≡ slice_get s.worlds w
  front-world w l = ap (λ (ws : List World). slice_get ws w) put.worlds ∙ get-front s.worlds (map (put_world to) c.worlds) w l

  same-interface : (i : ℕ) → i < length s.interfaces → package_of_owner r (Some (owner.Interface (record { 0 = i }))) ≡ package_of_owner s (Some (owner.Interface (record { 0 = i })))
  same-interface i l = ap (λ (o : Option Interface). number_or (option_map (λ x. x.«package».0) o)) (front-interface i l)

  -- an owner that the set has, which is of the package that it was
  pub record IsOfSet (o : Option Owner) : Type 0 where
    pub one : Owner
    pub is : o ≡ Some one
    pub same : package_of_owner r (Some one) ≡ package_of_owner s (Some one)

  pub set-owner : IsPackageByPackage s → (t : ℕ) (x : Definition) → slice_get s.definitions t ≡ Some x → IsOfSet (get_or (owners s.definitions) t None)
  set-owner h t x e = by (belongs s.definitions 0 0 s.interfaces 0 s.worlds h t x (omega arith) e)
    where
      by : Belongs s.definitions 0 (0 + length s.interfaces) 0 (0 + length s.worlds) t x → IsOfSet (get_or (owners s.definitions) t None)
      by (inl a) = record { one = owner.Interface (record { 0 = a.interface }); is = a.owned; same = same-interface a.interface (omega (arith, a.ends)) }
      by (inr a) = record {
        one = owner.World (record { 0 = a.world });
        is = a.owned;
        same = ap (λ (o : Option World). number_or (option_map (λ y. y.«package».0) o)) (front-world a.world (omega (arith, a.ends)));
      }

  -- a row of the set is of what it was
  pub same-owner : IsPackageByPackage s → (t : ℕ) (x : Definition) → slice_get s.definitions t ≡ Some x → get_or (owners r.definitions) t None ≡ get_or (owners s.definitions) t None
  same-owner h t x e =
      let o = set-owner h t x e in
      ap (λ (ds : List Definition). get_or (owners ds) t None) put.definitions ∙ (owner-front s.definitions (own-rows s c j q) t o.one o.is ∙ sym o.is)

  -- ---- owners of the package

  pub own-interface : (i : ℕ) → length s.interfaces ≤ i → i < length s.interfaces + length (map (put_interface to) (own_interfaces c)) → package_of_owner r (Some (owner.Interface (record { 0 = i }))) ≡ length s.packages
  own-interface i a b =
      let k = i - length s.interfaces in
      let x = one-there (own_interfaces c) k (omega (arith, a, b, length-map (own_interfaces c) (put_interface to))) in
      let at : slice_get r.interfaces i ≡ Some (put_interface to x.0) =
      ap (λ (is : List Interface). slice_get is i) put.interfaces ∙ (get-behind s.interfaces (map (put_interface to) (own_interfaces c)) i a ∙ map-get (put_interface to) (own_interfaces c) k x.0 x.1) in
      ap (λ (o : Option Interface). number_or (option_map (λ y. y.«package».0) o)) at ∙ q.are_joined.package_is

  pub own-world : (w : ℕ) → length s.worlds ≤ w → w < length s.worlds + length (map (put_world to) c.worlds) → package_of_owner r (Some (owner.World (record { 0 = w }))) ≡ length s.packages
  own-world w a b =
      let k = w - length s.worlds in
      let x = one-there c.worlds k (omega (arith, a, b, length-map c.worlds (put_world to))) in
      let at : slice_get r.worlds w ≡ Some (put_world to x.0) =
      ap (λ (ws : List World). slice_get ws w) put.worlds ∙ (get-behind s.worlds (map (put_world to) c.worlds) w a ∙ map-get (put_world to) c.worlds k x.0 x.1) in
      ap (λ (o : Option World). number_or (option_map (λ y. y.«package».0) o)) at ∙ q.are_joined.package_is

  pub own-owner : HasRowsInForm c → (t : ℕ) (x : Definition) → length s.definitions ≤ t → slice_get R t ≡ Some x → package_of_owner r (get_or (owners R) t None) ≡ length s.packages
  own-owner form t x l e =
      by (belongs R (length s.definitions) (0 + length s.interfaces) (map (put_interface to) (own_interfaces c)) (0 + length s.worlds) (map (put_world to) c.worlds) (own-stand s c j q form) t x l e)
    where
      by : Belongs R (0 + length s.interfaces) (0 + length s.interfaces + length (map (put_interface to) (own_interfaces c))) (0 + length s.worlds) (0 + length s.worlds + length (map (put_world to) c.worlds)) t x
          → package_of_owner r (get_or (owners R) t None) ≡ length s.packages
      by (inl a) = ap (package_of_owner r) a.owned ∙ own-interface a.interface (omega (arith, a.begins)) (omega (arith, a.ends))
      by (inr a) = ap (package_of_owner r) a.owned ∙ own-world a.world (omega (arith, a.begins)) (omega (arith, a.ends))

  -- the own package is the last
  pub length-packages : length r.packages ≡ length s.packages + 1
  length-packages = ap length put.packages ∙ length-append s.packages (own ∷ [])

  number-last : {A : Type 0} (number : A → ℕ) (o : Option A) → ((x : A) → o ≡ Some x → number x ≤ length s.packages) → number_or (option_map number o) ≤ length s.packages
  number-last number None h = omega arith
  number-last number (Some x) h = h x refl

  last-package : (o : Option Owner) → package_of_owner r o ≤ length s.packages
  last-package None = omega arith
  last-package (Some (owner.Interface i)) =
      number-last (λ (x : Interface). x.«package».0) (slice_get r.interfaces i.0)
      (λ x e. omega (arith, length-packages, grouped-at (length r.packages) 0 r.interfaces i.0 x r.grouped (slice_get_within r.interfaces i.0 x e) (get_or_from_slice_get r.interfaces i.0 x x e)))
  last-package (Some (owner.World w)) =
      number-last (λ (x : World). x.«package».0) (slice_get r.worlds w.0)
      (λ x e. omega (arith, length-packages, worlds-grouped-at (length r.packages) 0 r.worlds w.0 x r.worlds_grouped e))

  -- ---- rows

  abbrev AreOrdered : List Definition → Type 0
  AreOrdered ds = (k : ℕ) (d : Definition) (o : Option Owner) → slice_get ds k ≡ Some d → Contains (named_owners (owners ds) d) o → package_of_owner r o ≤ package_of_owner r (get_or (owners ds) k None)

  -- a row of the set names what it named
  set-named : IsPackageByPackage s → NamesEarlierPackages s → (k : ℕ) (d : Definition) (o : Option Owner) → slice_get s.definitions k ≡ Some d → Contains (named_owners (owners R) d) o
      → package_of_owner r o ≤ package_of_owner r (get_or (owners R) k None)
  set-named stands h k d o at names-it =
      let within = slice_get_within s.definitions k d at in
      let u = contains-unmap (owner_at (owners R)) (names d) o names-it in
      let before = named-before s.definitions k d u.0 s.earlier at u.1 in
      let x = one-there s.definitions u.0.0 (omega (arith, before, within)) in
      let there = set-owner stands u.0.0 x.0 x.1 in
      let here = set-owner stands k d at in
      let is : o ≡ Some there.one = sym u.2 ∙ owner-front s.definitions (own-rows s c j q) u.0.0 there.one there.is in
      let same : owner_at (owners s.definitions) u.0 ≡ o = there.is ∙ sym is in
      let order = h.rows k d o at (subst (λ (y : Option Owner). Contains (named_owners (owners s.definitions) d) y) same (contains-map (owner_at (owners s.definitions)) (names d) u.0 u.1)) in
      omega (
        arith,
        order,
        ap (package_of_owner r) is ∙ (there.same ∙ sym (ap (package_of_owner s) is)),
        ap (package_of_owner r) (owner-front s.definitions (own-rows s c j q) k here.one here.is) ∙ (here.same ∙ sym (ap (package_of_owner s) here.is)),
      )

  rows-ordered : IsPackageByPackage s → NamesEarlierPackages s → HasRowsInForm c → AreOrdered R
  rows-ordered stands h form k d o e names-it = by (before s c j q k (length s.definitions))
    where
      by : (k < length s.definitions) ⊎ (length s.definitions + (k - length s.definitions) ≡ k) → package_of_owner r o ≤ package_of_owner r (get_or (owners R) k None)
      by (inl l) = set-named stands h k d o (sym (get-front s.definitions (own-rows s c j q) k l) ∙ e) names-it
      by (inr g) = omega (arith, last-package o, own-owner form k d (omega (arith, g)) e)

  -- ---- items of worlds

  set-item : (w : World) (o : Option Owner) (k : WorldItemKind) (n : ℕ) → is_placed_item s.definitions (length s.interfaces) n k ≡ true → Contains (item_owners k) o → package_of_owner r o ≡ package_of_owner s o
  set-item w o (item.Function f) n p c = absurd (omega (arith, c.1))
  set-item w o (item.Interface i) n p (suc m, l, e) = absurd (omega arith)
  set-item w o (item.Interface i) n p (zero, l, e) =
      subst (λ (y : Option Owner). package_of_owner r y ≡ package_of_owner s y) e (same-interface i.0 (ltb-true i.0 (length s.interfaces) p))

  items-ordered : NamesEarlierPackages s → (w : World) (o : Option Owner) → Contains (s.worlds ++ map (put_world to) c.worlds) w → Contains (flat_map owners_in w.items) o → package_of_owner r o ≤ w.«package».0
  items-ordered h w o cw co = by (contains-either s.worlds (map (put_world to) c.worlds) w cw)
    where
      by : Contains s.worlds w ⊎ Contains (map (put_world to) c.worlds) w → package_of_owner r o ≤ w.«package».0
      by (inl a) =
          let i = contains-unflat owners_in w.items o co in
          let at : slice_get s.worlds a.0 ≡ Some w = slice_get-get_or s.worlds a.0 w a.1 ∙ ap Some a.2 in
          let placed = placed-at s.definitions (length s.interfaces) 0 s.worlds a.0 w s.worlds_placed at in
          let there : slice_get w.items i.1.0 ≡ Some i.0 = slice_get-get_or w.items i.1.0 i.0 i.1.1 ∙ ap Some i.1.2 in
          let one = list-at (λ (x : WorldItem). is_placed_item s.definitions (length s.interfaces) (0 + a.0) x.kind) w.items i.1.0 i.0 placed there in
          omega (arith, h.items w o a co, set-item w o i.0.kind (0 + a.0) one i.2)
      by (inr b) =
          let v = contains-unmap (put_world to) c.worlds w b in
          let is : w.«package».0 ≡ length s.packages = ap (λ (x : World). x.«package».0) (sym v.2) ∙ q.are_joined.package_is in
          omega (arith, last-package o, is)

  pub earlier-packages : IsPackageByPackage s → NamesEarlierPackages s → HasRowsInForm c → NamesEarlierPackages r
  earlier-packages stands h form = record {
    rows = subst (λ (ds : List Definition). AreOrdered ds) (sym put.definitions) (rows-ordered stands h form);
    items = λ w o cw co. items-ordered h w o (subst (λ (ws : List World). Contains ws w) put.worlds cw) co;
  }
