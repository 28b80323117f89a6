-- A set with a package more is in the tower, and so is a set of none.
use Rattle.std.proofs.Common.{◌≡◌, ◌≤◌, ◌<◌, ◌⊎◌, inl, inr, ℕ, zero, suc, ◌+◌, ◌-◌, Bool, true, false, not, ◌==◌, List, [], ◌∷◌, ◌++◌, length, map, take, drop, get_or, slice_get, Option, None, Some, refl, ap, sym, subst, ◌∙◌, arith, true≢false, eqb-true, eq-eqb}
use Rattle.std.specs.Prelude.{Contains, flat_map, sum}
use Rattle.std.specs.Option.{option_map}
use Rattle.std.specs.List.{list_any, items_where_true}
use Rattle.std.proofs.lemmas.Bool.Decides.{nat_tests}
use Rattle.std.proofs.lemmas.List.{get_or-map, get_or_default, get_or-take, get_or_past, length-append, length-map, length-take}
use Rattle.std.proofs.lemmas.Option.{slice_get_within, get_or_from_slice_get}
use Rattle.canonical_abi.proofs.Traces.TracesLeaveImages.{slice_get-drop}
use Rattle.package_form.specs.Closed.{own_package, has_own, is_world_of}
use Rattle.package_form.specs.Entries.{entries_of, world_entries}
use Rattle.package_form.specs.Form.{IsInPackageForm}
use Rattle.package_form.specs.Reached.{is_interface_of}
use Rattle.package_form.proofs.AllAndContains.{contains-left, contains-either, contains-unmap, contains-flat, get-front}
use Rattle.tables.proofs.ClosedTypesRowByRow.{split}
use Rattle.tables.specs.PackageNames.{PackageParts}
use Rattle.tables.specs.declared.tables.Interface.{Interface}
use Rattle.tables.specs.declared.tables.Owner.{Owner}
use Rattle.tables.specs.declared.tables.Owner.TheVariants as owner
use Rattle.tables.specs.declared.tables.Definition.{Definition}
use Rattle.tables.specs.declared.tables.World.{World}
use Rattle.tables.specs.declared.tables.TypeId.{TypeId}
use Rattle.tables.specs.declared.tables.Resolve.{Resolve}
use Rattle.package_sets.specs.Joined.{renaming_of, IsJoined}
use Rattle.package_sets.proofs.AttachedSets.PutBehind.{IsPut}
use Rattle.package_sets.specs.Joining.{import_count, own_interfaces}
use Rattle.set_rows.specs.Moved.{Renaming, put_interface, put_world, put_row}
use Rattle.set_rows.specs.Owners.{owners, names}
use Rattle.set_rows.specs.Reaches.{Marks, is_marked, own_marks, owners_in, world_owners, owner_at, named_owners, OfPackage, Reaches, of_start, of_row, AreReached}
use Rattle.package_sets.specs.Restricted.{number_or, package_of_owner}
use Rattle.package_sets.specs.Set.{HasRowsInForm}
use Rattle.package_sets.specs.SetForm.{IsInSetForm, IsEmpty}
use Rattle.package_sets.specs.Tower.{has_entry, package_entries, IsFew, IsInTower}
use Rattle.package_sets.specs.Joined.{JoinedPlaces}
use Rattle.package_sets.proofs.AttachedSets.NamesTellTheSet.{map-each}
use Rattle.package_sets.proofs.AttachedSets.OwnPartStandsBehind.{before, import-other, worlds-behind}
use Rattle.package_sets.proofs.OwnedRows.EachRowHasAnOwner.{Belongs, belongs}
use Rattle.package_sets.proofs.KeptParts.KeptWeighsAtMost.{length-weighs, covered-weighs, front-weighs}
use Rattle.package_sets.proofs.AttachedSets.ReachesItsClosedTable as covering
use Rattle.package_sets.proofs.KeptParts.TypeEntriesOfKept.{world-put, entries-put}
use Rattle.package_sets.proofs.ReachedParts.ReachesEarlierPackages.{item-of, reached-before}
use Rattle.package_sets.proofs.GrowingLists.{map-get, front-get, behind-get, one-there, get-contains}
use Rattle.package_sets.proofs.MovedRows.WhatRowsName.{named-before}
use Rattle.package_sets.proofs.AttachedSets.NamesEarlierPackages as ordering
use Rattle.set_rows.proofs.OwnersOfRows.{length-owners}
use Rattle.package_sets.proofs.OwnedRows.RowsAreOwned.{cut}
use Rattle.package_sets.proofs.AttachedSets.IsInSetForm.{none-in-form}
use Rattle.package_sets.proofs.PackageTables.TableIsInForm.{any-at, at-any, or-either, or-left, or-right}

-- ---- marks of a longer list

front-marked : {A : Type 0} (f : A → Bool) (xs ys : List A) (k : ℕ) → get_or (map f (xs ++ ys)) k true ≡ true → get_or (map f xs) k true ≡ true
front-marked f [] ys k e = refl
front-marked f (x ∷ xs) ys zero e = e
front-marked f (x ∷ xs) ys (suc k) e = front-marked f xs ys k e

marked-front : {A : Type 0} (f : A → Bool) (xs ys : List A) (k : ℕ) → k < length xs → get_or (map f xs) k true ≡ true → get_or (map f (xs ++ ys)) k true ≡ true
marked-front f [] ys k l e = absurd (omega (arith, l))
marked-front f (x ∷ xs) ys zero l e = e
marked-front f (x ∷ xs) ys (suc k) l e = marked-front f xs ys k (omega (arith, l)) e

-- the owner is one of so many interfaces or worlds
abbrev pub IsOf : Resolve → Option Owner → Type 0
IsOf s None = Unit {0}
IsOf s (Some (owner.Interface i)) = i.0 < length s.interfaces
IsOf s (Some (owner.World w)) = w.0 < length s.worlds

module _ (s c : Resolve) (j : JoinedPlaces) (q : IsJoined s c j) (own : PackageParts) (r : Resolve) (put : IsPut s c own j r) (tower : IsInTower s) (closed : IsInPackageForm c) (there : IsInSetForm r) where
  abbrev to : Renaming
  to = renaming_of j

  abbrev new : ℕ
  new = length s.packages

  form : HasRowsInForm c
  form = record { parted = closed.parted; interfaces = closed.interfaces; items = closed.worlds }

  abbrev own-put : List Interface
  own-put = map (put_interface to) (own_interfaces c)

  abbrev worlds-put : List World
  worlds-put = map (put_world to) c.worlds

  abbrev rows-put : List Definition
  rows-put = map (put_row to) (drop j.imported c.definitions)

  world-at : (k : ℕ) (w : World) → slice_get c.worlds k ≡ Some w → slice_get r.worlds (length s.worlds + k) ≡ Some (put_world to w)
  world-at k w e = ap (λ (ws : List World). slice_get ws (length s.worlds + k)) put.worlds ∙ (behind-get s.worlds worlds-put k ∙ map-get (put_world to) c.worlds k w e)

  interface-at : (k : ℕ) (i : Interface) → slice_get (own_interfaces c) k ≡ Some i → slice_get r.interfaces (length s.interfaces + k) ≡ Some (put_interface to i)
  interface-at k i e = ap (λ (is : List Interface). slice_get is (length s.interfaces + k)) put.interfaces ∙ (behind-get s.interfaces own-put k ∙ map-get (put_interface to) (own_interfaces c) k i e)

  -- ---- no package is empty

  entry-of : (id : ℕ) → (list_any (is_interface_of id) r.interfaces ≡ true) ⊎ (list_any (is_world_of id) r.worlds ≡ true) → has_entry r id ≡ true
  entry-of id (inl h) = or-left (list_any (is_interface_of id) r.interfaces) (list_any (is_world_of id) r.worlds) h
  entry-of id (inr h) = or-right (list_any (is_interface_of id) r.interfaces) (list_any (is_world_of id) r.worlds) h

  earlier-entry : (id : ℕ) → id < new → has_entry r id ≡ true
  earlier-entry id l = entry-of id (by (or-either (list_any (is_interface_of id) s.interfaces) (list_any (is_world_of id) s.worlds) (tower.entered id l)))
    where
      by : (list_any (is_interface_of id) s.interfaces ≡ true) ⊎ (list_any (is_world_of id) s.worlds ≡ true) → (list_any (is_interface_of id) r.interfaces ≡ true) ⊎ (list_any (is_world_of id) r.worlds ≡ true)
      by (inl h) =
          let a = any-at (is_interface_of id) s.interfaces h in
          inl (at-any (is_interface_of id) r.interfaces a.0 a.1 (ap (λ (is : List Interface). slice_get is a.0) put.interfaces ∙ front-get s.interfaces own-put a.0 a.1 a.2) a.3)
      by (inr h) =
          let a = any-at (is_world_of id) s.worlds h in
          inr (at-any (is_world_of id) r.worlds a.0 a.1 (ap (λ (ws : List World). slice_get ws a.0) put.worlds ∙ front-get s.worlds worlds-put a.0 a.1 a.2) a.3)

  new-entry : has_entry r new ≡ true
  new-entry = entry-of new (by (or-either (not (length c.worlds == 0)) (list_any (is_interface_of (own_package c.packages)) c.interfaces) (split (has_own (own_package c.packages) c.interfaces c.worlds) _ closed.closed).0))
    where
      some : (n : ℕ) → not (n == 0) ≡ true → 0 < n
      some n h = grind (arith, nat_tests)

      behind-imports : (k : ℕ) (i : Interface) → slice_get c.interfaces k ≡ Some i → is_interface_of (own_package c.packages) i ≡ true → (k < import_count c) ⊎ (import_count c + (k - import_count c) ≡ k) → import_count c + (k - import_count c) ≡ k
      behind-imports k i e h (inr g) = g
      behind-imports k i e h (inl l) = absurd (true≢false (sym h ∙ import-other (own_package c.packages) c.interfaces k i l e))

      by : (not (length c.worlds == 0) ≡ true) ⊎ (list_any (is_interface_of (own_package c.packages)) c.interfaces ≡ true) → (list_any (is_interface_of new) r.interfaces ≡ true) ⊎ (list_any (is_world_of new) r.worlds ≡ true)
      by (inl h) =
          let w = one-there c.worlds 0 (some (length c.worlds) h) in
          inr (at-any (is_world_of new) r.worlds (length s.worlds + 0) (put_world to w.0) (world-at 0 w.0 w.1) (eq-eqb j.«package» new q.are_joined.package_is))
      by (inr h) =
          let a = any-at (is_interface_of (own_package c.packages)) c.interfaces h in
          let k = a.0 - import_count c in
          let own-at : slice_get (own_interfaces c) k ≡ Some a.1 = slice_get-drop (import_count c) c.interfaces k ∙ (ap (slice_get c.interfaces) (behind-imports a.0 a.1 a.2 a.3 (before s c j q a.0 (import_count c))) ∙ a.2) in
          inl (at-any (is_interface_of new) r.interfaces (length s.interfaces + k) (put_interface to a.1) (interface-at k a.1 own-at) (eq-eqb j.«package» new q.are_joined.package_is))

  -- ---- what the new package reaches is of its closed table

  new-few : IsFew r new
  new-few m h = omega (arith, interfaces-few, worlds-few, rows-few, closed.entries, length-map c.interfaces (λ i. i.name))
    where
      reached-here : (o : Option Owner) → is_marked m o ≡ true → covering.IsOfClosed s c r to.interfaces o
      reached-here o e = covering.reached-here s c j q own r put tower.form closed there o (h.sound o e)

      one-interface : (k : ℕ) (x : Interface) → get_or m.interfaces k false ≡ true → slice_get r.interfaces k ≡ Some x → (t : ℕ) × (t < length c.interfaces) × (to.interfaces t ≡ k)
      one-interface k x e at =
          let l = slice_get_within r.interfaces k x at in
          reached-here (Some (owner.Interface (record { 0 = k }))) (get_or_default m.interfaces k true false (omega (arith, l, h.count)) ∙ e) l

      interfaces-few : length (items_where_true m.interfaces r.interfaces) ≤ length c.interfaces
      interfaces-few =
          omega (arith, length-weighs (items_where_true m.interfaces r.interfaces), length-weighs c.interfaces, covered-weighs (λ (x : Interface). 1) (λ (x : Interface). 1) to.interfaces m.interfaces r.interfaces c.interfaces (λ t y x e f. omega arith) one-interface)

      one-world : (k : ℕ) (x : World) → get_or (map (is_world_of new) r.worlds) k false ≡ true → slice_get r.worlds k ≡ Some x → (t : ℕ) × (t < length c.worlds) × (to.worlds t ≡ k)
      one-world k x e at =
          let l = slice_get_within r.worlds k x at in
          let marked : is_marked (own_marks r new) (Some (owner.World (record { 0 = k }))) ≡ true = get_or_default (map (is_world_of new) r.worlds) k true false (omega (arith, l, length-map r.worlds (is_world_of new))) ∙ e in
          let behind = covering.own-marked s c j q own r put tower.form closed there (Some (owner.World (record { 0 = k }))) marked l in
          let within : k - length s.worlds < length c.worlds = omega (arith, l, behind, covering.count-worlds s c j q own r put tower.form closed there) in
          (k - length s.worlds, within, worlds-behind s c j q (k - length s.worlds) within ∙ omega (arith, behind))

      world-weighs : (t : ℕ) (y x : World) → slice_get c.worlds t ≡ Some y → slice_get r.worlds (to.worlds t) ≡ Some x → world_entries x ≤ world_entries y
      world-weighs t y x e f =
          let at : slice_get r.worlds (to.worlds t) ≡ Some (put_world to y) = ap (slice_get r.worlds) (worlds-behind s c j q t (slice_get_within c.worlds t y e)) ∙ world-at t y e in
          let is : Some (put_world to y) ≡ Some x = sym at ∙ f in
          let same : put_world to y ≡ x = cc in
          omega (arith, ap world_entries same, world-put to y)

      worlds-few : sum (map world_entries (items_where_true (map (is_world_of new) r.worlds) r.worlds)) ≤ sum (map world_entries c.worlds)
      worlds-few = covered-weighs world_entries world_entries to.worlds (map (is_world_of new) r.worlds) r.worlds c.worlds world-weighs one-world

      one-row : (k : ℕ) (x : Definition) → get_or (map (is_marked m) (owners r.definitions)) k false ≡ true → slice_get r.definitions k ≡ Some x → (t : ℕ) × (t < length c.definitions) × (to.rows t ≡ k)
      one-row k x e at =
          let marked = sym (get_or-map (is_marked m) (owners r.definitions) k None false (omega (arith, slice_get_within r.definitions k x at, length-owners r.definitions))) ∙ e in
          let p = covering.placed s c j q own r put tower.form closed there k x at (reached-here (get_or (owners r.definitions) k None) marked) in
          (p.from, slice_get_within c.definitions p.from p.one p.at, p.is)

      row-weighs : (t : ℕ) (y x : Definition) → slice_get c.definitions t ≡ Some y → slice_get r.definitions (to.rows t) ≡ Some x → entries_of x ≤ entries_of y
      row-weighs t y x e f =
          let is : Some (put_row to y) ≡ Some x = sym (covering.row-at s c j q own r put tower.form closed there t y e) ∙ f in
          let same : put_row to y ≡ x = cc in
          omega (arith, ap entries_of same, entries-put to y)

      rows-few : sum (map entries_of (items_where_true (map (is_marked m) (owners r.definitions)) r.definitions)) ≤ sum (map entries_of c.definitions)
      rows-few = covered-weighs entries_of entries_of to.rows (map (is_marked m) (owners r.definitions)) r.definitions c.definitions row-weighs one-row

  -- ---- an earlier package reaches what it did

  pub same-owner : (k : ℕ) (d : Definition) → slice_get s.definitions k ≡ Some d → get_or (owners r.definitions) k None ≡ get_or (owners s.definitions) k None
  same-owner = ordering.same-owner s c j q own r put tower.form.rows.stands

  pub same-named : (k : ℕ) (d : Definition) → slice_get s.definitions k ≡ Some d → named_owners (owners r.definitions) d ≡ named_owners (owners s.definitions) d
  same-named k d at = map-each (owner_at (owners r.definitions)) (owner_at (owners s.definitions)) (names d) each
    where
      each : (n : ℕ) (u : TypeId) → slice_get (names d) n ≡ Some u → owner_at (owners r.definitions) u ≡ owner_at (owners s.definitions) u
      each n u e =
          let l = named-before s.definitions k d u s.earlier at (get-contains (names d) n u e) in
          let x = one-there s.definitions u.0 (omega (arith, l, slice_get_within s.definitions k d at)) in
          same-owner u.0 x.0 x.1

  pub owner-in : (k : ℕ) (d : Definition) → slice_get s.definitions k ≡ Some d → IsOf s (get_or (owners s.definitions) k None)
  owner-in k d e = by (belongs s.definitions 0 0 s.interfaces 0 s.worlds tower.form.rows.stands k d (omega arith) e)
    where
      by : Belongs s.definitions 0 (0 + length s.interfaces) 0 (0 + length s.worlds) k d → IsOf s (get_or (owners s.definitions) k None)
      by (inl a) = subst (λ (o : Option Owner). IsOf s o) (sym a.owned) (omega (arith, a.ends))
      by (inr a) = subst (λ (o : Option Owner). IsOf s o) (sym a.owned) (omega (arith, a.ends))

  module _ (id : ℕ) (earlier : id < new) where
    -- a world of the package is the set's
    set-world : (w : World) → Contains r.worlds w → w.«package».0 ≡ id → Contains s.worlds w
    set-world w cw is = by (contains-either s.worlds worlds-put w (subst (λ (ws : List World). Contains ws w) put.worlds cw))
      where
        by : Contains s.worlds w ⊎ Contains worlds-put w → Contains s.worlds w
        by (inl a) = a
        by (inr b) = let v = contains-unmap (put_world to) c.worlds w b in absurd (omega (arith, earlier, is, ap (λ (x : World). x.«package».0) v.2, q.are_joined.package_is))

    from-world : (t : Resolve) (w : World) (o : Option Owner) → Contains t.worlds w → w.«package».0 ≡ id → Contains (flat_map owners_in w.items) o → Contains (flat_map (world_owners id) t.worlds) o
    from-world t w o cw is co = contains-flat (world_owners id) t.worlds w o cw (own-items (eq-eqb w.«package».0 id is))
      where
        own-items : is_world_of id w ≡ true → Contains (world_owners id w) o
        own-items z = rw z co

    -- a row that is reached is the set's
    row-before : (k : ℕ) (d : Definition) → slice_get r.definitions k ≡ Some d → Reaches r (OfPackage id) (get_or (owners r.definitions) k None) → k < length s.definitions
    row-before k d e from = by (cut k (length s.definitions))
      where
        by : (k < length s.definitions) ⊎ (length s.definitions ≤ k) → k < length s.definitions
        by (inl l) = l
        by (inr g) =
            let before-it = reached-before r id there.earlier _ from in
            let is : package_of_owner r (get_or (owners r.definitions) k None) ≡ new =
            ap (λ (ds : List Definition). package_of_owner r (get_or (owners ds) k None)) put.definitions
            ∙ ordering.own-owner s c j q own r put form k d g (ap (λ (ds : List Definition). slice_get ds k) (sym put.definitions) ∙ e) in
            absurd (omega (arith, before-it, is, earlier))

    set-row : (k : ℕ) (d : Definition) → slice_get r.definitions k ≡ Some d → k < length s.definitions → slice_get s.definitions k ≡ Some d
    set-row k d e l = sym (covering.set-row s c j q own r put tower.form closed there k l) ∙ e

    start-back : (o : Option Owner) → is_marked (own_marks r id) o ≡ true → is_marked (own_marks s id) o ≡ true
    start-back None h = refl
    start-back (Some (owner.Interface i)) h = front-marked (is_interface_of id) s.interfaces own-put i.0 (subst (λ (is : List Interface). get_or (map (is_interface_of id) is) i.0 true ≡ true) put.interfaces h)
    start-back (Some (owner.World w)) h = front-marked (is_world_of id) s.worlds worlds-put w.0 (subst (λ (ws : List World). get_or (map (is_world_of id) ws) w.0 true ≡ true) put.worlds h)

    back : (o : Option Owner) → Reaches r (OfPackage id) o → Reaches s (OfPackage id) o
    back o (of_start _ e) = elim e [
      | inl h ↦ of_start o (inl (start-back o h))
      | inr h ↦ (let w = item-of id r.worlds o h in of_start o (inr (from-world s w.0 o (set-world w.0 w.1 w.2) w.2 w.3)))
    ]
    back o (of_row k d _ at from n) = row-back (back _ from)
      where
        here : slice_get s.definitions k ≡ Some d
        here = set-row k d at (row-before k d at from)

        row-back : Reaches s (OfPackage id) (get_or (owners r.definitions) k None) → Reaches s (OfPackage id) o
        row-back h = of_row k d o here (subst (λ (x : Option Owner). Reaches s (OfPackage id) x) (same-owner k d here) h) (subst (λ (os : List (Option Owner)). Contains os o) (same-named k d here) n)

    start-there : (o : Option Owner) → IsOf s o → is_marked (own_marks s id) o ≡ true → is_marked (own_marks r id) o ≡ true
    start-there None l h = refl
    start-there (Some (owner.Interface i)) l h = subst (λ (is : List Interface). get_or (map (is_interface_of id) is) i.0 true ≡ true) (sym put.interfaces) (marked-front (is_interface_of id) s.interfaces own-put i.0 l h)
    start-there (Some (owner.World w)) l h = subst (λ (ws : List World). get_or (map (is_world_of id) ws) w.0 true ≡ true) (sym put.worlds) (marked-front (is_world_of id) s.worlds worlds-put w.0 l h)

    pub reached-there : (o : Option Owner) → IsOf s o → Reaches s (OfPackage id) o → Reaches r (OfPackage id) o
    reached-there o l (of_start _ e) = elim e [
      | inl h ↦ of_start o (inl (start-there o l h))
      | inr h ↦ (let w = item-of id s.worlds o h in of_start o (inr (from-world r w.0 o (subst (λ (ws : List World). Contains ws w.0) (sym put.worlds) (contains-left s.worlds worlds-put w.0 w.1)) w.2 w.3)))
    ]
    reached-there o l (of_row k d _ at from n) =
        of_row k d o (covering.set-row s c j q own r put tower.form closed there k (slice_get_within s.definitions k d at) ∙ at)
        (subst (λ (x : Option Owner). Reaches r (OfPackage id) x) (sym (same-owner k d at)) (reached-there _ (owner-in k d at) from))
        (subst (λ (os : List (Option Owner)). Contains os o) (sym (same-named k d at)) n)

    module _ (m : Marks) (h : AreReached r (OfPackage id) m) where
      abbrev pub set-marks : Marks
      set-marks = record { interfaces = take (length s.interfaces) m.interfaces; worlds = take (length s.worlds) m.worlds }

      past : (n k : ℕ) (bs : List Bool) → n ≤ k → get_or (take n bs) k true ≡ true
      past n k bs l = get_or_past (take n bs) k true (omega (arith, l, length-take n bs))

      past-map : {A : Type 0} (f : A → Bool) (xs : List A) (k : ℕ) → length xs ≤ k → get_or (map f xs) k true ≡ true
      past-map f xs k l = get_or_past (map f xs) k true (omega (arith, l, length-map xs f))

      sound : (o : Option Owner) → is_marked set-marks o ≡ true → Reaches s (OfPackage id) o
      sound None e = of_start None (inl refl)
      sound (Some (owner.Interface i)) e = elim (cut i.0 (length s.interfaces)) [
        | inl l ↦ back (Some (owner.Interface i)) (h.sound (Some (owner.Interface i)) (sym (get_or-take (length s.interfaces) m.interfaces i.0 true l) ∙ e))
        | inr g ↦ of_start (Some (owner.Interface i)) (inl (past-map (is_interface_of id) s.interfaces i.0 g))
      ]
      sound (Some (owner.World w)) e = elim (cut w.0 (length s.worlds)) [
        | inl l ↦ back (Some (owner.World w)) (h.sound (Some (owner.World w)) (sym (get_or-take (length s.worlds) m.worlds w.0 true l) ∙ e))
        | inr g ↦ of_start (Some (owner.World w)) (inl (past-map (is_world_of id) s.worlds w.0 g))
      ]

      complete : (o : Option Owner) → Reaches s (OfPackage id) o → is_marked set-marks o ≡ true
      complete None z = refl
      complete (Some (owner.Interface i)) z = elim (cut i.0 (length s.interfaces)) [
        | inl l ↦ get_or-take (length s.interfaces) m.interfaces i.0 true l ∙ h.complete (Some (owner.Interface i)) (reached-there (Some (owner.Interface i)) l z)
        | inr g ↦ past (length s.interfaces) i.0 m.interfaces g
      ]
      complete (Some (owner.World w)) z = elim (cut w.0 (length s.worlds)) [
        | inl l ↦ get_or-take (length s.worlds) m.worlds w.0 true l ∙ h.complete (Some (owner.World w)) (reached-there (Some (owner.World w)) l z)
        | inr g ↦ past (length s.worlds) w.0 m.worlds g
      ]

      count : length r.interfaces ≡ length s.interfaces + length own-put
      count = ap length put.interfaces ∙ length-append s.interfaces own-put

      pub set-reached : AreReached s (OfPackage id) set-marks
      set-reached = record { count = omega (arith, h.count, count, length-take (length s.interfaces) m.interfaces); sound = sound; complete = complete }

      pub one-interface : (k : ℕ) (x : Interface) → get_or m.interfaces k false ≡ true → slice_get (s.interfaces ++ own-put) k ≡ Some x → (k < length s.interfaces) × (get_or (take (length s.interfaces) m.interfaces) k false ≡ true)
      one-interface k x e at = by (cut k (length s.interfaces))
        where
          within : k < length s.interfaces + length own-put
          within = omega (arith, slice_get_within (s.interfaces ++ own-put) k x at, length-append s.interfaces own-put)

          by : (k < length s.interfaces) ⊎ (length s.interfaces ≤ k) → (k < length s.interfaces) × (get_or (take (length s.interfaces) m.interfaces) k false ≡ true)
          by (inl l) = (l, get_or-take (length s.interfaces) m.interfaces k false l ∙ e)
          by (inr g) =
              let o : Option Owner = Some (owner.Interface (record { 0 = k })) in
              let marked : is_marked m o ≡ true = get_or_default m.interfaces k true false (omega (arith, within, count, h.count)) ∙ e in
              absurd (omega (arith, earlier, reached-before r id there.earlier o (h.sound o marked), ordering.own-interface s c j q own r put k g within))

      pub one-world : (k : ℕ) (x : World) → get_or (map (is_world_of id) r.worlds) k false ≡ true → slice_get (s.worlds ++ worlds-put) k ≡ Some x → (k < length s.worlds) × (get_or (map (is_world_of id) s.worlds) k false ≡ true)
      one-world k x e at =
          let there-at : slice_get r.worlds k ≡ Some x = ap (λ (ws : List World). slice_get ws k) put.worlds ∙ at in
          let is : is_world_of id x ≡ true = ap (is_world_of id) (sym (get_or_from_slice_get r.worlds k x x there-at)) ∙ (sym (get_or-map (is_world_of id) r.worlds k x false (slice_get_within r.worlds k x there-at)) ∙ e) in
          by there-at is (cut k (length s.worlds))
        where
          by : slice_get r.worlds k ≡ Some x → is_world_of id x ≡ true → (k < length s.worlds) ⊎ (length s.worlds ≤ k) → (k < length s.worlds) × (get_or (map (is_world_of id) s.worlds) k false ≡ true)
          by there-at is (inl l) =
              let here : slice_get s.worlds k ≡ Some x = sym (get-front s.worlds worlds-put k l) ∙ at in
              (l, get_or-map (is_world_of id) s.worlds k x false l ∙ (ap (is_world_of id) (get_or_from_slice_get s.worlds k x x here) ∙ is))
          by there-at is (inr g) =
              let within = slice_get_within (s.worlds ++ worlds-put) k x at in
              let of-new = ordering.own-world s c j q own r put k g (omega (arith, within, length-append s.worlds worlds-put)) in
              let number : package_of_owner r (Some (owner.World (record { 0 = k }))) ≡ x.«package».0 = ap (λ (o : Option World). number_or (option_map (λ y. y.«package».0) o)) there-at in
              absurd (omega (arith, earlier, eqb-true x.«package».0 id is, of-new, number))

      pub one-row : (k : ℕ) (x : Definition) → get_or (map (is_marked m) (owners r.definitions)) k false ≡ true → slice_get (s.definitions ++ rows-put) k ≡ Some x
          → (k < length s.definitions) × (get_or (map (is_marked set-marks) (owners s.definitions)) k false ≡ true)
      one-row k x e at =
          let there-at : slice_get r.definitions k ≡ Some x = ap (λ (ds : List Definition). slice_get ds k) put.definitions ∙ at in
          let marked = sym (get_or-map (is_marked m) (owners r.definitions) k None false (omega (arith, slice_get_within r.definitions k x there-at, length-owners r.definitions))) ∙ e in
          let from = h.sound (get_or (owners r.definitions) k None) marked in
          let l = row-before k x there-at from in
          let here = set-row k x there-at l in (
            l,
            get_or-map (is_marked set-marks) (owners s.definitions) k None false (omega (arith, l, length-owners s.definitions))
                ∙ complete (get_or (owners s.definitions) k None) (subst (λ (o : Option Owner). Reaches s (OfPackage id) o) (same-owner k x here) (back (get_or (owners r.definitions) k None) from)),
          )

      interfaces-few : length (items_where_true m.interfaces r.interfaces) ≤ length (items_where_true set-marks.interfaces s.interfaces)
      interfaces-few =
          let fewer = front-weighs (λ (x : Interface). 1) m.interfaces set-marks.interfaces s.interfaces own-put one-interface in
          omega (arith, length-weighs (items_where_true m.interfaces (s.interfaces ++ own-put)), length-weighs (items_where_true set-marks.interfaces s.interfaces), fewer, ap (λ (is : List Interface). length (items_where_true m.interfaces is)) put.interfaces)

      worlds-few : sum (map world_entries (items_where_true (map (is_world_of id) r.worlds) r.worlds)) ≤ sum (map world_entries (items_where_true (map (is_world_of id) s.worlds) s.worlds))
      worlds-few =
          let fewer = front-weighs world_entries (map (is_world_of id) r.worlds) (map (is_world_of id) s.worlds) s.worlds worlds-put one-world in
          omega (arith, fewer, ap (λ (ws : List World). sum (map world_entries (items_where_true (map (is_world_of id) r.worlds) ws))) put.worlds)

      rows-few : sum (map entries_of (items_where_true (map (is_marked m) (owners r.definitions)) r.definitions)) ≤ sum (map entries_of (items_where_true (map (is_marked set-marks) (owners s.definitions)) s.definitions))
      rows-few =
          let fewer = front-weighs entries_of (map (is_marked m) (owners r.definitions)) (map (is_marked set-marks) (owners s.definitions)) s.definitions rows-put one-row in
          omega (arith, fewer, ap (λ (ds : List Definition). sum (map entries_of (items_where_true (map (is_marked m) (owners r.definitions)) ds))) put.definitions)

      earlier-entries : package_entries r id m ≤ 65535
      earlier-entries =
          let few : package_entries s id set-marks ≤ 65535 = tower.few id earlier set-marks set-reached in
          omega (arith, few, interfaces-few, worlds-few, rows-few)

    earlier-few : IsFew r id
    earlier-few m h = earlier-entries m h

  -- ---- all of it

  either : (id : ℕ) → id < length r.packages → (id < new) ⊎ (new ≡ id)
  either id l = by (cut id new)
    where
      by : (id < new) ⊎ (new ≤ id) → (id < new) ⊎ (new ≡ id)
      by (inl a) = inl a
      by (inr g) = inr (omega (arith, g, l, ordering.length-packages s c j q own r put))

  pub tower-there : IsInTower r
  tower-there = record {
    form = there;
    entered = λ id l. elim (either id l) [ inl a ↦ earlier-entry id a | inr e ↦ subst (λ (n : ℕ). has_entry r n ≡ true) e new-entry ];
    few = λ id l. elim (either id l) [ inl a ↦ earlier-few id a | inr e ↦ subst (λ (n : ℕ). IsFew r n) e new-few ];
  }

-- ---- a set of none

pub none-in-tower : (r : Resolve) → IsEmpty r → IsInTower r
none-in-tower r h = record {
  form = none-in-form r h;
  entered = λ id l. absurd (none id l);
  few = λ id l. absurd (none id l);
}
  where
    none : (id : ℕ) → id < length r.packages → ⊥
    none id l = omega (arith, l, ap length h.packages)
