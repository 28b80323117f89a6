-- What the package behind a set reaches there is of its closed table.
use Rattle.std.proofs.Common.{◌≡◌, ◌≤◌, ◌<◌, ◌⊎◌, inl, inr, ℕ, zero, suc, ◌+◌, ◌-◌, Bool, true, false, not, List, ◌++◌, length, map, drop, get_or, slice_get, Option, None, Some, refl, ap, sym, subst, ◌∙◌, arith, true≢false, eqb-true}
use Rattle.std.specs.Prelude.{flat_map, Contains, is_some}
use Rattle.std.specs.Option.{option_map}
use Rattle.std.proofs.lemmas.Bool.{ltb-true}
use Rattle.std.proofs.lemmas.List.{get_or-map, length-append, length-map, length-drop}
use Rattle.std.proofs.lemmas.Option.{slice_get_within, get_or_from_slice_get}
use Rattle.canonical_abi.proofs.Traces.TracesLeaveImages.{slice_get-take, slice_get-drop}
use Rattle.package_form.specs.Form.{ids_of, IsInPackageForm}
use Rattle.package_form.specs.Ends.{interfaces_end}
use Rattle.package_form.specs.Postfix.{is_unnamed, is_unnamed_row}
use Rattle.package_form.specs.References.{row_references}
use Rattle.package_form.proofs.AllAndContains.{contains-either, contains-map, contains-unmap, get-front}
use Rattle.tables.specs.Tables.{is_placed, is_placed_item}
use Rattle.tables.specs.PackageNames.{PackageParts}
use Rattle.tables.specs.declared.tables.TypeId.{TypeId}
use Rattle.tables.specs.declared.tables.TypeName.{TypeName}
use Rattle.tables.specs.declared.tables.Owner.{Owner}
use Rattle.tables.specs.declared.tables.Owner.TheVariants as owner
use Rattle.tables.specs.declared.tables.Definition.{Definition}
use Rattle.tables.specs.declared.tables.Definition.TheVariants as row
use Rattle.tables.specs.declared.tables.Interface.{Interface}
use Rattle.tables.specs.declared.tables.World.{World}
use Rattle.tables.specs.declared.tables.WorldItem.{WorldItem}
use Rattle.tables.specs.declared.tables.WorldItemKind.{WorldItemKind}
use Rattle.tables.specs.declared.tables.WorldItemKind.TheVariants as item
use Rattle.tables.specs.declared.tables.Resolve.{Resolve}
use Rattle.set_rows.specs.Owners.{owners, names}
use Rattle.tables.specs.Names.{owner_of}
use Rattle.set_rows.specs.Moved.{Renaming, put_id, put_name, put_owner, put_row, put_interface, put_item, put_item_kind, put_world}
use Rattle.set_rows.specs.Reaches.{is_marked, own_marks, item_owners, owners_in, owner_at, named_owners, OfPackage, Reaches, of_start, of_row}
use Rattle.package_sets.specs.SetForm.{IsInSetForm}
use Rattle.package_sets.specs.Joining.{import_count, own_interfaces}
use Rattle.package_sets.specs.Joined.{renaming_of, IsJoined}
use Rattle.package_sets.proofs.AttachedSets.PutBehind.{IsPut}
use Rattle.package_sets.specs.Joined.{JoinedPlaces}
use Rattle.package_sets.proofs.OwnedRows.WorldsAreApart.{part-owner}
use Rattle.package_sets.proofs.AttachedSets.OwnPartStandsBehind.{before, rows-behind, interfaces-behind, worlds-behind, row-there}
use Rattle.package_sets.proofs.OwnedRows.EachRowHasAnOwner.{Belongs, belongs, owner-some}
use Rattle.package_sets.proofs.MovedRows.IdsOfInterfaces.{id-of, id-was, id-there}
use Rattle.package_sets.proofs.KeptParts.PropertiesOfKept.{interface-in, list-at, placed-at, worlds-grouped-at}
use Rattle.package_sets.proofs.ReachedParts.ReachesEarlierPackages.{item-of}
use Rattle.package_sets.proofs.GrowingLists.{map-unget, behind-get, one-there, contains-get, contains-unflat}
use Rattle.package_sets.proofs.MovedRows.WhatRowsName.{named-before, referred-named, row-references-put, names-put, unnamed-same}
use Rattle.package_sets.proofs.AttachedSets.NamesEarlierPackages.{front-interface, front-world, same-owner}
use Rattle.package_sets.proofs.OwnedRows.RowsAreOwned.{cut, IsOwnedFrom, IsOfWorlds, rows-owned, worlds-owned, parted-worlds}
use Rattle.package_sets.proofs.OwnedRows.UnnamedRowsAreReferredTo.{IsReferred, referred}
use Rattle.package_form.specs.Closed.{is_world_of}
use Rattle.package_form.specs.Reached.{is_interface_of}

-- ---- one row

-- whose a row with a name is
named-whose : (d : Definition) → is_unnamed d ≡ false → (o : Owner) × (owner_of d ≡ Some o)
named-whose (row.Function f) h = (f.owner, refl)
named-whose (row.Type d) h = by d.name refl
  where
    by : (n : Option TypeName) → d.name ≡ n → (o : Owner) × (option_map (λ x. owner.Interface x.interface) d.name ≡ Some o)
    by None e = absurd (true≢false (sym (ap (λ (n : Option TypeName). not (is_some n)) e) ∙ h))
    by (Some n) e = (owner.Interface n.interface, ap (option_map (λ x. owner.Interface x.interface)) e)

pub owner-put : (to : Renaming) (d : Definition) (o : Owner) → owner_of d ≡ Some o → owner_of (put_row to d) ≡ Some (put_owner to o)
owner-put to (row.Function f) o e = let same : f.owner ≡ o = cc in ap (λ (x : Owner). Some (put_owner to x)) same
owner-put to (row.Type d) o e = by d.name e
  where
    by : (n : Option TypeName) → option_map (λ x. owner.Interface x.interface) n ≡ Some o → option_map (λ x. owner.Interface x.interface) (option_map (put_name to) n) ≡ Some (put_owner to o)
    by None q = absurd (cc)
    by (Some n) q = let same : owner.Interface n.interface ≡ o = cc in ap (λ (x : Owner). Some (put_owner to x)) same

-- ---- the set with the package

-- Of the closed table, if it stands there: an interface is one of the closed table's, and a world is behind the set's.
abbrev pub IsOfClosed : Resolve → Resolve → Resolve → (ℕ → ℕ) → Option Owner → Type 0
IsOfClosed s c r to None = Unit {0}
IsOfClosed s c r to (Some (owner.Interface i)) = i.0 < length r.interfaces → (t : ℕ) × (t < length c.interfaces) × (to t ≡ i.0)
IsOfClosed s c r to (Some (owner.World w)) = w.0 < length r.worlds → length s.worlds ≤ w.0

-- the row at place k is the closed table's at another
pub record IsPlaced (c : Resolve) (to : ℕ → ℕ) (k : ℕ) : Type 0 where
  pub from : ℕ
  pub one : Definition
  pub at : slice_get c.definitions from ≡ Some one
  pub is : to from ≡ k

module _ (s c : Resolve) (j : JoinedPlaces) (q : IsJoined s c j) (own : PackageParts) (r : Resolve) (put : IsPut s c own j r) (set : IsInSetForm s) (closed : IsInPackageForm c) (there : IsInSetForm r) where
  abbrev to : Renaming
  to = renaming_of j

  abbrev IsHere : Option Owner → Type 0
  IsHere o = IsOfClosed s c r to.interfaces o

  pub row-at : (t : ℕ) (d : Definition) → slice_get c.definitions t ≡ Some d → slice_get r.definitions (to.rows t) ≡ Some (put_row to d)
  row-at t d e = ap (λ (ds : List Definition). slice_get ds (to.rows t)) put.definitions ∙ row-there s c j q t d e

  pub set-row : (k : ℕ) → k < length s.definitions → slice_get r.definitions k ≡ slice_get s.definitions k
  set-row k l = ap (λ (ds : List Definition). slice_get ds k) put.definitions ∙ get-front s.definitions (map (put_row to) (drop j.imported c.definitions)) k l

  count-interfaces : length r.interfaces ≡ length s.interfaces + length (own_interfaces c)
  count-interfaces =
      ap length put.interfaces ∙ (length-append s.interfaces (map (put_interface to) (own_interfaces c)) ∙ ap (λ n. length s.interfaces + n) (length-map (own_interfaces c) (put_interface to)))

  pub count-worlds : length r.worlds ≡ length s.worlds + length c.worlds
  count-worlds = ap length put.worlds ∙ (length-append s.worlds (map (put_world to) c.worlds) ∙ ap (λ n. length s.worlds + n) (length-map c.worlds (put_world to)))

  -- an interface behind the set's is one of the closed table's
  own-here : (a : ℕ) → length s.interfaces ≤ a → a < length r.interfaces → (t : ℕ) × (t < length c.interfaces) × (to.interfaces t ≡ a)
  own-here a l m =
      let k = a - length s.interfaces in
      let within : k < length (own_interfaces c) = omega (arith, l, m, count-interfaces) in
      (import_count c + k, omega (arith, within, length-drop (import_count c) c.interfaces), interfaces-behind s c j q k within ∙ omega (arith, l))

  -- ---- whose a row is that is put there

  pub closed-owner : (t : ℕ) (d : Definition) → slice_get c.definitions t ≡ Some d → IsOwnedFrom 0 (0 + length c.interfaces) (owner_of d) ⊎ IsOfWorlds (0 + length c.worlds) (owner_of d)
  closed-owner t d e = by (cut t (interfaces_end 0 c.interfaces))
    where
      by : (t < interfaces_end 0 c.interfaces) ⊎ (interfaces_end 0 c.interfaces ≤ t) → IsOwnedFrom 0 (0 + length c.interfaces) (owner_of d) ⊎ IsOfWorlds (0 + length c.worlds) (owner_of d)
      by (inl l) = inl (rows-owned c.definitions 0 0 c.interfaces closed.interfaces t d (omega arith) l e)
      by (inr g) =
          inr (worlds-owned c.definitions (length c.definitions) 0 (interfaces_end 0 c.interfaces) c.worlds (parted-worlds (length c.definitions) 0 c.interfaces c.worlds closed.parted) closed.worlds t d g (slice_get_within c.definitions t d e) e)

  put-here : (o : Owner) → IsOwnedFrom 0 (0 + length c.interfaces) (Some o) ⊎ IsOfWorlds (0 + length c.worlds) (Some o) → IsHere (Some (put_owner to o))
  put-here (owner.Interface i) (inl h) = λ l. (i.0, omega (arith, h.1), refl)
  put-here (owner.Interface i) (inr h) = absurd h
  put-here (owner.World w) (inl h) = absurd h
  put-here (owner.World w) (inr h) = λ l. omega (arith, worlds-behind s c j q w.0 (omega (arith, h)))

  -- a row without a name is of what the row is of that refers to it
  row-here-from : (n x : ℕ) (d : Definition) → length c.definitions ≤ x + n → slice_get c.definitions x ≡ Some d → IsHere (get_or (owners r.definitions) (to.rows x) None)
  row-here-from zero x d l e = absurd (omega (arith, l, slice_get_within c.definitions x d e))
  row-here-from (suc n) x d l e = by (is_unnamed d) refl (λ y f m g. row-here-from n y f m g)
    where
      by : (b : Bool) → is_unnamed d ≡ b → ((y : ℕ) (f : Definition) → length c.definitions ≤ y + n → slice_get c.definitions y ≡ Some f → IsHere (get_or (owners r.definitions) (to.rows y) None))
          → IsHere (get_or (owners r.definitions) (to.rows x) None)
      by false u rest =
          let o = named-whose d u in
          let is = owner-some r.definitions (to.rows x) (put_row to d) (put_owner to o.0) (row-at x d e) (owner-put to d o.0 o.1) in
          subst (λ (p : Option Owner). IsHere p) (sym is)
          (put-here o.0 (subst (λ (p : Option Owner). IsOwnedFrom 0 (0 + length c.interfaces) p ⊎ IsOfWorlds (0 + length c.worlds) p) o.1 (closed-owner x d e)))
      by true u rest =
          let f = referred c.definitions closed.postfix x d e u in
          let it : TypeId = record { 0 = to.rows x } in
          let refers : Contains (row_references (put_row to f.one)) it = subst (λ (ts : List TypeId). Contains ts it) (sym (row-references-put to f.one)) (contains-map (put_id to) (row_references f.one) (record { 0 = x }) f.refers) in
          let unnamed : is_unnamed_row (slice_get r.definitions (to.rows x)) ≡ true = ap is_unnamed_row (row-at x d e) ∙ (unnamed-same to d ∙ u) in
          let same = part-owner r.definitions there.postfix r.earlier (to.rows f.place) (put_row to f.one) it (row-at f.place f.one f.at) refers unnamed in
          subst (λ (p : Option Owner). IsHere p) (sym same) (rest f.place f.one (omega (arith, l, f.later)) f.at)

  row-here : (x : ℕ) (d : Definition) → slice_get c.definitions x ≡ Some d → IsHere (get_or (owners r.definitions) (to.rows x) None)
  row-here x d e = row-here-from (length c.definitions) x d (omega arith) e

  -- ---- a row of an import is one of the closed table's

  referred-placed : (k : ℕ) (f : IsReferred s.definitions k) → IsPlaced c to.rows f.place → IsPlaced c to.rows k
  referred-placed k f p =
      let is : Some (put_row to p.one) ≡ Some f.one =
      sym (row-at p.from p.one p.at) ∙ (ap (slice_get r.definitions) p.is ∙ (set-row f.place (slice_get_within s.definitions f.place f.one f.at) ∙ f.at)) in
      let same : put_row to p.one ≡ f.one = cc in
      let it : TypeId = record { 0 = k } in
      let there : Contains (row_references (put_row to p.one)) it = subst (λ (x : Definition). Contains (row_references x) it) (sym same) f.refers in
      let v = contains-unmap (put_id to) (row_references p.one) it (subst (λ (ts : List TypeId). Contains ts it) (row-references-put to p.one) there) in
      let before-it = named-before c.definitions p.from p.one v.0 c.earlier p.at (referred-named p.one v.0 v.1) in
      let x = one-there c.definitions v.0.0 (omega (arith, before-it, slice_get_within c.definitions p.from p.one p.at)) in
      record { from = v.0.0; one = x.0; at = x.1; is = ap (λ (t : TypeId). t.0) v.2 }

  id-placed : (k : ℕ) (d : Definition) → slice_get s.definitions k ≡ Some d → is_unnamed d ≡ false → (a t : ℕ) → get_or (owners s.definitions) k None ≡ Some (owner.Interface (record { 0 = a })) → t < length c.interfaces → to.interfaces t ≡ a
      → IsPlaced c to.rows k
  id-placed k d e u a t o l number =
      let whose = named-whose d u in
      let owned : owner_of d ≡ Some (owner.Interface (record { 0 = a })) = whose.1 ∙ (sym (owner-some s.definitions k d whose.0 e whose.1) ∙ o) in
      let id = id-of s.definitions 0 0 s.interfaces 0 s.worlds set.rows.stands k d (omega arith) e (ap not u) a owned in
      let i = one-there c.interfaces t l in
      let found = q.ids t i.0 (slice_get-take (import_count c) c.interfaces t (is-import (slice_get_within s.interfaces id.place id.one id.at) id.number (before s c j q t (import_count c))) ∙ i.1) in
      let at : id.place ≡ to.interfaces t = omega (arith, id.number, number) in
      let one : Some id.one ≡ Some found.0 = sym id.at ∙ (ap (slice_get s.interfaces) at ∙ found.1) in
      let same : id.one ≡ found.0 = cc in
      let was = id-was to i.0 found.0 found.2 k (subst (λ (x : Interface). Contains (ids_of x) k) same id.has) in
      let y = id-there c.definitions i.0 (list-at (is_placed c.definitions) c.interfaces t i.0 c.placed i.1) was.0 was.1 in
      record { from = was.0; one = y.0; at = y.1; is = was.2 }
    where
      is-import : {n : ℕ} → n < length s.interfaces → 0 + n ≡ a → (t < import_count c) ⊎ (import_count c + (t - import_count c) ≡ t) → t < import_count c
      is-import b e (inl m) = m
      is-import b e (inr g) =
          let within : t - import_count c < length (own_interfaces c) = omega (arith, l, g, length-drop (import_count c) c.interfaces) in
          absurd (omega (arith, b, e, number, ap to.interfaces (sym g), interfaces-behind s c j q (t - import_count c) within))

  placed-from : (n k : ℕ) (d : Definition) → length s.definitions ≤ k + n → slice_get s.definitions k ≡ Some d → (a t : ℕ) → get_or (owners s.definitions) k None ≡ Some (owner.Interface (record { 0 = a }))
      → t < length c.interfaces → to.interfaces t ≡ a → IsPlaced c to.rows k
  placed-from zero k d m e a t o l number = absurd (omega (arith, m, slice_get_within s.definitions k d e))
  placed-from (suc n) k d m e a t o l number = by (is_unnamed d) refl (λ y f b g p. placed-from n y f b g a t p l number)
    where
      by : (b : Bool) → is_unnamed d ≡ b
          → ((y : ℕ) (f : Definition) → length s.definitions ≤ y + n → slice_get s.definitions y ≡ Some f → get_or (owners s.definitions) y None ≡ Some (owner.Interface (record { 0 = a })) → IsPlaced c to.rows y) → IsPlaced c to.rows k
      by false u rest = id-placed k d e u a t o l number
      by true u rest =
          let f = referred s.definitions set.postfix k d e u in
          let same = part-owner s.definitions set.postfix s.earlier f.place f.one (record { 0 = k }) f.at f.refers (ap is_unnamed_row e ∙ u) in
          referred-placed k f (rest f.place f.one (omega (arith, m, f.later)) f.at (sym same ∙ o))

  pub placed : (k : ℕ) (d : Definition) → slice_get r.definitions k ≡ Some d → IsHere (get_or (owners r.definitions) k None) → IsPlaced c to.rows k
  placed k d e here = by (before s c j q k (length s.definitions))
    where
      of-set : slice_get s.definitions k ≡ Some d → Belongs s.definitions 0 (0 + length s.interfaces) 0 (0 + length s.worlds) k d → IsPlaced c to.rows k
      of-set at (inl a) =
          let h = subst (λ (p : Option Owner). IsHere p) (same-owner s c j q own r put set.rows.stands k d at ∙ a.owned) here in
          let t = h (omega (arith, a.ends, count-interfaces)) in
          placed-from (length s.definitions) k d (omega arith) at a.interface t.0 a.owned t.1 t.2
      of-set at (inr a) =
          let h = subst (λ (p : Option Owner). IsHere p) (same-owner s c j q own r put set.rows.stands k d at ∙ a.owned) here in
          absurd (omega (arith, h (omega (arith, a.ends, count-worlds)), a.ends))

      by : (k < length s.definitions) ⊎ (length s.definitions + (k - length s.definitions) ≡ k) → IsPlaced c to.rows k
      by (inl l) =
          let at : slice_get s.definitions k ≡ Some d = sym (set-row k l) ∙ e in
          of-set at (belongs s.definitions 0 0 s.interfaces 0 s.worlds set.rows.stands k d (omega arith) at)
      by (inr g) =
          let m = k - length s.definitions in
          let behind : slice_get (map (put_row to) (drop j.imported c.definitions)) m ≡ Some d =
          sym (behind-get s.definitions (map (put_row to) (drop j.imported c.definitions)) m)
          ∙ (ap (slice_get (s.definitions ++ map (put_row to) (drop j.imported c.definitions))) g ∙ (ap (λ (ds : List Definition). slice_get ds k) (sym put.definitions) ∙ e)) in
          let u = map-unget (put_row to) (drop j.imported c.definitions) m d behind in
          record {
            from = j.imported + m;
            one = u.0;
            at = sym (slice_get-drop j.imported c.definitions m) ∙ u.1;
            is = rows-behind s c j q m (slice_get_within (drop j.imported c.definitions) m u.0 u.1) ∙ g;
          }

  -- ---- what the package reaches

  abbrev new : ℕ
  new = length s.packages

  pub own-marked : (o : Option Owner) → is_marked (own_marks r new) o ≡ true → IsHere o
  own-marked None h = tt
  own-marked (Some (owner.Interface i)) h = λ l. own-here i.0 (behind-set l (cut i.0 (length s.interfaces))) l
    where
      behind-set : i.0 < length r.interfaces → (i.0 < length s.interfaces) ⊎ (length s.interfaces ≤ i.0) → length s.interfaces ≤ i.0
      behind-set l (inr g) = g
      behind-set l (inl b) =
          let x = one-there r.interfaces i.0 l in
          let is : x.0.«package».0 ≡ new = eqb-true x.0.«package».0 new (ap (is_interface_of new) (sym (get_or_from_slice_get r.interfaces i.0 x.0 x.0 x.1)) ∙ (sym (get_or-map (is_interface_of new) r.interfaces i.0 x.0 true l) ∙ h)) in
          absurd (omega (arith, is, interface-in s i.0 x.0 (sym (front-interface s c j q own r put i.0 b) ∙ x.1)))
  own-marked (Some (owner.World w)) h = λ l. behind-set l (cut w.0 (length s.worlds))
    where
      behind-set : w.0 < length r.worlds → (w.0 < length s.worlds) ⊎ (length s.worlds ≤ w.0) → length s.worlds ≤ w.0
      behind-set l (inr g) = g
      behind-set l (inl b) =
          let x = one-there r.worlds w.0 l in
          let is : x.0.«package».0 ≡ new = eqb-true x.0.«package».0 new (ap (is_world_of new) (sym (get_or_from_slice_get r.worlds w.0 x.0 x.0 x.1)) ∙ (sym (get_or-map (is_world_of new) r.worlds w.0 x.0 true l) ∙ h)) in
          absurd (omega (arith, is, worlds-grouped-at (length s.packages) 0 s.worlds w.0 x.0 s.worlds_grouped (sym (front-world s c j q own r put w.0 b) ∙ x.1)))

  item-here : (o : Option Owner) (k : WorldItemKind) (n : ℕ) → is_placed_item c.definitions (length c.interfaces) n k ≡ true → Contains (item_owners (put_item_kind to k)) o → IsHere o
  item-here o (item.Function f) n p h = absurd (omega (arith, h.1))
  item-here o (item.Interface i) n p (suc m, l, e) = absurd (omega (arith, l))
  item-here o (item.Interface i) n p (zero, l, e) = subst (λ (x : Option Owner). IsHere x) e (λ b. (i.0, ltb-true i.0 (length c.interfaces) p, refl))

  items-here : (o : Option Owner) (w : World) → Contains r.worlds w → w.«package».0 ≡ new → Contains (flat_map owners_in w.items) o → IsHere o
  items-here o w cw is co = by (contains-either s.worlds (map (put_world to) c.worlds) w (subst (λ (ws : List World). Contains ws w) put.worlds cw))
    where
      by : Contains s.worlds w ⊎ Contains (map (put_world to) c.worlds) w → IsHere o
      by (inl a) = let k = contains-get s.worlds w a in absurd (omega (arith, is, worlds-grouped-at (length s.packages) 0 s.worlds k.0 w s.worlds_grouped k.1))
      by (inr b) =
          let v = contains-unmap (put_world to) c.worlds w b in
          let at = contains-get c.worlds v.0 v.1 in
          let i = contains-unflat owners_in (map (put_item to) v.0.items) o (subst (λ (x : World). Contains (flat_map owners_in x.items) o) (sym v.2) co) in
          let x = contains-unmap (put_item to) v.0.items i.0 i.1 in
          let spot = contains-get v.0.items x.0 x.1 in
          let all = placed-at c.definitions (length c.interfaces) 0 c.worlds at.0 v.0 c.worlds_placed at.1 in
          let one = list-at (λ (y : WorldItem). is_placed_item c.definitions (length c.interfaces) (0 + at.0) y.kind) v.0.items spot.0 x.0 all spot.1 in
          item-here o x.0.kind (0 + at.0) one (subst (λ (y : WorldItem). Contains (owners_in y) o) (sym x.2) i.2)

  named-here : (k : ℕ) (d : Definition) (o : Option Owner) → slice_get r.definitions k ≡ Some d → Contains (named_owners (owners r.definitions) d) o → IsPlaced c to.rows k → IsHere o
  named-here k d o e names-it p =
      let is : Some (put_row to p.one) ≡ Some d = sym (row-at p.from p.one p.at) ∙ (ap (slice_get r.definitions) p.is ∙ e) in
      let same : put_row to p.one ≡ d = cc in
      let u = contains-unmap (owner_at (owners r.definitions)) (names d) o names-it in
      let v = contains-unmap (put_id to) (names p.one) u.0 (subst (λ (ts : List TypeId). Contains ts u.0) (names-put to p.one) (subst (λ (x : Definition). Contains (names x) u.0) (sym same) u.1)) in
      let before-it = named-before c.definitions p.from p.one v.0 c.earlier p.at v.1 in
      let x = one-there c.definitions v.0.0 (omega (arith, before-it, slice_get_within c.definitions p.from p.one p.at)) in
      subst (λ (y : Option Owner). IsHere y) (ap (owner_at (owners r.definitions)) v.2 ∙ u.2) (row-here v.0.0 x.0 x.1)

  pub reached-here : (o : Option Owner) → Reaches r (OfPackage new) o → IsHere o
  reached-here o (of_start _ e) = elim e [ inl h ↦ own-marked o h | inr h ↦ (let w = item-of new r.worlds o h in items-here o w.0 w.1 w.2 w.3) ]
  reached-here o (of_row k d _ at from names-it) = named-here k d o at names-it (placed k d at (reached-here _ from))
