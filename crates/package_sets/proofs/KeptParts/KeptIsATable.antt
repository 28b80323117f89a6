-- What is kept of a set is a table, and what it tells.
use Rattle.std.proofs.Common.{◌≡◌, ◌≤◌, ◌<◌, inl, inr, ℕ, suc, ◌+◌, Bool, true, false, ◌&&◌, nat_lt, List, [], ◌∷◌, length, get_or, slice_get, map, Option, None, Some, refl, ap, sym, subst, ◌∙◌, arith, true≢false, IsTrue, eqb-true, eq-eqb}
use Rattle.std.specs.Prelude.{Contains}
use Rattle.std.specs.List.{list_all, items_where_true}
use Rattle.std.proofs.lemmas.Bool.{ltb-true, lt-ltb}
use Rattle.std.proofs.lemmas.List.{get_or-map, get_or_default, length-map}
use Rattle.std.proofs.lemmas.Option.{slice_get_within, get_or_from_slice_get}
use Rattle.std.proofs.lemmas.List.Elements.{Contains-append_right}
use Rattle.package_form.specs.References.{type_references}
use Rattle.package_form.proofs.AllAndContains.{contains-map, contains-flat}
use Rattle.tables.specs.Tables.{is_below, definition_all, are_earlier, is_type, name_types, is_standard, are_standard, function_of, type_of, is_there as is_some, is_type_id, is_function_id, is_placed, are_placed, are_grouped, are_worlds_grouped, is_owner_world, is_function_of, is_placed_item, is_placed_world, are_placed_worlds}
use Rattle.tables.proofs.ClosedTypesRowByRow.{split, both}
use Rattle.tables.proofs.NamesEarlierTypes.{definition-both, grouped-at}
use Rattle.tables.specs.declared.tables.TypeId.{TypeId}
use Rattle.tables.specs.declared.tables.FunctionId.{FunctionId}
use Rattle.tables.specs.declared.tables.InterfaceId.{InterfaceId}
use Rattle.tables.specs.declared.tables.ValType.{ValType}
use Rattle.tables.specs.declared.tables.ValType.TheVariants as val
use Rattle.tables.specs.declared.tables.Owner.{Owner}
use Rattle.tables.specs.declared.tables.Owner.TheVariants as owner
use Rattle.tables.specs.declared.tables.Function.{Function}
use Rattle.tables.specs.declared.tables.Definition.{Definition}
use Rattle.tables.specs.declared.tables.Definition.TheVariants as row
use Rattle.tables.specs.declared.tables.Interface.{Interface}
use Rattle.tables.specs.declared.tables.World.{World}
use Rattle.tables.specs.declared.tables.WorldItem.{WorldItem}
use Rattle.tables.specs.declared.tables.WorldItemKind.{WorldItemKind}
use Rattle.tables.specs.declared.tables.WorldItemKind.TheVariants as item
use Rattle.tables.specs.declared.tables.Resolve.{Resolve}
use Rattle.set_rows.specs.Owners.{owners, names}
use Rattle.tables.specs.Names.{owner_of}
use Rattle.set_rows.specs.Places.{place}
use Rattle.set_rows.specs.Reaches.{is_marked, item_owners, owners_in, owner_at}
use Rattle.set_rows.specs.Renamed.{renaming}
use Rattle.set_rows.specs.Moved.{put_id, put_val, put_owner, put_row, put_function_id, has_type, has_function, put_interface, put_item, put_item_kind, put_world}
use Rattle.package_sets.specs.Part.{of_world, IsPart}
use Rattle.set_rows.specs.declared.moved.Moved.{Moved}
use Rattle.set_rows.proofs.KeptElementsAndPlaces.{kept-at, length-kept, place-before}
use Rattle.package_sets.proofs.KeptParts.PropertiesOfKept.{list-at, list-kept, list-filter, grouped-kept, worlds-grouped-kept, worlds-grouped-at}
use Rattle.package_sets.proofs.MovedRows.WhatRowsName.{definition-all, named-before, definition-put, standard-put}
use Rattle.package_sets.proofs.GrowingLists.{map-get}
use Rattle.package_sets.proofs.OwnedRows.EachRowHasAnOwner.{owner-some, one-later}
use Rattle.set_rows.proofs.OwnersOfRows.{length-owners}
use Rattle.set_rows.proofs.PlacesOfMarked.{place-none, place-yes, place-no}
use Rattle.package_sets.proofs.KeptParts.KeptRowsKeepMeaning.{is_there, is_kept, AreRight, AllRight, AreMarksFrom, marks-here, marks-next}

all-right : (has : Option Owner → Bool) (bs : List Bool) (n : ℕ) (ds : List Definition) → ((k : ℕ) (d : Definition) → slice_get ds k ≡ Some d → AreRight has bs (n + k) d) → AllRight has bs n ds
all-right has bs n [] h = tt
all-right has bs n (d ∷ ds) h = (
  subst (λ m. AreRight has bs m d) (omega arith) (h 0 d refl),
  all-right has bs (n + 1) ds (λ k c e. subst (λ m. AreRight has bs m c) (at k) (h (suc k) c e)),
)
  where
    at : (k : ℕ) → n + suc k ≡ n + 1 + k
    at k = omega arith

module _ (s : Resolve) (to : Moved) (n : IsPart s to) where
  marked : Option Owner → Bool
  marked = is_marked n.marks

  -- a row is kept just where its owner is reached
  pub mark-at : (k : ℕ) → k < length s.definitions → get_or to.rows k false ≡ is_marked n.marks (get_or (owners s.definitions) k None)
  mark-at k h = ap (λ (bs : List Bool). get_or bs k false) n.rows_are ∙ get_or-map (is_marked n.marks) (owners s.definitions) k None false (omega (arith, h, length-owners s.definitions))

  -- what a row that is kept names is kept
  pub closed : (k : ℕ) (d : Definition) → slice_get s.definitions k ≡ Some d → get_or to.rows k false ≡ true → (t : TypeId) → Contains (names d) t → get_or to.rows t.0 false ≡ true
  closed k d e h t c =
      let within : k < length s.definitions = slice_get_within s.definitions k d e in
      let earlier = named-before s.definitions k d t s.earlier e c in
      mark-at t.0 (omega arith) ∙ n.named k d (owner_at (owners s.definitions) t) e (sym (mark-at k within) ∙ h) (contains-map (owner_at (owners s.definitions)) (names d) t c)

  there-all : (k : ℕ) (d : Definition) → slice_get s.definitions k ≡ Some d → get_or to.rows k false ≡ true → definition_all (is_there to.rows) d ≡ true
  there-all k d e h = definition-all (is_there to.rows) primitive d (closed k d e h)
    where
      primitive : (v : ValType) → type_references v ≡ [] → is_there to.rows v ≡ true
      primitive (val.Primitive p) q = refl
      primitive val.String q = refl
      primitive (val.Id t) q = absurd (cc)

  pub kept-all : (k m : ℕ) (d : Definition) → k ≤ m → slice_get s.definitions k ≡ Some d → get_or to.rows k false ≡ true → definition_all (is_kept to.rows m) d ≡ true
  kept-all k m d l e h =
      definition-both (is_below m) (is_there to.rows) d
      ∙ both (definition_all (is_below m) d) (definition_all (is_there to.rows) d) (definition-all (is_below m) primitive d (λ t c. lt-ltb t.0 m (omega (arith, l, named-before s.definitions k d t s.earlier e c)))) (there-all k d e h)
    where
      primitive : (v : ValType) → type_references v ≡ [] → is_below m v ≡ true
      primitive (val.Primitive p) q = refl
      primitive val.String q = refl
      primitive (val.Id t) q = absurd (cc)

  pub right : (k : ℕ) (d : Definition) → slice_get s.definitions k ≡ Some d → AreRight (is_marked n.marks) to.rows k d
  right k d e = by (owner_of d) refl
    where
      within : k < length s.definitions
      within = slice_get_within s.definitions k d e

      by : (o : Option Owner) → owner_of d ≡ o → AreRight (is_marked n.marks) to.rows k d
      by None q = record { owned = λ h. ap (is_marked n.marks) q; named = λ h. kept-all k k d (omega arith) e h; without = λ h. inr q }
      by (Some x) q =
          let at : get_or to.rows k false ≡ is_marked n.marks (owner_of d) = mark-at k within ∙ ap (is_marked n.marks) (owner-some s.definitions k d x e q ∙ sym q) in
          record { owned = λ h. sym at ∙ h; named = λ h. kept-all k k d (omega arith) e h; without = λ h. inl (sym at ∙ h) }

  pub rights : AllRight (is_marked n.marks) to.rows 0 s.definitions
  rights = all-right (is_marked n.marks) to.rows 0 s.definitions (λ k d e. subst (λ m. AreRight (is_marked n.marks) to.rows m d) (omega arith) (right k d e))

  pub count-rows : length to.rows ≡ length s.definitions
  count-rows = ap length n.rows_are ∙ (length-map (owners s.definitions) (is_marked n.marks) ∙ length-owners s.definitions)

  -- ---- the table's own facts, of these parts

  abbrev rows-there : List Definition
  rows-there = map (put_row (renaming to)) (items_where_true to.rows s.definitions)

  pub type-there : (t : TypeId) → is_type_id s.definitions t ≡ true → get_or to.rows t.0 false ≡ true → is_type_id rows-there (put_id (renaming to) t) ≡ true
  type-there t h k = by (slice_get s.definitions t.0) refl h
    where
      by : (o : Option Definition) → slice_get s.definitions t.0 ≡ o → is_some (type_of o) ≡ true → is_type_id rows-there (put_id (renaming to) t) ≡ true
      by None e q = absurd (true≢false (sym q))
      by (Some (row.Function f)) e q = absurd (true≢false (sym q))
      by (Some (row.Type d)) e q = rw (map-get (put_row (renaming to)) (items_where_true to.rows s.definitions) (place to.rows t.0) (row.Type d) (kept-at to.rows s.definitions t.0 (row.Type d) k e)) refl

  pub function-there : (f : FunctionId) → is_function_id s.definitions f ≡ true → get_or to.rows f.0 false ≡ true → is_function_id rows-there (put_function_id (renaming to) f) ≡ true
  function-there f h k = by (slice_get s.definitions f.0) refl h
    where
      by : (o : Option Definition) → slice_get s.definitions f.0 ≡ o → is_some (function_of o) ≡ true → is_function_id rows-there (put_function_id (renaming to) f) ≡ true
      by None e q = absurd (true≢false (sym q))
      by (Some (row.Type d)) e q = absurd (true≢false (sym q))
      by (Some (row.Function g)) e q = rw (map-get (put_row (renaming to)) (items_where_true to.rows s.definitions) (place to.rows f.0) (row.Function g) (kept-at to.rows s.definitions f.0 (row.Function g) k e)) refl

  pub typed : name_types rows-there ≡ true
  typed = list-kept (put_row (renaming to)) (definition_all (is_type rows-there)) to.rows s.definitions each
    where
      val-there : (v : ValType) → (is_type s.definitions v && is_there to.rows v) ≡ true → is_type rows-there (put_val (renaming to) v) ≡ true
      val-there (val.Primitive p) h = refl
      val-there val.String h = refl
      val-there (val.Id t) h = let p = split (is_type_id s.definitions t) (get_or to.rows t.0 false) h in type-there t p.0 p.1

      each : (k : ℕ) (d : Definition) → get_or to.rows k false ≡ true → slice_get s.definitions k ≡ Some d → definition_all (is_type rows-there) (put_row (renaming to) d) ≡ true
      each k d h e =
          definition-put (renaming to) (λ v. is_type s.definitions v && is_there to.rows v) (is_type rows-there) val-there d
          (definition-both (is_type s.definitions) (is_there to.rows) d ∙ both _ _ (list-at (definition_all (is_type s.definitions)) s.definitions k d s.typed e) (there-all k d e h))

  pub standard : are_standard rows-there ≡ true
  standard = list-kept (put_row (renaming to)) is_standard to.rows s.definitions (λ k d h e. standard-put (renaming to) d (list-at is_standard s.definitions k d s.standard e))

  pub placed : are_placed rows-there (map (put_interface (renaming to)) (items_where_true to.interfaces s.interfaces)) ≡ true
  placed = list-kept (put_interface (renaming to)) (is_placed rows-there) to.interfaces s.interfaces each
    where
      each : (k : ℕ) (i : Interface) → get_or to.interfaces k false ≡ true → slice_get s.interfaces k ≡ Some i → is_placed rows-there (put_interface (renaming to) i) ≡ true
      each k i h e =
          let p = list-at (is_placed s.definitions) s.interfaces k i s.placed e in
          let q = split (list_all (is_type_id s.definitions) i.uses) (list_all (is_type_id s.definitions) i.types && list_all (is_function_id s.definitions) i.functions) p in
          let r = split (list_all (is_type_id s.definitions) i.types) (list_all (is_function_id s.definitions) i.functions) q.1 in
          both _ _ (list-filter (put_id (renaming to)) (has_type (renaming to)) (is_type_id s.definitions) (is_type_id rows-there) i.uses type-there q.0)
          (both _ _ (list-filter (put_id (renaming to)) (has_type (renaming to)) (is_type_id s.definitions) (is_type_id rows-there) i.types type-there r.0)
          (list-filter (put_function_id (renaming to)) (has_function (renaming to)) (is_function_id s.definitions) (is_function_id rows-there) i.functions function-there r.1))

  -- ---- packages

  pub interface-within : (k : ℕ) (i : Interface) → slice_get s.interfaces k ≡ Some i → i.«package».0 < length s.packages
  interface-within k i e = grouped-at (length s.packages) 0 s.interfaces k i s.grouped (slice_get_within s.interfaces k i e) (get_or_from_slice_get s.interfaces k i i e)

  pub world-within : (k : ℕ) (w : World) → slice_get s.worlds k ≡ Some w → w.«package».0 < length s.packages
  world-within k w e = worlds-grouped-at (length s.packages) 0 s.worlds k w s.worlds_grouped e

  count-packages : length (items_where_true to.packages s.packages) ≡ place to.packages (length to.packages)
  count-packages = length-kept to.packages s.packages (sym n.count_packages)

  package-there : (p : ℕ) → p < length s.packages → get_or to.packages p false ≡ true → place to.packages p < length (items_where_true to.packages s.packages)
  package-there p h e = omega (arith, count-packages, place-before to.packages p (length to.packages) (omega (arith, n.count_packages)) e)

  pub grouped : IsTrue (are_grouped (length (items_where_true to.packages s.packages)) 0 (map (put_interface (renaming to)) (items_where_true to.interfaces s.interfaces)))
  grouped = subst (λ m. IsTrue (are_grouped (length (items_where_true to.packages s.packages)) m (map (put_interface (renaming to)) (items_where_true to.interfaces s.interfaces)))) (place-none to.packages)
      (grouped-kept (put_interface (renaming to)) to.packages (length (items_where_true to.packages s.packages)) to.interfaces s.interfaces (length s.packages) 0 (λ i. refl)
      (λ k i h e. package-there i.«package».0 (interface-within k i e) (n.interfaces_needed k i h e)) s.grouped)

  pub worlds-grouped : IsTrue (are_worlds_grouped (length (items_where_true to.packages s.packages)) 0 (map (put_world (renaming to)) (items_where_true to.worlds s.worlds)))
  worlds-grouped = subst (λ m. IsTrue (are_worlds_grouped (length (items_where_true to.packages s.packages)) m (map (put_world (renaming to)) (items_where_true to.worlds s.worlds)))) (place-none to.packages)
      (worlds-grouped-kept (put_world (renaming to)) to.packages (length (items_where_true to.packages s.packages)) to.worlds s.worlds (length s.packages) 0 (λ w. refl)
      (λ k w h e. package-there w.«package».0 (world-within k w e) (n.worlds_needed k w h e)) s.worlds_grouped)

  -- ---- rows name earlier rows

  below-there : (k : ℕ) (v : ValType) → is_kept to.rows k v ≡ true → is_below (place to.rows k) (put_val (renaming to) v) ≡ true
  below-there k (val.Primitive p) h = refl
  below-there k val.String h = refl
  below-there k (val.Id t) h =
      let p = split (nat_lt t.0 k) (get_or to.rows t.0 false) h in
      lt-ltb (place to.rows t.0) (place to.rows k) (place-before to.rows t.0 k (ltb-true t.0 k p.0) p.1)

  earlier-from : (bs : List Bool) (k : ℕ) (ds : List Definition) → AreMarksFrom to.rows k bs → ((j : ℕ) (d : Definition) → slice_get ds j ≡ Some d → slice_get s.definitions (k + j) ≡ Some d)
      → are_earlier (place to.rows k) (map (put_row (renaming to)) (items_where_true bs ds)) ≡ true
  earlier-from [] k ds m at = refl
  earlier-from (b ∷ bs) k [] m at = refl
  earlier-from (true ∷ bs) k (d ∷ ds) m at =
      let here = marks-here to.rows k true bs m in
      let this : slice_get s.definitions k ≡ Some d = ap (slice_get s.definitions) (omega arith) ∙ at 0 d refl in
      let next : place to.rows k + 1 ≡ place to.rows (k + 1) = sym (place-yes to.rows k here) ∙ ap (place to.rows) (omega arith) in
      let rest = earlier-from bs (k + 1) ds (marks-next to.rows k (k + 1) true bs refl m) (λ j c e. ap (slice_get s.definitions) (one-later k j) ∙ at (suc j) c e) in
      both _ _ (definition-put (renaming to) (is_kept to.rows k) (is_below (place to.rows k)) (below-there k) d (kept-all k k d (omega arith) this here))
      (subst (λ x. are_earlier x (map (put_row (renaming to)) (items_where_true bs ds)) ≡ true) (sym next) rest)
  earlier-from (false ∷ bs) k (d ∷ ds) m at =
      let here = marks-here to.rows k false bs m in
      let next : place to.rows (k + 1) ≡ place to.rows k = ap (place to.rows) (omega arith) ∙ place-no to.rows k here in
      let rest = earlier-from bs (k + 1) ds (marks-next to.rows k (k + 1) false bs refl m) (λ j c e. ap (slice_get s.definitions) (one-later k j) ∙ at (suc j) c e) in
      subst (λ x. are_earlier x (map (put_row (renaming to)) (items_where_true bs ds)) ≡ true) next rest

  pub earlier : are_earlier 0 rows-there ≡ true
  earlier = subst (λ x. are_earlier x rows-there ≡ true) (place-none to.rows)
      (earlier-from to.rows 0 s.definitions (λ k. ap (λ j. get_or to.rows j false) (omega arith)) (λ j d e. ap (slice_get s.definitions) (omega arith) ∙ e))

  -- ---- worlds

  world-marked : (k : ℕ) (w : World) (o : ℕ) → get_or to.worlds k false ≡ true → slice_get s.worlds k ≡ Some w → o ≡ k → is_marked n.marks (Some (owner.World (record { 0 = o }))) ≡ true
  world-marked k w o h e q = subst (λ m. is_marked n.marks (of_world m) ≡ true) (sym q) (n.worlds_marked k (slice_get_within s.worlds k w e) h)

  -- the function of an item of a world that is kept
  pub item-function : (k : ℕ) (w : World) (f : FunctionId) (g : Function) → get_or to.worlds k false ≡ true → slice_get s.worlds k ≡ Some w → slice_get s.definitions f.0 ≡ Some (row.Function g)
      → is_owner_world k g.owner ≡ true → get_or to.rows f.0 false ≡ true
  item-function k w f g h e d q = by g.owner refl q
    where
      by : (o : Owner) → g.owner ≡ o → is_owner_world k o ≡ true → get_or to.rows f.0 false ≡ true
      by (owner.Interface i) z q = absurd (true≢false (sym q))
      by (owner.World v) z q =
          mark-at f.0 (slice_get_within s.definitions f.0 (row.Function g) d)
          ∙ (ap (is_marked n.marks) (owner-some s.definitions f.0 (row.Function g) (owner.World v) d (ap Some z)) ∙ world-marked k w v.0 h e (eqb-true v.0 k q))

  -- an interface among the items of a world that is kept
  pub item-interface : (k : ℕ) (w : World) (i : WorldItem) (j : InterfaceId) → get_or to.worlds k false ≡ true → slice_get s.worlds k ≡ Some w → Contains w.items i → i.kind ≡ item.Interface j
      → is_marked n.marks (Some (owner.Interface j)) ≡ true
  item-interface k w i j h e c q =
      n.items_marked k w (Some (owner.Interface j)) h e
      (contains-flat owners_in w.items i (Some (owner.Interface j)) c (subst (λ (x : WorldItemKind). Contains (item_owners x) (Some (owner.Interface j))) (sym q) (0, omega arith, refl)))

  pub count-interfaces : length to.interfaces ≡ length s.interfaces
  count-interfaces = ap length n.interfaces_are ∙ n.count

  -- where an interface that is marked and there stands
  pub interface-there : (j : ℕ) → j < length s.interfaces → is_marked n.marks (Some (owner.Interface (record { 0 = j }))) ≡ true → get_or to.interfaces j false ≡ true
  interface-there j h e = ap (λ (bs : List Bool). get_or bs j false) n.interfaces_are ∙ (get_or_default n.marks.interfaces j false true (omega (arith, n.count)) ∙ e)

  length-interfaces : length (map (put_interface (renaming to)) (items_where_true to.interfaces s.interfaces)) ≡ place to.interfaces (length to.interfaces)
  length-interfaces = length-map (items_where_true to.interfaces s.interfaces) (put_interface (renaming to)) ∙ length-kept to.interfaces s.interfaces (sym count-interfaces)

  item-placed : (k : ℕ) (w : World) (i : WorldItem) → get_or to.worlds k false ≡ true → slice_get s.worlds k ≡ Some w → Contains w.items i
      → is_placed_item s.definitions (length s.interfaces) k i.kind ≡ true
      → is_placed_item rows-there (length (map (put_interface (renaming to)) (items_where_true to.interfaces s.interfaces))) (place to.worlds k) (put_item_kind (renaming to) i.kind) ≡ true
  item-placed k w i h e c p = by i.kind refl p
    where
      by : (x : WorldItemKind) → i.kind ≡ x → is_placed_item s.definitions (length s.interfaces) k x ≡ true
          → is_placed_item rows-there (length (map (put_interface (renaming to)) (items_where_true to.interfaces s.interfaces))) (place to.worlds k) (put_item_kind (renaming to) x) ≡ true
      by (item.Interface j) q r =
          let within : j.0 < length s.interfaces = ltb-true j.0 (length s.interfaces) r in
          lt-ltb _ _ (omega (arith, length-interfaces, count-interfaces, place-before to.interfaces j.0 (length to.interfaces) (omega (arith, count-interfaces)) (interface-there j.0 within (item-interface k w i j h e c q))))
      by (item.Function f) q r = function (slice_get s.definitions f.0) refl r
        where
          function : (o : Option Definition) → slice_get s.definitions f.0 ≡ o → is_function_of k (function_of o) ≡ true → is_function_of (place to.worlds k) (function_of (slice_get rows-there (place to.rows f.0))) ≡ true
          function None d z = absurd (true≢false (sym z))
          function (Some (row.Type t)) d z = absurd (true≢false (sym z))
          function (Some (row.Function g)) d z =
              let there = kept-at to.rows s.definitions f.0 (row.Function g) (item-function k w f g h e d z) d in
              rw (map-get (put_row (renaming to)) (items_where_true to.rows s.definitions) (place to.rows f.0) (row.Function g) there) (owned g.owner z)
            where
              owned : (o : Owner) → is_owner_world k o ≡ true → is_owner_world (place to.worlds k) (put_owner (renaming to) o) ≡ true
              owned (owner.Interface j) y = absurd (true≢false (sym y))
              owned (owner.World v) y = eq-eqb _ _ (ap (place to.worlds) (eqb-true v.0 k y))

  items-placed : (k : ℕ) (w : World) → get_or to.worlds k false ≡ true → slice_get s.worlds k ≡ Some w → is_placed_world s.definitions (length s.interfaces) k w ≡ true
      → is_placed_world rows-there (length (map (put_interface (renaming to)) (items_where_true to.interfaces s.interfaces))) (place to.worlds k) (put_world (renaming to) w) ≡ true
  items-placed k w h e p = each w.items (λ i c. c) p
    where
      each : (is : List WorldItem) → ((i : WorldItem) → Contains is i → Contains w.items i) → list_all (λ i. is_placed_item s.definitions (length s.interfaces) k i.kind) is ≡ true
          → list_all (λ i. is_placed_item rows-there (length (map (put_interface (renaming to)) (items_where_true to.interfaces s.interfaces))) (place to.worlds k) i.kind) (map (put_item (renaming to)) is) ≡ true
      each [] sub q = refl
      each (i ∷ is) sub q =
          let r = split (is_placed_item s.definitions (length s.interfaces) k i.kind) (list_all (λ x. is_placed_item s.definitions (length s.interfaces) k x.kind) is) q in
          both _ _ (item-placed k w i h e (sub i (0, omega arith, refl)) r.0) (each is (λ x c. sub x (Contains-append_right (i ∷ []) is x c)) r.1)

  worlds-placed-from : (bs : List Bool) (k : ℕ) (ws : List World) → AreMarksFrom to.worlds k bs → ((j : ℕ) (w : World) → slice_get ws j ≡ Some w → slice_get s.worlds (k + j) ≡ Some w)
      → are_placed_worlds s.definitions (length s.interfaces) k ws ≡ true
      → are_placed_worlds rows-there (length (map (put_interface (renaming to)) (items_where_true to.interfaces s.interfaces))) (place to.worlds k) (map (put_world (renaming to)) (items_where_true bs ws)) ≡ true
  worlds-placed-from [] k ws m at p = refl
  worlds-placed-from (b ∷ bs) k [] m at p = refl
  worlds-placed-from (true ∷ bs) k (w ∷ ws) m at p =
      let here = marks-here to.worlds k true bs m in
      let this : slice_get s.worlds k ≡ Some w = ap (slice_get s.worlds) (omega arith) ∙ at 0 w refl in
      let next : place to.worlds k + 1 ≡ place to.worlds (k + 1) = sym (place-yes to.worlds k here) ∙ ap (place to.worlds) (omega arith) in
      let q = split (is_placed_world s.definitions (length s.interfaces) k w) (are_placed_worlds s.definitions (length s.interfaces) (k + 1) ws) p in
      let rest = worlds-placed-from bs (k + 1) ws (marks-next to.worlds k (k + 1) true bs refl m) (λ j c e. ap (slice_get s.worlds) (one-later k j) ∙ at (suc j) c e) q.1 in
      both _ _ (items-placed k w here this q.0)
      (subst (λ x. are_placed_worlds rows-there (length (map (put_interface (renaming to)) (items_where_true to.interfaces s.interfaces))) x (map (put_world (renaming to)) (items_where_true bs ws)) ≡ true) (sym next) rest)
  worlds-placed-from (false ∷ bs) k (w ∷ ws) m at p =
      let here = marks-here to.worlds k false bs m in
      let next : place to.worlds (k + 1) ≡ place to.worlds k = ap (place to.worlds) (omega arith) ∙ place-no to.worlds k here in
      let q = split (is_placed_world s.definitions (length s.interfaces) k w) (are_placed_worlds s.definitions (length s.interfaces) (k + 1) ws) p in
      let rest = worlds-placed-from bs (k + 1) ws (marks-next to.worlds k (k + 1) false bs refl m) (λ j c e. ap (slice_get s.worlds) (one-later k j) ∙ at (suc j) c e) q.1 in
      subst (λ x. are_placed_worlds rows-there (length (map (put_interface (renaming to)) (items_where_true to.interfaces s.interfaces))) x (map (put_world (renaming to)) (items_where_true bs ws)) ≡ true) next rest

  pub worlds-placed : are_placed_worlds rows-there (length (map (put_interface (renaming to)) (items_where_true to.interfaces s.interfaces))) 0 (map (put_world (renaming to)) (items_where_true to.worlds s.worlds)) ≡ true
  worlds-placed = subst (λ x. are_placed_worlds rows-there (length (map (put_interface (renaming to)) (items_where_true to.interfaces s.interfaces))) x (map (put_world (renaming to)) (items_where_true to.worlds s.worlds)) ≡ true) (place-none to.worlds)
      (worlds-placed-from to.worlds 0 s.worlds (λ k. ap (λ j. get_or to.worlds j false) (omega arith)) (λ j w e. ap (slice_get s.worlds) (omega arith) ∙ e) s.worlds_placed)
