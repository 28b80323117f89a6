-- A set's rows stand package by package, and so do those that are kept.
use Rattle.std.proofs.Common.{◌≡◌, ◌≤◌, ◌<◌, ℕ, zero, suc, ◌+◌, ◌-◌, Bool, true, false, not, ◌&&◌, List, [], ◌∷◌, ◌++◌, length, take, drop, get_or, slice_get, map, Option, None, Some, refl, ap, sym, subst, ◌∙◌, arith, true≢false, eqb-true, eq-eqb, nat_le, nat_lt, IsTrue}
use Rattle.std.specs.Prelude.{filter, flat_map, Contains, is_some}
use Rattle.std.specs.Option.{option_map}
use Rattle.std.specs.List.{list_all, items_where_true}
use Rattle.std.specs.Str.{bytes_eq}
use Rattle.std.proofs.lemmas.Bool.{ltb-true, lt-ltb, leb-true, le-leb}
use Rattle.std.proofs.lemmas.List.{map-append, length-map, length-take, length-drop, get_or_default}
use Rattle.std.proofs.lemmas.Slice.Eq.{bytes_eq-Decides}
use Rattle.std.proofs.lemmas.Option.{slice_get_within, slice_get-get_or}
use Rattle.std.proofs.lemmas.List.Elements.{Contains-append_left, Contains-append_right}
use Rattle.package_form.specs.Ids.{places_where, is_use, is_owned_by}
use Rattle.package_form.specs.Ends.{behind_types, behind_functions, behind_items, behind_item, end_of, rows_of, world_end, world_rows}
use Rattle.package_form.specs.References.{row_references}
use Rattle.package_form.specs.Form.{is_named, ids_of, is_own_name, is_own_type, is_own, is_earlier_name, is_earlier_type, is_earlier, uses_earlier, is_owned, is_local, is_use_type, is_use_at, is_nameless_type, is_nameless, is_of_world, is_world_row, item_function, functions_in_item, functions_of}
use Rattle.tables.specs.Tables.{type_of, is_owner_world}
use Rattle.tables.proofs.ClosedTypesRowByRow.{split, both}
use Rattle.tables.specs.declared.tables.TypeId.{TypeId}
use Rattle.tables.specs.declared.tables.FunctionId.{FunctionId}
use Rattle.tables.specs.declared.tables.TypeDefKind.{TypeDefKind}
use Rattle.tables.specs.declared.tables.TypeDefKind.TheVariants as kind
use Rattle.tables.specs.declared.tables.TypeName.{TypeName}
use Rattle.tables.specs.declared.tables.Owner.{Owner}
use Rattle.tables.specs.declared.tables.Owner.TheVariants as owner
use Rattle.tables.specs.declared.tables.Definition.{Definition}
use Rattle.tables.specs.declared.tables.Definition.TheVariants as row
use Rattle.tables.specs.declared.tables.Interface.{Interface}
use Rattle.tables.specs.declared.tables.World.{World}
use Rattle.tables.specs.declared.tables.WorldItem.{WorldItem}
use Rattle.tables.specs.declared.tables.WorldItemKind.{WorldItemKind}
use Rattle.tables.specs.declared.tables.WorldItemKind.TheVariants as item
use Rattle.tables.specs.declared.tables.Resolve.{Resolve}
use Rattle.set_rows.specs.Owners.{names}
use Rattle.tables.specs.Names.{owner_of}
use Rattle.set_rows.specs.Places.{place}
use Rattle.set_rows.specs.Reaches.{is_marked}
use Rattle.set_rows.specs.Renamed.{renaming}
use Rattle.set_rows.specs.Moved.{put_id, put_function_id, put_kind, put_name, put_owner, put_row, has_type, has_function, put_package_id, put_interface, put_item, put_item_kind, put_world}
use Rattle.package_sets.specs.Part.{IsPart}
use Rattle.package_sets.specs.Set.{AreRowsOf, AreRowsOfWorld, ArePackageByPackage, behind_all, an_interface, a_world, AreWorldsApart, IsSet}
use Rattle.set_rows.specs.declared.moved.Moved.{Moved}
use Rattle.package_sets.proofs.KeptParts.KeptTogether.{AreAll, place-all, place-left, block-there, places-there, places-in}
use Rattle.package_sets.proofs.KeptParts.PropertiesOfKept.{list-at, list-kept}
use Rattle.package_form.proofs.AllAndContains.{contains-map}
use Rattle.set_rows.proofs.KeptElementsAndPlaces.{kept-none, kept-at, place-before, place-order}
use Rattle.set_rows.proofs.PlacesOfMarked.{place-none, place-yes, place-no}
use Rattle.package_sets.proofs.KeptParts.KeptRowsKeepMeaning.{AreMarksFrom, marks-here, marks-next}
use Rattle.package_sets.proofs.KeptParts.KeptRowsArePostfix.{kept-length}
use Rattle.package_sets.proofs.GrowingLists.{map-get, drop-map, take-mapped}
use Rattle.package_sets.proofs.MovedRows.WhatRowsName.{row-references-put, named-same, referred-named}
use Rattle.package_sets.proofs.OwnedRows.EachRowHasAnOwner.{owner-some, one-more, one-later, none-plus, plus-none, block-row, interface-owner, world-owner}
use Rattle.package_sets.proofs.KeptParts.KeptIsATable as table

pub filter-all : {A : Type 0} (p : A → Bool) (xs : List A) → list_all p xs ≡ true → filter p xs ≡ xs
filter-all p [] h = refl
filter-all p (x ∷ xs) h = let q = split (p x) (list_all p xs) h in let r = filter-all p xs q.1 in rw q.0 (ap (λ ys. x ∷ ys) r)

pub all-from : {A : Type 0} (p : A → Bool) (xs : List A) → ((x : A) → Contains xs x → p x ≡ true) → list_all p xs ≡ true
all-from p [] h = refl
all-from p (x ∷ xs) h = both _ _ (h x (0, omega arith, refl)) (all-from p xs (λ y c. h y (Contains-append_right (x ∷ []) xs y c)))

all-at : {A : Type 0} (p : A → Bool) (xs : List A) (x : A) → list_all p xs ≡ true → Contains xs x → p x ≡ true
all-at p [] x h (k, l, e) = absurd (omega arith)
all-at p (y ∷ xs) x h (zero, l, e) = subst (λ z. p z ≡ true) e (split (p y) (list_all p xs) h).0
all-at p (y ∷ xs) x h (suc k, l, e) = all-at p xs x (split (p y) (list_all p xs) h).1 (k, omega (arith, l), e)

list-put-all : {A B : Type 0} (put : A → B) (f : A → Bool) (g : B → Bool) (xs : List A) → ((x : A) → Contains xs x → f x ≡ true → g (put x) ≡ true) → list_all f xs ≡ true → list_all g (map put xs) ≡ true
list-put-all put f g [] one h = refl
list-put-all put f g (x ∷ xs) one h =
    let p = split (f x) (list_all f xs) h in
    both _ _ (one x (0, omega arith, refl) p.0) (list-put-all put f g xs (λ y c q. one y (Contains-append_right (x ∷ []) xs y c) q) p.1)

-- ---- ends and ids, put elsewhere

module _ (to : Moved) where
  place-next : (x : ℕ) → get_or to.rows x false ≡ true → place to.rows x + 1 ≡ place to.rows (x + 1)
  place-next x h = sym (place-yes to.rows x h) ∙ ap (place to.rows) (suc-one x)
    where
      suc-one : (y : ℕ) → suc y ≡ y + 1
      suc-one y = omega arith

  types-end : (start : ℕ) (ts : List TypeId) → list_all (has_type (renaming to)) ts ≡ true → behind_types (place to.rows start) (map (put_id (renaming to)) ts) ≡ place to.rows (behind_types start ts)
  types-end start [] h = refl
  types-end start (t ∷ ts) h =
      let p = split (has_type (renaming to) t) (list_all (has_type (renaming to)) ts) h in
      ap (λ n. behind_types n (map (put_id (renaming to)) ts)) (place-next t.0 p.0) ∙ types-end (t.0 + 1) ts p.1

  functions-end : (start : ℕ) (ts : List FunctionId) → list_all (has_function (renaming to)) ts ≡ true → behind_functions (place to.rows start) (map (put_function_id (renaming to)) ts) ≡ place to.rows (behind_functions start ts)
  functions-end start [] h = refl
  functions-end start (t ∷ ts) h =
      let p = split (has_function (renaming to) t) (list_all (has_function (renaming to)) ts) h in
      ap (λ n. behind_functions n (map (put_function_id (renaming to)) ts)) (place-next t.0 p.0) ∙ functions-end (t.0 + 1) ts p.1

  item-end : (start : ℕ) (k : WorldItemKind) (rest : List ℕ) → list_all (λ x. get_or to.rows x false) (item_function k ++ rest) ≡ true
      → (behind_item (place to.rows start) (put_item_kind (renaming to) k) ≡ place to.rows (behind_item start k)) × (list_all (λ x. get_or to.rows x false) rest ≡ true)
  item-end start (item.Interface j) rest h = (refl, h)
  item-end start (item.Function f) rest h = let p = split (get_or to.rows f.0 false) (list_all (λ x. get_or to.rows x false) rest) h in (place-next f.0 p.0, p.1)

  items-end : (start : ℕ) (is : List WorldItem) → list_all (λ x. get_or to.rows x false) (flat_map functions_in_item is) ≡ true → behind_items (place to.rows start) (map (put_item (renaming to)) is) ≡ place to.rows (behind_items start is)
  items-end start [] h = refl
  items-end start (i ∷ is) h =
      let p = item-end start i.kind (flat_map functions_in_item is) h in
      ap (λ m. behind_items m (map (put_item (renaming to)) is)) p.0 ∙ items-end (behind_item start i.kind) is p.1

  pub list-ids : (ts : List TypeId) → map (λ t. t.0) (map (put_id (renaming to)) ts) ≡ map (place to.rows) (map (λ t. t.0) ts)
  list-ids [] = refl
  list-ids (t ∷ ts) = ap (λ xs. place to.rows t.0 ∷ xs) (list-ids ts)

  pub list-function-ids : (ts : List FunctionId) → map (λ t. t.0) (map (put_function_id (renaming to)) ts) ≡ map (place to.rows) (map (λ t. t.0) ts)
  list-function-ids [] = refl
  list-function-ids (t ∷ ts) = ap (λ xs. place to.rows t.0 ∷ xs) (list-function-ids ts)

  item-ids : (is : List WorldItem) → flat_map functions_in_item (map (put_item (renaming to)) is) ≡ map (place to.rows) (flat_map functions_in_item is)
  item-ids [] = refl
  item-ids (i ∷ is) = by i.kind (item-ids is)
    where
      by : (k : WorldItemKind) → flat_map functions_in_item (map (put_item (renaming to)) is) ≡ map (place to.rows) (flat_map functions_in_item is)
          → item_function (put_item_kind (renaming to) k) ++ flat_map functions_in_item (map (put_item (renaming to)) is) ≡ map (place to.rows) (item_function k ++ flat_map functions_in_item is)
      by (item.Interface j) r = r
      by (item.Function f) r = ap (λ xs. place to.rows f.0 ∷ xs) r

module _ (s : Resolve) (to : Moved) (n : IsPart s to) where
  abbrev there : List Definition
  there = map (put_row (renaming to)) (items_where_true to.rows s.definitions)

  -- all rows of an interface are kept, or none
  pub interface-marks : (start k : ℕ) (i : Interface) (b : Bool) → AreRowsOf s.definitions start k i → is_marked n.marks (Some (owner.Interface (record { 0 = k }))) ≡ b → AreAll b to.rows start (end_of start i - start)
  interface-marks start k i b a h = record { each = λ x l. table.mark-at s to n (start + x) (omega (arith, l, a.ends, a.begins)) ∙ (ap (is_marked n.marks) (interface-owner s.definitions start k i a x l) ∙ h) }

  pub world-marks : (start k : ℕ) (w : World) (b : Bool) → AreRowsOfWorld s.definitions start k w → is_marked n.marks (Some (owner.World (record { 0 = k }))) ≡ b → AreAll b to.rows start (world_end start w - start)
  world-marks start k w b a h = record { each = λ x l. table.mark-at s to n (start + x) (omega (arith, l, a.ends, a.begins)) ∙ (ap (is_marked n.marks) (world-owner s.definitions start k w a x l) ∙ h) }

  -- the rows of a block that is kept
  block-put : (start end : ℕ) → start ≤ end → AreAll true to.rows start (end - start)
      → take (place to.rows end - place to.rows start) (drop (place to.rows start) there) ≡ map (put_row (renaming to)) (take (end - start) (drop start s.definitions))
  block-put start end l a =
      let whole : start + (end - start) ≡ end = omega arith in
      let size : place to.rows end - place to.rows start ≡ end - start = omega (arith, place-all to.rows start (end - start) a, ap (place to.rows) whole) in
      ap (λ m. take m (drop (place to.rows start) there)) size
      ∙ (ap (take (end - start)) (drop-map (put_row (renaming to)) (place to.rows start) (items_where_true to.rows s.definitions))
      ∙ (take-mapped (put_row (renaming to)) (end - start) (drop (place to.rows start) (items_where_true to.rows s.definitions)) ∙ ap (map (put_row (renaming to))) (block-there to.rows s.definitions start (end - start) a)))

  -- ---- rows of an interface, put there

  own-there : (k : ℕ) (t : TypeId) → is_own s.definitions k t ≡ true → get_or to.rows t.0 false ≡ true → is_own there (place to.interfaces k) (put_id (renaming to) t) ≡ true
  own-there k t h e = by (slice_get s.definitions t.0) refl h
    where
      by : (o : Option Definition) → slice_get s.definitions t.0 ≡ o → is_own_type k (type_of o) ≡ true → is_own there (place to.interfaces k) (put_id (renaming to) t) ≡ true
      by None d q = absurd (true≢false (sym q))
      by (Some (row.Function f)) d q = absurd (true≢false (sym q))
      by (Some (row.Type x)) d q = rw (map-get (put_row (renaming to)) (items_where_true to.rows s.definitions) (place to.rows t.0) (row.Type x) (kept-at to.rows s.definitions t.0 (row.Type x) e d)) (named x.name q)
        where
          named : (m : Option TypeName) → is_own_name k m ≡ true → is_own_name (place to.interfaces k) (option_map (put_name (renaming to)) m) ≡ true
          named None z = refl
          named (Some y) z = eq-eqb _ _ (ap (place to.interfaces) (eqb-true y.interface.0 k z))

  earlier-there : (k : ℕ) (t : TypeId) → k < length s.interfaces → is_earlier s.definitions k t ≡ true → get_or to.rows t.0 false ≡ true → is_earlier there (place to.interfaces k) (put_id (renaming to) t) ≡ true
  earlier-there k t within h e = by (slice_get s.definitions t.0) refl h
    where
      by : (o : Option Definition) → slice_get s.definitions t.0 ≡ o → is_earlier_type k (type_of o) ≡ true → is_earlier there (place to.interfaces k) (put_id (renaming to) t) ≡ true
      by None d q = absurd (true≢false (sym q))
      by (Some (row.Function f)) d q = absurd (true≢false (sym q))
      by (Some (row.Type x)) d q = rw (map-get (put_row (renaming to)) (items_where_true to.rows s.definitions) (place to.rows t.0) (row.Type x) (kept-at to.rows s.definitions t.0 (row.Type x) e d)) (named x.name refl q)
        where
          named : (m : Option TypeName) → x.name ≡ m → is_earlier_name k m ≡ true → is_earlier_name (place to.interfaces k) (option_map (put_name (renaming to)) m) ≡ true
          named None y z = absurd (true≢false (sym z))
          named (Some y) f z =
              let before : y.interface.0 < k = ltb-true y.interface.0 k z in
              let owned : owner_of (row.Type x) ≡ Some (owner.Interface y.interface) = ap (option_map (λ v. owner.Interface v.interface)) f in
              let marked : is_marked n.marks (Some (owner.Interface y.interface)) ≡ true =
              sym (ap (is_marked n.marks) (owner-some s.definitions t.0 (row.Type x) (owner.Interface y.interface) d owned)) ∙ (sym (table.mark-at s to n t.0 (slice_get_within s.definitions t.0 (row.Type x) d)) ∙ e) in
              lt-ltb _ _ (place-before to.interfaces y.interface.0 k before (table.interface-there s to n y.interface.0 (omega arith) marked))

  local-there : (x k : ℕ) (d : Definition) → k < length s.interfaces → slice_get s.definitions x ≡ Some d → get_or to.rows x false ≡ true → is_local s.definitions k d ≡ true → is_local there (place to.interfaces k) (put_row (renaming to) d) ≡ true
  local-there x k d within at e h =
      let p = split (is_owned s.definitions k d) (list_all (is_own s.definitions k) (row_references d)) h in
      both _ _ (owned d at p.0) (rw (row-references-put (renaming to) d) (list-put-all (put_id (renaming to)) (is_own s.definitions k) (is_own there (place to.interfaces k)) (row_references d)
      (λ t c o. own-there k t o (table.closed s to n x d at e t (referred-named d t c))) p.1))
    where
      owned : (c : Definition) → slice_get s.definitions x ≡ Some c → is_owned s.definitions k c ≡ true → is_owned there (place to.interfaces k) (put_row (renaming to) c) ≡ true
      owned (row.Function f) q r = by f.owner r
        where
          by : (o : Owner) → is_owned_by k o ≡ true → is_owned_by (place to.interfaces k) (put_owner (renaming to) o) ≡ true
          by (owner.World w) z = absurd (true≢false (sym z))
          by (owner.Interface i) z = eq-eqb _ _ (ap (place to.interfaces) (eqb-true i.0 k z))
      owned (row.Type c) q r =
          let z = split (is_own_name k c.name) (uses_earlier s.definitions k c.kind) r in
          both _ _ (named c.name z.0) (uses c.kind refl z.1)
        where
          named : (m : Option TypeName) → is_own_name k m ≡ true → is_own_name (place to.interfaces k) (option_map (put_name (renaming to)) m) ≡ true
          named None y = refl
          named (Some v) y = eq-eqb _ _ (ap (place to.interfaces) (eqb-true v.interface.0 k y))

          uses : (m : TypeDefKind) → c.kind ≡ m → uses_earlier s.definitions k m ≡ true → uses_earlier there (place to.interfaces k) (put_kind (renaming to) m) ≡ true
          uses (kind.Use t) f y =
              earlier-there k t within y
              (table.closed s to n x (row.Type c) q e t (subst (λ (v : TypeDefKind). Contains (names (row.Type (record { name = c.name; kind = v }))) t) (sym f) (0, omega arith, refl)))
          uses (kind.Alias v) f y = refl
          uses (kind.List v) f y = refl
          uses (kind.Option v) f y = refl
          uses (kind.Result ok error) f y = refl
          uses (kind.Tuple vs) f y = refl
          uses (kind.Record fs) f y = refl
          uses (kind.Variant cs) f y = refl
          uses (kind.Enum ns) f y = refl
          uses (kind.Flags ns) f y = refl

  use-there : (t : TypeId) → get_or to.rows t.0 false ≡ true → t.0 < length s.definitions → is_use_at there (put_id (renaming to) t) ≡ is_use_at s.definitions t
  use-there t e l = by (slice_get s.definitions t.0) refl
    where
      kinds : (k : TypeDefKind) → is_use (put_kind (renaming to) k) ≡ is_use k
      kinds (kind.Use u) = refl
      kinds (kind.Alias v) = refl
      kinds (kind.List v) = refl
      kinds (kind.Option v) = refl
      kinds (kind.Result ok error) = refl
      kinds (kind.Tuple vs) = refl
      kinds (kind.Record fs) = refl
      kinds (kind.Variant cs) = refl
      kinds (kind.Enum ns) = refl
      kinds (kind.Flags ns) = refl

      rows-same : (d : Definition) → is_use_type (type_of (Some (put_row (renaming to) d))) ≡ is_use_type (type_of (Some d))
      rows-same (row.Function f) = refl
      rows-same (row.Type d) = kinds d.kind

      by : (o : Option Definition) → slice_get s.definitions t.0 ≡ o → is_use_at there (put_id (renaming to) t) ≡ is_use_at s.definitions t
      by None d = absurd (none d)
        where
          none : slice_get s.definitions t.0 ≡ None → ⊥
          none z = let x = slice_get-get_or s.definitions t.0 (row.Type (record { name = None; kind = kind.Enum [] })) l in absurd (cc)
      by (Some d) z =
          ap (λ (o : Option Definition). is_use_type (type_of o)) (map-get (put_row (renaming to)) (items_where_true to.rows s.definitions) (place to.rows t.0) d (kept-at to.rows s.definitions t.0 d e z))
          ∙ (rows-same d ∙ sym (ap (λ (o : Option Definition). is_use_type (type_of o)) z))

  count-there : length there ≡ place to.rows (length s.definitions)
  count-there = length-map (items_where_true to.rows s.definitions) (put_row (renaming to)) ∙ kept-length to.rows s.definitions (omega (arith, table.count-rows s to n))

  block-length : (start end : ℕ) → start ≤ end → end ≤ length s.definitions → length (take (end - start) (drop start s.definitions)) ≡ end - start
  block-length start end l m = omega (arith, length-take (end - start) (drop start s.definitions), length-drop start s.definitions)

  -- each id of an interface whose rows are kept is kept
  pub id-kept : (start k : ℕ) (i : Interface) → AreRowsOf s.definitions start k i → AreAll true to.rows start (end_of start i - start) → (x : ℕ) → Contains (ids_of i) x → (get_or to.rows x false ≡ true) × (x < length s.definitions)
  id-kept start k i a m x c =
      let ids = (bytes_eq-Decides (ids_of i) (places_where is_named start (rows_of s.definitions start i))).0
      (split (bytes_eq (ids_of i) (places_where is_named start (rows_of s.definitions start i))) (list_all (is_use_at s.definitions) i.uses && list_all (λ t. not (is_use_at s.definitions t)) i.types) a.ids).0 in
      let p = places-in is_named start (rows_of s.definitions start i) x (subst (λ (ys : List ℕ). Contains ys x) ids c) in
      let l : p.0 < end_of start i - start = omega (arith, slice_get_within _ p.0 p.1 p.3, block-length start (end_of start i) a.begins a.ends) in
      (ap (λ y. get_or to.rows y false) p.2 ∙ m.each p.0 l, omega (arith, p.2, a.ends, l))

  abbrev plain : Interface → Interface
  plain i = record {
    «package» = put_package_id (renaming to) i.«package»;
    name = i.name;
    uses = map (put_id (renaming to)) i.uses;
    types = map (put_id (renaming to)) i.types;
    functions = map (put_function_id (renaming to)) i.functions;
  }

  pub interface-step : (start k : ℕ) (i : Interface) → k < length s.interfaces → AreRowsOf s.definitions start k i → AreAll true to.rows start (end_of start i - start)
      → AreRowsOf there (place to.rows start) (place to.interfaces k) (put_interface (renaming to) i) × (end_of (place to.rows start) (put_interface (renaming to) i) ≡ place to.rows (end_of start i))
  interface-step start k i within a m = (subst (λ (x : Interface). AreRowsOf there (place to.rows start) (place to.interfaces k) x) (sym is-plain) rows-are, ap (end_of (place to.rows start)) is-plain ∙ ends-same)
    where
      kept-ids : (x : ℕ) → Contains (ids_of i) x → (get_or to.rows x false ≡ true) × (x < length s.definitions)
      kept-ids = id-kept start k i a m

      in-uses : (t : TypeId) → Contains i.uses t → (get_or to.rows t.0 false ≡ true) × (t.0 < length s.definitions)
      in-uses t c = kept-ids t.0 (Contains-append_left (map (λ x. x.0) i.uses) _ t.0 (contains-map (λ (x : TypeId). x.0) i.uses t c))

      in-types : (t : TypeId) → Contains i.types t → (get_or to.rows t.0 false ≡ true) × (t.0 < length s.definitions)
      in-types t c = kept-ids t.0 (Contains-append_right (map (λ x. x.0) i.uses) _ t.0 (Contains-append_left (map (λ x. x.0) i.types) _ t.0 (contains-map (λ (x : TypeId). x.0) i.types t c)))

      in-functions : (f : FunctionId) → Contains i.functions f → (get_or to.rows f.0 false ≡ true) × (f.0 < length s.definitions)
      in-functions f c = kept-ids f.0 (Contains-append_right (map (λ x. x.0) i.uses) _ f.0 (Contains-append_right (map (λ x. x.0) i.types) _ f.0 (contains-map (λ (x : FunctionId). x.0) i.functions f c)))

      uses-kept : list_all (has_type (renaming to)) i.uses ≡ true
      uses-kept = all-from (has_type (renaming to)) i.uses (λ t c. (in-uses t c).0)

      types-kept : list_all (has_type (renaming to)) i.types ≡ true
      types-kept = all-from (has_type (renaming to)) i.types (λ t c. (in-types t c).0)

      functions-kept : list_all (has_function (renaming to)) i.functions ≡ true
      functions-kept = all-from (has_function (renaming to)) i.functions (λ f c. (in-functions f c).0)

      is-plain : put_interface (renaming to) i ≡ plain i
      is-plain =
          let x = ap (map (put_id (renaming to))) (filter-all (has_type (renaming to)) i.uses uses-kept) in
          let y = ap (map (put_id (renaming to))) (filter-all (has_type (renaming to)) i.types types-kept) in
          let z = ap (map (put_function_id (renaming to))) (filter-all (has_function (renaming to)) i.functions functions-kept) in
          cc

      ends-same : end_of (place to.rows start) (plain i) ≡ place to.rows (end_of start i)
      ends-same =
          ap (λ e. behind_functions (behind_types e (map (put_id (renaming to)) i.types)) (map (put_function_id (renaming to)) i.functions)) (types-end to start i.uses uses-kept)
          ∙ (ap (λ e. behind_functions e (map (put_function_id (renaming to)) i.functions)) (types-end to (behind_types start i.uses) i.types types-kept)
          ∙ functions-end to (behind_types (behind_types start i.uses) i.types) i.functions functions-kept)

      block-is : rows_of there (place to.rows start) (plain i) ≡ map (put_row (renaming to)) (rows_of s.definitions start i)
      block-is = ap (λ e. take (e - place to.rows start) (drop (place to.rows start) there)) ends-same ∙ block-put start (end_of start i) a.begins m

      parts : IsTrue (bytes_eq (ids_of i) (places_where is_named start (rows_of s.definitions start i))) × IsTrue (list_all (is_use_at s.definitions) i.uses && list_all (λ t. not (is_use_at s.definitions t)) i.types)
      parts = split (bytes_eq (ids_of i) (places_where is_named start (rows_of s.definitions start i))) (list_all (is_use_at s.definitions) i.uses && list_all (λ t. not (is_use_at s.definitions t)) i.types) a.ids

      flags : IsTrue (list_all (is_use_at s.definitions) i.uses) × IsTrue (list_all (λ t. not (is_use_at s.definitions t)) i.types)
      flags = split (list_all (is_use_at s.definitions) i.uses) (list_all (λ t. not (is_use_at s.definitions t)) i.types) parts.1

      ids-same : ids_of (plain i) ≡ map (place to.rows) (ids_of i)
      ids-same =
          let x = list-ids to i.uses in
          let y = list-ids to i.types in
          let z = list-function-ids to i.functions in
          let u = map-append (place to.rows) (map (λ t. t.0) i.uses) (map (λ t. t.0) i.types ++ map (λ f. f.0) i.functions) in
          let v = map-append (place to.rows) (map (λ t. t.0) i.types) (map (λ f. f.0) i.functions) in
          cc

      all-block : AreAll true to.rows start (length (rows_of s.definitions start i))
      all-block = record { each = λ x l. m.each x (omega (arith, l, block-length start (end_of start i) a.begins a.ends)) }

      places-same : places_where is_named (place to.rows start) (rows_of there (place to.rows start) (plain i)) ≡ map (place to.rows) (places_where is_named start (rows_of s.definitions start i))
      places-same = ap (places_where is_named (place to.rows start)) block-is ∙ places-there is_named (put_row (renaming to)) to.rows start (place to.rows start) (rows_of s.definitions start i) (named-same (renaming to)) all-block refl

      ids-are : ids_of (plain i) ≡ places_where is_named (place to.rows start) (rows_of there (place to.rows start) (plain i))
      ids-are = ids-same ∙ (ap (map (place to.rows)) ((bytes_eq-Decides (ids_of i) (places_where is_named start (rows_of s.definitions start i))).0 parts.0) ∙ sym places-same)

      rows-are : AreRowsOf there (place to.rows start) (place to.interfaces k) (plain i)
      rows-are = record {
        begins = omega (arith, ends-same, place-order to.rows start (end_of start i) a.begins);
        ends = omega (arith, ends-same, count-there, place-order to.rows (end_of start i) (length s.definitions) a.ends);
        ids = both _ _ ((bytes_eq-Decides (ids_of (plain i)) (places_where is_named (place to.rows start) (rows_of there (place to.rows start) (plain i)))).1 ids-are)
            (both _ _ (list-put-all (put_id (renaming to)) (is_use_at s.definitions) (is_use_at there) i.uses (λ t c u. let p = in-uses t c in use-there t p.0 p.1 ∙ u) flags.0)
            (list-put-all (put_id (renaming to)) (λ t. not (is_use_at s.definitions t)) (λ t. not (is_use_at there t)) i.types (λ t c u. let p = in-types t c in ap not (use-there t p.0 p.1) ∙ u) flags.1));
        local = rw block-is (list-put-all (put_row (renaming to)) (is_local s.definitions k) (is_local there (place to.interfaces k)) (rows_of s.definitions start i) each a.local);
      }
        where
          each : (d : Definition) → Contains (rows_of s.definitions start i) d → is_local s.definitions k d ≡ true → is_local there (place to.interfaces k) (put_row (renaming to) d) ≡ true
          each d (j, l, e) h =
              let at = block-row s.definitions start (end_of start i) j d (slice_get-get_or (rows_of s.definitions start i) j d l ∙ ap Some e) in
              local-there (start + j) k d within at (all-block.each j l) h

  -- ---- rows of a world, put there

  nameless-there : (t : TypeId) → is_nameless s.definitions t ≡ true → get_or to.rows t.0 false ≡ true → is_nameless there (put_id (renaming to) t) ≡ true
  nameless-there t h e = by (slice_get s.definitions t.0) refl h
    where
      named : (m : Option TypeName) → not (is_some m) ≡ true → not (is_some (option_map (put_name (renaming to)) m)) ≡ true
      named None z = refl
      named (Some y) z = absurd (true≢false (sym z))

      by : (o : Option Definition) → slice_get s.definitions t.0 ≡ o → is_nameless_type (type_of o) ≡ true → is_nameless there (put_id (renaming to) t) ≡ true
      by None d q = absurd (true≢false (sym q))
      by (Some (row.Function f)) d q = absurd (true≢false (sym q))
      by (Some (row.Type x)) d q = rw (map-get (put_row (renaming to)) (items_where_true to.rows s.definitions) (place to.rows t.0) (row.Type x) (kept-at to.rows s.definitions t.0 (row.Type x) e d)) (named x.name q)

  world-row-there : (x k : ℕ) (d : Definition) → slice_get s.definitions x ≡ Some d → get_or to.rows x false ≡ true → is_world_row s.definitions k d ≡ true → is_world_row there (place to.worlds k) (put_row (renaming to) d) ≡ true
  world-row-there x k d at e h =
      let p = split (is_of_world k d) (list_all (is_nameless s.definitions) (row_references d)) h in
      both _ _ (owned d p.0) (rw (row-references-put (renaming to) d) (list-put-all (put_id (renaming to)) (is_nameless s.definitions) (is_nameless there) (row_references d)
      (λ t c o. nameless-there t o (table.closed s to n x d at e t (referred-named d t c))) p.1))
    where
      named : (m : Option TypeName) → not (is_some m) ≡ true → not (is_some (option_map (put_name (renaming to)) m)) ≡ true
      named None z = refl
      named (Some y) z = absurd (true≢false (sym z))

      by : (o : Owner) → is_owner_world k o ≡ true → is_owner_world (place to.worlds k) (put_owner (renaming to) o) ≡ true
      by (owner.Interface i) z = absurd (true≢false (sym z))
      by (owner.World w) z = eq-eqb _ _ (ap (place to.worlds) (eqb-true w.0 k z))

      owned : (c : Definition) → is_of_world k c ≡ true → is_of_world (place to.worlds k) (put_row (renaming to) c) ≡ true
      owned (row.Type c) r = named c.name r
      owned (row.Function f) r = by f.owner r

  world-step : (start k : ℕ) (w : World) → AreRowsOfWorld s.definitions start k w → AreAll true to.rows start (world_end start w - start)
      → AreRowsOfWorld there (place to.rows start) (place to.worlds k) (put_world (renaming to) w) × (world_end (place to.rows start) (put_world (renaming to) w) ≡ place to.rows (world_end start w))
  world-step start k w a m = (rows-are, ends-same)
    where
      ids : places_where is_named start (world_rows s.definitions start w) ≡ functions_of w
      ids = (bytes_eq-Decides (places_where is_named start (world_rows s.definitions start w)) (functions_of w)).0 a.items

      size : length (world_rows s.definitions start w) ≡ world_end start w - start
      size = block-length start (world_end start w) a.begins a.ends

      kept-ids : (x : ℕ) → Contains (functions_of w) x → get_or to.rows x false ≡ true
      kept-ids x c =
          let p = places-in is_named start (world_rows s.definitions start w) x (subst (λ (ys : List ℕ). Contains ys x) (sym ids) c) in
          let l : p.0 < world_end start w - start = omega (arith, slice_get_within _ p.0 p.1 p.3, size) in
          ap (λ y. get_or to.rows y false) p.2 ∙ m.each p.0 l

      ends-same : world_end (place to.rows start) (put_world (renaming to) w) ≡ place to.rows (world_end start w)
      ends-same = items-end to start w.items (all-from (λ x. get_or to.rows x false) (functions_of w) kept-ids)

      block-is : world_rows there (place to.rows start) (put_world (renaming to) w) ≡ map (put_row (renaming to)) (world_rows s.definitions start w)
      block-is = ap (λ e. take (e - place to.rows start) (drop (place to.rows start) there)) ends-same ∙ block-put start (world_end start w) a.begins m

      all-block : AreAll true to.rows start (length (world_rows s.definitions start w))
      all-block = record { each = λ x l. m.each x (omega (arith, l, size)) }

      places-same : places_where is_named (place to.rows start) (world_rows there (place to.rows start) (put_world (renaming to) w)) ≡ map (place to.rows) (places_where is_named start (world_rows s.definitions start w))
      places-same = ap (places_where is_named (place to.rows start)) block-is ∙ places-there is_named (put_row (renaming to)) to.rows start (place to.rows start) (world_rows s.definitions start w) (named-same (renaming to)) all-block refl

      ids-are : places_where is_named (place to.rows start) (world_rows there (place to.rows start) (put_world (renaming to) w)) ≡ functions_of (put_world (renaming to) w)
      ids-are = places-same ∙ (ap (map (place to.rows)) ids ∙ sym (item-ids to w.items))

      each : (d : Definition) → Contains (world_rows s.definitions start w) d → is_world_row s.definitions k d ≡ true → is_world_row there (place to.worlds k) (put_row (renaming to) d) ≡ true
      each d (j, l, e) h =
          let at = block-row s.definitions start (world_end start w) j d (slice_get-get_or (world_rows s.definitions start w) j d l ∙ ap Some e) in
          world-row-there (start + j) k d at (all-block.each j l) h

      rows-are : AreRowsOfWorld there (place to.rows start) (place to.worlds k) (put_world (renaming to) w)
      rows-are = record {
        begins = omega (arith, ends-same, place-order to.rows start (world_end start w) a.begins);
        ends = omega (arith, ends-same, count-there, place-order to.rows (world_end start w) (length s.definitions) a.ends);
        items = (bytes_eq-Decides (places_where is_named (place to.rows start) (world_rows there (place to.rows start) (put_world (renaming to) w))) (functions_of (put_world (renaming to) w))).1 ids-are;
        local = rw block-is (list-put-all (put_row (renaming to)) (is_world_row s.definitions k) (is_world_row there (place to.worlds k)) (world_rows s.definitions start w) each a.local);
      }

  -- ---- the worlds that are kept are those whose rows are

  pub world-mark : AreWorldsApart s → (j : ℕ) → j < length s.worlds → is_marked n.marks (Some (owner.World (record { 0 = j }))) ≡ get_or to.worlds j false
  world-mark h j l = by (get_or to.worlds j false) refl
    where
      by : (b : Bool) → get_or to.worlds j false ≡ b → is_marked n.marks (Some (owner.World (record { 0 = j }))) ≡ b
      by true e = n.worlds_marked j l e
      by false e = none (is_marked n.marks (Some (owner.World (record { 0 = j })))) refl
        where
          none : (c : Bool) → is_marked n.marks (Some (owner.World (record { 0 = j }))) ≡ c → is_marked n.marks (Some (owner.World (record { 0 = j }))) ≡ false
          none false z = z
          none true z = absurd (true≢false (sym (n.worlds_kept h j l z) ∙ e))

  pub interface-mark : (k : ℕ) → k < length s.interfaces → is_marked n.marks (Some (owner.Interface (record { 0 = k }))) ≡ get_or to.interfaces k false
  interface-mark k l = get_or_default n.marks.interfaces k true false (omega (arith, l, n.count)) ∙ ap (λ (bs : List Bool). get_or bs k false) (sym n.interfaces_are)

  later-kept : (p : ℕ) (bs : List Bool) (is : List Interface) → get_or to.packages p false ≡ true → list_all (λ i. nat_lt p i.«package».0) is ≡ true
      → list_all (λ i. nat_lt (place to.packages p) i.«package».0) (map (put_interface (renaming to)) (items_where_true bs is)) ≡ true
  later-kept p bs is e h = list-kept (put_interface (renaming to)) (λ i. nat_lt (place to.packages p) i.«package».0) bs is
      (λ k x m q. lt-ltb _ _ (place-before to.packages p x.«package».0 (ltb-true p x.«package».0 (list-at (λ i. nat_lt p i.«package».0) is k x h q)) e))

  worlds-later-kept : (p : ℕ) (bs : List Bool) (ws : List World) → list_all (λ w. nat_le p w.«package».0) ws ≡ true
      → list_all (λ w. nat_le (place to.packages p) w.«package».0) (map (put_world (renaming to)) (items_where_true bs ws)) ≡ true
  worlds-later-kept p bs ws h = list-kept (put_world (renaming to)) (λ w. nat_le (place to.packages p) w.«package».0) bs ws
      (λ k x m q. le-leb _ _ (place-order to.packages p x.«package».0 (leb-true p x.«package».0 (list-at (λ w. nat_le p w.«package».0) ws k x h q))))

  -- what is kept of a set's rows stands package by package
  stands-there : AreWorldsApart s → (start k : ℕ) (is : List Interface) (j : ℕ) (ws : List World) → ArePackageByPackage s.definitions start k is j ws
      → (bs : List Bool) → AreMarksFrom to.interfaces k bs → k + length is ≡ length s.interfaces → length bs ≡ length is
      → (cs : List Bool) → AreMarksFrom to.worlds j cs → j + length ws ≡ length s.worlds → length cs ≡ length ws
      → ((m : ℕ) (w : World) → slice_get ws m ≡ Some w → slice_get s.worlds (j + m) ≡ Some w)
      → ArePackageByPackage there (place to.rows start) (place to.interfaces k) (map (put_interface (renaming to)) (items_where_true bs is)) (place to.worlds j) (map (put_world (renaming to)) (items_where_true cs ws))
  stands-there apart _ _ _ _ _ (behind_all start k j e) bs ms u v cs ns x y at =
      subst (λ (is : List Interface). ArePackageByPackage there (place to.rows start) (place to.interfaces k) (map (put_interface (renaming to)) is) (place to.worlds j) (map (put_world (renaming to)) (items_where_true cs []))) (sym (kept-none bs))
      (subst (λ (ws : List World). ArePackageByPackage there (place to.rows start) (place to.interfaces k) [] (place to.worlds j) (map (put_world (renaming to)) ws)) (sym (kept-none cs))
      (behind_all (place to.rows start) (place to.interfaces k) (place to.worlds j) (ap (place to.rows) e ∙ sym count-there)))
  stands-there apart _ _ _ _ _ (an_interface start k i is j ws a before rest) [] ms u v cs ns x y at = absurd (omega (arith, v))
  stands-there apart _ _ _ _ _ (an_interface start k i is j ws a before rest) (true ∷ bs) ms u v cs ns x y at =
      let here = marks-here to.interfaces k true bs ms in
      let within : k < length s.interfaces = omega (arith, u) in
      let step = interface-step start k i within a (interface-marks start k i true a (interface-mark k within ∙ here)) in
      let next : place to.interfaces k + 1 ≡ place to.interfaces (k + 1) = sym (place-yes to.interfaces k here) ∙ ap (place to.interfaces) (one-more k) in
      let r = stands-there apart (end_of start i) (k + 1) is j ws rest bs (marks-next to.interfaces k (k + 1) true bs refl ms) (omega (arith, u)) (omega (arith, v)) cs ns x y at in
      an_interface (place to.rows start) (place to.interfaces k) (put_interface (renaming to) i) (map (put_interface (renaming to)) (items_where_true bs is)) (place to.worlds j) (map (put_world (renaming to)) (items_where_true cs ws)) step.0
      (worlds-later-kept i.«package».0 cs ws before)
      (subst (λ e. ArePackageByPackage there e (place to.interfaces k + 1) (map (put_interface (renaming to)) (items_where_true bs is)) (place to.worlds j) (map (put_world (renaming to)) (items_where_true cs ws))) (sym step.1)
      (subst (λ e. ArePackageByPackage there (place to.rows (end_of start i)) e (map (put_interface (renaming to)) (items_where_true bs is)) (place to.worlds j) (map (put_world (renaming to)) (items_where_true cs ws))) (sym next) r))
  stands-there apart _ _ _ _ _ (an_interface start k i is j ws a before rest) (false ∷ bs) ms u v cs ns x y at =
      let here = marks-here to.interfaces k false bs ms in
      let within : k < length s.interfaces = omega (arith, u) in
      let marks = interface-marks start k i false a (interface-mark k within ∙ here) in
      let whole : start + (end_of start i - start) ≡ end_of start i = omega (arith, a.begins) in
      let same : place to.rows (end_of start i) ≡ place to.rows start = ap (place to.rows) (sym whole) ∙ place-left to.rows start (end_of start i - start) marks in
      let next : place to.interfaces (k + 1) ≡ place to.interfaces k = ap (place to.interfaces) (sym (one-more k)) ∙ place-no to.interfaces k here in
      let r = stands-there apart (end_of start i) (k + 1) is j ws rest bs (marks-next to.interfaces k (k + 1) false bs refl ms) (omega (arith, u)) (omega (arith, v)) cs ns x y at in
      subst (λ e. ArePackageByPackage there e (place to.interfaces k) (map (put_interface (renaming to)) (items_where_true bs is)) (place to.worlds j) (map (put_world (renaming to)) (items_where_true cs ws))) same
      (subst (λ e. ArePackageByPackage there (place to.rows (end_of start i)) e (map (put_interface (renaming to)) (items_where_true bs is)) (place to.worlds j) (map (put_world (renaming to)) (items_where_true cs ws))) next r)
  stands-there apart _ _ _ _ _ (a_world start k is j w ws a later rest) bs ms u v [] ns x y at = absurd (omega (arith, y))
  stands-there apart _ _ _ _ _ (a_world start k is j w ws a later rest) bs ms u v (true ∷ cs) ns x y at =
      let here = marks-here to.worlds j true cs ns in
      let within : j < length s.worlds = omega (arith, x) in
      let this : slice_get s.worlds j ≡ Some w = ap (slice_get s.worlds) (sym (plus-none j)) ∙ at 0 w refl in
      let step = world-step start j w a (world-marks start j w true a (world-mark apart j within ∙ here)) in
      let next : place to.worlds j + 1 ≡ place to.worlds (j + 1) = sym (place-yes to.worlds j here) ∙ ap (place to.worlds) (one-more j) in
      let r = stands-there apart (world_end start w) k is (j + 1) ws rest bs ms u v cs (marks-next to.worlds j (j + 1) true cs refl ns) (omega (arith, x)) (omega (arith, y))
      (λ m c e. ap (slice_get s.worlds) (one-later j m) ∙ at (suc m) c e) in
      a_world (place to.rows start) (place to.interfaces k) (map (put_interface (renaming to)) (items_where_true bs is)) (place to.worlds j) (put_world (renaming to) w) (map (put_world (renaming to)) (items_where_true cs ws)) step.0
      (later-kept w.«package».0 bs is (n.worlds_needed j w here this) later)
      (subst (λ e. ArePackageByPackage there e (place to.interfaces k) (map (put_interface (renaming to)) (items_where_true bs is)) (place to.worlds j + 1) (map (put_world (renaming to)) (items_where_true cs ws))) (sym step.1)
      (subst (λ e. ArePackageByPackage there (place to.rows (world_end start w)) (place to.interfaces k) (map (put_interface (renaming to)) (items_where_true bs is)) e (map (put_world (renaming to)) (items_where_true cs ws))) (sym next) r))
  stands-there apart _ _ _ _ _ (a_world start k is j w ws a later rest) bs ms u v (false ∷ cs) ns x y at =
      let here = marks-here to.worlds j false cs ns in
      let within : j < length s.worlds = omega (arith, x) in
      let marks = world-marks start j w false a (world-mark apart j within ∙ here) in
      let whole : start + (world_end start w - start) ≡ world_end start w = omega (arith, a.begins) in
      let same : place to.rows (world_end start w) ≡ place to.rows start = ap (place to.rows) (sym whole) ∙ place-left to.rows start (world_end start w - start) marks in
      let next : place to.worlds (j + 1) ≡ place to.worlds j = ap (place to.worlds) (sym (one-more j)) ∙ place-no to.worlds j here in
      let r = stands-there apart (world_end start w) k is (j + 1) ws rest bs ms u v cs (marks-next to.worlds j (j + 1) false cs refl ns) (omega (arith, x)) (omega (arith, y))
      (λ m c e. ap (slice_get s.worlds) (one-later j m) ∙ at (suc m) c e) in
      subst (λ e. ArePackageByPackage there e (place to.interfaces k) (map (put_interface (renaming to)) (items_where_true bs is)) (place to.worlds j) (map (put_world (renaming to)) (items_where_true cs ws))) same
      (subst (λ e. ArePackageByPackage there (place to.rows (world_end start w)) (place to.interfaces k) (map (put_interface (renaming to)) (items_where_true bs is)) e (map (put_world (renaming to)) (items_where_true cs ws))) next r)

  pub all-stand : IsSet s → ArePackageByPackage there 0 0 (map (put_interface (renaming to)) (items_where_true to.interfaces s.interfaces)) 0 (map (put_world (renaming to)) (items_where_true to.worlds s.worlds))
  all-stand h =
      let r = stands-there h.apart 0 0 s.interfaces 0 s.worlds h.stands to.interfaces (λ k. ap (λ m. get_or to.interfaces m false) (none-plus k)) (omega arith) (table.count-interfaces s to n)
      to.worlds (λ k. ap (λ m. get_or to.worlds m false) (none-plus k)) (omega arith) n.count_worlds (λ m w e. ap (slice_get s.worlds) (none-plus m) ∙ e) in
      subst (λ x. ArePackageByPackage there x 0 (map (put_interface (renaming to)) (items_where_true to.interfaces s.interfaces)) 0 (map (put_world (renaming to)) (items_where_true to.worlds s.worlds))) (place-none to.rows)
      (subst (λ x. ArePackageByPackage there (place to.rows 0) x (map (put_interface (renaming to)) (items_where_true to.interfaces s.interfaces)) 0 (map (put_world (renaming to)) (items_where_true to.worlds s.worlds))) (place-none to.interfaces)
      (subst (λ x. ArePackageByPackage there (place to.rows 0) (place to.interfaces 0) (map (put_interface (renaming to)) (items_where_true to.interfaces s.interfaces)) x (map (put_world (renaming to)) (items_where_true to.worlds s.worlds))) (place-none to.worlds) r))
