-- A set with a package more stands package by package.
use Rattle.std.proofs.Common.{◌≡◌, ◌≤◌, ◌<◌, ◌⊎◌, inl, inr, ℕ, zero, suc, ◌+◌, ◌-◌, Bool, true, false, not, ◌&&◌, nat_le, nat_lt, List, [], ◌∷◌, ◌++◌, length, map, take, drop, slice_get, Option, None, Some, refl, ap, sym, subst, ◌∙◌, arith, true≢false, eqb-true, eq-eqb}
use Rattle.std.specs.Prelude.{filter, flat_map, Contains, is_some}
use Rattle.std.specs.Option.{option_map}
use Rattle.std.specs.List.{list_all}
use Rattle.std.specs.Str.{bytes_eq}
use Rattle.std.proofs.lemmas.Bool.{ltb-true, lt-ltb, leb-true, le-leb}
use Rattle.std.proofs.lemmas.List.{map-append, length-map, length-take, length-drop, length-append, take-append-le}
use Rattle.std.proofs.lemmas.Slice.Eq.{bytes_eq-Decides}
use Rattle.std.proofs.lemmas.Option.{slice_get_within, slice_get-get_or}
use Rattle.std.proofs.lemmas.List.Elements.{Contains-append_left, Contains-append_right}
use Rattle.package_form.specs.Ids.{places_where, is_use, is_owned_by}
use Rattle.package_form.specs.Ends.{behind_types, behind_functions, behind_items, behind_item, end_of, rows_of, interfaces_end, world_end, world_rows, are_worlds_parted, is_parted}
use Rattle.package_form.specs.References.{row_references}
use Rattle.package_form.specs.Form.{is_named, ids_of, is_own_name, is_own_type, is_own, is_earlier_name, is_earlier_type, is_earlier, uses_earlier, is_owned, is_local, is_use_type, is_use_at, has_ids, is_nameless_type, is_nameless, is_of_world, is_world_row, item_function, functions_in_item, functions_of, has_items, have_items, are_interfaces}
use Rattle.tables.specs.Tables.{type_of, is_there as is_some_row, is_type_id, is_function_id, is_placed, are_placed, is_owner_world}
use Rattle.tables.proofs.ClosedTypesRowByRow.{split, both}
use Rattle.tables.specs.declared.tables.TypeId.{TypeId}
use Rattle.tables.specs.declared.tables.FunctionId.{FunctionId}
use Rattle.tables.specs.declared.tables.TypeDefKind.{TypeDefKind}
use Rattle.tables.specs.declared.tables.TypeDefKind.TheVariants as kind
use Rattle.tables.specs.declared.tables.TypeName.{TypeName}
use Rattle.tables.specs.declared.tables.Owner.{Owner}
use Rattle.tables.specs.declared.tables.Owner.TheVariants as owner
use Rattle.tables.specs.declared.tables.Definition.{Definition}
use Rattle.tables.specs.declared.tables.Definition.TheVariants as row
use Rattle.tables.specs.declared.tables.Interface.{Interface}
use Rattle.tables.specs.declared.tables.World.{World}
use Rattle.tables.specs.declared.tables.WorldItem.{WorldItem}
use Rattle.tables.specs.declared.tables.WorldItemKind.{WorldItemKind}
use Rattle.tables.specs.declared.tables.WorldItemKind.TheVariants as item
use Rattle.tables.specs.declared.tables.Resolve.{Resolve}
use Rattle.set_rows.specs.Moved.{Renaming, put_id, put_function_id, put_kind, put_name, put_owner, put_row, has_type, has_function, put_types, put_functions, put_interface, put_item, put_item_kind, put_world}
use Rattle.package_form.specs.Closed.{own_package}
use Rattle.package_sets.specs.Set.{AreRowsOf, AreRowsOfWorld, ArePackageByPackage, behind_all, an_interface, a_world, IsPackageByPackage, HasRowsInForm}
use Rattle.package_sets.specs.Joining.{import_count, imports, own_interfaces}
use Rattle.package_sets.specs.Joined.{renaming_of, IsJoined}
use Rattle.package_sets.specs.Joined.{JoinedPlaces}
use Rattle.package_sets.proofs.KeptParts.KeptTogether.{places-in}
use Rattle.package_sets.proofs.GrowingLists.{all-append, all-more, front-get, none-within, all-put, all-drop, drop-map, take-mapped}
use Rattle.package_sets.proofs.KeptParts.PropertiesOfKept.{interface-in, worlds-grouped-at}
use Rattle.package_sets.proofs.OwnedRows.RowsAreOwned.{interfaces-split, ends-split, length-rows}
use Rattle.package_sets.proofs.MovedRows.WhatRowsName.{row-references-put, named-same}
use Rattle.package_sets.proofs.AttachedSets.OwnPartStandsBehind.{before, before-le, import-found, interfaces-behind, worlds-behind, rows-behind, rows-there, row-there}

-- ---- lists

drop-drop : {A : Type 0} (a b : ℕ) (xs : List A) → drop a (drop b xs) ≡ drop (b + a) xs
drop-drop a zero xs = ap (λ n. drop n xs) (omega arith)
drop-drop a (suc b) [] = none a (suc b + a)
  where
    none : {A : Type 0} (m n : ℕ) → drop {A = A} m [] ≡ drop n []
    none zero zero = refl
    none zero (suc n) = refl
    none (suc m) zero = refl
    none (suc m) (suc n) = refl
drop-drop a (suc b) (x ∷ xs) = drop-drop a b xs ∙ ap (λ n. drop n (x ∷ xs)) (up b a)
  where
    up : (n m : ℕ) → suc (n + m) ≡ suc n + m
    up n m = omega arith

drop-behind : {A : Type 0} (xs ys : List A) (n : ℕ) → drop (length xs + n) (xs ++ ys) ≡ drop n ys
drop-behind [] ys n = ap (λ m. drop m ys) (omega arith)
drop-behind (x ∷ xs) ys n = ap (λ m. drop m (x ∷ (xs ++ ys))) (up (length xs) n) ∙ drop-behind xs ys n
  where
    up : (n m : ℕ) → suc n + m ≡ suc (n + m)
    up n m = omega arith

block-front : {A : Type 0} (start n : ℕ) (xs ys : List A) → start + n ≤ length xs → take n (drop start (xs ++ ys)) ≡ take n (drop start xs)
block-front zero n xs ys h = take-append-le n xs ys (omega arith)
block-front (suc start) n [] ys h = none n h
  where
    none : (n : ℕ) → suc start + n ≤ 0 → take n (drop (suc start) ([] ++ ys)) ≡ take n (drop (suc start) [])
    none n l = absurd (omega arith)
block-front (suc start) n (x ∷ xs) ys h = block-front start n xs ys (omega (arith, h))

filter-true : {A : Type 0} (f : A → Bool) → ((x : A) → f x ≡ true) → (xs : List A) → filter f xs ≡ xs
filter-true f h [] = refl
filter-true f h (x ∷ xs) = let r = filter-true f h xs in rw (h x) (ap (λ ys. x ∷ ys) r)

map-in : {A B : Type 0} (f g : A → B) (xs : List A) → ((x : A) → Contains xs x → f x ≡ g x) → map f xs ≡ map g xs
map-in f g [] h = refl
map-in f g (x ∷ xs) h =
    let e = h x (0, omega arith, refl) in
    let r = map-in f g xs (λ y c. h y (Contains-append_right (x ∷ []) xs y c)) in
    cc

-- .. of two properties that each has
each-both : {A : Type 0} (e f g : A → Bool) (xs : List A) → ((x : A) → e x ≡ true → f x ≡ true → g x ≡ true) → list_all e xs ≡ true → list_all f xs ≡ true → list_all g xs ≡ true
each-both e f g [] one k h = refl
each-both e f g (x ∷ xs) one k h =
    let p = split (f x) (list_all f xs) h in
    let q = split (e x) (list_all e xs) k in
    both (g x) (list_all g xs) (one x q.0 p.0) (each-both e f g xs one q.1 p.1)

-- ---- a table's rows, where more rows follow

module _ (ds es : List Definition) where
  own-more : (k : ℕ) (t : TypeId) → is_own ds k t ≡ true → is_own (ds ++ es) k t ≡ true
  own-more k t h = by (slice_get ds t.0) refl h
    where
      by : (o : Option Definition) → slice_get ds t.0 ≡ o → is_own_type k (type_of o) ≡ true → is_own (ds ++ es) k t ≡ true
      by None e q = absurd (true≢false (sym q))
      by (Some d) e q = rw (front-get ds es t.0 d e) q

  earlier-more : (k : ℕ) (t : TypeId) → is_earlier ds k t ≡ true → is_earlier (ds ++ es) k t ≡ true
  earlier-more k t h = by (slice_get ds t.0) refl h
    where
      by : (o : Option Definition) → slice_get ds t.0 ≡ o → is_earlier_type k (type_of o) ≡ true → is_earlier (ds ++ es) k t ≡ true
      by None e q = absurd (true≢false (sym q))
      by (Some d) e q = rw (front-get ds es t.0 d e) q

  nameless-more : (t : TypeId) → is_nameless ds t ≡ true → is_nameless (ds ++ es) t ≡ true
  nameless-more t h = by (slice_get ds t.0) refl h
    where
      by : (o : Option Definition) → slice_get ds t.0 ≡ o → is_nameless_type (type_of o) ≡ true → is_nameless (ds ++ es) t ≡ true
      by None e q = absurd (true≢false (sym q))
      by (Some d) e q = rw (front-get ds es t.0 d e) q

  uses-more : (k : ℕ) (x : TypeDefKind) → uses_earlier ds k x ≡ true → uses_earlier (ds ++ es) k x ≡ true
  uses-more k (kind.Use t) h = earlier-more k t h
  uses-more k (kind.Alias v) h = refl
  uses-more k (kind.List v) h = refl
  uses-more k (kind.Option v) h = refl
  uses-more k (kind.Result ok error) h = refl
  uses-more k (kind.Tuple vs) h = refl
  uses-more k (kind.Record fs) h = refl
  uses-more k (kind.Variant cs) h = refl
  uses-more k (kind.Enum ns) h = refl
  uses-more k (kind.Flags ns) h = refl

  owned-more : (k : ℕ) (d : Definition) → is_owned ds k d ≡ true → is_owned (ds ++ es) k d ≡ true
  owned-more k (row.Type d) h = let p = split (is_own_name k d.name) (uses_earlier ds k d.kind) h in both _ _ p.0 (uses-more k d.kind p.1)
  owned-more k (row.Function f) h = h

  local-more : (k : ℕ) (d : Definition) → is_local ds k d ≡ true → is_local (ds ++ es) k d ≡ true
  local-more k d h =
      let p = split (is_owned ds k d) (list_all (is_own ds k) (row_references d)) h in
      both _ _ (owned-more k d p.0) (all-more (is_own ds k) (is_own (ds ++ es) k) (row_references d) (own-more k) p.1)

  world-row-more : (k : ℕ) (d : Definition) → is_world_row ds k d ≡ true → is_world_row (ds ++ es) k d ≡ true
  world-row-more k d h =
      let p = split (is_of_world k d) (list_all (is_nameless ds) (row_references d)) h in
      both _ _ p.0 (all-more (is_nameless ds) (is_nameless (ds ++ es)) (row_references d) nameless-more p.1)

  use-same : (t : TypeId) → is_type_id ds t ≡ true → is_use_at (ds ++ es) t ≡ is_use_at ds t
  use-same t h = by (slice_get ds t.0) refl h
    where
      by : (o : Option Definition) → slice_get ds t.0 ≡ o → is_some_row (type_of o) ≡ true → is_use_at (ds ++ es) t ≡ is_use_at ds t
      by None e q = absurd (true≢false (sym q))
      by (Some d) e q = rw (front-get ds es t.0 d e, e) refl

  -- an interface's rows
  rows-more : (start k : ℕ) (i : Interface) → is_placed ds i ≡ true → AreRowsOf ds start k i → AreRowsOf (ds ++ es) start k i
  rows-more start k i h a = record {
    begins = a.begins;
    ends = omega (arith, a.ends, length-append ds es);
    ids = both _ _ (subst (λ (xs : List Definition). bytes_eq (ids_of i) (places_where is_named start xs) ≡ true) (sym same) p.0)
        (both _ _ (each-both (is_type_id ds) (is_use_at ds) (is_use_at (ds ++ es)) i.uses (λ t z u. use-same t z ∙ u) r.0 q.0)
        (each-both (is_type_id ds) (λ t. not (is_use_at ds t)) (λ t. not (is_use_at (ds ++ es) t)) i.types (λ t z u. ap not (use-same t z) ∙ u) t.0 q.1));
    local = subst (λ (xs : List Definition). list_all (is_local (ds ++ es) k) xs ≡ true) (sym same) (all-more (is_local ds k) (is_local (ds ++ es) k) (rows_of ds start i) (local-more k) a.local);
  }
    where
      same : rows_of (ds ++ es) start i ≡ rows_of ds start i
      same = block-front start (end_of start i - start) ds es (omega (arith, a.begins, a.ends))

      p : (bytes_eq (ids_of i) (places_where is_named start (rows_of ds start i)) ≡ true) × ((list_all (is_use_at ds) i.uses && list_all (λ t. not (is_use_at ds t)) i.types) ≡ true)
      p = split (bytes_eq (ids_of i) (places_where is_named start (rows_of ds start i))) (list_all (is_use_at ds) i.uses && list_all (λ t. not (is_use_at ds t)) i.types) a.ids

      q : (list_all (is_use_at ds) i.uses ≡ true) × (list_all (λ t. not (is_use_at ds t)) i.types ≡ true)
      q = split (list_all (is_use_at ds) i.uses) (list_all (λ t. not (is_use_at ds t)) i.types) p.1

      r : (list_all (is_type_id ds) i.uses ≡ true) × ((list_all (is_type_id ds) i.types && list_all (is_function_id ds) i.functions) ≡ true)
      r = split (list_all (is_type_id ds) i.uses) (list_all (is_type_id ds) i.types && list_all (is_function_id ds) i.functions) h

      t : (list_all (is_type_id ds) i.types ≡ true) × (list_all (is_function_id ds) i.functions ≡ true)
      t = split (list_all (is_type_id ds) i.types) (list_all (is_function_id ds) i.functions) r.1

  world-rows-more : (start k : ℕ) (w : World) → AreRowsOfWorld ds start k w → AreRowsOfWorld (ds ++ es) start k w
  world-rows-more start k w a = record {
    begins = a.begins;
    ends = omega (arith, a.ends, length-append ds es);
    items = subst (λ (xs : List Definition). bytes_eq (places_where is_named start xs) (functions_of w) ≡ true) (sym same) a.items;
    local = subst (λ (xs : List Definition). list_all (is_world_row (ds ++ es) k) xs ≡ true) (sym same) (all-more (is_world_row ds k) (is_world_row (ds ++ es) k) (world_rows ds start w) (world-row-more k) a.local);
  }
    where
      same : world_rows (ds ++ es) start w ≡ world_rows ds start w
      same = block-front start (world_end start w - start) ds es (omega (arith, a.begins, a.ends))

  -- a set's rows, and those of the interfaces and the worlds that follow
  pub set-stands : (start k : ℕ) (is : List Interface) (j : ℕ) (ws : List World) → ArePackageByPackage ds start k is j ws → list_all (is_placed ds) is ≡ true
      → (more : List Interface) (worlds : List World) → ((w : World) → Contains ws w → list_all (λ i. nat_lt w.«package».0 i.«package».0) more ≡ true)
      → ((i : Interface) → Contains is i → list_all (λ w. nat_le i.«package».0 w.«package».0) worlds ≡ true)
      → ArePackageByPackage (ds ++ es) (length ds) (k + length is) more (j + length ws) worlds → ArePackageByPackage (ds ++ es) start k (is ++ more) j (ws ++ worlds)
  set-stands _ _ _ _ _ (behind_all start k j e) h more worlds later after rest =
      subst (λ n. ArePackageByPackage (ds ++ es) n k more j worlds) (sym e)
      (subst (λ n. ArePackageByPackage (ds ++ es) (length ds) n more j worlds) (plus-none k) (subst (λ n. ArePackageByPackage (ds ++ es) (length ds) (k + 0) more n worlds) (plus-none j) rest))
    where
      plus-none : (n : ℕ) → n + 0 ≡ n
      plus-none n = omega arith
  set-stands _ _ _ _ _ (an_interface start k i is j ws a before-all tail) h more worlds later after rest =
      let p = split (is_placed ds i) (list_all (is_placed ds) is) h in
      an_interface start k i (is ++ more) j (ws ++ worlds) (rows-more start k i p.0 a)
      (all-append (λ w. nat_le i.«package».0 w.«package».0) ws worlds before-all (after i (0, omega arith, refl)))
      (set-stands (end_of start i) (k + 1) is j ws tail p.1 more worlds later (λ x c. after x (Contains-append_right (i ∷ []) is x c)) (subst (λ n. ArePackageByPackage (ds ++ es) (length ds) n more (j + length ws) worlds) (next k (length is)) rest))
    where
      next : (n m : ℕ) → n + suc m ≡ n + 1 + m
      next n m = omega arith
  set-stands _ _ _ _ _ (a_world start k is j w ws a before-all tail) h more worlds later after rest =
      a_world start k (is ++ more) j w (ws ++ worlds) (world-rows-more start j w a) (all-append (λ i. nat_lt w.«package».0 i.«package».0) is more before-all (later w (0, omega arith, refl)))
      (set-stands (world_end start w) k is (j + 1) ws tail h more worlds (λ x c. later x (Contains-append_right (w ∷ []) ws x c)) after
      (subst (λ n. ArePackageByPackage (ds ++ es) (length ds) (k + length is) more n worlds) (next j (length ws)) rest))
    where
      next : (n m : ℕ) → n + suc m ≡ n + 1 + m
      next n m = omega arith

-- ---- rows of the closed table, put behind the set

module _ (s c : Resolve) (j : JoinedPlaces) (q : IsJoined s c j) where
  abbrev to : Renaming
  to = renaming_of j

  abbrev R : List Definition
  R = rows-there s c j q

  -- where a row behind the imports' stands then
  abbrev moved : ℕ → ℕ
  moved x = length s.definitions + (x - j.imported)

  row-at : (x : ℕ) → j.imported ≤ x → x < length c.definitions → to.rows x ≡ moved x
  row-at x l h =
      let e : j.imported + (x - j.imported) ≡ x = omega arith in
      ap to.rows (sym e) ∙ rows-behind s c j q (x - j.imported) (omega (arith, l, h, length-drop j.imported c.definitions))

  interface-at : (k : ℕ) → import_count c ≤ k → k < length c.interfaces → to.interfaces k ≡ length s.interfaces + (k - import_count c)
  interface-at k l h =
      let e : import_count c + (k - import_count c) ≡ k = omega arith in
      ap to.interfaces (sym e) ∙ interfaces-behind s c j q (k - import_count c) (omega (arith, l, h, length-drop (import_count c) c.interfaces))

  interface-before : (i k : ℕ) → i < k → import_count c ≤ k → k < length c.interfaces → to.interfaces i < length s.interfaces + (k - import_count c)
  interface-before i k b l h = by (before s c j q i (import_count c))
    where
      found : (o : Option Interface) → slice_get c.interfaces i ≡ o → i < import_count c → to.interfaces i < length s.interfaces + (k - import_count c)
      found None e z = absurd (none-within c.interfaces i (omega arith) e)
      found (Some x) e z = let f = import-found s c j q i x z e in omega (arith, slice_get_within s.interfaces (to.interfaces i) f.one f.stands)

      by : (i < import_count c) ⊎ (import_count c + (i - import_count c) ≡ i) → to.interfaces i < length s.interfaces + (k - import_count c)
      by (inl z) = found (slice_get c.interfaces i) refl z
      by (inr g) = omega (arith, interface-at i (omega arith) (omega arith))

  -- ---- one row

  module _ (k : ℕ) (l : import_count c ≤ k) (h : k < length c.interfaces) where
    abbrev there : ℕ
    there = length s.interfaces + (k - import_count c)

    own-name-there : (m : Option TypeName) → is_own_name k m ≡ true → is_own_name there (option_map (put_name to) m) ≡ true
    own-name-there None z = refl
    own-name-there (Some y) z = eq-eqb _ _ (ap to.interfaces (eqb-true y.interface.0 k z) ∙ interface-at k l h)

    earlier-name-there : (m : Option TypeName) → is_earlier_name k m ≡ true → is_earlier_name there (option_map (put_name to) m) ≡ true
    earlier-name-there None z = absurd (true≢false (sym z))
    earlier-name-there (Some y) z = lt-ltb _ _ (interface-before y.interface.0 k (ltb-true y.interface.0 k z) l h)

    own-there : (t : TypeId) → is_own c.definitions k t ≡ true → is_own R there (put_id to t) ≡ true
    own-there t z = by (slice_get c.definitions t.0) refl z
      where
        by : (o : Option Definition) → slice_get c.definitions t.0 ≡ o → is_own_type k (type_of o) ≡ true → is_own R there (put_id to t) ≡ true
        by None e y = absurd (true≢false (sym y))
        by (Some (row.Function f)) e y = absurd (true≢false (sym y))
        by (Some (row.Type x)) e y = rw (row-there s c j q t.0 (row.Type x) e) (own-name-there x.name y)

    earlier-there : (t : TypeId) → is_earlier c.definitions k t ≡ true → is_earlier R there (put_id to t) ≡ true
    earlier-there t z = by (slice_get c.definitions t.0) refl z
      where
        by : (o : Option Definition) → slice_get c.definitions t.0 ≡ o → is_earlier_type k (type_of o) ≡ true → is_earlier R there (put_id to t) ≡ true
        by None e y = absurd (true≢false (sym y))
        by (Some (row.Function f)) e y = absurd (true≢false (sym y))
        by (Some (row.Type x)) e y = rw (row-there s c j q t.0 (row.Type x) e) (earlier-name-there x.name y)

    uses-there : (m : TypeDefKind) → uses_earlier c.definitions k m ≡ true → uses_earlier R there (put_kind to m) ≡ true
    uses-there (kind.Use t) y = earlier-there t y
    uses-there (kind.Alias v) y = refl
    uses-there (kind.List v) y = refl
    uses-there (kind.Option v) y = refl
    uses-there (kind.Result ok error) y = refl
    uses-there (kind.Tuple vs) y = refl
    uses-there (kind.Record fs) y = refl
    uses-there (kind.Variant cs) y = refl
    uses-there (kind.Enum ns) y = refl
    uses-there (kind.Flags ns) y = refl

    owned-there : (d : Definition) → is_owned c.definitions k d ≡ true → is_owned R there (put_row to d) ≡ true
    owned-there (row.Type d) z = let p = split (is_own_name k d.name) (uses_earlier c.definitions k d.kind) z in both _ _ (own-name-there d.name p.0) (uses-there d.kind p.1)
    owned-there (row.Function f) z = by f.owner z
      where
        by : (o : Owner) → is_owned_by k o ≡ true → is_owned_by there (put_owner to o) ≡ true
        by (owner.World w) y = absurd (true≢false (sym y))
        by (owner.Interface i) y = eq-eqb _ _ (ap to.interfaces (eqb-true i.0 k y) ∙ interface-at k l h)

    local-there : (d : Definition) → is_local c.definitions k d ≡ true → is_local R there (put_row to d) ≡ true
    local-there d z =
        let p = split (is_owned c.definitions k d) (list_all (is_own c.definitions k) (row_references d)) z in
        both _ _ (owned-there d p.0) (rw (row-references-put to d) (all-put (put_id to) (is_own c.definitions k) (is_own R there) (row_references d) (λ n t e y. own-there t y) p.1))

  nameless-there : (t : TypeId) → is_nameless c.definitions t ≡ true → is_nameless R (put_id to t) ≡ true
  nameless-there t z = by (slice_get c.definitions t.0) refl z
    where
      named : (m : Option TypeName) → not (is_some m) ≡ true → not (is_some (option_map (put_name to) m)) ≡ true
      named None y = refl
      named (Some x) y = absurd (true≢false (sym y))

      by : (o : Option Definition) → slice_get c.definitions t.0 ≡ o → is_nameless_type (type_of o) ≡ true → is_nameless R (put_id to t) ≡ true
      by None e y = absurd (true≢false (sym y))
      by (Some (row.Function f)) e y = absurd (true≢false (sym y))
      by (Some (row.Type x)) e y = rw (row-there s c j q t.0 (row.Type x) e) (named x.name y)

  world-row-there : (k : ℕ) → k < length c.worlds → (d : Definition) → is_world_row c.definitions k d ≡ true → is_world_row R (length s.worlds + k) (put_row to d) ≡ true
  world-row-there k h d z =
      let p = split (is_of_world k d) (list_all (is_nameless c.definitions) (row_references d)) z in
      both _ _ (owned d p.0) (rw (row-references-put to d) (all-put (put_id to) (is_nameless c.definitions) (is_nameless R) (row_references d) (λ n t e y. nameless-there t y) p.1))
    where
      owned : (x : Definition) → is_of_world k x ≡ true → is_of_world (length s.worlds + k) (put_row to x) ≡ true
      owned (row.Type x) y = by x.name y
        where
          by : (m : Option TypeName) → not (is_some m) ≡ true → not (is_some (option_map (put_name to) m)) ≡ true
          by None w = refl
          by (Some v) w = absurd (true≢false (sym w))
      owned (row.Function f) y = by f.owner y
        where
          by : (o : Owner) → is_owner_world k o ≡ true → is_owner_world (length s.worlds + k) (put_owner to o) ≡ true
          by (owner.Interface i) w = absurd (true≢false (sym w))
          by (owner.World v) w = eq-eqb _ _ (ap to.worlds (eqb-true v.0 k w) ∙ worlds-behind s c j q k h)

  use-there : (t : TypeId) → is_type_id c.definitions t ≡ true → is_use_at R (put_id to t) ≡ is_use_at c.definitions t
  use-there t z = by (slice_get c.definitions t.0) refl z
    where
      kinds : (k : TypeDefKind) → is_use (put_kind to k) ≡ is_use k
      kinds (kind.Use u) = refl
      kinds (kind.Alias v) = refl
      kinds (kind.List v) = refl
      kinds (kind.Option v) = refl
      kinds (kind.Result ok error) = refl
      kinds (kind.Tuple vs) = refl
      kinds (kind.Record fs) = refl
      kinds (kind.Variant cs) = refl
      kinds (kind.Enum ns) = refl
      kinds (kind.Flags ns) = refl

      by : (o : Option Definition) → slice_get c.definitions t.0 ≡ o → is_some_row (type_of o) ≡ true → is_use_at R (put_id to t) ≡ is_use_at c.definitions t
      by None e y = absurd (true≢false (sym y))
      by (Some (row.Function f)) e y = absurd (true≢false (sym y))
      by (Some (row.Type x)) e y = ap (λ (o : Option Definition). is_use_type (type_of o)) (row-there s c j q t.0 (row.Type x) e) ∙ (kinds x.kind ∙ sym (ap (λ (o : Option Definition). is_use_type (type_of o)) e))

  -- ---- blocks

  -- the places from start on, all behind the imports'
  abbrev AreIn : ℕ → List ℕ → Type 0
  AreIn start xs = (x : ℕ) → Contains xs x → (start ≤ x) × (x < length c.definitions)

  block-put : (start end : ℕ) → j.imported ≤ start → start ≤ end → end ≤ length c.definitions
      → take (moved end - moved start) (drop (moved start) R) ≡ map (put_row to) (take (end - start) (drop start c.definitions))
  block-put start end l b e =
      let size : moved end - moved start ≡ end - start = omega arith in
      let at : j.imported + (start - j.imported) ≡ start = omega arith in
      ap (λ n. take n (drop (moved start) R)) size
      ∙ (ap (take (end - start)) (drop-behind s.definitions (map (put_row to) (drop j.imported c.definitions)) (start - j.imported)
      ∙ (drop-map (put_row to) (start - j.imported) (drop j.imported c.definitions) ∙ ap (map (put_row to)) (drop-drop (start - j.imported) j.imported c.definitions ∙ ap (λ n. drop n c.definitions) at)))
      ∙ take-mapped (put_row to) (end - start) (drop start c.definitions))

  places-moved : (is : Definition → Bool) → ((d : Definition) → is (put_row to d) ≡ is d) → (start : ℕ) (ds : List Definition) → j.imported ≤ start → places_where is (moved start) (map (put_row to) ds) ≡ map moved (places_where is start ds)
  places-moved is same start [] l = refl
  places-moved is same start (d ∷ ds) l =
      let next : moved start + 1 ≡ moved (start + 1) = omega arith in
      by (is d) refl (ap (λ n. places_where is n (map (put_row to) ds)) next ∙ places-moved is same (start + 1) ds (omega arith))
    where
      by : (b : Bool) → is d ≡ b → places_where is (moved start + 1) (map (put_row to) ds) ≡ map moved (places_where is (start + 1) ds) → places_where is (moved start) (map (put_row to) (d ∷ ds)) ≡ map moved (places_where is start (d ∷ ds))
      by true e r = rw (same d, e) (ap (λ ns. moved start ∷ ns) r)
      by false e r = rw (same d, e) r

  -- ids of rows in a block
  in-block : (start end : ℕ) (xs : List ℕ) → start ≤ end → end ≤ length c.definitions → xs ≡ places_where is_named start (take (end - start) (drop start c.definitions)) → AreIn start xs
  in-block start end xs b e same x d =
      let p = places-in is_named start (take (end - start) (drop start c.definitions)) x (subst (λ (ys : List ℕ). Contains ys x) same d) in
      let l = slice_get_within (take (end - start) (drop start c.definitions)) p.0 p.1 p.3 in
      (omega (arith, p.2), omega (arith, p.2, l, length-take (end - start) (drop start c.definitions)))

  types-kept : (ts : List TypeId) → put_types to ts ≡ map (put_id to) ts
  types-kept ts = ap (map (put_id to)) (filter-true (has_type to) (λ t. refl) ts)

  functions-kept : (fs : List FunctionId) → put_functions to fs ≡ map (put_function_id to) fs
  functions-kept fs = ap (map (put_function_id to)) (filter-true (has_function to) (λ t. refl) fs)

  type-ids : (ts : List TypeId) → map (λ t. t.0) (put_types to ts) ≡ map to.rows (map (λ t. t.0) ts)
  type-ids ts = ap (map (λ (t : TypeId). t.0)) (types-kept ts) ∙ ids ts
    where
      ids : (us : List TypeId) → map (λ t. t.0) (map (put_id to) us) ≡ map to.rows (map (λ t. t.0) us)
      ids [] = refl
      ids (t ∷ us) = ap (λ xs. to.rows t.0 ∷ xs) (ids us)

  function-ids : (fs : List FunctionId) → map (λ f. f.0) (put_functions to fs) ≡ map to.rows (map (λ f. f.0) fs)
  function-ids fs = ap (map (λ (f : FunctionId). f.0)) (functions-kept fs) ∙ ids fs
    where
      ids : (us : List FunctionId) → map (λ t. t.0) (map (put_function_id to) us) ≡ map to.rows (map (λ t. t.0) us)
      ids [] = refl
      ids (t ∷ us) = ap (λ xs. to.rows t.0 ∷ xs) (ids us)

  pub ids-put : (i : Interface) → ids_of (put_interface to i) ≡ map to.rows (ids_of i)
  ids-put i =
      let us = map (λ (t : TypeId). t.0) i.uses in
      let ts = map (λ (t : TypeId). t.0) i.types in
      let fs = map (λ (f : FunctionId). f.0) i.functions in
      let a : map (λ (t : TypeId). t.0) (put_types to i.uses) ≡ map to.rows us = type-ids i.uses in
      let b : map (λ (t : TypeId). t.0) (put_types to i.types) ≡ map to.rows ts = type-ids i.types in
      let d : map (λ (f : FunctionId). f.0) (put_functions to i.functions) ≡ map to.rows fs = function-ids i.functions in
      ap (λ xs. xs ++ (map (λ (t : TypeId). t.0) (put_types to i.types) ++ map (λ (f : FunctionId). f.0) (put_functions to i.functions))) a
      ∙ (ap (λ xs. map to.rows us ++ (xs ++ map (λ (f : FunctionId). f.0) (put_functions to i.functions))) b
      ∙ (ap (λ xs. map to.rows us ++ (map to.rows ts ++ xs)) d ∙ (ap (λ xs. map to.rows us ++ xs) (sym (map-append to.rows ts fs)) ∙ sym (map-append to.rows us (ts ++ fs)))))

  rows-moved : (xs : List ℕ) → AreIn j.imported xs → map to.rows xs ≡ map moved xs
  rows-moved xs h = map-in to.rows moved xs (λ x d. row-at x (h x d).0 (h x d).1)

  -- ---- ends

  types-end : (start : ℕ) (ts : List TypeId) → AreIn j.imported (map (λ t. t.0) ts) → behind_types (moved start) (map (put_id to) ts) ≡ moved (behind_types start ts)
  types-end start [] h = refl
  types-end start (t ∷ ts) h =
      let p = h t.0 (0, omega arith, refl) in
      let next : to.rows t.0 + 1 ≡ moved (t.0 + 1) = omega (arith, p.0, row-at t.0 p.0 p.1) in
      ap (λ n. behind_types n (map (put_id to) ts)) next ∙ types-end (t.0 + 1) ts (λ x d. h x (Contains-append_right (t.0 ∷ []) (map (λ u. u.0) ts) x d))

  functions-end : (start : ℕ) (ts : List FunctionId) → AreIn j.imported (map (λ t. t.0) ts) → behind_functions (moved start) (map (put_function_id to) ts) ≡ moved (behind_functions start ts)
  functions-end start [] h = refl
  functions-end start (t ∷ ts) h =
      let p = h t.0 (0, omega arith, refl) in
      let next : to.rows t.0 + 1 ≡ moved (t.0 + 1) = omega (arith, p.0, row-at t.0 p.0 p.1) in
      ap (λ n. behind_functions n (map (put_function_id to) ts)) next ∙ functions-end (t.0 + 1) ts (λ x d. h x (Contains-append_right (t.0 ∷ []) (map (λ u. u.0) ts) x d))

  end-put : (start : ℕ) (i : Interface) → AreIn j.imported (ids_of i) → end_of (moved start) (put_interface to i) ≡ moved (end_of start i)
  end-put start i h =
      let us = map (λ (t : TypeId). t.0) i.uses in
      let ts = map (λ (t : TypeId). t.0) i.types in
      let fs = map (λ (f : FunctionId). f.0) i.functions in
      let first : behind_types (moved start) (put_types to i.uses) ≡ moved (behind_types start i.uses) =
      ap (behind_types (moved start)) (types-kept i.uses) ∙ types-end start i.uses (λ x d. h x (Contains-append_left us (ts ++ fs) x d)) in
      let second : behind_types (moved (behind_types start i.uses)) (put_types to i.types) ≡ moved (behind_types (behind_types start i.uses) i.types) =
      ap (behind_types (moved (behind_types start i.uses))) (types-kept i.types) ∙ types-end (behind_types start i.uses) i.types (λ x d. h x (Contains-append_right us (ts ++ fs) x (Contains-append_left ts fs x d))) in
      let third : behind_functions (moved (behind_types (behind_types start i.uses) i.types)) (put_functions to i.functions) ≡ moved (end_of start i) =
      ap (behind_functions (moved (behind_types (behind_types start i.uses) i.types))) (functions-kept i.functions)
      ∙ functions-end (behind_types (behind_types start i.uses) i.types) i.functions (λ x d. h x (Contains-append_right us (ts ++ fs) x (Contains-append_right ts fs x d))) in
      ap (λ n. behind_functions (behind_types n (put_types to i.types)) (put_functions to i.functions)) first ∙ (ap (λ n. behind_functions n (put_functions to i.functions)) second ∙ third)

  items-end : (start : ℕ) (is : List WorldItem) → AreIn j.imported (flat_map functions_in_item is) → behind_items (moved start) (map (put_item to) is) ≡ moved (behind_items start is)
  items-end start [] h = refl
  items-end start (i ∷ is) h = ap (λ n. behind_items n (map (put_item to) is)) (one i.kind (λ x d. h x (Contains-append_left (functions_in_item i) (flat_map functions_in_item is) x d))) ∙ items-end (behind_item start i.kind) is (λ x d. h x (Contains-append_right (functions_in_item i) (flat_map functions_in_item is) x d))
    where
      one : (k : WorldItemKind) → AreIn j.imported (item_function k) → behind_item (moved start) (put_item_kind to k) ≡ moved (behind_item start k)
      one (item.Interface i) g = refl
      one (item.Function f) g = let p = g f.0 (0, omega arith, refl) in omega (arith, p.0, row-at f.0 p.0 p.1)

  functions-put : (is : List WorldItem) → flat_map functions_in_item (map (put_item to) is) ≡ map to.rows (flat_map functions_in_item is)
  functions-put [] = refl
  functions-put (i ∷ is) = by i.kind (functions-put is)
    where
      by : (k : WorldItemKind) → flat_map functions_in_item (map (put_item to) is) ≡ map to.rows (flat_map functions_in_item is)
          → item_function (put_item_kind to k) ++ flat_map functions_in_item (map (put_item to) is) ≡ map to.rows (item_function k ++ flat_map functions_in_item is)
      by (item.Interface i) r = r
      by (item.Function f) r = ap (λ xs. to.rows f.0 ∷ xs) r

  -- ---- an interface, and a world

  all-put-both : {A B : Type 0} (put : A → B) (e f : A → Bool) (g : B → Bool) (xs : List A) → ((x : A) → e x ≡ true → f x ≡ true → g (put x) ≡ true) → list_all e xs ≡ true → list_all f xs ≡ true → list_all g (map put xs) ≡ true
  all-put-both put e f g [] one k h = refl
  all-put-both put e f g (x ∷ xs) one k h =
      let p = split (f x) (list_all f xs) h in
      let r = split (e x) (list_all e xs) k in
      both (g (put x)) (list_all g (map put xs)) (one x r.0 p.0) (all-put-both put e f g xs one r.1 p.1)

  interface-step : (start k : ℕ) (i : Interface) → j.imported ≤ start → import_count c ≤ k → k < length c.interfaces → AreRowsOf c.definitions start k i → is_placed c.definitions i ≡ true
      → AreRowsOf R (moved start) (length s.interfaces + (k - import_count c)) (put_interface to i) × (end_of (moved start) (put_interface to i) ≡ moved (end_of start i))
  interface-step start k i l b h a placed = (rows-are, ends-same)
    where
      parts : (bytes_eq (ids_of i) (places_where is_named start (rows_of c.definitions start i)) ≡ true) × ((list_all (is_use_at c.definitions) i.uses && list_all (λ t. not (is_use_at c.definitions t)) i.types) ≡ true)
      parts = split (bytes_eq (ids_of i) (places_where is_named start (rows_of c.definitions start i))) (list_all (is_use_at c.definitions) i.uses && list_all (λ t. not (is_use_at c.definitions t)) i.types) a.ids

      kinds : (list_all (is_use_at c.definitions) i.uses ≡ true) × (list_all (λ t. not (is_use_at c.definitions t)) i.types ≡ true)
      kinds = split (list_all (is_use_at c.definitions) i.uses) (list_all (λ t. not (is_use_at c.definitions t)) i.types) parts.1

      uses-placed : (list_all (is_type_id c.definitions) i.uses ≡ true) × ((list_all (is_type_id c.definitions) i.types && list_all (is_function_id c.definitions) i.functions) ≡ true)
      uses-placed = split (list_all (is_type_id c.definitions) i.uses) (list_all (is_type_id c.definitions) i.types && list_all (is_function_id c.definitions) i.functions) placed

      types-placed : list_all (is_type_id c.definitions) i.types ≡ true
      types-placed = (split (list_all (is_type_id c.definitions) i.types) (list_all (is_function_id c.definitions) i.functions) uses-placed.1).0

      ids : ids_of i ≡ places_where is_named start (rows_of c.definitions start i)
      ids = (bytes_eq-Decides (ids_of i) (places_where is_named start (rows_of c.definitions start i))).0 parts.0

      inside : AreIn j.imported (ids_of i)
      inside x d = let p = in-block start (end_of start i) (ids_of i) a.begins a.ends ids x d in (omega (arith, l, p.0), p.1)

      ends-same : end_of (moved start) (put_interface to i) ≡ moved (end_of start i)
      ends-same = end-put start i inside

      block-is : rows_of R (moved start) (put_interface to i) ≡ map (put_row to) (rows_of c.definitions start i)
      block-is = ap (λ e. take (e - moved start) (drop (moved start) R)) ends-same ∙ block-put start (end_of start i) l a.begins a.ends

      ids-are : ids_of (put_interface to i) ≡ places_where is_named (moved start) (rows_of R (moved start) (put_interface to i))
      ids-are =
          ids-put i
          ∙ (rows-moved (ids_of i) inside
          ∙ (ap (map moved) ids ∙ (sym (places-moved is_named (named-same to) start (rows_of c.definitions start i) l) ∙ sym (ap (places_where is_named (moved start)) block-is))))

      uses-are : list_all (is_use_at R) (put_types to i.uses) ≡ true
      uses-are = subst (λ (ts : List TypeId). list_all (is_use_at R) ts ≡ true) (sym (types-kept i.uses))
          (all-put-both (put_id to) (is_type_id c.definitions) (is_use_at c.definitions) (is_use_at R) i.uses (λ t z u. use-there t z ∙ u) uses-placed.0 kinds.0)

      types-are : list_all (λ t. not (is_use_at R t)) (put_types to i.types) ≡ true
      types-are = subst (λ (ts : List TypeId). list_all (λ t. not (is_use_at R t)) ts ≡ true) (sym (types-kept i.types))
          (all-put-both (put_id to) (is_type_id c.definitions) (λ t. not (is_use_at c.definitions t)) (λ t. not (is_use_at R t)) i.types (λ t z u. ap not (use-there t z) ∙ u) types-placed kinds.1)

      rows-are : AreRowsOf R (moved start) (length s.interfaces + (k - import_count c)) (put_interface to i)
      rows-are = record {
        begins = omega (arith, ends-same, a.begins, l);
        ends = omega (arith, ends-same, a.ends, a.begins, l, length-append s.definitions (map (put_row to) (drop j.imported c.definitions)), length-map (drop j.imported c.definitions) (put_row to), length-drop j.imported c.definitions);
        ids = both _ _ ((bytes_eq-Decides (ids_of (put_interface to i)) (places_where is_named (moved start) (rows_of R (moved start) (put_interface to i)))).1 ids-are) (both _ _ uses-are types-are);
        local = subst (λ (xs : List Definition). list_all (is_local R (length s.interfaces + (k - import_count c))) xs ≡ true) (sym block-is)
            (all-put (put_row to) (is_local c.definitions k) (is_local R (length s.interfaces + (k - import_count c))) (rows_of c.definitions start i) (λ n d e z. local-there k b h d z) a.local);
      }

  world-step : (start k : ℕ) (w : World) → j.imported ≤ start → k < length c.worlds → AreRowsOfWorld c.definitions start k w
      → AreRowsOfWorld R (moved start) (length s.worlds + k) (put_world to w) × (world_end (moved start) (put_world to w) ≡ moved (world_end start w))
  world-step start k w l h a = (rows-are, ends-same)
    where
      ids : places_where is_named start (world_rows c.definitions start w) ≡ functions_of w
      ids = (bytes_eq-Decides (places_where is_named start (world_rows c.definitions start w)) (functions_of w)).0 a.items

      inside : AreIn j.imported (functions_of w)
      inside x d = let p = in-block start (world_end start w) (functions_of w) a.begins a.ends (sym ids) x d in (omega (arith, l, p.0), p.1)

      ends-same : world_end (moved start) (put_world to w) ≡ moved (world_end start w)
      ends-same = items-end start w.items inside

      block-is : world_rows R (moved start) (put_world to w) ≡ map (put_row to) (world_rows c.definitions start w)
      block-is = ap (λ e. take (e - moved start) (drop (moved start) R)) ends-same ∙ block-put start (world_end start w) l a.begins a.ends

      ids-are : places_where is_named (moved start) (world_rows R (moved start) (put_world to w)) ≡ functions_of (put_world to w)
      ids-are =
          ap (places_where is_named (moved start)) block-is
          ∙ (places-moved is_named (named-same to) start (world_rows c.definitions start w) l ∙ (ap (map moved) ids ∙ (sym (rows-moved (functions_of w) inside) ∙ sym (functions-put w.items))))

      rows-are : AreRowsOfWorld R (moved start) (length s.worlds + k) (put_world to w)
      rows-are = record {
        begins = omega (arith, ends-same, a.begins, l);
        ends = omega (arith, ends-same, a.ends, a.begins, l, length-append s.definitions (map (put_row to) (drop j.imported c.definitions)), length-map (drop j.imported c.definitions) (put_row to), length-drop j.imported c.definitions);
        items = (bytes_eq-Decides (places_where is_named (moved start) (world_rows R (moved start) (put_world to w))) (functions_of (put_world to w))).1 ids-are;
        local = subst (λ (xs : List Definition). list_all (is_world_row R (length s.worlds + k)) xs ≡ true) (sym block-is)
            (all-put (put_row to) (is_world_row c.definitions k) (is_world_row R (length s.worlds + k)) (world_rows c.definitions start w) (λ n d e z. world-row-there k h d z) a.local);
      }

  -- ---- all of them

  worlds-stand : (start k at : ℕ) (ws : List World) → j.imported ≤ start → k + length ws ≡ length c.worlds → are_worlds_parted (length c.definitions) start ws ≡ true → have_items c.definitions k start ws ≡ true
      → ArePackageByPackage R (moved start) at [] (length s.worlds + k) (map (put_world to) ws)
  worlds-stand start k at [] l n p h =
      behind_all (moved start) at (length s.worlds + k)
      (omega (arith, l, eqb-true start (length c.definitions) p, length-append s.definitions (map (put_row to) (drop j.imported c.definitions)), length-map (drop j.imported c.definitions) (put_row to), length-drop j.imported c.definitions))
  worlds-stand start k at (w ∷ ws) l n p h =
      let p0 = split (nat_le start (world_end start w)) (nat_le (world_end start w) (length c.definitions) && are_worlds_parted (length c.definitions) (world_end start w) ws) p in
      let p1 = split (nat_le (world_end start w) (length c.definitions)) (are_worlds_parted (length c.definitions) (world_end start w) ws) p0.1 in
      let h0 = split (has_items c.definitions start w && list_all (is_world_row c.definitions k) (world_rows c.definitions start w)) (have_items c.definitions (k + 1) (world_end start w) ws) h in
      let h1 = split (has_items c.definitions start w) (list_all (is_world_row c.definitions k) (world_rows c.definitions start w)) h0.0 in
      let begins = leb-true start (world_end start w) p0.0 in
      let a : AreRowsOfWorld c.definitions start k w = record { begins = begins; ends = leb-true (world_end start w) (length c.definitions) p1.0; items = h1.0; local = h1.1 } in
      let step = world-step start k w l (omega (arith, n)) a in
      let next : length s.worlds + (k + 1) ≡ length s.worlds + k + 1 = omega arith in
      a_world (moved start) at [] (length s.worlds + k) (put_world to w) (map (put_world to) ws) step.0 refl
      (subst (λ e. ArePackageByPackage R e at [] (length s.worlds + k + 1) (map (put_world to) ws)) (sym step.1)
      (subst (λ e. ArePackageByPackage R (moved (world_end start w)) at [] e (map (put_world to) ws)) next (worlds-stand (world_end start w) (k + 1) at ws (omega (arith, l, begins)) (omega (arith, n)) p1.1 h0.1)))

  -- all of them are of the package that is put behind the set, or of no earlier one
  own-worlds : (p : ℕ) (ws : List World) → p ≤ j.«package» → list_all (λ w. nat_le p w.«package».0) (map (put_world to) ws) ≡ true
  own-worlds p [] l = refl
  own-worlds p (w ∷ ws) l = both _ _ (le-leb p j.«package» l) (own-worlds p ws l)

  interfaces-stand : (start k : ℕ) (is : List Interface) → j.imported ≤ start → import_count c ≤ k → k + length is ≡ length c.interfaces → is_parted (length c.definitions) start is c.worlds ≡ true
      → are_interfaces c.definitions k start is ≡ true → are_placed c.definitions is ≡ true → have_items c.definitions 0 (interfaces_end start is) c.worlds ≡ true
      → ArePackageByPackage R (moved start) (length s.interfaces + (k - import_count c)) (map (put_interface to) is) (length s.worlds + 0) (map (put_world to) c.worlds)
  interfaces-stand start k [] l b n p h z g = worlds-stand start 0 (length s.interfaces + (k - import_count c)) c.worlds l (omega arith) p g
  interfaces-stand start k (i ∷ is) l b n p h z g =
      let p0 = split (nat_le start (end_of start i)) (nat_le (end_of start i) (length c.definitions) && is_parted (length c.definitions) (end_of start i) is c.worlds) p in
      let p1 = split (nat_le (end_of start i) (length c.definitions)) (is_parted (length c.definitions) (end_of start i) is c.worlds) p0.1 in
      let h0 = split (has_ids c.definitions start i && list_all (is_local c.definitions k) (rows_of c.definitions start i)) (are_interfaces c.definitions (k + 1) (end_of start i) is) h in
      let h1 = split (has_ids c.definitions start i) (list_all (is_local c.definitions k) (rows_of c.definitions start i)) h0.0 in
      let z0 = split (is_placed c.definitions i) (are_placed c.definitions is) z in
      let begins = leb-true start (end_of start i) p0.0 in
      let a : AreRowsOf c.definitions start k i = record { begins = begins; ends = leb-true (end_of start i) (length c.definitions) p1.0; ids = h1.0; local = h1.1 } in
      let step = interface-step start k i l b (omega (arith, n)) a z0.0 in
      let next : length s.interfaces + (k + 1 - import_count c) ≡ length s.interfaces + (k - import_count c) + 1 = omega (arith, b) in
      an_interface (moved start) (length s.interfaces + (k - import_count c)) (put_interface to i) (map (put_interface to) is) (length s.worlds + 0) (map (put_world to) c.worlds) step.0 (own-worlds j.«package» c.worlds (omega arith))
      (subst (λ e. ArePackageByPackage R e (length s.interfaces + (k - import_count c) + 1) (map (put_interface to) is) (length s.worlds + 0) (map (put_world to) c.worlds)) (sym step.1)
      (subst (λ e. ArePackageByPackage R (moved (end_of start i)) e (map (put_interface to) is) (length s.worlds + 0) (map (put_world to) c.worlds)) next
      (interfaces-stand (end_of start i) (k + 1) is (omega (arith, l, begins)) (omega (arith, b)) (omega (arith, n)) p1.1 h0.1 z0.1 g)))

  pub parted-drop : (count start n : ℕ) (is : List Interface) (ws : List World) → is_parted count start is ws ≡ true → is_parted count (interfaces_end start (take n is)) (drop n is) ws ≡ true
  parted-drop count start zero is ws h = h
  parted-drop count start (suc n) [] ws h = h
  parted-drop count start (suc n) (i ∷ is) ws h =
      parted-drop count (end_of start i) n is ws (split (nat_le (end_of start i) count) (is_parted count (end_of start i) is ws) (split (nat_le start (end_of start i)) (nat_le (end_of start i) count && is_parted count (end_of start i) is ws) h).1).1

  own-later : (w : World) → Contains s.worlds w → (is : List Interface) → list_all (λ i. nat_lt w.«package».0 i.«package».0) (map (put_interface to) is) ≡ true
  own-later w d [] = refl
  own-later w (k, l, e) (i ∷ is) =
      let within = worlds-grouped-at (length s.packages) 0 s.worlds k w s.worlds_grouped (slice_get-get_or s.worlds k w l ∙ ap Some e) in
      both _ _ (lt-ltb w.«package».0 j.«package» (omega (arith, within, q.are_joined.package_is))) (own-later w (k, l, e) is)

  own-after : (i : Interface) → Contains s.interfaces i → list_all (λ w. nat_le i.«package».0 w.«package».0) (map (put_world to) c.worlds) ≡ true
  own-after i (k, l, e) =
      let within = interface-in s k i (slice_get-get_or s.interfaces k i l ∙ ap Some e) in
      own-worlds i.«package».0 c.worlds (omega (arith, within, q.are_joined.package_is))

  -- the imports' rows end where they do
  pub imported-end : HasRowsInForm c → j.imported ≡ interfaces_end 0 (imports c)
  imported-end form =
      q.are_joined.imported_is
      ∙ omega (arith, length-rows s (length c.definitions) 0 (import_count c) c.interfaces c.worlds q.are_joined.places form.parted q.are_joined.found.count)

  -- the rows that are put behind the set's
  pub own-stand : HasRowsInForm c → ArePackageByPackage R (length s.definitions) (0 + length s.interfaces) (map (put_interface to) (own_interfaces c)) (0 + length s.worlds) (map (put_world to) c.worlds)
  own-stand form =
      let n = import_count c in
      let end : ℕ = interfaces_end 0 (imports c) in
      let imported = imported-end form in
      let split-form = interfaces-split c.definitions 0 0 n c.interfaces form.interfaces in
      let first : 0 + n ≡ n = omega arith in
      let tail = interfaces-stand end n (own_interfaces c) (omega (arith, imported)) (omega arith) (omega (arith, length-drop n c.interfaces, before-le (own_package c.packages) c.interfaces))
      (parted-drop (length c.definitions) 0 n c.interfaces c.worlds form.parted) (subst (λ k. are_interfaces c.definitions k end (own_interfaces c) ≡ true) first split-form.1)
      (all-drop (is_placed c.definitions) n c.interfaces c.placed) (subst (λ e. have_items c.definitions 0 e c.worlds ≡ true) (sym (ends-split 0 n c.interfaces)) form.items) in
      let start : moved end ≡ length s.definitions = omega (arith, imported) in
      let interfaces : length s.interfaces + (n - n) ≡ 0 + length s.interfaces = omega arith in
      let worlds : length s.worlds + 0 ≡ 0 + length s.worlds = omega arith in
      subst (λ x. ArePackageByPackage R x (0 + length s.interfaces) (map (put_interface to) (own_interfaces c)) (0 + length s.worlds) (map (put_world to) c.worlds)) start
      (subst (λ x. ArePackageByPackage R (moved end) x (map (put_interface to) (own_interfaces c)) (0 + length s.worlds) (map (put_world to) c.worlds)) interfaces
      (subst (λ x. ArePackageByPackage R (moved end) (length s.interfaces + (n - n)) (map (put_interface to) (own_interfaces c)) x (map (put_world to) c.worlds)) worlds tail))

  pub all-stand : IsPackageByPackage s → HasRowsInForm c → ArePackageByPackage R 0 0 (s.interfaces ++ map (put_interface to) (own_interfaces c)) 0 (s.worlds ++ map (put_world to) c.worlds)
  all-stand set form =
      set-stands s.definitions (map (put_row to) (drop j.imported c.definitions)) 0 0 s.interfaces 0 s.worlds set s.placed (map (put_interface to) (own_interfaces c)) (map (put_world to) c.worlds)
      (λ w d. own-later w d (own_interfaces c)) own-after (own-stand form)
