-- Where a closed table's own part stands behind a set: places, and that it is a table.
use Rattle.std.proofs.Common.{◌≡◌, ◌≤◌, ◌<◌, ◌⊎◌, inl, inr, ℕ, zero, suc, ◌+◌, ◌-◌, Bool, true, false, ◌&&◌, nat_le, nat_lt, List, [], ◌∷◌, ◌++◌, length, map, drop, get_or, slice_get, Option, None, Some, refl, ap, sym, subst, ◌∙◌, arith, true≢false, IsTrue, eqb-true, eq-eqb}
use Rattle.std.specs.List.{list_all}
use Rattle.std.proofs.lemmas.Bool.{ltb-true, lt-ltb, leb-true, le-leb}
use Rattle.std.proofs.lemmas.List.{length-map, length-take, length-drop, length-append}
use Rattle.std.proofs.lemmas.Option.{slice_get_within}
use Rattle.canonical_abi.proofs.Traces.TracesLeaveImages.{slice_get-take, slice_get-drop}
use Rattle.package_form.specs.Closed.{own_package}
use Rattle.tables.specs.Tables.{is_below, definition_all, definition_below, are_earlier, is_type, name_types, is_standard, are_standard, function_of, type_of, is_there as is_some, is_type_id, is_function_id, is_placed, are_placed, are_grouped, are_worlds_grouped, is_owner_world, is_function_of, is_placed_item, is_placed_world, are_placed_worlds}
use Rattle.tables.specs.PackageNames.{PackageParts}
use Rattle.tables.proofs.ClosedTypesRowByRow.{split, both}
use Rattle.tables.specs.declared.tables.TypeId.{TypeId}
use Rattle.tables.specs.declared.tables.FunctionId.{FunctionId}
use Rattle.tables.specs.declared.tables.ValType.{ValType}
use Rattle.tables.specs.declared.tables.ValType.TheVariants as val
use Rattle.tables.specs.declared.tables.Owner.{Owner}
use Rattle.tables.specs.declared.tables.Owner.TheVariants as owner
use Rattle.tables.specs.declared.tables.Definition.{Definition}
use Rattle.tables.specs.declared.tables.Definition.TheVariants as row
use Rattle.tables.specs.declared.tables.Interface.{Interface}
use Rattle.tables.specs.declared.tables.World.{World}
use Rattle.tables.specs.declared.tables.WorldItemKind.{WorldItemKind}
use Rattle.tables.specs.declared.tables.WorldItemKind.TheVariants as item
use Rattle.tables.specs.declared.tables.Resolve.{Resolve}
use Rattle.set_rows.specs.Moved.{Renaming, put_id, put_function_id, put_val, put_row, put_owner, has_type, has_function, put_interface, put_item, put_item_kind, put_world}
use Rattle.package_sets.specs.Joining.{before_own, import_count, imports, own_interfaces, IsFirst, has_name_of, import_rows, all_places}
use Rattle.package_sets.specs.Joined.{renaming_of, IsJoined}
use Rattle.package_sets.specs.Joined.{JoinedPlaces}
use Rattle.package_sets.proofs.GrowingLists.{all-more, map-get, front-get, behind-get, front-place, behind-place, all-append, all-put, all-drop, none-within}
use Rattle.package_sets.proofs.KeptParts.PropertiesOfKept.{list-filter}
use Rattle.package_sets.proofs.MovedRows.WhatRowsName.{definition-put, standard-put}
use Rattle.package_sets.proofs.MovedRows.MovedRowsKeepMeaning.{StandBehind, in_place, row-stays}
use Rattle.package_form.specs.Reached.{is_interface_of}

-- ---- the first own interface

pub before-le : (own : ℕ) (is : List Interface) → before_own own is ≤ length is
before-le own [] = omega arith
before-le own (i ∷ is) = by (is_interface_of own i) refl (before-le own is)
  where
    by : (b : Bool) → is_interface_of own i ≡ b → before_own own is ≤ length is → before_own own (i ∷ is) ≤ length (i ∷ is)
    by true e l = rw e (omega arith)
    by false e l = rw e (omega (arith, l))

-- an import is of another package
pub import-other : (own : ℕ) (is : List Interface) (k : ℕ) (i : Interface) → k < before_own own is → slice_get is k ≡ Some i → is_interface_of own i ≡ false
import-other own [] k i h e = absurd (cc)
import-other own (j ∷ is) k i h e = by (is_interface_of own j) refl (λ k. import-other own is k i) k h e
  where
    by : (b : Bool) → is_interface_of own j ≡ b → ((k : ℕ) → k < before_own own is → slice_get is k ≡ Some i → is_interface_of own i ≡ false) → (k : ℕ) → k < before_own own (j ∷ is) → slice_get (j ∷ is) k ≡ Some i → is_interface_of own i ≡ false
    by true q rest k h e = absurd (none k (rw q at h))
      where
        none : (k : ℕ) → k < 0 → ⊥
        none k l = omega arith
    by false q rest zero h e = let same : j ≡ i = cc in subst (λ (x : Interface). is_interface_of own x ≡ false) same q
    by false q rest (suc k) h e = rest k (omega (arith, rw q at h)) e

-- behind an own interface all are own, where the own package is the last
later-own : (count first : ℕ) (is : List Interface) → count - 1 ≤ first → are_grouped count first is ≡ true → (k : ℕ) (i : Interface) → slice_get is k ≡ Some i → i.«package».0 ≡ count - 1
later-own count first [] l g k i e = absurd (cc)
later-own count first (j ∷ is) l g k i e = by (λ n h m. later-own count j.«package».0 is n h m i) k e
  where
    p : IsTrue (nat_le first j.«package».0 && nat_lt j.«package».0 count) × IsTrue (are_grouped count j.«package».0 is)
    p = split (nat_le first j.«package».0 && nat_lt j.«package».0 count) (are_grouped count j.«package».0 is) g

    q : IsTrue (nat_le first j.«package».0) × IsTrue (nat_lt j.«package».0 count)
    q = split (nat_le first j.«package».0) (nat_lt j.«package».0 count) p.0

    here : j.«package».0 ≡ count - 1
    here = omega (arith, leb-true first j.«package».0 q.0, ltb-true j.«package».0 count q.1)

    by : (count - 1 ≤ j.«package».0 → are_grouped count j.«package».0 is ≡ true → (k : ℕ) → slice_get is k ≡ Some i → i.«package».0 ≡ count - 1) → (k : ℕ) → slice_get (j ∷ is) k ≡ Some i → i.«package».0 ≡ count - 1
    by rest zero e = let same : j ≡ i = cc in subst (λ (x : Interface). x.«package».0 ≡ count - 1) same here
    by rest (suc k) e = rest (omega (arith, here)) p.1 k e

pub own-behind : (count first : ℕ) (is : List Interface) → are_grouped count first is ≡ true → (k : ℕ) (i : Interface) → slice_get is (before_own (count - 1) is + k) ≡ Some i → i.«package».0 ≡ count - 1
own-behind count first [] g k i e = absurd (cc)
own-behind count first (j ∷ is) g k i e = by (is_interface_of (count - 1) j) refl (λ h. own-behind count j.«package».0 is h k i) e
  where
    p : IsTrue (nat_le first j.«package».0 && nat_lt j.«package».0 count) × IsTrue (are_grouped count j.«package».0 is)
    p = split (nat_le first j.«package».0 && nat_lt j.«package».0 count) (are_grouped count j.«package».0 is) g

    by : (b : Bool) → is_interface_of (count - 1) j ≡ b → (are_grouped count j.«package».0 is ≡ true → slice_get is (before_own (count - 1) is + k) ≡ Some i → i.«package».0 ≡ count - 1)
        → slice_get (j ∷ is) (before_own (count - 1) (j ∷ is) + k) ≡ Some i → i.«package».0 ≡ count - 1
    by true z rest e =
        let own : j.«package».0 ≡ count - 1 = eqb-true j.«package».0 (count - 1) z in
        let at : slice_get (j ∷ is) k ≡ Some i = ap (slice_get (j ∷ is)) (omega arith) ∙ rw z at e in
        first-own k at own
      where
        first-own : (k : ℕ) → slice_get (j ∷ is) k ≡ Some i → j.«package».0 ≡ count - 1 → i.«package».0 ≡ count - 1
        first-own zero at own = let same : j ≡ i = cc in subst (λ (x : Interface). x.«package».0 ≡ count - 1) same own
        first-own (suc k) at own = later-own count j.«package».0 is (omega (arith, own)) p.1 k i at
    by false z rest e =
        let at : slice_get is (before_own (count - 1) is + k) ≡ Some i = ap (slice_get (j ∷ is)) (up (before_own (count - 1) is) k) ∙ rw z at e in
        rest p.1 at
      where
        up : (n m : ℕ) → suc (n + m) ≡ 1 + n + m
        up n m = omega arith

-- ---- tables that are longer

earlier-append : (n : ℕ) (ds es : List Definition) → are_earlier n ds ≡ true → are_earlier (n + length ds) es ≡ true → are_earlier n (ds ++ es) ≡ true
earlier-append n [] es h k = subst (λ m. are_earlier m es ≡ true) (omega arith) k
earlier-append n (d ∷ ds) es h k =
    let p = split (definition_below n d) (are_earlier (n + 1) ds) h in
    both (definition_below n d) (are_earlier (n + 1) (ds ++ es)) p.0 (earlier-append (n + 1) ds es p.1 (subst (λ m. are_earlier m es ≡ true) (next n (length ds)) k))
  where
    next : (n m : ℕ) → n + suc m ≡ n + 1 + m
    next n m = omega arith

pub earlier-drop : (n m : ℕ) (ds : List Definition) → are_earlier n ds ≡ true → are_earlier (n + m) (drop m ds) ≡ true
earlier-drop n zero ds h = subst (λ k. are_earlier k ds ≡ true) (omega arith) h
earlier-drop n (suc m) [] h = refl
earlier-drop n (suc m) (d ∷ ds) h = subst (λ k. are_earlier k (drop m ds) ≡ true) (next n m) (earlier-drop (n + 1) m ds (split (definition_below n d) (are_earlier (n + 1) ds) h).1)
  where
    next : (n m : ℕ) → n + 1 + m ≡ n + suc m
    next n m = omega arith

grouped-more : (count first : ℕ) (is xs : List Interface) → are_grouped count first is ≡ true → first ≤ count → ((k : ℕ) (x : Interface) → slice_get xs k ≡ Some x → x.«package».0 ≡ count) → are_grouped (count + 1) first (is ++ xs) ≡ true
grouped-more count first [] [] g l h = refl
grouped-more count first [] (x ∷ xs) g l h =
    let here = h 0 x refl in
    both _ _ (both _ _ (le-leb first x.«package».0 (omega (arith, here))) (lt-ltb x.«package».0 (count + 1) (omega (arith, here)))) (grouped-more count x.«package».0 [] xs refl (omega (arith, here)) (λ k y e. h (suc k) y e))
grouped-more count first (i ∷ is) xs g l h =
    let p = split (nat_le first i.«package».0 && nat_lt i.«package».0 count) (are_grouped count i.«package».0 is) g in
    let q = split (nat_le first i.«package».0) (nat_lt i.«package».0 count) p.0 in
    let within = ltb-true i.«package».0 count q.1 in
    both _ _ (both _ _ q.0 (lt-ltb i.«package».0 (count + 1) (omega (arith, within)))) (grouped-more count i.«package».0 is xs p.1 (omega (arith, within)) h)

worlds-grouped-more : (count first : ℕ) (ws xs : List World) → are_worlds_grouped count first ws ≡ true → first ≤ count → ((k : ℕ) (x : World) → slice_get xs k ≡ Some x → x.«package».0 ≡ count) → are_worlds_grouped (count + 1) first (ws ++ xs) ≡ true
worlds-grouped-more count first [] [] g l h = refl
worlds-grouped-more count first [] (x ∷ xs) g l h =
    let here = h 0 x refl in
    both _ _ (both _ _ (le-leb first x.«package».0 (omega (arith, here))) (lt-ltb x.«package».0 (count + 1) (omega (arith, here)))) (worlds-grouped-more count x.«package».0 [] xs refl (omega (arith, here)) (λ k y e. h (suc k) y e))
worlds-grouped-more count first (w ∷ ws) xs g l h =
    let p = split (nat_le first w.«package».0 && nat_lt w.«package».0 count) (are_worlds_grouped count w.«package».0 ws) g in
    let q = split (nat_le first w.«package».0) (nat_lt w.«package».0 count) p.0 in
    let within = ltb-true w.«package».0 count q.1 in
    both _ _ (both _ _ q.0 (lt-ltb w.«package».0 (count + 1) (omega (arith, within)))) (worlds-grouped-more count w.«package».0 ws xs p.1 (omega (arith, within)) h)

-- a place that has a type or a function has it where more rows follow
type-more : (ds es : List Definition) (t : TypeId) → is_type_id ds t ≡ true → is_type_id (ds ++ es) t ≡ true
type-more ds es t h = by (slice_get ds t.0) refl h
  where
    by : (o : Option Definition) → slice_get ds t.0 ≡ o → is_some (type_of o) ≡ true → is_type_id (ds ++ es) t ≡ true
    by None e q = absurd (true≢false (sym q))
    by (Some (row.Function f)) e q = absurd (true≢false (sym q))
    by (Some (row.Type d)) e q = rw (front-get ds es t.0 (row.Type d) e) refl

function-more : (ds es : List Definition) (f : FunctionId) → is_function_id ds f ≡ true → is_function_id (ds ++ es) f ≡ true
function-more ds es f h = by (slice_get ds f.0) refl h
  where
    by : (o : Option Definition) → slice_get ds f.0 ≡ o → is_some (function_of o) ≡ true → is_function_id (ds ++ es) f ≡ true
    by None e q = absurd (true≢false (sym q))
    by (Some (row.Type d)) e q = absurd (true≢false (sym q))
    by (Some (row.Function g)) e q = rw (front-get ds es f.0 (row.Function g) e) refl

placed-more : (ds es : List Definition) (i : Interface) → is_placed ds i ≡ true → is_placed (ds ++ es) i ≡ true
placed-more ds es i h =
    let p = split (list_all (is_type_id ds) i.uses) (list_all (is_type_id ds) i.types && list_all (is_function_id ds) i.functions) h in
    let q = split (list_all (is_type_id ds) i.types) (list_all (is_function_id ds) i.functions) p.1 in
    both _ _ (all-more _ _ i.uses (type-more ds es) p.0) (both _ _ (all-more _ _ i.types (type-more ds es) q.0) (all-more _ _ i.functions (function-more ds es) q.1))

typed-more : (ds es : List Definition) (d : Definition) → definition_all (is_type ds) d ≡ true → definition_all (is_type (ds ++ es)) d ≡ true
typed-more ds es d h = subst (λ (x : Definition). definition_all (is_type (ds ++ es)) x ≡ true) (row-stays d) (definition-put in_place (is_type ds) (is_type (ds ++ es)) each d h)
  where
    each : (v : ValType) → is_type ds v ≡ true → is_type (ds ++ es) (put_val in_place v) ≡ true
    each (val.Primitive p) h = refl
    each val.String h = refl
    each (val.Id t) h = type-more ds es t h

function-of-more : (ds es : List Definition) (k w : ℕ) → is_function_of w (function_of (slice_get ds k)) ≡ true → is_function_of w (function_of (slice_get (ds ++ es) k)) ≡ true
function-of-more ds es k w h = by (slice_get ds k) refl h
  where
    by : (o : Option Definition) → slice_get ds k ≡ o → is_function_of w (function_of o) ≡ true → is_function_of w (function_of (slice_get (ds ++ es) k)) ≡ true
    by None e q = absurd (true≢false (sym q))
    by (Some (row.Type d)) e q = absurd (true≢false (sym q))
    by (Some (row.Function g)) e q = rw (front-get ds es k (row.Function g) e) q

world-more : (ds es : List Definition) (count more w : ℕ) (x : World) → count ≤ more → is_placed_world ds count w x ≡ true → is_placed_world (ds ++ es) more w x ≡ true
world-more ds es count more w x l h = all-more _ _ x.items (λ i e. one i.kind e) h
  where
    one : (k : WorldItemKind) → is_placed_item ds count w k ≡ true → is_placed_item (ds ++ es) more w k ≡ true
    one (item.Interface i) e = lt-ltb i.0 more (omega (arith, l, ltb-true i.0 count e))
    one (item.Function f) e = function-of-more ds es f.0 w e

worlds-more : (ds : List Definition) (count w : ℕ) (xs ys : List World) → are_placed_worlds ds count w xs ≡ true → are_placed_worlds ds count (w + length xs) ys ≡ true → are_placed_worlds ds count w (xs ++ ys) ≡ true
worlds-more ds count w [] ys h k = subst (λ m. are_placed_worlds ds count m ys ≡ true) (omega arith) k
worlds-more ds count w (x ∷ xs) ys h k =
    let p = split (is_placed_world ds count w x) (are_placed_worlds ds count (w + 1) xs) h in
    both _ _ p.0 (worlds-more ds count (w + 1) xs ys p.1 (subst (λ m. are_placed_worlds ds count m ys ≡ true) (next w (length xs)) k))
  where
    next : (n m : ℕ) → n + suc m ≡ n + 1 + m
    next n m = omega arith

worlds-stay : (ds es : List Definition) (count more w : ℕ) (xs : List World) → count ≤ more → are_placed_worlds ds count w xs ≡ true → are_placed_worlds (ds ++ es) more w xs ≡ true
worlds-stay ds es count more w [] l h = refl
worlds-stay ds es count more w (x ∷ xs) l h =
    let p = split (is_placed_world ds count w x) (are_placed_worlds ds count (w + 1) xs) h in
    both _ _ (world-more ds es count more w x l p.0) (worlds-stay ds es count more (w + 1) xs l p.1)

-- ---- what is put behind the set

module _ (s c : Resolve) (j : JoinedPlaces) (q : IsJoined s c j) where
  abbrev pub to : Renaming
  to = renaming_of j

  pub count-imports : length (imports c) ≡ import_count c
  count-imports = omega (arith, length-take (import_count c) c.interfaces, before-le (own_package c.packages) c.interfaces)

  pub count-places : length q.are_joined.places ≡ import_count c
  count-places = q.are_joined.found.count ∙ count-imports

  pub rows-behind : StandBehind to.rows j.imported (length s.definitions) (length (drop j.imported c.definitions))
  rows-behind k l =
      let m = length (import_rows s c q.are_joined.places) in
      let within : m + k < length c.definitions = omega (arith, l, q.are_joined.imported_is, length-drop j.imported c.definitions) in
      ap (λ (xs : List ℕ). get_or xs (j.imported + k) 0) q.are_joined.rows_are
      ∙ (ap (λ n. get_or (all_places (import_rows s c q.are_joined.places) (length s.definitions) (length c.definitions)) (n + k) 0) q.are_joined.imported_is
      ∙ behind-place (import_rows s c q.are_joined.places) (length s.definitions) (length c.definitions) k within)

  pub interfaces-behind : StandBehind to.interfaces (import_count c) (length s.interfaces) (length (own_interfaces c))
  interfaces-behind k l =
      let m = length q.are_joined.places in
      let within : m + k < length c.interfaces = omega (arith, l, count-places, length-drop (import_count c) c.interfaces) in
      ap (λ (xs : List ℕ). get_or xs (import_count c + k) 0) q.are_joined.interfaces_are
      ∙ (ap (λ n. get_or (all_places q.are_joined.places (length s.interfaces) (length c.interfaces)) (n + k) 0) (sym count-places)
      ∙ behind-place q.are_joined.places (length s.interfaces) (length c.interfaces) k within)

  pub worlds-behind : (k : ℕ) → k < length c.worlds → to.worlds k ≡ length s.worlds + k
  worlds-behind k l =
      let at : k ≡ 0 + k = omega arith in
      ap (λ (xs : List ℕ). get_or xs k 0) q.are_joined.worlds_are
      ∙ (ap (λ n. get_or (all_places [] (length s.worlds) (length c.worlds)) n 0) at ∙ behind-place [] (length s.worlds) (length c.worlds) k (omega (arith, l)))

  -- an import stands in the set
  pub import-found : (k : ℕ) (i : Interface) → k < import_count c → slice_get c.interfaces k ≡ Some i → IsFirst (has_name_of s c i) s.interfaces (to.interfaces k)
  import-found k i l e =
      subst (λ n. IsFirst (has_name_of s c i) s.interfaces n)
      (sym (ap (λ (xs : List ℕ). get_or xs k 0) q.are_joined.interfaces_are ∙ front-place q.are_joined.places (length s.interfaces) (length c.interfaces) k (omega (arith, l, count-places))))
      (q.are_joined.found.each k i (slice_get-take (import_count c) c.interfaces k l ∙ e))

  -- ---- rows

  abbrev pub own-rows : List Definition
  own-rows = map (put_row to) (drop j.imported c.definitions)

  abbrev pub rows-there : List Definition
  rows-there = s.definitions ++ own-rows

  pub before : (n m : ℕ) → (n < m) ⊎ (m + (n - m) ≡ n)
  before n m = grind arith

  pub import-row : (t : ℕ) (d : Definition) → t < j.imported → slice_get c.definitions t ≡ Some d → slice_get s.definitions (to.rows t) ≡ Some (put_row to d)
  import-row t d l e = q.rows t d (slice_get-take j.imported c.definitions t l ∙ e)

  -- each row of the closed table stands at its place
  pub row-there : (t : ℕ) (d : Definition) → slice_get c.definitions t ≡ Some d → slice_get rows-there (to.rows t) ≡ Some (put_row to d)
  row-there t d e = by (before t j.imported)
    where
      by : (t < j.imported) ⊎ (j.imported + (t - j.imported) ≡ t) → slice_get rows-there (to.rows t) ≡ Some (put_row to d)
      by (inl l) = front-get s.definitions own-rows (to.rows t) (put_row to d) (import-row t d l e)
      by (inr g) =
          let k = t - j.imported in
          let own : slice_get (drop j.imported c.definitions) k ≡ Some d = slice_get-drop j.imported c.definitions k ∙ (ap (slice_get c.definitions) g ∙ e) in
          let at : to.rows t ≡ length s.definitions + k = ap to.rows (sym g) ∙ rows-behind k (slice_get_within (drop j.imported c.definitions) k d own) in
          ap (slice_get rows-there) at ∙ (behind-get s.definitions own-rows k ∙ map-get (put_row to) (drop j.imported c.definitions) k d own)

  -- .. and behind those that stand before it
  place-below : (t k : ℕ) → t < j.imported + k → t < length c.definitions → to.rows t < length s.definitions + k
  place-below t k l h = by (before t j.imported)
    where
      by : (t < j.imported) ⊎ (j.imported + (t - j.imported) ≡ t) → to.rows t < length s.definitions + k
      by (inl b) = found (slice_get c.definitions t) refl
        where
          found : (o : Option Definition) → slice_get c.definitions t ≡ o → to.rows t < length s.definitions + k
          found None e = absurd (none-within c.definitions t h e)
          found (Some d) e = omega (arith, slice_get_within s.definitions (to.rows t) (put_row to d) (import-row t d b e))
      by (inr g) = omega (arith, ap to.rows (sym g) ∙ rows-behind (t - j.imported) (omega (arith, h, length-drop j.imported c.definitions)))

  -- ---- the table's own facts

  below-there : (k : ℕ) → j.imported + k ≤ length c.definitions → (v : ValType) → is_below (j.imported + k) v ≡ true → is_below (length s.definitions + k) (put_val to v) ≡ true
  below-there k l (val.Primitive p) h = refl
  below-there k l val.String h = refl
  below-there k l (val.Id t) h =
      let b = ltb-true t.0 (j.imported + k) h in
      lt-ltb (to.rows t.0) (length s.definitions + k) (place-below t.0 k b (omega (arith, b, l)))

  earlier-put : (k : ℕ) (ds : List Definition) → j.imported + k + length ds ≤ length c.definitions → are_earlier (j.imported + k) ds ≡ true → are_earlier (length s.definitions + k) (map (put_row to) ds) ≡ true
  earlier-put k [] l h = refl
  earlier-put k (d ∷ ds) l h =
      let p = split (definition_below (j.imported + k) d) (are_earlier (j.imported + k + 1) ds) h in
      let one : j.imported + k + 1 ≡ j.imported + (k + 1) = omega arith in
      let other : length s.definitions + (k + 1) ≡ length s.definitions + k + 1 = omega arith in
      both _ _ (definition-put to (is_below (j.imported + k)) (is_below (length s.definitions + k)) (below-there k (omega (arith, l))) d p.0)
      (subst (λ n. are_earlier n (map (put_row to) ds) ≡ true) other (earlier-put (k + 1) ds (omega (arith, l)) (subst (λ n. are_earlier n ds ≡ true) one p.1)))

  cut : (n m : ℕ) → (m ≤ n) ⊎ (n < m)
  cut n m = grind arith

  own-earlier : are_earlier (length s.definitions) own-rows ≡ true
  own-earlier = by (cut (length c.definitions) j.imported)
    where
      none : (n : ℕ) (ds : List Definition) → length ds ≡ 0 → are_earlier n (map (put_row to) ds) ≡ true
      none n [] e = refl
      none n (d ∷ ds) e = absurd (omega (arith, e))

      by : (j.imported ≤ length c.definitions) ⊎ (length c.definitions < j.imported) → are_earlier (length s.definitions) own-rows ≡ true
      by (inl l) =
          subst (λ n. are_earlier n own-rows ≡ true) (omega arith)
          (earlier-put 0 (drop j.imported c.definitions) (omega (arith, l, length-drop j.imported c.definitions)) (subst (λ n. are_earlier n (drop j.imported c.definitions) ≡ true) (omega arith) (earlier-drop 0 j.imported c.definitions c.earlier)))
      by (inr l) = none (length s.definitions) (drop j.imported c.definitions) (omega (arith, l, length-drop j.imported c.definitions))

  pub earlier : are_earlier 0 rows-there ≡ true
  earlier = earlier-append 0 s.definitions own-rows s.earlier (subst (λ n. are_earlier n own-rows ≡ true) (omega arith) own-earlier)

  type-there : (t : TypeId) → is_type_id c.definitions t ≡ true → is_type_id rows-there (put_id to t) ≡ true
  type-there t h = by (slice_get c.definitions t.0) refl h
    where
      by : (o : Option Definition) → slice_get c.definitions t.0 ≡ o → is_some (type_of o) ≡ true → is_type_id rows-there (put_id to t) ≡ true
      by None e z = absurd (true≢false (sym z))
      by (Some (row.Function f)) e z = absurd (true≢false (sym z))
      by (Some (row.Type d)) e z = rw (row-there t.0 (row.Type d) e) refl

  function-there : (f : FunctionId) → is_function_id c.definitions f ≡ true → is_function_id rows-there (put_function_id to f) ≡ true
  function-there f h = by (slice_get c.definitions f.0) refl h
    where
      by : (o : Option Definition) → slice_get c.definitions f.0 ≡ o → is_some (function_of o) ≡ true → is_function_id rows-there (put_function_id to f) ≡ true
      by None e z = absurd (true≢false (sym z))
      by (Some (row.Type d)) e z = absurd (true≢false (sym z))
      by (Some (row.Function g)) e z = rw (row-there f.0 (row.Function g) e) refl

  val-there : (v : ValType) → is_type c.definitions v ≡ true → is_type rows-there (put_val to v) ≡ true
  val-there (val.Primitive p) h = refl
  val-there val.String h = refl
  val-there (val.Id t) h = type-there t h

  pub typed : name_types rows-there ≡ true
  typed = all-append (definition_all (is_type rows-there)) s.definitions own-rows (all-more _ _ s.definitions (typed-more s.definitions own-rows) s.typed)
      (all-put (put_row to) (definition_all (is_type c.definitions)) (definition_all (is_type rows-there)) (drop j.imported c.definitions)
      (λ k d e h. definition-put to (is_type c.definitions) (is_type rows-there) val-there d h) (all-drop (definition_all (is_type c.definitions)) j.imported c.definitions c.typed))

  pub standard : are_standard rows-there ≡ true
  standard = all-append is_standard s.definitions own-rows s.standard
      (all-put (put_row to) is_standard is_standard (drop j.imported c.definitions) (λ k d e h. standard-put to d h) (all-drop is_standard j.imported c.definitions c.standard))

  abbrev pub interfaces-there : List Interface
  interfaces-there = s.interfaces ++ map (put_interface to) (own_interfaces c)

  pub placed : are_placed rows-there interfaces-there ≡ true
  placed = all-append (is_placed rows-there) s.interfaces (map (put_interface to) (own_interfaces c)) (all-more _ _ s.interfaces (placed-more s.definitions own-rows) s.placed)
      (all-put (put_interface to) (is_placed c.definitions) (is_placed rows-there) (own_interfaces c) (λ k i e h. each i h) (all-drop (is_placed c.definitions) (import_count c) c.interfaces c.placed))
    where
      each : (i : Interface) → is_placed c.definitions i ≡ true → is_placed rows-there (put_interface to i) ≡ true
      each i h =
          let p = split (list_all (is_type_id c.definitions) i.uses) (list_all (is_type_id c.definitions) i.types && list_all (is_function_id c.definitions) i.functions) h in
          let r = split (list_all (is_type_id c.definitions) i.types) (list_all (is_function_id c.definitions) i.functions) p.1 in
          both _ _ (list-filter (put_id to) (has_type to) (is_type_id c.definitions) (is_type_id rows-there) i.uses (λ t z w. type-there t z) p.0)
          (both _ _ (list-filter (put_id to) (has_type to) (is_type_id c.definitions) (is_type_id rows-there) i.types (λ t z w. type-there t z) r.0)
          (list-filter (put_function_id to) (has_function to) (is_function_id c.definitions) (is_function_id rows-there) i.functions (λ f z w. function-there f z) r.1))

  -- ---- packages

  put-package : {A B : Type 0} (put : A → B) (number : B → ℕ) (n : ℕ) (xs : List A) → ((x : A) → number (put x) ≡ n) → (k : ℕ) (y : B) → slice_get (map put xs) k ≡ Some y → number y ≡ n
  put-package put number n [] h k y e = absurd (cc)
  put-package put number n (x ∷ xs) h zero y e = let same : put x ≡ y = cc in ap number (sym same) ∙ h x
  put-package put number n (x ∷ xs) h (suc k) y e = put-package put number n xs h k y e

  pub grouped : (own : PackageParts) → are_grouped (length (s.packages ++ own ∷ [])) 0 interfaces-there ≡ true
  grouped own = subst (λ n. are_grouped n 0 interfaces-there ≡ true) (sym (length-append s.packages (own ∷ [])))
      (grouped-more (length s.packages) 0 s.interfaces (map (put_interface to) (own_interfaces c)) s.grouped (omega arith)
      (put-package (put_interface to) (λ i. i.«package».0) (length s.packages) (own_interfaces c) (λ i. q.are_joined.package_is)))

  abbrev pub worlds-there : List World
  worlds-there = s.worlds ++ map (put_world to) c.worlds

  pub worlds-grouped : (own : PackageParts) → are_worlds_grouped (length (s.packages ++ own ∷ [])) 0 worlds-there ≡ true
  worlds-grouped own = subst (λ n. are_worlds_grouped n 0 worlds-there ≡ true) (sym (length-append s.packages (own ∷ [])))
      (worlds-grouped-more (length s.packages) 0 s.worlds (map (put_world to) c.worlds) s.worlds_grouped (omega arith)
      (put-package (put_world to) (λ w. w.«package».0) (length s.packages) c.worlds (λ w. q.are_joined.package_is)))

  -- ---- worlds

  count-there : length interfaces-there ≡ length s.interfaces + length (own_interfaces c)
  count-there = length-append s.interfaces (map (put_interface to) (own_interfaces c)) ∙ ap (λ n. length s.interfaces + n) (length-map (own_interfaces c) (put_interface to))

  pub interface-below : (i : ℕ) → i < length c.interfaces → to.interfaces i < length interfaces-there
  interface-below i h = by (before i (import_count c))
    where
      by : (i < import_count c) ⊎ (import_count c + (i - import_count c) ≡ i) → to.interfaces i < length interfaces-there
      by (inl l) = found (slice_get c.interfaces i) refl
        where
          found : (o : Option Interface) → slice_get c.interfaces i ≡ o → to.interfaces i < length interfaces-there
          found None e = absurd (none-within c.interfaces i h e)
          found (Some x) e = let f = import-found i x l e in omega (arith, count-there, slice_get_within s.interfaces (to.interfaces i) f.one f.stands)
      by (inr g) =
          let within : i - import_count c < length (own_interfaces c) = omega (arith, h, g, length-drop (import_count c) c.interfaces) in
          omega (arith, count-there, within, ap to.interfaces (sym g) ∙ interfaces-behind (i - import_count c) within)

  item-there : (k : ℕ) → k < length c.worlds → (x : WorldItemKind) → is_placed_item c.definitions (length c.interfaces) k x ≡ true → is_placed_item rows-there (length interfaces-there) (length s.worlds + k) (put_item_kind to x) ≡ true
  item-there k l (item.Interface i) h = lt-ltb (to.interfaces i.0) (length interfaces-there) (interface-below i.0 (ltb-true i.0 (length c.interfaces) h))
  item-there k l (item.Function f) h = by (slice_get c.definitions f.0) refl h
    where
      owned : (o : Owner) → is_owner_world k o ≡ true → is_owner_world (length s.worlds + k) (put_owner to o) ≡ true
      owned (owner.Interface i) z = absurd (true≢false (sym z))
      owned (owner.World v) z = eq-eqb (to.worlds v.0) (length s.worlds + k) (ap to.worlds (eqb-true v.0 k z) ∙ worlds-behind k l)

      by : (o : Option Definition) → slice_get c.definitions f.0 ≡ o → is_function_of k (function_of o) ≡ true → is_function_of (length s.worlds + k) (function_of (slice_get rows-there (to.rows f.0))) ≡ true
      by None e z = absurd (true≢false (sym z))
      by (Some (row.Type d)) e z = absurd (true≢false (sym z))
      by (Some (row.Function g)) e z = rw (row-there f.0 (row.Function g) e) (owned g.owner z)

  worlds-put : (k : ℕ) (ws : List World) → k + length ws ≤ length c.worlds → are_placed_worlds c.definitions (length c.interfaces) k ws ≡ true
      → are_placed_worlds rows-there (length interfaces-there) (length s.worlds + k) (map (put_world to) ws) ≡ true
  worlds-put k [] l h = refl
  worlds-put k (w ∷ ws) l h =
      let p = split (is_placed_world c.definitions (length c.interfaces) k w) (are_placed_worlds c.definitions (length c.interfaces) (k + 1) ws) h in
      let next : length s.worlds + (k + 1) ≡ length s.worlds + k + 1 = omega arith in
      both _ _ (all-put (put_item to) (λ i. is_placed_item c.definitions (length c.interfaces) k i.kind) (λ i. is_placed_item rows-there (length interfaces-there) (length s.worlds + k) i.kind) w.items
      (λ n i e z. item-there k (omega (arith, l)) i.kind z) p.0)
      (subst (λ n. are_placed_worlds rows-there (length interfaces-there) n (map (put_world to) ws) ≡ true) next (worlds-put (k + 1) ws (omega (arith, l)) p.1))

  pub worlds-placed : are_placed_worlds rows-there (length interfaces-there) 0 worlds-there ≡ true
  worlds-placed = worlds-more rows-there (length interfaces-there) 0 s.worlds (map (put_world to) c.worlds)
      (worlds-stay s.definitions own-rows (length s.interfaces) (length interfaces-there) 0 s.worlds (omega (arith, count-there)) s.worlds_placed)
      (subst (λ n. are_placed_worlds rows-there (length interfaces-there) n (map (put_world to) c.worlds) ≡ true) (omega arith) (worlds-put 0 c.worlds (omega arith) c.worlds_placed))
