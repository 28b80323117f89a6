-- The items of a world of a table in package form stand one behind the other, and are few.
use Rattle.std.proofs.Common.{◌≡◌, ◌≤◌, ◌<◌, ℕ, zero, suc, ◌+◌, ◌-◌, Bool, true, false, cond, ◌&&◌, IsTrue, nat_le, nat_lt, List, [], ◌∷◌, ◌++◌, map, flat_map, sum, drop, length, get_or, slice_get, not, Option, None, Some, is_some, refl, ap, sym, subst, ◌∙◌, arith, length-append, eqb-true}
use Rattle.std.specs.List.{list_all}
use Rattle.std.proofs.lemmas.Bool.{ltb-true, leb-true}
use Rattle.std.proofs.lemmas.List.{length-map, length-take, length-drop}
use Rattle.std.proofs.lemmas.List.Sums.{sum_by-cons}
use Rattle.std.proofs.lemmas.Slice.Eq.{bytes_eq-Decides}
use Rattle.package_form.specs.Ends.{end_of, rows_of, interfaces_end, world_end, world_rows, are_worlds_parted, is_parted}
use Rattle.package_form.specs.Entries.{entries_of, entries_at, world_entries}
use Rattle.package_form.specs.Form.{is_named, is_own_type, is_own, is_nameless_type, is_nameless, functions_in_item, functions_of, is_world_row, has_items, have_items, IsInPackageForm}
use Rattle.package_form.specs.Ids.{places_where}
use Rattle.tables.specs.Tables.{type_of, function_of, is_there, is_function_of, is_placed_item, is_placed_world, are_placed_worlds, are_worlds_grouped}
use Rattle.tables.specs.declared.tables.TypeId.{TypeId}
use Rattle.tables.specs.declared.tables.TypeDef.{TypeDef}
use Rattle.tables.specs.declared.tables.TypeName.{TypeName}
use Rattle.tables.specs.declared.tables.Definition.{Definition}
use Rattle.tables.specs.declared.tables.WorldItemKind.{WorldItemKind}
use Rattle.tables.specs.declared.tables.WorldItemKind.TheVariants as item
use Rattle.tables.specs.declared.tables.WorldItem.{WorldItem}
use Rattle.tables.specs.declared.tables.Function.{Function}
use Rattle.tables.specs.declared.tables.Interface.{Interface}
use Rattle.tables.specs.declared.tables.World.{World}
use Rattle.tables.specs.declared.tables.Resolve.{Resolve}
use Rattle.tables.proofs.ClosedTypesRowByRow.{split}
use Rattle.package_form.proofs.PackageFormIsTested.{rows-few}
use Rattle.package_form.proofs.NamesStandForOneRow.{worlds-parted}
use Rattle.wit_component.specs.Component.{ComponentFront, front_after, interfaces_front}
use Rattle.wit_component.specs.Worlds.{StandFrom}

-- m is the first place of these rows, the first of which stands at place n, that has the property; ms are the others
record FirstAt (p : Definition → Bool) (n : ℕ) (ds : List Definition) (m : ℕ) (ms : List ℕ) : Type 0 where
  rest : List Definition
  places : places_where p (m + 1) rest ≡ ms
  low : n ≤ m
  ends : m + 1 + length rest ≡ n + length ds

first-at : (p : Definition → Bool) (n : ℕ) (ds : List Definition) (m : ℕ) (ms : List ℕ) → places_where p n ds ≡ m ∷ ms → FirstAt p n ds m ms
first-at p n [] m ms e = absurd (cc)
first-at p n (d ∷ ds) m ms e = by (p d) e (λ e. first-at p (n + 1) ds m ms e)
  where
    by : (b : Bool) → cond b (n ∷ places_where p (n + 1) ds) (places_where p (n + 1) ds) ≡ m ∷ ms → (places_where p (n + 1) ds ≡ m ∷ ms → FirstAt p (n + 1) ds m ms)
        → FirstAt p n (d ∷ ds) m ms
    by true e again =
        let same : n ≡ m = cc in
        let rest : places_where p (n + 1) ds ≡ ms = cc in
        record { rest = ds; places = ap (λ k. places_where p (k + 1) ds) (sym same) ∙ rest; low = omega (arith, same); ends = omega (arith, same) }
    by false e again =
        let h = again e in
        record { rest = h.rest; places = h.places; low = omega (arith, h.low); ends = omega (arith, h.ends) }

pub world-length : (rows : List Definition) (start : ℕ) (w : World) → start ≤ world_end start w → world_end start w ≤ length rows → start + length (world_rows rows start w) ≡ world_end start w
world-length rows start w low up = omega (arith, low, up, length-take (world_end start w - start) (drop start rows), length-drop start rows)

function-there : (w : ℕ) (o : Option Function) → is_function_of w o ≡ true → is_there o ≡ true
function-there w None h = absurd (cc)
function-there w (Some f) h = refl

module _ (rows : List Definition) (count k : ℕ) where
  stand-from : (items : List WorldItem) (n start : ℕ) (ds : List Definition) → places_where is_named n ds ≡ flat_map functions_in_item items → start ≤ n → n + length ds ≤ length rows
      → list_all (λ i. is_placed_item rows count k i.kind) items ≡ true → StandFrom count rows start items
  stand-from [] n start ds e low up placed = tt
  stand-from (i ∷ is) n start ds e low up placed = by i.kind e (split (is_placed_item rows count k i.kind) _ placed).0 (λ n start ds e low up. stand-from is n start ds e low up others)
    where
      others : list_all (λ i. is_placed_item rows count k i.kind) is ≡ true
      others = (split (is_placed_item rows count k i.kind) _ placed).1

      by : (what : WorldItemKind) → places_where is_named n ds ≡ functions_in_item (record { direction = i.direction; kind = what }) ++ flat_map functions_in_item is → is_placed_item rows count k what ≡ true
          → ((n start : ℕ) (ds : List Definition) → places_where is_named n ds ≡ flat_map functions_in_item is → start ≤ n → n + length ds ≤ length rows → StandFrom count rows start is)
          → StandFrom count rows start (record { direction = i.direction; kind = what } ∷ is)
      by (item.Interface x) e here again = (ltb-true x.0 count here, again n start ds e low up)
      by (item.Function f) e here again =
          let first = first-at is_named n ds f.0 (flat_map functions_in_item is) e in (
            (omega (arith, low, first.low), omega (arith, first.ends, up), function-there k (function_of (slice_get rows f.0)) here),
            again (f.0 + 1) (f.0 + 1) first.rest first.places (omega arith) (omega (arith, first.ends, up)),
          )

  pub items-stand : (start : ℕ) (w : World) → start ≤ world_end start w → world_end start w ≤ length rows → has_items rows start w ≡ true → is_placed_world rows count k w ≡ true
      → StandFrom count rows start w.items
  items-stand start w low up has placed =
      stand-from w.items start start (world_rows rows start w) ((bytes_eq-Decides (places_where is_named start (world_rows rows start w)) (functions_of w)).0 has) (omega arith)
      (omega (arith, world-length rows start w low up, up)) placed

-- ---- items are few

items-count : (items : List WorldItem) → length items ≡ sum (map entries_at items) + length (flat_map functions_in_item items)
items-count [] = refl
items-count (i ∷ is) = by i.kind (items-count is)
  where
    by : (what : WorldItemKind) → length is ≡ sum (map entries_at is) + length (flat_map functions_in_item is) → length (i ∷ is) ≡ sum (map entries_at (record { direction = i.direction; kind = what } ∷ is)) + length (flat_map functions_in_item (record { direction = i.direction; kind = what } ∷ is))
    by (item.Interface x) more =
        let all : sum (map entries_at (record { direction = i.direction; kind = item.Interface x } ∷ is)) ≡ 1 + sum (map entries_at is) = sum_by-cons (λ n. n) 1 (map entries_at is) in
        omega (arith, all, more)
    by (item.Function f) more =
        let all : sum (map entries_at (record { direction = i.direction; kind = item.Function f } ∷ is)) ≡ 0 + sum (map entries_at is) = sum_by-cons (λ n. n) 0 (map entries_at is) in
        omega (arith, all, more)

places-few : (p : Definition → Bool) (n : ℕ) (ds : List Definition) → length (places_where p n ds) ≤ length ds
places-few p n [] = omega arith
places-few p n (d ∷ ds) = by (p d) (places-few p (n + 1) ds)
  where
    by : (b : Bool) → length (places_where p (n + 1) ds) ≤ length ds → length (cond b (n ∷ places_where p (n + 1) ds) (places_where p (n + 1) ds)) ≤ length (d ∷ ds)
    by true more = omega (arith, more)
    by false more = omega (arith, more)

pub items-few : (rows : List Definition) (start : ℕ) (w : World) → has_items rows start w ≡ true → length w.items ≤ world_entries w + length rows
items-few rows start w has =
    let same : length (places_where is_named start (world_rows rows start w)) ≡ length (functions_of w) =
    ap length ((bytes_eq-Decides (places_where is_named start (world_rows rows start w)) (functions_of w)).0 has) in
    omega (arith, items-count w.items, same, places-few is_named start (world_rows rows start w), length-take (world_end start w - start) (drop start rows), length-drop start rows)

-- ---- a world of a table

-- what is known of these worlds, the first of which is world k and whose rows begin at start
pub record AreWorlds (rows : List Definition) (count k start : ℕ) (ws : List World) : Type 0 where
  pub parted : are_worlds_parted (length rows) start ws ≡ true
  pub items : have_items rows k start ws ≡ true
  pub placed : are_placed_worlds rows count k ws ≡ true

pub record IsWorldAt (rows : List Definition) (count k start : ℕ) (w : World) : Type 0 where
  pub low : start ≤ world_end start w
  pub high : world_end start w ≤ length rows
  pub items : has_items rows start w ≡ true
  pub own : list_all (is_world_row rows k) (world_rows rows start w) ≡ true
  pub placed : is_placed_world rows count k w ≡ true

module _ (rows : List Definition) (count k start : ℕ) (w : World) (ws : List World) (are : AreWorlds rows count k start (w ∷ ws)) where
  pub world-first : IsWorldAt rows count k start w
  world-first =
      let parted = split (nat_le start (world_end start w)) _ are.parted in
      let high = split (nat_le (world_end start w) (length rows)) _ parted.1 in
      let form = split (has_items rows start w) _ (split (has_items rows start w && list_all (is_world_row rows k) (world_rows rows start w)) _ are.items).0 in
      record {
        low = leb-true start (world_end start w) parted.0;
        high = leb-true (world_end start w) (length rows) high.0;
        items = form.0;
        own = form.1;
        placed = (split (is_placed_world rows count k w) _ are.placed).0;
      }

  pub worlds-later : AreWorlds rows count (k + 1) (world_end start w) ws
  worlds-later = record {
    parted = (split (nat_le (world_end start w) (length rows)) _ (split (nat_le start (world_end start w)) _ are.parted).1).1;
    items = (split (has_items rows start w && list_all (is_world_row rows k) (world_rows rows start w)) _ are.items).1;
    placed = (split (is_placed_world rows count k w) _ are.placed).1;
  }

-- a world of a table is of one of its packages
pub world-grouped : (count first : ℕ) (ws : List World) (k : ℕ) (w : World) → IsTrue (are_worlds_grouped count first ws) → k < length ws → get_or ws k w ≡ w → w.«package».0 < count
world-grouped count first [] k w h q e = absurd (omega arith)
world-grouped count first (v ∷ ws) zero w h q e =
    let here = split (nat_le first v.«package».0) (nat_lt v.«package».0 count) (split (nat_le first v.«package».0 && nat_lt v.«package».0 count) _ h).0 in
    subst (λ (x : World). x.«package».0 < count) e (ltb-true v.«package».0 count here.1)
world-grouped count first (v ∷ ws) (suc k) w h q e =
    world-grouped count v.«package».0 ws k w (split (nat_le first v.«package».0 && nat_lt v.«package».0 count) _ h).1 (omega (arith, q)) e

-- a type without a name can be one of any interface's
pub nameless-own : (rows : List Definition) (k : ℕ) (t : TypeId) → is_nameless rows t ≡ true → is_own rows k t ≡ true
nameless-own rows k t h = by (type_of (slice_get rows t.0)) h
  where
    by : (o : Option TypeDef) → is_nameless_type o ≡ true → is_own_type k o ≡ true
    by None h = absurd (cc)
    by (Some d) h = named d.name h
      where
        named : (o : Option TypeName) → not (is_some o) ≡ true → is_own_type k (Some (record { name = o; kind = d.kind })) ≡ true
        named None h = refl
        named (Some m) h = absurd (cc)

-- ---- the worlds of a package

worlds-within : (count start : ℕ) (ws : List World) → are_worlds_parted count start ws ≡ true → start ≤ count
worlds-within count start [] h = omega (arith, eqb-true start count h)
worlds-within count start (w ∷ ws) h =
    let low = split (nat_le start (world_end start w)) _ h in
    let high = split (nat_le (world_end start w) count) _ low.1 in
    omega (arith, leb-true start (world_end start w) low.0, leb-true (world_end start w) count high.0)

-- rows of interfaces and worlds begin within the table
pub parted-within : (count start : ℕ) (is : List Interface) (ws : List World) → is_parted count start is ws ≡ true → start ≤ count
parted-within count start [] ws h = worlds-within count start ws h
parted-within count start (i ∷ is) ws h =
    let low = split (nat_le start (end_of start i)) _ h in
    let high = split (nat_le (end_of start i) count) _ low.1 in
    omega (arith, leb-true start (end_of start i) low.0, leb-true (end_of start i) count high.0)

module _ (r : Resolve) (form : IsInPackageForm r) where
  abbrev end : ℕ
  end = interfaces_end 0 r.interfaces

  pub package-worlds : AreWorlds r.definitions (length r.interfaces) 0 end r.worlds
  package-worlds = record { parted = worlds-parted r.definitions 0 r.interfaces r.worlds form.parted; items = form.worlds; placed = r.worlds_placed }

  pub end-within : end ≤ length r.definitions
  end-within = worlds-within (length r.definitions) end r.worlds package-worlds.parted

  entries-sum : 1 + length r.interfaces + (sum (map world_entries r.worlds) + sum (map entries_of r.definitions)) ≤ 65535
  entries-sum =
      let same : length (map (λ (i : Interface). i.name) r.interfaces) ≡ length r.interfaces = length-map r.interfaces (λ (i : Interface). i.name) in
      subst (λ (n : ℕ). 1 + n + (sum (map world_entries r.worlds) + sum (map entries_of r.definitions)) ≤ 65535) same form.entries

  one-of-sum : (ws : List World) (k : ℕ) (w : World) → k < length ws → get_or ws k w ≡ w → world_entries w ≤ sum (map world_entries ws)
  one-of-sum [] k w low e = absurd (omega (arith, low))
  one-of-sum (v ∷ ws) zero w low e =
      let all : sum (map world_entries (v ∷ ws)) ≡ world_entries v + sum (map world_entries ws) = sum_by-cons (λ n. n) (world_entries v) (map world_entries ws) in
      let same : world_entries v ≡ world_entries w = ap world_entries e in
      omega (arith, all, same)
  one-of-sum (v ∷ ws) (suc k) w low e =
      let all : sum (map world_entries (v ∷ ws)) ≡ world_entries v + sum (map world_entries ws) = sum_by-cons (λ n. n) (world_entries v) (map world_entries ws) in
      omega (arith, all, one-of-sum ws k w (omega (arith, low)) e)

  each-one : (ws : List World) → length ws ≤ sum (map world_entries ws)
  each-one [] = omega arith
  each-one (v ∷ ws) =
      let all : sum (map world_entries (v ∷ ws)) ≡ world_entries v + sum (map world_entries ws) = sum_by-cons (λ n. n) (world_entries v) (map world_entries ws) in
      omega (arith, all, each-one ws)

  pub worlds-few : length r.worlds ≤ 65535
  worlds-few = omega (arith, entries-sum, each-one r.worlds)

  pub world-items-few : (k start : ℕ) (w : World) → k < length r.worlds → get_or r.worlds k w ≡ w → has_items r.definitions start w ≡ true → length w.items ≤ 131070
  world-items-few k start w low e has = omega (arith, entries-sum, one-of-sum r.worlds k w low e, items-few r.definitions start w has, rows-few r form)

-- each interface has an instance type
pub instances-count : (rows : List Definition) (at : ComponentFront) (start : ℕ) (is : List Interface) → length (interfaces_front rows at start is).instances ≡ length at.instances + length is
instances-count rows at start [] = omega arith
instances-count rows at start (i ∷ is) =
    let next = front_after rows at (rows_of rows start i) in
    let here : length next.instances ≡ length at.instances + 1 = length-append at.instances _ in
    omega (arith, here, instances-count rows next (end_of start i) is)
