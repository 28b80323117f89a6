-- The worlds of a table, and which world each of its functions is of, are told by what the worlds read as.
use Rattle.std.proofs.Common.{◌≡◌, ◌<◌, ◌+◌, ℕ, List, [], ◌∷◌, ◌++◌, length, map, flat_map, get_or, slice_get, refl, sym, ap, ◌∙◌, append_assoc, length-append, arith}
use Rattle.std.specs.Prelude.{Bool, true, false, Option, None, Some, if◌then◌else◌}
use Rattle.std.specs.List.{list_all}
use Rattle.std.proofs.lemmas.Bool.{and_parts, false≢true, ltb-true, eqb-true}
use Rattle.tables.specs.Tables.{function_of, is_owner_world, is_function_of, is_placed_item, is_placed_world, are_placed_worlds}
use Rattle.tables.specs.PackageNames.{PackageParts, own_name}
use Rattle.tables.specs.Package.{Tree, ItemMeaning, WithInterface, WithFunction, WorldMeaning, function_item, item_meaning, world_meaning}
use Rattle.tables.specs.declared.tables.Direction.{Direction}
use Rattle.tables.specs.declared.tables.Owner.{Owner}
use Rattle.tables.specs.declared.tables.Owner.TheVariants as owner
use Rattle.tables.specs.declared.tables.Definition.{Definition}
use Rattle.tables.specs.declared.tables.Definition.TheVariants as row
use Rattle.tables.specs.declared.tables.WorldItemKind.{WorldItemKind}
use Rattle.tables.specs.declared.tables.WorldItemKind.TheVariants as item
use Rattle.tables.specs.declared.tables.WorldItem.{WorldItem}
use Rattle.tables.specs.declared.tables.World.{World}
use Rattle.package_form.specs.Ids.{is_of_worlds, is_world_function, places_where}
use Rattle.package_form.specs.Form.{item_function, functions_in_item, functions_of}
use Rattle.package_form.specs.Naming.{item_direction}
use Rattle.package_form.proofs.AllAndContains.{flat_map-append}
use Rattle.package_form.proofs.InterfacesOfOnePackage.{one-full-name}
use Rattle.package_text.proofs.TableRows.RowsReadByEarlierRows.{get-there}
use Rattle.package_text.proofs.OneTablePerTree.SameNamesSameRows.{owner_world, row_world, world_owners}
use Rattle.package_form.specs.Closed.{is_world_of}

-- ---- the world of each function

abbrev pub world_at : Option Definition → List ℕ
world_at None = []
world_at (Some d) = row_world d

module _ (rows : List Definition) where
  abbrev pub worlds_at : List ℕ → List ℕ
  worlds_at ps = flat_map (λ n. world_at (slice_get rows n)) ps

  pub placed-owners : (front rest : List Definition) → rows ≡ front ++ rest → flat_map row_world rest ≡ worlds_at (places_where is_world_function (length front) rest)
  placed-owners front [] e = refl
  placed-owners front (d ∷ rest) e =
      let long : length (front ++ d ∷ []) ≡ length front + 1 = length-append front (d ∷ []) in
      let later : flat_map row_world rest ≡ worlds_at (places_where is_world_function (length front + 1) rest) =
      placed-owners (front ++ d ∷ []) rest (e ∙ sym (append_assoc front (d ∷ []) rest)) ∙ ap (λ (n : ℕ). worlds_at (places_where is_world_function n rest)) long in
      let here : slice_get rows (length front) ≡ Some d = ap (λ (ds : List Definition). slice_get ds (length front)) e ∙ get-there front d rest in
      by d here later
    where
      by : (c : Definition) → slice_get rows (length front) ≡ Some c → flat_map row_world rest ≡ flat_map (λ n. world_at (slice_get rows n)) (places_where is_world_function (length front + 1) rest)
          → row_world c ++ flat_map row_world rest
          ≡ flat_map (λ n. world_at (slice_get rows n)) (if is_world_function c then length front ∷ places_where is_world_function (length front + 1) rest else places_where is_world_function (length front + 1) rest)
      by (row.Type c) h l = l
      by (row.Function f) h l = owned f.owner refl
        where
          owned : (o : Owner) → f.owner ≡ o
              → owner_world o ++ flat_map row_world rest
              ≡ flat_map (λ n. world_at (slice_get rows n)) (if is_of_worlds o then length front ∷ places_where is_world_function (length front + 1) rest else places_where is_world_function (length front + 1) rest)
          owned (owner.Interface i) o = l
          owned (owner.World w) o =
              let at : world_at (slice_get rows (length front)) ≡ w.0 ∷ [] = ap world_at h ∙ ap owner_world o in
              ap (λ (xs : List ℕ). w.0 ∷ xs) l ∙ ap (λ (xs : List ℕ). xs ++ worlds_at (places_where is_world_function (length front + 1) rest)) (sym at)

-- the place of the world for each function among its items
abbrev item_owners : ℕ → List ItemMeaning → List ℕ
item_owners k [] = []
item_owners k (WithInterface way n ∷ ms) = item_owners k ms
item_owners k (WithFunction way n params result ∷ ms) = k ∷ item_owners k ms

abbrev pub owners_by : ℕ → List WorldMeaning → List ℕ
owners_by k [] = []
owners_by k (m ∷ ms) = item_owners k m.items ++ owners_by (k + 1) ms

module _ (ns : List (List ℕ)) (trees : List Tree) (rows : List Definition) (count : ℕ) where
  items-owned : (k : ℕ) (is : List WorldItem) → list_all (λ i. is_placed_item rows count k i.kind) is ≡ true
      → worlds_at rows (flat_map functions_in_item is) ≡ item_owners k (map (λ i. item_meaning ns trees rows i.direction i.kind) is)
  items-owned k [] h = refl
  items-owned k (i ∷ is) h =
      let t = and_parts (is_placed_item rows count k i.kind) (list_all (λ i. is_placed_item rows count k i.kind) is) h in
      by i.kind t.0 (items-owned k is t.1)
    where
      by : (c : WorldItemKind) → is_placed_item rows count k c ≡ true
          → flat_map (λ n. world_at (slice_get rows n)) (flat_map functions_in_item is) ≡ item_owners k (map (λ i. item_meaning ns trees rows i.direction i.kind) is)
          → flat_map (λ n. world_at (slice_get rows n)) (item_function c ++ flat_map functions_in_item is)
          ≡ item_owners k (item_meaning ns trees rows i.direction c ∷ map (λ i. item_meaning ns trees rows i.direction i.kind) is)
      by (item.Interface j) q on = on
      by (item.Function f) q on = at (slice_get rows f.0) q
        where
          own : (o : Owner) → is_owner_world k o ≡ true → owner_world o ≡ k ∷ []
          own (owner.Interface j) u = absurd (false≢true u)
          own (owner.World w) u = ap (λ (n : ℕ). n ∷ []) (eqb-true w.0 k u)

          at : (d : Option Definition) → is_function_of k (function_of d) ≡ true
              → world_at d ++ flat_map (λ n. world_at (slice_get rows n)) (flat_map functions_in_item is)
              ≡ item_owners k (function_item trees i.direction (function_of d) ∷ map (λ i. item_meaning ns trees rows i.direction i.kind) is)
          at None u = absurd (false≢true u)
          at (Some (row.Type d)) u = absurd (false≢true u)
          at (Some (row.Function g)) u =
              ap (λ (xs : List ℕ). xs ++ flat_map (λ n. world_at (slice_get rows n)) (flat_map functions_in_item is)) (own g.owner u) ∙ ap (λ (xs : List ℕ). k ∷ xs) on

  pub worlds-owned : (name : World → List ℕ) (k : ℕ) (ws : List World) → are_placed_worlds rows count k ws ≡ true
      → worlds_at rows (flat_map functions_of ws) ≡ owners_by k (map (λ w. world_meaning ns trees rows (name w) w) ws)
  worlds-owned name k [] h = refl
  worlds-owned name k (w ∷ ws) h =
      let t = and_parts (is_placed_world rows count k w) (are_placed_worlds rows count (k + 1) ws) h in
      flat_map-append (λ n. world_at (slice_get rows n)) (functions_of w) (flat_map functions_of ws)
      ∙ (ap (λ (xs : List ℕ). xs ++ worlds_at rows (flat_map functions_of ws)) (items-owned k w.items t.0)
      ∙ ap (λ (xs : List ℕ). item_owners k (map (λ i. item_meaning ns trees rows i.direction i.kind) w.items) ++ xs) (worlds-owned name (k + 1) ws t.1))

  pub all-owned : (name : World → List ℕ) (ws : List World) → are_placed_worlds rows count 0 ws ≡ true → places_where is_world_function 0 rows ≡ flat_map functions_of ws
      → world_owners rows ≡ owners_by 0 (map (λ w. world_meaning ns trees rows (name w) w) ws)
  all-owned name ws h items = placed-owners rows [] rows refl ∙ (ap (worlds_at rows) items ∙ worlds-owned name 0 ws h)

-- ---- items and worlds

abbrev is_function : ItemMeaning → Bool
is_function (WithInterface way n) = false
is_function (WithFunction way n params result) = true

module _ (ns : List (List ℕ)) (apart : (i j : ℕ) → i < length ns → j < length ns → get_or ns i [] ≡ get_or ns j [] → i ≡ j) (trees : List Tree) (rows : List Definition) (count : ℕ) (long : length ns ≡ count) where
  abbrev meant : WorldItem → ItemMeaning
  meant i = item_meaning ns trees rows i.direction i.kind

  -- a placed function reads as one
  function-told : (k : ℕ) (way : Direction) (d : Option Definition) → is_function_of k (function_of d) ≡ true
      → (is_function (function_item trees way (function_of d)) ≡ true) × (item_direction (function_item trees way (function_of d)) ≡ way)
  function-told k way None h = absurd (false≢true h)
  function-told k way (Some (row.Type d)) h = absurd (false≢true h)
  function-told k way (Some (row.Function f)) h = (refl, refl)

  item-same : (k l : ℕ) (v w : Direction) (c d : WorldItemKind) → is_placed_item rows count k c ≡ true → is_placed_item rows count l d ≡ true → item_meaning ns trees rows v c ≡ item_meaning ns trees rows w d
      → (ps qs : List ℕ) → item_function c ++ ps ≡ item_function d ++ qs → (v ≡ w) × (c ≡ d) × (ps ≡ qs)
  item-same k l v w (item.Interface i) (item.Interface j) h m e ps qs p =
      let way : v ≡ w = ap item_direction e in
      let named : get_or ns i.0 [] ≡ get_or ns j.0 [] = cc in
      let same = apart i.0 j.0 (omega (arith, long, ltb-true i.0 count h)) (omega (arith, long, ltb-true j.0 count m)) named in
      (way, ap (λ (n : ℕ). item.Interface (record { 0 = n })) same, p)
  item-same k l v w (item.Function f) (item.Function g) h m e ps qs p =
      let a = function-told k v (slice_get rows f.0) h in
      let b = function-told l w (slice_get rows g.0) m in
      let way : v ≡ w = sym a.1 ∙ (ap item_direction e ∙ b.1) in
      let same : f.0 ≡ g.0 = cc in
      let rest : ps ≡ qs = cc in
      (way, ap (λ (n : ℕ). item.Function (record { 0 = n })) same, rest)
  item-same k l v w (item.Interface i) (item.Function g) h m e ps qs p =
      let b = function-told l w (slice_get rows g.0) m in absurd (false≢true (ap is_function e ∙ b.0))
  item-same k l v w (item.Function f) (item.Interface j) h m e ps qs p =
      let a = function-told k v (slice_get rows f.0) h in absurd (false≢true (sym (ap is_function e) ∙ a.0))

  items-same : (k l : ℕ) (is js : List WorldItem) → list_all (λ i. is_placed_item rows count k i.kind) is ≡ true → list_all (λ i. is_placed_item rows count l i.kind) js ≡ true
      → map meant is ≡ map meant js → (ps qs : List ℕ) → flat_map functions_in_item is ++ ps ≡ flat_map functions_in_item js ++ qs → (is ≡ js) × (ps ≡ qs)
  items-same k l [] [] h m e ps qs p = (refl, p)
  items-same k l [] (j ∷ js) h m e ps qs p = absurd cc
  items-same k l (i ∷ is) [] h m e ps qs p = absurd cc
  items-same k l (i ∷ is) (j ∷ js) h m e ps qs p =
      let t = and_parts (is_placed_item rows count k i.kind) (list_all (λ i. is_placed_item rows count k i.kind) is) h in
      let u = and_parts (is_placed_item rows count l j.kind) (list_all (λ i. is_placed_item rows count l i.kind) js) m in
      let front : meant i ≡ meant j = cc in
      let back : map meant is ≡ map meant js = cc in
      let one = item-same k l i.direction j.direction i.kind j.kind t.0 u.0 front (flat_map functions_in_item is ++ ps) (flat_map functions_in_item js ++ qs)
      (sym (append_assoc (item_function i.kind) (flat_map functions_in_item is) ps) ∙ (p ∙ append_assoc (item_function j.kind) (flat_map functions_in_item js) qs)) in
      let more = items-same k l is js t.1 u.1 back ps qs one.2 in
      let way = one.0 in
      let sort = one.1 in
      let same : i ≡ j = rw (way, sort) refl in
      let rest = more.0 in
      (ap (λ (x : WorldItem). x ∷ is) same ∙ ap (λ (xs : List WorldItem). j ∷ xs) rest, more.1)

  -- worlds of package n
  pub worlds-same : (n : ℕ) (q : PackageParts) (name other : World → List ℕ) → ((w : World) → is_world_of n w ≡ true → name w ≡ own_name q w.name) → ((w : World) → is_world_of n w ≡ true → other w ≡ own_name q w.name)
      → (k l : ℕ) (vs ws : List World) → list_all (is_world_of n) vs ≡ true → list_all (is_world_of n) ws ≡ true → are_placed_worlds rows count k vs ≡ true → are_placed_worlds rows count l ws ≡ true
      → map (λ w. world_meaning ns trees rows (name w) w) vs ≡ map (λ w. world_meaning ns trees rows (other w) w) ws → (ps qs : List ℕ) → flat_map functions_of vs ++ ps ≡ flat_map functions_of ws ++ qs → vs ≡ ws
  worlds-same n q name other own owned k l [] [] f g h m e ps qs p = refl
  worlds-same n q name other own owned k l [] (w ∷ ws) f g h m e ps qs p = absurd cc
  worlds-same n q name other own owned k l (v ∷ vs) [] f g h m e ps qs p = absurd cc
  worlds-same n q name other own owned k l (v ∷ vs) (w ∷ ws) f g h m e ps qs p =
      let a = and_parts (is_world_of n v) (list_all (is_world_of n) vs) f in
      let b = and_parts (is_world_of n w) (list_all (is_world_of n) ws) g in
      let t = and_parts (is_placed_world rows count k v) (are_placed_worlds rows count (k + 1) vs) h in
      let u = and_parts (is_placed_world rows count l w) (are_placed_worlds rows count (l + 1) ws) m in
      let front : world_meaning ns trees rows (name v) v ≡ world_meaning ns trees rows (other w) w = cc in
      let back : map (λ w. world_meaning ns trees rows (name w) w) vs ≡ map (λ w. world_meaning ns trees rows (other w) w) ws = cc in
      let label : v.name ≡ w.name = one-full-name q v.name w.name (sym (own v a.0) ∙ (ap (λ (x : WorldMeaning). x.name) front ∙ owned w b.0)) in
      let of : v.«package».0 ≡ w.«package».0 = eqb-true v.«package».0 n a.0 ∙ sym (eqb-true w.«package».0 n b.0) in
      let one = items-same k l v.items w.items t.0 u.0 (ap (λ (x : WorldMeaning). x.items) front) (flat_map functions_of vs ++ ps) (flat_map functions_of ws ++ qs)
      (sym (append_assoc (functions_of v) (flat_map functions_of vs) ps) ∙ (p ∙ append_assoc (functions_of w) (flat_map functions_of ws) qs)) in
      let more = worlds-same n q name other own owned (k + 1) (l + 1) vs ws a.1 b.1 t.1 u.1 back ps qs one.1 in
      let items = one.0 in
      let same : v ≡ w = rw (of, label, items) refl in
      ap (λ (x : World). x ∷ vs) same ∙ ap (λ (xs : List World). w ∷ xs) more
