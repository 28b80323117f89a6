-- What the functions of worlds define, seen from the items of the worlds.
use Rattle.std.proofs.Common.{◌≡◌, ℕ, ◌+◌, Bool, true, cond, ◌&&◌, IsTrue, List, [], ◌∷◌, ◌++◌, Option, None, Some, map, flat_map, sum, length, slice_get, refl, ap, sym, ◌∙◌, arith, append_assoc, append-nil, length-append}
use Rattle.std.specs.List.{list_all}
use Rattle.std.specs.Option.{option_map}
use Rattle.std.proofs.lemmas.List.Sums.{sum_by-cons}
use Rattle.std.proofs.lemmas.List.Folds.{list_all-append}
use Rattle.tables.specs.Tables.{are_earlier, name_types, function_of, is_there}
use Rattle.tables.specs.Package.{Tree, IsFunction, NamedDefinition, ItemMeaning, WithInterface, WithFunction, WorldMeaning, read_params, read_val, reference, references, definitions_from, definition_of, function_item, item_meaning, world_meaning}
use Rattle.tables.specs.declared.tables.Direction.{Direction}
use Rattle.tables.specs.declared.tables.Owner.{Owner}
use Rattle.tables.specs.declared.tables.Owner.TheVariants as owner
use Rattle.tables.specs.declared.tables.TypeName.{TypeName}
use Rattle.tables.specs.declared.tables.Function.{Function}
use Rattle.tables.specs.declared.tables.Definition.{Definition}
use Rattle.tables.specs.declared.tables.Definition.TheVariants as row
use Rattle.tables.specs.declared.tables.WorldItemKind.{WorldItemKind}
use Rattle.tables.specs.declared.tables.WorldItemKind.TheVariants as item
use Rattle.tables.specs.declared.tables.WorldItem.{WorldItem}
use Rattle.tables.specs.declared.tables.World.{World}
use Rattle.package_form.specs.Entries.{Table, entries_at, world_entries}
use Rattle.package_form.specs.Ids.{is_of_worlds, is_world_function, places_where}
use Rattle.package_form.specs.Form.{functions_in_item, functions_of}
use Rattle.tree_meaning.specs.Building.{IsTableFront, table_trees}
use Rattle.tree_meaning.specs.Resolves.{is_behind, HasWorldsBehind, HasItems}
use Rattle.tables.proofs.ClosedTypesRowByRow.{split}
use Rattle.package_form.proofs.AllAndContains.{flat_map-append}
use Rattle.tree_meaning.proofs.TableRows.{places-append, get-seam, references-append, kept-all, IsTyped}
use Rattle.tree_meaning.proofs.MoreRowsReadTheSame.{definitions-append}
use Rattle.tree_meaning.proofs.WorldItemsStay.{function-read}
use Rattle.tree_meaning.proofs.AllDefinitions.{all_of, all_from, all-are, no-place}

abbrev pub item_definitions : ItemMeaning → List NamedDefinition
item_definitions (WithInterface way n) = []
item_definitions (WithFunction way n params result) = record { key = record { interface = []; name = n }; meaning = IsFunction params result } ∷ []

abbrev pub world_definitions : WorldMeaning → List NamedDefinition
world_definitions w = flat_map item_definitions w.items

-- the functions of worlds, as if they stood in an interface without a name
abbrev pub worlds_definitions : List WorldMeaning → List NamedDefinition
worlds_definitions ws = flat_map world_definitions ws

pub all-append : (ns : List (List ℕ)) (trees : List Tree) (ds es : List Definition) → all_from ns trees (ds ++ es) ≡ all_from ns trees ds ++ all_from ns (references ns trees ds) es
all-append ns trees [] es = refl
all-append ns trees (d ∷ ds) es =
    ap (λ (xs : List NamedDefinition). all_of ns trees d ++ xs) (all-append ns (trees ++ reference ns trees d ∷ []) ds es)
    ∙ sym (append_assoc (all_of ns trees d) (all_from ns (trees ++ reference ns trees d ∷ []) ds) (all_from ns (references ns (trees ++ reference ns trees d ∷ []) ds) es))

-- rows behind those of interfaces define nothing in one
pub behind-none : (ns : List (List ℕ)) (trees : List Tree) (ds : List Definition) → list_all is_behind ds ≡ true → definitions_from ns trees ds ≡ []
behind-none ns trees [] h = refl
behind-none ns trees (d ∷ ds) h =
    let s = split (is_behind d) (list_all is_behind ds) h in
    ap (λ (xs : List NamedDefinition). xs ++ definitions_from ns (trees ++ reference ns trees d ∷ []) ds) (by d s.0) ∙ behind-none ns (trees ++ reference ns trees d ∷ []) ds s.1
  where
    by : (c : Definition) → is_behind c ≡ true → definition_of ns trees c ≡ []
    by (row.Type t) q = named t.name q
      where
        named : (n : Option TypeName) → is_behind (row.Type (record { name = n; kind = t.kind })) ≡ true → definition_of ns trees (row.Type (record { name = n; kind = t.kind })) ≡ []
        named None r = refl
        named (Some n) r = absurd (cc)
    by (row.Function f) q = owned f.owner q
      where
        owned : (o : Owner) → is_behind (row.Function (record { owner = o; name = f.name; params = f.params; result = f.result })) ≡ true
            → definition_of ns trees (row.Function (record { owner = o; name = f.name; params = f.params; result = f.result })) ≡ []
        owned (owner.Interface i) r = absurd (cc)
        owned (owner.World w) r = refl

module _ (ns : List (List ℕ)) (rows : List Definition) where
  abbrev trees : List Tree
  trees = references ns [] rows

  -- the function at a place, in an interface without a name
  abbrev at_place : Option Definition → List NamedDefinition
  at_place None = []
  at_place (Some (row.Type d)) = []
  at_place (Some (row.Function f)) = record { key = record { interface = []; name = f.name }; meaning = IsFunction (read_params trees f.params) (option_map (read_val trees) f.result) } ∷ []

  abbrev at : ℕ → List NamedDefinition
  at n = at_place (slice_get rows n)

  -- ---- seen from the items

  items-defined : (is : List WorldItem) → flat_map at (flat_map functions_in_item is) ≡ flat_map item_definitions (map (λ i. item_meaning ns trees rows i.direction i.kind) is)
  items-defined [] = refl
  items-defined (i ∷ is) =
      flat_map-append at (functions_in_item i) (flat_map functions_in_item is)
      ∙ ap (λ (xs : List NamedDefinition). xs ++ flat_map at (flat_map functions_in_item is)) (by i.kind)
      ∙ ap (λ (xs : List NamedDefinition). item_definitions (item_meaning ns trees rows i.direction i.kind) ++ xs) (items-defined is)
    where
      told : (o : Option Definition) → at_place o ++ [] ≡ item_definitions (function_item trees i.direction (function_of o))
      told None = refl
      told (Some (row.Type d)) = refl
      told (Some (row.Function f)) = refl

      by : (k : WorldItemKind) → flat_map at (functions_in_item (record { direction = i.direction; kind = k })) ≡ item_definitions (item_meaning ns trees rows i.direction k)
      by (item.Interface j) = refl
      by (item.Function f) = told (slice_get rows f.0)

  worlds-defined : (name : World → List ℕ) (ws : List World) → flat_map at (flat_map functions_of ws) ≡ worlds_definitions (map (λ w. world_meaning ns trees rows (name w) w) ws)
  worlds-defined name [] = refl
  worlds-defined name (w ∷ ws) =
      flat_map-append at (functions_of w) (flat_map functions_of ws)
      ∙ ap (λ (xs : List NamedDefinition). xs ++ flat_map at (flat_map functions_of ws)) (items-defined w.items)
      ∙ ap (λ (xs : List NamedDefinition). flat_map item_definitions (map (λ i. item_meaning ns trees rows i.direction i.kind) w.items) ++ xs) (worlds-defined name ws)

  -- ---- seen from the rows

  module _ (typed : IsTyped rows) (earlier : IsTrue (are_earlier 0 rows)) (types : IsTrue (name_types rows)) where
    function-told : (pre : List Definition) (f : Function) (post : List Definition) → rows ≡ pre ++ row.Function f ∷ post
        → (read_params (references ns [] pre) f.params ≡ read_params trees f.params) × (option_map (read_val (references ns [] pre)) f.result ≡ option_map (read_val trees) f.result)
    unfolding table_trees
    function-told pre f post e =
        let old : Table = record { interfaces = ns; worlds = []; rows = pre } in
        let new : Table = record { interfaces = ns; worlds = []; rows = rows } in
        let front : IsTableFront old new = record { interfaces = refl; rows = (row.Function f ∷ post, e); earlier = λ h. earlier; typed = λ h. types } in
        let r = function-read old new front f (typed pre (row.Function f) post e) in
        (sym r.1, sym r.2)

    rows-defined : (pre S : List Definition) → rows ≡ pre ++ S → list_all is_behind S ≡ true → all_from ns (references ns [] pre) S ≡ flat_map at (places_where is_world_function (length pre) S)
    rows-defined pre [] e h = refl
    rows-defined pre (d ∷ S) e h =
        let s = split (is_behind d) (list_all is_behind S) h in
        let more : rows ≡ (pre ++ d ∷ []) ++ S = e ∙ sym (append_assoc pre (d ∷ []) S) in
        let again = rows-defined (pre ++ d ∷ []) S more s.1 in
        let long : length (pre ++ d ∷ []) ≡ length pre + 1 = length-append pre (d ∷ []) in
        let later : all_from ns (references ns [] pre ++ reference ns (references ns [] pre) d ∷ []) S ≡ flat_map at (places_where is_world_function (length pre + 1) S) =
        ap (λ (ts : List Tree). all_from ns ts S) (sym (references-grown pre d)) ∙ again ∙ ap (λ (n : ℕ). flat_map at (places_where is_world_function n S)) long in
        by d e s.0 later
      where
        references-grown : (xs : List Definition) (c : Definition) → references ns [] (xs ++ c ∷ []) ≡ references ns [] xs ++ reference ns (references ns [] xs) c ∷ []
        references-grown xs c = references-append ns [] xs (c ∷ [])

        by : (c : Definition) → rows ≡ pre ++ c ∷ S → is_behind c ≡ true
            → all_from ns (references ns [] pre ++ reference ns (references ns [] pre) c ∷ []) S ≡ flat_map at (places_where is_world_function (length pre + 1) S)
            → all_of ns (references ns [] pre) c ++ all_from ns (references ns [] pre ++ reference ns (references ns [] pre) c ∷ []) S
            ≡ flat_map at (cond (is_world_function c) (length pre ∷ places_where is_world_function (length pre + 1) S) (places_where is_world_function (length pre + 1) S))
        by (row.Type t) q b later = named t.name b later
          where
            named : (n : Option TypeName) → is_behind (row.Type (record { name = n; kind = t.kind })) ≡ true
                → all_from ns (references ns [] pre ++ reference ns (references ns [] pre) (row.Type (record { name = n; kind = t.kind })) ∷ []) S ≡ flat_map at (places_where is_world_function (length pre + 1) S)
                → all_of ns (references ns [] pre) (row.Type (record { name = n; kind = t.kind }))
                ++ all_from ns (references ns [] pre ++ reference ns (references ns [] pre) (row.Type (record { name = n; kind = t.kind })) ∷ []) S
                ≡ flat_map at (places_where is_world_function (length pre + 1) S)
            named None r l = l
            named (Some n) r l = absurd (cc)
        by (row.Function f) q b later = owned f.owner refl b
          where
            here : slice_get rows (length pre) ≡ Some (row.Function f)
            here = ap (λ (xs : List Definition). slice_get xs (length pre)) q ∙ get-seam pre (row.Function f) S

            told : at (length pre) ≡ record { key = record { interface = []; name = f.name }; meaning = IsFunction (read_params (references ns [] pre) f.params) (option_map (read_val (references ns [] pre)) f.result) } ∷ []
            told =
                let r = function-told pre f S q in
                ap at_place here ∙ rw (r.0, r.1) refl

            owned : (o : Owner) → f.owner ≡ o → is_of_worlds o ≡ true
                → all_of ns (references ns [] pre) (row.Function f) ++ all_from ns (references ns [] pre ++ reference ns (references ns [] pre) (row.Function f) ∷ []) S
                ≡ flat_map at (cond (is_of_worlds f.owner) (length pre ∷ places_where is_world_function (length pre + 1) S) (places_where is_world_function (length pre + 1) S))
            owned (owner.Interface i) o r = absurd (cc)
            owned (owner.World w) o r = rw o (rw (told, later) refl)

  pub front-told : (b : HasWorldsBehind rows) → definitions_from ns [] rows ≡ all_from ns [] b.front
  front-told b =
      ap (definitions_from ns []) b.parts ∙ definitions-append ns [] b.front b.back
      ∙ ap (λ (xs : List NamedDefinition). definitions_from ns [] b.front ++ xs) (behind-none ns (references ns [] b.front) b.back b.all)
      ∙ append-nil (definitions_from ns [] b.front) ∙ all-are ns [] b.front b.none

  pub items-behind : (ws : List World) (b : HasWorldsBehind rows) → HasItems rows ws → places_where is_world_function (length b.front) b.back ≡ flat_map functions_of ws
  items-behind ws b items =
      let zero_plus : 0 + length b.front ≡ length b.front = omega arith in
      let both : places_where is_world_function 0 rows ≡ places_where is_world_function (length b.front) b.back =
      ap (places_where is_world_function 0) b.parts ∙ places-append is_world_function 0 b.front b.back
      ∙ ap (λ (ps : List ℕ). ps ++ places_where is_world_function (0 + length b.front) b.back) (no-place 0 b.front b.none)
      ∙ ap (λ (n : ℕ). places_where is_world_function n b.back) zero_plus in
      sym both ∙ items

  module _ (typed : IsTyped rows) (earlier : IsTrue (are_earlier 0 rows)) (types : IsTrue (name_types rows)) (name : World → List ℕ) (ws : List World) where
    pub back-of : (pre S : List Definition) → rows ≡ pre ++ S → list_all is_behind S ≡ true → places_where is_world_function (length pre) S ≡ flat_map functions_of ws
        → all_from ns (references ns [] pre) S ≡ worlds_definitions (map (λ w. world_meaning ns trees rows (name w) w) ws)
    back-of pre S e h items = rows-defined typed earlier types pre S e h ∙ ap (flat_map at) items ∙ worlds-defined name ws

  module _ (typed : IsTyped rows) (earlier : IsTrue (are_earlier 0 rows)) (types : IsTrue (name_types rows)) (name : World → List ℕ) (ws : List World)
      (b : HasWorldsBehind rows) (items : HasItems rows ws) where
    pub back-told : all_from ns (references ns [] b.front) b.back ≡ worlds_definitions (map (λ w. world_meaning ns trees rows (name w) w) ws)
    back-told = back-of typed earlier types name ws b.front b.back b.parts b.all (items-behind ws b items)

    -- the rows of a table define what its interfaces do, and then its worlds
    pub all-told : all_from ns [] rows ≡ definitions_from ns [] rows ++ worlds_definitions (map (λ w. world_meaning ns trees rows (name w) w) ws)
    all-told =
        ap (all_from ns []) b.parts ∙ all-append ns [] b.front b.back
        ∙ ap (λ (xs : List NamedDefinition). xs ++ all_from ns (references ns [] b.front) b.back) (sym (front-told b))
        ∙ ap (λ (xs : List NamedDefinition). definitions_from ns [] rows ++ xs) back-told

-- ---- type entries

abbrev pub item_size : ItemMeaning → ℕ
item_size (WithInterface way n) = 1
item_size (WithFunction way n params result) = 0

abbrev pub world_size : WorldMeaning → ℕ
world_size w = 1 + sum (map item_size w.items)

world-function : (d : Definition) → is_world_function d ≡ true → is_there (function_of (Some d)) ≡ true
world-function (row.Type t) e = absurd (cc)
world-function (row.Function f) e = refl

pub functions-there : (rows : List Definition) (ws : List World) → HasItems rows ws → list_all (λ n. is_there (function_of (slice_get rows n))) (flat_map functions_of ws) ≡ true
functions-there rows ws items =
    ap (list_all (λ n. is_there (function_of (slice_get rows n)))) (sym items)
    ∙ kept-all is_world_function (λ o. is_there (function_of o)) world-function rows [] rows 0 refl refl

module _ (ns : List (List ℕ)) (trees : List Tree) (rows : List Definition) where
  abbrev there : ℕ → Bool
  there n = is_there (function_of (slice_get rows n))

  item-sized : (way : Direction) (k : WorldItemKind) → list_all there (functions_in_item (record { direction = way; kind = k })) ≡ true
      → entries_at (record { direction = way; kind = k }) ≡ item_size (item_meaning ns trees rows way k)
  item-sized way (item.Interface j) h = refl
  item-sized way (item.Function f) h = by (function_of (slice_get rows f.0)) h
    where
      by : (o : Option Function) → (is_there o && true) ≡ true → 0 ≡ item_size (function_item trees way o)
      by None q = absurd (cc)
      by (Some g) q = refl

  items-sized : (is : List WorldItem) → list_all there (flat_map functions_in_item is) ≡ true
      → sum (map entries_at is) ≡ sum (map item_size (map (λ i. item_meaning ns trees rows i.direction i.kind) is))
  items-sized [] h = refl
  items-sized (i ∷ is) h =
      let s = split (list_all there (functions_in_item i)) (list_all there (flat_map functions_in_item is)) (sym (list_all-append there (functions_in_item i) (flat_map functions_in_item is)) ∙ h) in
      let m = item_meaning ns trees rows i.direction i.kind in
      let ms = map (λ j. item_meaning ns trees rows j.direction j.kind) is in
      let left : sum (map entries_at (i ∷ is)) ≡ entries_at i + sum (map entries_at is) = sum_by-cons (λ x. x) (entries_at i) (map entries_at is) in
      let right : sum (map item_size (m ∷ ms)) ≡ item_size m + sum (map item_size ms) = sum_by-cons (λ x. x) (item_size m) (map item_size ms) in
      omega (arith, left, right, item-sized i.direction i.kind s.0, items-sized is s.1)

  pub worlds-sized : (name : World → List ℕ) (ws : List World) → list_all there (flat_map functions_of ws) ≡ true
      → sum (map world_entries ws) ≡ sum (map world_size (map (λ w. world_meaning ns trees rows (name w) w) ws))
  worlds-sized name [] h = refl
  worlds-sized name (w ∷ ws) h =
      let s = split (list_all there (functions_of w)) (list_all there (flat_map functions_of ws)) (sym (list_all-append there (functions_of w) (flat_map functions_of ws)) ∙ h) in
      let m = world_meaning ns trees rows (name w) w in
      let ms = map (λ v. world_meaning ns trees rows (name v) v) ws in
      let left : sum (map world_entries (w ∷ ws)) ≡ world_entries w + sum (map world_entries ws) = sum_by-cons (λ x. x) (world_entries w) (map world_entries ws) in
      let right : sum (map world_size (m ∷ ms)) ≡ world_size m + sum (map world_size ms) = sum_by-cons (λ x. x) (world_size m) (map world_size ms) in
      omega (arith, left, right, items-sized w.items s.0, worlds-sized name ws s.1)
