-- What is kept of a set tells what the set told.
use Rattle.std.proofs.Common.{◌≡◌, ◌≤◌, ◌<◌, ◌⊎◌, inl, inr, ℕ, Bool, true, false, List, [], length, get_or, slice_get, map, Option, None, Some, refl, ap, sym, subst, ◌∙◌, arith, true≢false}
use Rattle.std.specs.Prelude.{Contains}
use Rattle.std.specs.Option.{option_map}
use Rattle.std.specs.List.{list_all, items_where_true}
use Rattle.std.proofs.lemmas.List.{get_or_default, get_or_past, length-map}
use Rattle.std.proofs.lemmas.Option.{slice_get_within, slice_get-get_or, get_or_from_slice_get}
use Rattle.tables.specs.Tables.{option_all, function_of, is_function_of, is_placed_item, is_placed_world}
use Rattle.tables.specs.Names.{full_name, full_name_in, world_name}
use Rattle.tables.specs.PackageNames.{PackageParts}
use Rattle.tables.specs.Package.{Tree, interface_names, definitions, definitions_from, worlds, world_meaning, item_meaning, function_item, WithFunction, WithInterface, read_params, read_val, trees, references}
use Rattle.tables.proofs.ClosedTypesRowByRow.{split}
use Rattle.tables.specs.declared.tables.FunctionId.{FunctionId}
use Rattle.tables.specs.declared.tables.Direction.{Direction}
use Rattle.tables.specs.declared.tables.Function.{Function}
use Rattle.tables.specs.declared.tables.Definition.{Definition}
use Rattle.tables.specs.declared.tables.Definition.TheVariants as row
use Rattle.tables.specs.declared.tables.Interface.{Interface}
use Rattle.tables.specs.declared.tables.World.{World}
use Rattle.tables.specs.declared.tables.WorldItem.{WorldItem}
use Rattle.tables.specs.declared.tables.WorldItemKind.{WorldItemKind}
use Rattle.tables.specs.declared.tables.WorldItemKind.TheVariants as item
use Rattle.tables.specs.declared.tables.Resolve.{Resolve}
use Rattle.set_rows.specs.Places.{place}
use Rattle.set_rows.specs.Reaches.{is_marked}
use Rattle.set_rows.specs.Renamed.{renaming}
use Rattle.set_rows.specs.Moved.{put_row, put_function, put_interface, put_item, put_item_kind, put_world}
use Rattle.package_sets.specs.Part.{IsPart}
use Rattle.package_sets.specs.Restricted.{definitions_where}
use Rattle.set_rows.specs.declared.moved.Moved.{Moved}
use Rattle.set_rows.proofs.KeptElementsAndPlaces.{kept-at, kept-get, kept-past}
use Rattle.package_sets.proofs.KeptParts.PropertiesOfKept.{list-at, map-kept-as, map-put-as, placed-at}
use Rattle.set_rows.proofs.PlacesOfMarked.{place-none}
use Rattle.package_sets.proofs.MovedRows.MovedRowsKeepMeaning.{length-references}
use Rattle.package_sets.proofs.KeptParts.KeptRowsKeepMeaning.{Agrees, NamesAgree, definitions-kept, trees-kept, params-same, result-same, is_kept}
use Rattle.package_sets.proofs.KeptParts.KeptIsATable as table
use Rattle.package_sets.proofs.GrowingLists.{map-get}

length-trees : (s : Resolve) → length (trees s) ≡ length s.definitions
length-trees s = omega (arith, length-references (interface_names s) [] s.definitions)

module _ (s : Resolve) (to : Moved) (n : IsPart s to) (r : Resolve) (ps : r.packages ≡ items_where_true to.packages s.packages) (is : r.interfaces ≡ map (put_interface (renaming to)) (items_where_true to.interfaces s.interfaces)) (ws : r.worlds ≡ map (put_world (renaming to)) (items_where_true to.worlds s.worlds)) (ds : r.definitions ≡ map (put_row (renaming to)) (items_where_true to.rows s.definitions)) where
  package-same : (p : ℕ) (name : List ℕ) → p < length s.packages → get_or to.packages p false ≡ true → full_name_in (slice_get r.packages (place to.packages p)) name ≡ full_name_in (slice_get s.packages p) name
  package-same p name h e =
      ap (λ (o : Option PackageParts). full_name_in o name) (ap (λ (xs : List PackageParts). slice_get xs (place to.packages p)) ps ∙ found (slice_get s.packages p) refl)
    where
      found : (o : Option PackageParts) → slice_get s.packages p ≡ o → slice_get (items_where_true to.packages s.packages) (place to.packages p) ≡ slice_get s.packages p
      found None q = absurd (none-within q)
        where
          none-within : slice_get s.packages p ≡ None → ⊥
          none-within z = let d = slice_get-get_or s.packages p (record { namespace = []; name = []; version = None }) h in absurd (cc)
      found (Some x) q = kept-at to.packages s.packages p x e q ∙ sym q

  pub interfaces-same : interface_names r ≡ items_where_true n.marks.interfaces (interface_names s)
  interfaces-same =
      ap (map (full_name r)) is
      ∙ (map-kept-as (put_interface (renaming to)) (full_name s) (full_name r) to.interfaces s.interfaces (λ k i h e. package-same i.«package».0 i.name (table.interface-within s to n k i e) (n.interfaces_needed k i h e))
      ∙ ap (λ (bs : List Bool). items_where_true bs (interface_names s)) n.interfaces_are)

  names-agree : NamesAgree (is_marked n.marks) to (interface_names s) (items_where_true n.marks.interfaces (interface_names s))
  names-agree i h = ap (λ (bs : List Bool). get_or (items_where_true n.marks.interfaces (interface_names s)) (place bs i) []) n.interfaces_are ∙ by (total i (length s.interfaces))
    where
      total : (a b : ℕ) → (a < b) ⊎ (b ≤ a)
      total a b = grind arith

      count : length (interface_names s) ≡ length s.interfaces
      count = length-map s.interfaces (full_name s)

      by : (i < length s.interfaces) ⊎ (length s.interfaces ≤ i) → get_or (items_where_true n.marks.interfaces (interface_names s)) (place n.marks.interfaces i) [] ≡ get_or (interface_names s) i []
      by (inl l) = kept-get n.marks.interfaces (interface_names s) i [] (get_or_default n.marks.interfaces i false true (omega (arith, n.count)) ∙ h) (omega (arith, count))
      by (inr l) = kept-past n.marks.interfaces (interface_names s) i [] (omega (arith, n.count)) ∙ sym (get_or_past (interface_names s) i [] (omega (arith, count)))

  start : Agrees to.rows [] []
  start = record { count = sym (place-none to.rows); same = λ t h. absurd (omega arith) }

  pub definitions-same : definitions r ≡ definitions_where (is_marked n.marks) (interface_names s) [] s.definitions
  definitions-same =
      ap (λ (xs : List Definition). definitions_from (interface_names r) [] xs) ds
      ∙ (ap (λ (ms : List (List ℕ)). definitions_from ms [] (map (put_row (renaming to)) (items_where_true to.rows s.definitions))) interfaces-same
      ∙ definitions-kept (is_marked n.marks) to (interface_names s) (items_where_true n.marks.interfaces (interface_names s)) names-agree to.rows [] [] s.definitions (table.count-rows s to n) start
      (λ k. ap (λ j. get_or to.rows j false) (omega arith)) (table.rights s to n))

  trees-there : trees r ≡ references (items_where_true n.marks.interfaces (interface_names s)) [] (map (put_row (renaming to)) (items_where_true to.rows s.definitions))
  trees-there = ap (λ (xs : List Definition). references (interface_names r) [] xs) ds ∙ ap (λ (ms : List (List ℕ)). references ms [] (map (put_row (renaming to)) (items_where_true to.rows s.definitions))) interfaces-same

  trees-agree : Agrees to.rows (trees s) (trees r)
  trees-agree = subst (λ (ts : List Tree). Agrees to.rows (trees s) ts) (sym trees-there)
      (trees-kept (is_marked n.marks) to (interface_names s) (items_where_true n.marks.interfaces (interface_names s)) names-agree to.rows [] [] s.definitions (table.count-rows s to n) start
      (λ k. ap (λ j. get_or to.rows j false) (omega arith)) (table.rights s to n))

  -- a function that is kept reads as it did
  function-told : (f : FunctionId) (g : Function) (way : Direction) → slice_get s.definitions f.0 ≡ Some (row.Function g) → get_or to.rows f.0 false ≡ true
      → function_item (trees r) way (function_of (slice_get r.definitions (place to.rows f.0))) ≡ function_item (trees s) way (function_of (slice_get s.definitions f.0))
  function-told f g way d k =
      let there : slice_get r.definitions (place to.rows f.0) ≡ Some (put_row (renaming to) (row.Function g)) =
      ap (λ (xs : List Definition). slice_get xs (place to.rows f.0)) ds ∙ map-get (put_row (renaming to)) (items_where_true to.rows s.definitions) (place to.rows f.0) (row.Function g) (kept-at to.rows s.definitions f.0 (row.Function g) k d) in
      let all = table.kept-all s to n f.0 (length (trees s)) (row.Function g) (omega (arith, length-trees s, slice_get_within s.definitions f.0 (row.Function g) d)) d k in
      let p = split (list_all (λ q. is_kept to.rows (length (trees s)) q.ty) g.params) (option_all (is_kept to.rows (length (trees s))) g.result) all in
      let x = params-same to (trees s) (trees r) trees-agree g.params p.0 in
      let y = result-same to (trees s) (trees r) trees-agree g.result p.1 in
      let told : WithFunction way g.name (read_params (trees r) (put_function (renaming to) g).params) (option_map (read_val (trees r)) (put_function (renaming to) g).result)
      ≡ WithFunction way g.name (read_params (trees s) g.params) (option_map (read_val (trees s)) g.result) = cc in
      ap (λ (o : Option Definition). function_item (trees r) way (function_of o)) there ∙ (told ∙ sym (ap (λ (o : Option Definition). function_item (trees s) way (function_of o)) d))

  item-same : (k : ℕ) (w : World) (i : WorldItem) → get_or to.worlds k false ≡ true → slice_get s.worlds k ≡ Some w → Contains w.items i → is_placed_item s.definitions (length s.interfaces) k i.kind ≡ true
      → item_meaning (interface_names r) (trees r) r.definitions i.direction (put_item_kind (renaming to) i.kind) ≡ item_meaning (interface_names s) (trees s) s.definitions i.direction i.kind
  item-same k w i h e c p = by i.kind refl p
    where
      by : (x : WorldItemKind) → i.kind ≡ x → is_placed_item s.definitions (length s.interfaces) k x ≡ true
          → item_meaning (interface_names r) (trees r) r.definitions i.direction (put_item_kind (renaming to) x) ≡ item_meaning (interface_names s) (trees s) s.definitions i.direction x
      by (item.Interface j) q z =
          ap (WithInterface i.direction) (ap (λ (ns : List (List ℕ)). get_or ns (place to.interfaces j.0) []) interfaces-same ∙ names-agree j.0 (table.item-interface s to n k w i j h e c q))
      by (item.Function f) q z = function (slice_get s.definitions f.0) refl z
        where
          function : (o : Option Definition) → slice_get s.definitions f.0 ≡ o → is_function_of k (function_of o) ≡ true
              → function_item (trees r) i.direction (function_of (slice_get r.definitions (place to.rows f.0))) ≡ function_item (trees s) i.direction (function_of (slice_get s.definitions f.0))
          function None d y = absurd (true≢false (sym y))
          function (Some (row.Type t)) d y = absurd (true≢false (sym y))
          function (Some (row.Function g)) d y = function-told f g i.direction d (table.item-function s to n k w f g h e d y)

  world-same : (k : ℕ) (w : World) → get_or to.worlds k false ≡ true → slice_get s.worlds k ≡ Some w
      → world_meaning (interface_names r) (trees r) r.definitions (world_name r (put_world (renaming to) w)) (put_world (renaming to) w) ≡ world_meaning (interface_names s) (trees s) s.definitions (world_name s w) w
  world-same k w h e =
      let name : world_name r (put_world (renaming to) w) ≡ world_name s w = package-same w.«package».0 w.name (table.world-within s to n k w e) (n.worlds_needed k w h e) in
      let items : map (λ i. item_meaning (interface_names r) (trees r) r.definitions i.direction i.kind) (map (put_item (renaming to)) w.items) ≡ map (λ i. item_meaning (interface_names s) (trees s) s.definitions i.direction i.kind) w.items =
      map-put-as (put_item (renaming to)) _ _ w.items (λ j i q. item-same k w i h e (j, slice_get_within w.items j i q, get_or_from_slice_get w.items j i i q) (list-at _ w.items j i placed q)) in
      cc
    where
      placed : is_placed_world s.definitions (length s.interfaces) k w ≡ true
      placed = subst (λ m. is_placed_world s.definitions (length s.interfaces) m w ≡ true) (omega arith) (placed-at s.definitions (length s.interfaces) 0 s.worlds k w s.worlds_placed e)

  pub worlds-same : worlds r ≡ items_where_true to.worlds (worlds s)
  worlds-same =
      ap (map (λ w. world_meaning (interface_names r) (trees r) r.definitions (world_name r w) w)) ws
      ∙ map-kept-as (put_world (renaming to)) (λ w. world_meaning (interface_names s) (trees s) s.definitions (world_name s w) w) (λ w. world_meaning (interface_names r) (trees r) r.definitions (world_name r w) w) to.worlds s.worlds
      world-same

  -- an interface that is kept keeps its name
  pub name-same : (k : ℕ) (i : Interface) → get_or to.interfaces k false ≡ true → slice_get s.interfaces k ≡ Some i → full_name r (put_interface (renaming to) i) ≡ full_name s i
  name-same k i h e = package-same i.«package».0 i.name (table.interface-within s to n k i e) (n.interfaces_needed k i h e)
