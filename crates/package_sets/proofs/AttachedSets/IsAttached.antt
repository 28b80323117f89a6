-- What the worlds of a set with a package more mean, and that the set is accepted as its definition says.
use Rattle.std.proofs.Common.{false, ◌≡◌, ◌≤◌, ℕ, ◌+◌, true, List, [], ◌++◌, length, map, take, drop, slice_get, Option, None, Some, refl, ap, sym, subst, ◌∙◌, arith, true≢false, eqb-true}
use Rattle.std.specs.List.{list_all}
use Rattle.std.proofs.lemmas.Bool.{ltb-true, lt-ltb}
use Rattle.std.proofs.lemmas.List.{map-append, take-append-drop}
use Rattle.std.proofs.lemmas.Option.{slice_get_within, get_or_from_slice_get}
use Rattle.package_form.specs.Closed.{own_package, is_closed, is_world_of}
use Rattle.tables.specs.Tables.{is_below, option_all, definition_below, function_of, is_function_of, is_placed_item}
use Rattle.tables.specs.Names.{full_name_in, world_name}
use Rattle.tables.specs.Package.{Tree, trees, references, interface_names, worlds, world_meaning, item_meaning, function_item, WithInterface, WorldMeaning, ItemMeaning}
use Rattle.tables.specs.PackageNames.{PackageParts}
use Rattle.tables.proofs.ClosedTypesRowByRow.{split, below-at}
use Rattle.tables.specs.declared.tables.Direction.{Direction}
use Rattle.tables.specs.declared.tables.Function.{Function}
use Rattle.tables.specs.declared.tables.ValType.{ValType}
use Rattle.tables.specs.declared.tables.ValType.TheVariants as val
use Rattle.tables.specs.declared.tables.Definition.{Definition}
use Rattle.tables.specs.declared.tables.Definition.TheVariants as row
use Rattle.tables.specs.declared.tables.World.{World}
use Rattle.tables.specs.declared.tables.WorldItemKind.{WorldItemKind}
use Rattle.tables.specs.declared.tables.WorldItemKind.TheVariants as item
use Rattle.tables.specs.declared.tables.Resolve.{Resolve}
use Rattle.set_rows.specs.Moved.{Renaming, put_val, put_row, put_function, put_interface, put_item, put_item_kind, put_world}
use Rattle.package_sets.specs.Set.{IsPackageByPackage, HasRowsInForm}
use Rattle.package_sets.specs.Joining.{imports, own_interfaces, joined, HasImports}
use Rattle.package_sets.specs.Joined.{renaming_of, IsJoined}
use Rattle.package_sets.proofs.AttachedSets.PutBehind.{IsPut}
use Rattle.package_sets.specs.Attached.{IsOwn, IsNew, HasRoom, HasAll, has_package, others, IsOwnBehind, IsAttached}
use Rattle.package_sets.specs.Follows.{OfAttached}
use Rattle.package_sets.specs.Joined.{JoinedPlaces}
use Rattle.package_sets.proofs.GrowingLists.{front-get}
use Rattle.package_sets.proofs.KeptParts.PropertiesOfKept.{list-at, map-put-as, placed-at, worlds-grouped-at}
use Rattle.package_sets.proofs.MovedRows.WhatRowsName.{definition-put}
use Rattle.package_sets.proofs.MovedRows.MovedRowsKeepMeaning.{AreThere, in_place, row-stays, params-same, result-same, length-references, references-append, trees-stay, trees-there}
use Rattle.package_sets.proofs.FoundImports.ImportsAreFound.{found-same, renaming-is, imports-of}
use Rattle.package_sets.proofs.AttachedSets.OwnPartStandsBehind.{row-there}
use Rattle.package_sets.proofs.AttachedSets.IsInSetForm.{stands-there, set-form}
use Rattle.package_sets.proofs.AttachedSets.NamesTellTheSet.{map-each, set-package, own-package, names-are}
use Rattle.package_sets.proofs.AttachedSets.RowsKeepTheirMeaning.{all-worlds, have-names, keep-names, set-trees, import-trees, set-trees-are, agree, own-behind-set, own-earlier, own-within, definitions-are}

-- what stands before a place stands before a later one
below-more : (k n : ℕ) (d : Definition) → k ≤ n → definition_below k d ≡ true → definition_below n d ≡ true
below-more k n d l h = subst (λ (x : Definition). definition_below n x ≡ true) (row-stays d) (definition-put in_place (is_below k) (is_below n) each d h)
  where
    each : (v : ValType) → is_below k v ≡ true → is_below n (put_val in_place v) ≡ true
    each (val.Primitive p) e = refl
    each val.String e = refl
    each (val.Id t) e = lt-ltb t.0 n (omega (arith, l, ltb-true t.0 k e))

-- each row names what stands in the table
row-below : (r : Resolve) (k : ℕ) (d : Definition) → slice_get r.definitions k ≡ Some d → definition_below (length (trees r)) d ≡ true
row-below r k d e =
    let within = slice_get_within r.definitions k d e in
    below-more k (length (trees r)) d (omega (arith, within, length-references (interface_names r) [] r.definitions))
    (below-at k r.definitions k d r.earlier within refl (sym (get_or_from_slice_get r.definitions k d d e)))

-- a function that is put into another table reads there as it did
function-told : (p : Renaming) (old new : List Tree) → AreThere p.rows old new → (way : Direction) (g : Function) → definition_below (length old) (row.Function g) ≡ true
    → function_item new way (Some (put_function p g)) ≡ function_item old way (Some g)
function-told p old new a way g h =
    let t = split (list_all (λ x. is_below (length old) x.ty) g.params) (option_all (is_below (length old)) g.result) h in
    let x = params-same p old new a g.params t.0 in
    let y = result-same p old new a g.result t.1 in
    cc

function-stays : (g : Function) → put_function in_place g ≡ g
function-stays g = let h : row.Function (put_function in_place g) ≡ row.Function g = row-stays (row.Function g) in cc

module _ (s c : Resolve) (j : JoinedPlaces) (q : IsJoined s c j) (own : PackageParts) (is : IsOwn c own) (r : Resolve) (put : IsPut s c own j r) where
  abbrev to : Renaming
  to = renaming_of j

  module _ (set : IsPackageByPackage s) (form : HasRowsInForm c) (closed : is_closed c ≡ true) where
    -- the trees of the set, and of the closed table, in those of both
    whole : trees r ≡ references (interface_names r) (set-trees s c j q own is r put set form closed) (map (put_row to) (drop j.imported c.definitions))
    whole = ap (λ (ds : List Definition). references (interface_names r) [] ds) put.definitions ∙ references-append (interface_names r) [] s.definitions (map (put_row to) (drop j.imported c.definitions))

    set-agrees : AreThere (λ n. n) (trees s) (trees r)
    set-agrees = subst (λ (ts : List Tree). AreThere (λ n. n) (trees s) ts) (sym whole)
        (subst (λ (ts : List Tree). AreThere (λ n. n) ts (references (interface_names r) (set-trees s c j q own is r put set form closed) (map (put_row to) (drop j.imported c.definitions)))) (set-trees-are s c j q own is r put set form closed)
        (trees-stay (interface_names r) (set-trees s c j q own is r put set form closed) (map (put_row to) (drop j.imported c.definitions))))

    closed-whole : trees c ≡ references (interface_names c) (import-trees s c j q own is r put set form closed) (drop j.imported c.definitions)
    closed-whole = ap (λ (ds : List Definition). references (interface_names c) [] ds) (sym (take-append-drop j.imported c.definitions)) ∙ references-append (interface_names c) [] (take j.imported c.definitions) (drop j.imported c.definitions)

    closed-agrees : AreThere to.rows (trees c) (trees r)
    closed-agrees = subst (λ (ts : List Tree). AreThere to.rows (trees c) ts) (sym whole)
        (subst (λ (ts : List Tree). AreThere to.rows ts (references (interface_names r) (set-trees s c j q own is r put set form closed) (map (put_row to) (drop j.imported c.definitions)))) (sym closed-whole)
        (trees-there (length c.interfaces) to (interface_names c) (interface_names r) (have-names s c j q own is r put set form closed) (import-trees s c j q own is r put set form closed) (set-trees s c j q own is r put set form closed)
        (drop j.imported c.definitions) (agree s c j q own is r put set form closed) (own-behind-set s c j q own is r put set form closed) (own-within s c j q own is r put set form closed) (own-earlier s c j q own is r put set form closed)))

    -- ---- worlds of the set

    set-row : (k : ℕ) (d : Definition) → slice_get s.definitions k ≡ Some d → slice_get r.definitions k ≡ Some d
    set-row k d e = ap (λ (ds : List Definition). slice_get ds k) put.definitions ∙ front-get s.definitions (map (put_row to) (drop j.imported c.definitions)) k d e

    set-item : (w : ℕ) (way : Direction) (x : WorldItemKind) → is_placed_item s.definitions (length s.interfaces) w x ≡ true
        → item_meaning (interface_names r) (trees r) r.definitions way x ≡ item_meaning (interface_names s) (trees s) s.definitions way x
    set-item w way (item.Interface i) h = ap (WithInterface way) (keep-names s c j q own is r put set form closed i.0 (ltb-true i.0 (length s.interfaces) h))
    set-item w way (item.Function f) h = by (slice_get s.definitions f.0) refl h
      where
        by : (o : Option Definition) → slice_get s.definitions f.0 ≡ o → is_function_of w (function_of o) ≡ true
            → function_item (trees r) way (function_of (slice_get r.definitions f.0)) ≡ function_item (trees s) way (function_of (slice_get s.definitions f.0))
        by None e z = absurd (true≢false (sym z))
        by (Some (row.Type d)) e z = absurd (true≢false (sym z))
        by (Some (row.Function g)) e z =
            ap (λ (o : Option Definition). function_item (trees r) way (function_of o)) (set-row f.0 (row.Function g) e)
            ∙ (ap (λ (x : Function). function_item (trees r) way (Some x)) (sym (function-stays g))
            ∙ (function-told in_place (trees s) (trees r) set-agrees way g (row-below s f.0 (row.Function g) e) ∙ sym (ap (λ (o : Option Definition). function_item (trees s) way (function_of o)) e)))

    set-world : (k : ℕ) (w : World) → slice_get s.worlds k ≡ Some w
        → world_meaning (interface_names r) (trees r) r.definitions (world_name r w) w ≡ world_meaning (interface_names s) (trees s) s.definitions (world_name s w) w
    set-world k w e =
        let name : world_name r w ≡ world_name s w = set-package s c j q own is r put w.«package».0 w.name (worlds-grouped-at (length s.packages) 0 s.worlds k w s.worlds_grouped e) in
        let placed = placed-at s.definitions (length s.interfaces) 0 s.worlds k w s.worlds_placed e in
        let items : map (λ i. item_meaning (interface_names r) (trees r) r.definitions i.direction i.kind) w.items ≡ map (λ i. item_meaning (interface_names s) (trees s) s.definitions i.direction i.kind) w.items =
        map-each _ _ w.items (λ n i z. set-item (0 + k) i.direction i.kind (list-at (λ x. is_placed_item s.definitions (length s.interfaces) (0 + k) x.kind) w.items n i placed z)) in
        ap (λ (xs : List ItemMeaning). record { name = world_name r w; items = xs }) items ∙ ap (λ (n : List ℕ). record { name = n; items = map (λ i. item_meaning (interface_names s) (trees s) s.definitions i.direction i.kind) w.items }) name

    -- ---- worlds of the package

    own-item : (w : ℕ) (way : Direction) (x : WorldItemKind) → is_placed_item c.definitions (length c.interfaces) w x ≡ true
        → item_meaning (interface_names r) (trees r) r.definitions way (put_item_kind to x) ≡ item_meaning (interface_names c) (trees c) c.definitions way x
    own-item w way (item.Interface i) h = ap (WithInterface way) (have-names s c j q own is r put set form closed i.0 (ltb-true i.0 (length c.interfaces) h))
    own-item w way (item.Function f) h = by (slice_get c.definitions f.0) refl h
      where
        by : (o : Option Definition) → slice_get c.definitions f.0 ≡ o → is_function_of w (function_of o) ≡ true
            → function_item (trees r) way (function_of (slice_get r.definitions (to.rows f.0))) ≡ function_item (trees c) way (function_of (slice_get c.definitions f.0))
        by None e z = absurd (true≢false (sym z))
        by (Some (row.Type d)) e z = absurd (true≢false (sym z))
        by (Some (row.Function g)) e z =
            let there : slice_get r.definitions (to.rows f.0) ≡ Some (row.Function (put_function to g)) = ap (λ (ds : List Definition). slice_get ds (to.rows f.0)) put.definitions ∙ row-there s c j q f.0 (row.Function g) e in
            ap (λ (o : Option Definition). function_item (trees r) way (function_of o)) there
            ∙ (function-told to (trees c) (trees r) closed-agrees way g (row-below c f.0 (row.Function g) e) ∙ sym (ap (λ (o : Option Definition). function_item (trees c) way (function_of o)) e))

    own-world : (k : ℕ) (w : World) → slice_get c.worlds k ≡ Some w
        → world_meaning (interface_names r) (trees r) r.definitions (world_name r (put_world to w)) (put_world to w) ≡ world_meaning (interface_names c) (trees c) c.definitions (world_name c w) w
    own-world k w e =
        let at : w.«package».0 ≡ own_package c.packages = eqb-true w.«package».0 (own_package c.packages) (list-at (is_world_of (own_package c.packages)) c.worlds k w (all-worlds c form closed) e) in
        let name : world_name r (put_world to w) ≡ world_name c w = own-package s c j q own is r put w.name ∙ ap (λ n. full_name_in (slice_get c.packages n) w.name) (sym at) in
        let placed = placed-at c.definitions (length c.interfaces) 0 c.worlds k w c.worlds_placed e in
        let items : map (λ i. item_meaning (interface_names r) (trees r) r.definitions i.direction i.kind) (map (put_item to) w.items) ≡ map (λ i. item_meaning (interface_names c) (trees c) c.definitions i.direction i.kind) w.items =
        map-put-as (put_item to) _ _ w.items (λ n i z. own-item (0 + k) i.direction i.kind (list-at (λ x. is_placed_item c.definitions (length c.interfaces) (0 + k) x.kind) w.items n i placed z)) in
        ap (λ (xs : List ItemMeaning). record { name = world_name r (put_world to w); items = xs }) items ∙ ap (λ (n : List ℕ). record { name = n; items = map (λ i. item_meaning (interface_names c) (trees c) c.definitions i.direction i.kind) w.items }) name

    worlds-are : worlds r ≡ worlds s ++ worlds c
    worlds-are =
        let told : World → WorldMeaning = λ w. world_meaning (interface_names r) (trees r) r.definitions (world_name r w) w in
        ap (map told) put.worlds
        ∙ (map-append told s.worlds (map (put_world to) c.worlds)
        ∙ (ap (λ ws. ws ++ map told (map (put_world to) c.worlds)) (map-each told (λ w. world_meaning (interface_names s) (trees s) s.definitions (world_name s w) w) s.worlds set-world)
        ∙ ap (λ ws. worlds s ++ ws) (map-put-as (put_world to) (λ w. world_meaning (interface_names c) (trees c) c.definitions (world_name c w) w) told c.worlds own-world)))

  -- what is put there is the closed table's own, at the places of its imports
  own-put : IsOwnBehind s c q.are_joined.places r
  own-put =
      let is = renaming-is s c j q.are_joined in record {
        interfaces = put.interfaces ∙ ap (λ (p : Renaming). s.interfaces ++ map (put_interface p) (own_interfaces c)) is;
        worlds = put.worlds ∙ ap (λ (p : Renaming). s.worlds ++ map (put_world p) c.worlds) is;
        rows = put.definitions
            ∙ (ap (λ (p : Renaming). s.definitions ++ map (put_row p) (drop j.imported c.definitions)) is
            ∙ ap (λ (n : ℕ). s.definitions ++ map (put_row (joined s c q.are_joined.places)) (drop n c.definitions)) q.are_joined.imported_is);
      }

  own-there : (h : HasImports s c) → IsOwnBehind s c h.places r
  own-there h = subst (λ (ps : List ℕ). IsOwnBehind s c ps r) (found-same s c (imports c) q.are_joined.places h.places q.are_joined.found h.found) own-put

  pub attaches : HasRoom s → IsNew s c → HasAll s (others c) → IsAttached s c r j.«package»
  attaches room new have = record {
    room = room;
    new = new;
    have = have;
    fits = record { own = own; own_is = is; imports = imports-of s c j q };
    packages_are = put.packages;
    id_is = q.are_joined.package_is;
    own_behind = own-there (imports-of s c j q);
  }

  pub of-attached : HasRoom s → has_package s own ≡ false → OfAttached s c r
  of-attached room new = record {
    behind = record {
      interfaces = map (put_interface (renaming_of j)) (own_interfaces c);
      worlds = map (put_world (renaming_of j)) c.worlds;
      rows = map (put_row (renaming_of j)) (drop j.imported c.definitions);
      interfaces_are = put.interfaces;
      worlds_are = put.worlds;
      rows_are = put.definitions;
    };
    interfaces_are = names-are s c j q own is r put;
    definitions_are = λ h. definitions-are s c j q own is r put h.set_is h.rows h.closed_is;
    worlds_are = λ h. worlds-are h.set_is h.rows h.closed_is;
    stands = stands-there s c j q own r put;
    in_form = λ set closed distinct.
        set-form s c j q own is r put room new set closed distinct (worlds-are set.rows.stands (record { parted = closed.parted; interfaces = closed.interfaces; items = closed.worlds }) closed.closed);
  }
