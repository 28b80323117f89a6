-- The rows of worlds, world by world, stand in package form.
use Rattle.std.proofs.Common.{◌≡◌, ℕ, suc, ◌+◌, ◌-◌, ◌<◌, Bool, true, false, cond, not, ◌&&◌, nat_le, List, [], ◌∷◌, ◌++◌, Option, None, Some, is_some, map, flat_map, take, drop, length, slice_get, refl, ap, sym, ◌∙◌, subst, arith, append_assoc, append-nil, length-append, All}
use Rattle.std.specs.List.{list_all}
use Rattle.std.specs.Option.{option_map}
use Rattle.std.specs.Prelude.{slice_index_or}
use Rattle.std.proofs.Math.Seq.{drop-append_seam, take-append_seam}
use Rattle.std.proofs.lemmas.Bool.{ltb-true, le-leb}
use Rattle.std.proofs.lemmas.List.Folds.{list_all-append}
use Rattle.tables.specs.PackageNames.{PackageParts}
use Rattle.tables.specs.Tables.{is_type, is_type_id, is_there, type_of, function_of, definition_all, definition_below, are_earlier, is_function_of, is_placed_item, is_placed_world, are_placed_worlds}
use Rattle.tables.specs.Package.{Tree, TextTree, IsFunction, NamedDefinition, read_params, read_val, read_kind, named_by, reference, reference_by, references, TreeFields}
use Rattle.tables.specs.declared.tables.TypeId.{TypeId}
use Rattle.tables.specs.declared.tables.TypeDefKind.{TypeDefKind}
use Rattle.tables.specs.declared.tables.TypeName.{TypeName}
use Rattle.tables.specs.declared.tables.Definition.{Definition}
use Rattle.tables.specs.declared.tables.Definition.TheVariants as row
use Rattle.tables.specs.declared.tables.WorldItemKind.{WorldItemKind}
use Rattle.tables.specs.declared.tables.WorldItemKind.TheVariants as item
use Rattle.tables.specs.declared.tables.WorldItem.{WorldItem}
use Rattle.tables.specs.declared.tables.World.{World}
use Rattle.package_form.specs.Ids.{places_where}
use Rattle.package_form.specs.References.{row_references, kind_references}
use Rattle.package_form.specs.Unused.{are_used}
use Rattle.package_form.specs.Ends.{behind_item, behind_items, world_end, world_rows, are_worlds_parted}
use Rattle.package_form.specs.Form.{is_named, is_nameless_type, is_nameless, is_of_world, is_world_row, functions_in_item, functions_of, has_items, have_items}
use Rattle.package_form.proofs.LaterRowsChangeNothing.{stands_before, row-all, row-before}
use Rattle.package_form.proofs.AllAndContains.{get-front, all-none, all-append, all-cons, all-head, all-tail}
use Rattle.tree_meaning.specs.Declarations.{ItemTree, InterfaceNamed, ForeignNamed, FunctionOf, WorldTree, full_item, full_world}
use Rattle.tree_meaning.specs.Resolved.{fields_of_labelled, member_meaning, resolved_if, tree_item_meaning, meaning_of_world}
use Rattle.tree_meaning.specs.Imports.{Imports}
use Rattle.tree_meaning.specs.Resolves.{IsKnownItemOf, IsKnownWorldOf, is_behind}
use Rattle.tables.proofs.ClosedTypesRowByRow.{split, both}
use Rattle.tree_meaning.proofs.WorldItemsStay.{members-same, if-same, none-left, none-right}
use Rattle.tree_meaning.proofs.WorldMeanings.{item_definitions, world_definitions, worlds_definitions}
use Rattle.tree_meaning.proofs.TableRows.{ends_named, RowsAre, is-that, behind, get-seam, references-append, references-length, below-at, at-true}
use Rattle.tree_meaning.proofs.tree_forms.RowsCutByDefinition.{rows-mono, TypeMeans, Means, heads, tails}
use Rattle.tree_meaning.proofs.ReferencesOfDefinitions.{Every, every-append, Refers, FieldsRefer, RefersIf, IdRefers, tree_of, members-refer, if-refers, params-ids, if-ids}
use Rattle.tree_meaning.proofs.RowsOfEachInterface.{RowRefers, NamedRefers, walk-none}
use Rattle.tree_meaning.proofs.tree_forms.InterfaceOfEachRow.{no-function, tree-at}
use Rattle.tree_meaning.proofs.tree_forms.IdsArePlacesOfNamedRows.{behind-all}
use Rattle.tree_meaning.proofs.tree_forms.InterfaceBlocks.{nothing-left}
use Rattle.tree_meaning.proofs.tree_forms.RowsStandWhereDefined.{IsTable, same-bytes}
use Rattle.tree_meaning.proofs.AllDefinitions.{all_from}

-- ---- a function of a world refers to no name

-- whatever interface is named, all that it refers to is of it
pub record RefersNowhere (x : NamedDefinition) : Type 0 where
  pub params : TreeFields
  pub result : Option Tree
  pub meaning : x.meaning ≡ IsFunction params result
  pub params_refer : (i : List ℕ) → FieldsRefer i params
  pub result_refers : (i : List ℕ) → RefersIf i result

item-nowhere : (m : Imports) (q : PackageParts) (ns : List (List ℕ)) (i : ItemTree) → IsKnownItemOf m ns i → All RefersNowhere (item_definitions (tree_item_meaning (full_item q i)))
item-nowhere m q ns (InterfaceNamed way n) h = all-none RefersNowhere
item-nowhere m q ns (ForeignNamed way p n) h = all-none RefersNowhere
item-nowhere m q ns (FunctionOf way f) h =
    let ms = f.function.params in
    let r = f.function.result in
    all-cons RefersNowhere _ [] (record {
      params = fields_of_labelled (map (member_meaning []) ms);
      result = resolved_if [] r;
      meaning = refl;
      params_refer = λ i. subst (λ ls. FieldsRefer i (fields_of_labelled ls)) (members-same i [] ms (none-left _ _ h)) (members-refer i ms);
      result_refers = λ i. subst (RefersIf i) (if-same i [] r (none-right _ _ h)) (if-refers i r);
    }) (all-none RefersNowhere)

items-nowhere : (m : Imports) (q : PackageParts) (ns : List (List ℕ)) (is : List ItemTree) → All (IsKnownItemOf m ns) is → All RefersNowhere (flat_map item_definitions (map tree_item_meaning (map (full_item q) is)))
items-nowhere m q ns [] h = all-none RefersNowhere
items-nowhere m q ns (i ∷ is) h =
    all-append RefersNowhere (item_definitions (tree_item_meaning (full_item q i))) (flat_map item_definitions (map tree_item_meaning (map (full_item q) is)))
    (item-nowhere m q ns i (all-head (IsKnownItemOf m ns) i is h)) (items-nowhere m q ns is (all-tail (IsKnownItemOf m ns) i is h))

pub worlds-nowhere : (m : Imports) (q : PackageParts) (ns : List (List ℕ)) (ws : List WorldTree) → All (IsKnownWorldOf m ns) ws → All RefersNowhere (worlds_definitions (map meaning_of_world (map (full_world q) ws)))
worlds-nowhere m q ns [] h = all-none RefersNowhere
worlds-nowhere m q ns (w ∷ ws) h =
    all-append RefersNowhere (world_definitions (meaning_of_world (full_world q w))) (worlds_definitions (map meaning_of_world (map (full_world q) ws)))
    (items-nowhere m q ns w.items (all-head (IsKnownWorldOf m ns) w ws h)) (worlds-nowhere m q ns ws (all-tail (IsKnownWorldOf m ns) w ws h))

-- ---- rows cut behind the last function of a world

pub record CutPlaces (n : ℕ) (ds : List Definition) (A B : List ℕ) : Type 0 where
  pub front : List Definition
  pub back : List Definition
  pub parts : ds ≡ front ++ back
  pub first : places_where is_named n front ≡ A
  pub then_ : places_where is_named (n + length front) back ≡ B
  pub ends : ends_named front ≡ true

named-first : (n : ℕ) (d : Definition) (ds : List Definition) (A B : List ℕ) (a : ℕ) → is_named d ≡ true → n ≡ a → CutPlaces (n + 1) ds A B → CutPlaces n (d ∷ ds) (a ∷ A) B
named-first n d ds A B a e is c = record {
  front = d ∷ c.front;
  back = c.back;
  parts = ap (λ (xs : List Definition). d ∷ xs) c.parts;
  first = ap (λ (b : Bool). cond b (n ∷ places_where is_named (n + 1) c.front) (places_where is_named (n + 1) c.front)) e ∙ ap (λ (ps : List ℕ). n ∷ ps) c.first ∙ ap (λ (m : ℕ). m ∷ A) is;
  then_ = let same : n + suc (length c.front) ≡ n + 1 + length c.front = omega arith in ap (λ (m : ℕ). places_where is_named m c.back) same ∙ c.then_;
  ends = by c.front c.ends;
}
  where
    by : (xs : List Definition) → ends_named xs ≡ true → ends_named (d ∷ xs) ≡ true
    by [] h = e
    by (x ∷ xs) h = h

unnamed-first : (n : ℕ) (d : Definition) (ds : List Definition) (A B : List ℕ) (a : ℕ) → is_named d ≡ false → CutPlaces (n + 1) ds (a ∷ A) B → CutPlaces n (d ∷ ds) (a ∷ A) B
unnamed-first n d ds A B a e c = record {
  front = d ∷ c.front;
  back = c.back;
  parts = ap (λ (xs : List Definition). d ∷ xs) c.parts;
  first = ap (λ (b : Bool). cond b (n ∷ places_where is_named (n + 1) c.front) (places_where is_named (n + 1) c.front)) e ∙ c.first;
  then_ = let same : n + suc (length c.front) ≡ n + 1 + length c.front = omega arith in ap (λ (m : ℕ). places_where is_named m c.back) same ∙ c.then_;
  ends = by c.front c.first c.ends;
}
  where
    by : (xs : List Definition) → places_where is_named (n + 1) xs ≡ a ∷ A → ends_named xs ≡ true → ends_named (d ∷ xs) ≡ true
    by [] q h = absurd (cc)
    by (x ∷ xs) q h = h

cut-places : (n : ℕ) (ds : List Definition) (A B : List ℕ) → places_where is_named n ds ≡ A ++ B → CutPlaces n ds A B
cut-places n ds [] B e =
    record { front = []; back = ds; parts = refl; first = refl; then_ = let same : n + 0 ≡ n = omega arith in ap (λ (m : ℕ). places_where is_named m ds) same ∙ e; ends = refl }
cut-places n [] (a ∷ A) B e = absurd (cc)
cut-places n (d ∷ ds) (a ∷ A) B e = by (is_named d) refl e (λ C q. cut-places (n + 1) ds C B q)
  where
    by : (b : Bool) → is_named d ≡ b → cond b (n ∷ places_where is_named (n + 1) ds) (places_where is_named (n + 1) ds) ≡ (a ∷ A) ++ B
        → ((C : List ℕ) → places_where is_named (n + 1) ds ≡ C ++ B → CutPlaces (n + 1) ds C B) → CutPlaces n (d ∷ ds) (a ∷ A) B
    by true q r again = named-first n d ds A B a q (heads r) (again A (tails r))
    by false q r again = unnamed-first n d ds A B a q (again (a ∷ A) r)

-- rows of which none has a name define nothing
nothing-named : (ns : List (List ℕ)) (trees : List Tree) (n : ℕ) (ds : List Definition) → places_where is_named n ds ≡ [] → all_from ns trees ds ≡ []
nothing-named ns trees n [] e = refl
nothing-named ns trees n (row.Type d ∷ ds) e = by d.name e (λ q. nothing-named ns (trees ++ reference ns trees (row.Type d) ∷ []) (n + 1) ds q)
  where
    rest : List NamedDefinition
    rest = all_from ns (trees ++ reference ns trees (row.Type d) ∷ []) ds

    by : (o : Option TypeName) → cond (is_named (row.Type (record { name = o; kind = d.kind }))) (n ∷ places_where is_named (n + 1) ds) (places_where is_named (n + 1) ds) ≡ []
        → (places_where is_named (n + 1) ds ≡ [] → rest ≡ []) → named_by ns trees o d.kind ++ rest ≡ []
    by None q again = again q
    by (Some m) q again = absurd (cc)
nothing-named ns trees n (row.Function f ∷ ds) e = absurd (cc)

-- ---- the rows of a world

items-end : (start : ℕ) (is : List WorldItem) → behind_items start is ≡ behind start (flat_map functions_in_item is)
items-end start [] = refl
items-end start (i ∷ is) = by i.kind (λ n. items-end n is)
  where
    by : (k : WorldItemKind) → ((n : ℕ) → behind_items n is ≡ behind n (flat_map functions_in_item is))
        → behind_items (behind_item start k) is ≡ behind start (functions_in_item (record { direction = i.direction; kind = k }) ++ flat_map functions_in_item is)
    by (item.Interface j) again = again start
    by (item.Function f) again = again (f.0 + 1)

functions-owned : (rows : List Definition) (count k : ℕ) (is : List WorldItem) → list_all (λ i. is_placed_item rows count k i.kind) is ≡ true
    → list_all (λ n. is_function_of k (function_of (slice_get rows n))) (flat_map functions_in_item is) ≡ true
functions-owned rows count k [] h = refl
functions-owned rows count k (i ∷ is) h =
    let s = split (is_placed_item rows count k i.kind) (list_all (λ j. is_placed_item rows count k j.kind) is) h in
    by i.kind s.0 (functions-owned rows count k is s.1)
  where
    by : (w : WorldItemKind) → is_placed_item rows count k w ≡ true → list_all (λ n. is_function_of k (function_of (slice_get rows n))) (flat_map functions_in_item is) ≡ true
        → list_all (λ n. is_function_of k (function_of (slice_get rows n))) (functions_in_item (record { direction = i.direction; kind = w }) ++ flat_map functions_in_item is) ≡ true
    by (item.Interface j) q later = later
    by (item.Function f) q later = both (is_function_of k (function_of (slice_get rows f.0))) _ q later

rows-split : (ns : List (List ℕ)) (P : List Tree → Definition → Type 0) (trees : List Tree) (ds es : List Definition) → RowsAre ns P trees (ds ++ es)
    → RowsAre ns P trees ds × RowsAre ns P (references ns trees ds) es
rows-split ns P trees [] es h = (tt, h)
rows-split ns P trees (d ∷ ds) es h = let s = rows-split ns P (trees ++ reference ns trees d ∷ []) ds es h.1 in ((h.0, s.0), s.1)

-- what a test says of all these places it says of the rows there
places-each : (rows : List Definition) (q : Option Definition → Bool) (pre S T : List Definition) → rows ≡ pre ++ (S ++ T)
    → list_all (λ n. q (slice_get rows n)) (places_where is_named (length pre) S) ≡ true → Every (λ d. is_named d ≡ true → q (Some d) ≡ true) S
places-each rows q pre [] T e h = tt
places-each rows q pre (d ∷ S) T e h =
    let long : length (pre ++ d ∷ []) ≡ length pre + 1 = length-append pre (d ∷ []) in
    let at : slice_get rows (length pre) ≡ Some d = ap (λ (xs : List Definition). slice_get xs (length pre)) e ∙ get-seam pre d (S ++ T) in
    let x = by (is_named d) refl at h in
    (x.0, places-each rows q (pre ++ d ∷ []) S T (e ∙ sym (append_assoc pre (d ∷ []) (S ++ T))) (ap (λ (n : ℕ). list_all (λ m. q (slice_get rows m)) (places_where is_named n S)) long ∙ x.1))
  where
    by : (b : Bool) → is_named d ≡ b → slice_get rows (length pre) ≡ Some d
        → list_all (λ n. q (slice_get rows n)) (cond b (length pre ∷ places_where is_named (length pre + 1) S) (places_where is_named (length pre + 1) S)) ≡ true
        → (is_named d ≡ true → q (Some d) ≡ true) × (list_all (λ n. q (slice_get rows n)) (places_where is_named (length pre + 1) S) ≡ true)
    by true n at r =
        let s = split (q (slice_get rows (length pre))) _ r in
        (λ _. sym (ap q at) ∙ s.0, s.1)
    by false n at r = (λ m. absurd (let x = n in cc), r)

module _ (ns : List (List ℕ)) (rows : List Definition) (table : IsTable rows) where
  -- a named row among these is a function that refers to no name
  type-refers : (i : List ℕ) (trees : List Tree) (o : Option TypeName) (k : TypeDefKind) → TypeMeans ns RefersNowhere trees o k → not (is_some o) ≡ false → Every (IdRefers i trees) (kind_references k)
  type-refers i trees None k h u = absurd (cc)
  type-refers i trees (Some n) k h u = absurd (no-function trees k h.params h.result h.meaning)

  nowhere-refers : (i : List ℕ) (trees : List Tree) (d : Definition) → Means ns RefersNowhere trees d → NamedRefers ns rows i trees d
  nowhere-refers i trees (row.Type d) h u = type-refers i trees d.name d.kind h u
  nowhere-refers i trees (row.Function f) h u =
      let e = h.meaning in
      let params : h.params ≡ read_params trees f.params = cc in
      let result : h.result ≡ option_map (read_val trees) f.result = cc in
      every-append (IdRefers i trees) _ _ (params-ids i trees f.params (subst (FieldsRefer i) params (h.params_refer i))) (if-ids i trees f.result (subst (RefersIf i) result (h.result_refers i)))

  module _ (pre post : List Definition) (parts : rows ≡ pre ++ post) where
    abbrev trees : List Tree
    trees = references ns [] pre

    without-name : (o : Option TypeName) (tree : Tree) → Refers [] (reference_by ns o tree) → Refers (0 ∷ []) (reference_by ns o tree) → not (is_some o) ≡ true
    without-name None tree a b = refl
    without-name (Some n) tree a b = absurd (cc)

    nameless : (t : TypeId) → t.0 < length pre → is_type_id rows t ≡ true → IdRefers [] trees t → IdRefers (0 ∷ []) trees t → is_nameless rows t ≡ true
    nameless t l typed a b = by (slice_get rows t.0) refl typed
      where
        by : (o : Option Definition) → slice_get rows t.0 ≡ o → is_there (type_of o) ≡ true → is_nameless_type (type_of o) ≡ true
        by None e q = absurd (cc)
        by (Some (row.Function f)) e q = absurd (cc)
        by (Some (row.Type d)) e q =
            let here : slice_get pre t.0 ≡ Some (row.Type d) = sym (get-front pre post t.0 l) ∙ ap (λ (xs : List Definition). slice_get xs t.0) (sym parts) ∙ e in
            let x = tree-at ns [] pre t.0 d here in
            let is : tree_of trees t ≡ reference_by ns d.name (read_kind x.0 d.kind) = ap (λ (n : ℕ). slice_index_or trees n TextTree) (omega arith) ∙ x.1 in
            without-name d.name (read_kind x.0 d.kind) (subst (Refers []) is a) (subst (Refers (0 ∷ [])) is b)

    all-nameless : (ts : List TypeId) → list_all (stands_before (length pre)) ts ≡ true → list_all (is_type_id rows) ts ≡ true → Every (IdRefers [] trees) ts → Every (IdRefers (0 ∷ []) trees) ts
        → list_all (is_nameless rows) ts ≡ true
    all-nameless [] b t h g = refl
    all-nameless (x ∷ xs) b t h g =
        let before = split (stands_before (length pre) x) (list_all (stands_before (length pre)) xs) b in
        let typed = split (is_type_id rows x) (list_all (is_type_id rows) xs) t in
        both (is_nameless rows x) (list_all (is_nameless rows) xs) (nameless x (ltb-true x.0 (length pre) before.0) typed.0 h.0 g.0) (all-nameless xs before.1 typed.1 h.1 g.1)

  of-world : (k : ℕ) (d : Definition) → is_behind d ≡ true → (is_named d ≡ true → is_function_of k (function_of (Some d)) ≡ true) → is_of_world k d ≡ true
  of-world k (row.Type d) h owned = h
  of-world k (row.Function f) h owned = owned refl

  world-rows : (k : ℕ) (pre S T : List Definition) → rows ≡ pre ++ (S ++ T) → list_all is_behind S ≡ true → Every (λ d. is_named d ≡ true → is_function_of k (function_of (Some d)) ≡ true) S
      → RowsAre ns (RowRefers ns rows []) (references ns [] pre) S → RowsAre ns (RowRefers ns rows (0 ∷ [])) (references ns [] pre) S → list_all (is_world_row rows k) S ≡ true
  world-rows k pre [] T e all owned a b = refl
  world-rows k pre (d ∷ S) T e all owned a b =
      let below = subst (λ (n : ℕ). definition_below n d ≡ true) (let z : 0 + length pre ≡ length pre = omega arith in z)
      (below-at 0 pre d (S ++ T) (subst (λ (xs : List Definition). are_earlier 0 xs ≡ true) e table.earlier)) in
      let typed = at-true (definition_all (is_type rows)) pre d (S ++ T) (subst (λ (xs : List Definition). list_all (definition_all (is_type rows)) xs ≡ true) e table.typed) in
      let s = split (is_behind d) (list_all is_behind S) all in
      let grown : references ns [] (pre ++ d ∷ []) ≡ references ns [] pre ++ reference ns (references ns [] pre) d ∷ [] = references-append ns [] pre (d ∷ []) in
      let again = world-rows k (pre ++ d ∷ []) S T (e ∙ sym (append_assoc pre (d ∷ []) (S ++ T))) s.1 owned.1
      (subst (λ (ts : List Tree). RowsAre ns (RowRefers ns rows []) ts S) (sym grown) a.1)
      (subst (λ (ts : List Tree). RowsAre ns (RowRefers ns rows (0 ∷ [])) ts S) (sym grown) b.1) in
      let here = all-nameless pre (d ∷ (S ++ T)) e (row_references d) (row-before (length pre) d below) (row-all (is_type rows) (is_type_id rows) (λ t q. q) d typed) a.0 b.0 in
      both (is_world_row rows k d) (list_all (is_world_row rows k) S) (both (is_of_world k d) (list_all (is_nameless rows) (row_references d)) (of-world k d s.0 owned.0) here) again

  -- ---- all worlds

  pub worlds-formed : (count k : ℕ) (ws : List World) (pre S : List Definition) → rows ≡ pre ++ S → list_all is_behind S ≡ true → are_used rows (length pre) [] S ≡ true
      → RowsAre ns (Means ns RefersNowhere) (references ns [] pre) S → places_where is_named (length pre) S ≡ flat_map functions_of ws → are_placed_worlds rows count k ws ≡ true
      → (are_worlds_parted (length rows) (length pre) ws ≡ true) × (have_items rows k (length pre) ws ≡ true)
  worlds-formed count k [] pre S e all used means places placed =
      let none = nothing-left ns rows (references ns [] pre) (length pre) S (nothing-named ns (references ns [] pre) (length pre) S places) used in
      let same : length pre ≡ length rows = sym (ap length (e ∙ ap (λ (xs : List Definition). pre ++ xs) none ∙ append-nil pre)) in
      (is-that (length pre) (length rows) same, refl)
  worlds-formed count k (w ∷ ws) pre S e all used means places placed =
      let c = cut-places (length pre) S (functions_of w) (flat_map functions_of ws) places in
      let A = c.front in
      let B = c.back in
      let trees = references ns [] pre in
      let parts : rows ≡ pre ++ (A ++ B) = e ∙ ap (λ (xs : List Definition). pre ++ xs) c.parts in
      let parts2 : rows ≡ (pre ++ A) ++ B = parts ∙ sym (append_assoc pre A B) in
      let long : length (pre ++ A) ≡ length pre + length A = length-append pre A in
      let len : length trees ≡ length pre = references-length ns [] pre ∙ omega arith in
      let behind_both = split-behind A B (subst (λ (xs : List Definition). list_all is_behind xs ≡ true) c.parts all) in
      let used2 = subst (λ (xs : List Definition). are_used rows (length pre) [] xs ≡ true) c.parts used in
      let m = rows-split ns (Means ns RefersNowhere) trees A B (subst (λ (xs : List Definition). RowsAre ns (Means ns RefersNowhere) trees xs) c.parts means) in
      let named = λ (i : List ℕ). rows-mono ns (Means ns RefersNowhere) (NamedRefers ns rows i) (nowhere-refers i) trees A m.0 in
      let first = walk-none ns rows [] trees (length pre) A B len used2 c.ends (named []) in
      let second = walk-none ns rows (0 ∷ []) trees (length pre) A B len used2 c.ends (named (0 ∷ [])) in
      let p = split (is_placed_world rows count k w) (are_placed_worlds rows count (k + 1) ws) placed in
      let owned = places-each rows (λ o. is_function_of k (function_of o)) pre A B parts
      (ap (list_all (λ n. is_function_of k (function_of (slice_get rows n)))) c.first ∙ functions-owned rows count k w.items p.0) in
      let standing = world-rows k pre A B parts behind_both.0 owned first.each second.each in
      let again = worlds-formed count (k + 1) ws (pre ++ A) B parts2 behind_both.1
      (subst (λ (n : ℕ). are_used rows n [] B ≡ true) (sym long) first.on)
      (subst (λ (ts : List Tree). RowsAre ns (Means ns RefersNowhere) ts B) (sym (references-append ns [] pre A)) m.1)
      (ap (λ (n : ℕ). places_where is_named n B) long ∙ c.then_) p.1 in
      let ends : world_end (length pre) w ≡ length (pre ++ A) =
      items-end (length pre) w.items ∙ ap (behind (length pre)) (sym c.first) ∙ behind-all (length pre) A c.ends ∙ sym long in
      let size : world_end (length pre) w - length pre ≡ length A = omega (arith, ends, long) in
      let here : world_rows rows (length pre) w ≡ A =
      ap (λ (n : ℕ). take n (drop (length pre) rows)) size ∙ ap (λ (xs : List Definition). take (length A) (drop (length pre) xs)) parts
      ∙ ap (take (length A)) (drop-append_seam pre (A ++ B)) ∙ take-append_seam A B in
      let total : length rows ≡ length (pre ++ A) + length B = ap length parts2 ∙ length-append (pre ++ A) B in (
        both (nat_le (length pre) (world_end (length pre) w)) _ (le-leb _ _ (omega (arith, ends, long)))
            (both (nat_le (world_end (length pre) w) (length rows)) _ (le-leb _ _ (omega (arith, ends, total)))
            (subst (λ (n : ℕ). are_worlds_parted (length rows) n ws ≡ true) (sym ends) again.0)),
        both (has_items rows (length pre) w && list_all (is_world_row rows k) (world_rows rows (length pre) w)) _
            (both (has_items rows (length pre) w) _ (same-bytes _ _ (ap (places_where is_named (length pre)) here ∙ c.first))
            (ap (list_all (is_world_row rows k)) here ∙ standing))
            (subst (λ (n : ℕ). have_items rows (k + 1) n ws ≡ true) (sym ends) again.1),
      )
    where
      split-behind : (xs ys : List Definition) → list_all is_behind (xs ++ ys) ≡ true → (list_all is_behind xs ≡ true) × (list_all is_behind ys ≡ true)
      split-behind xs ys h = split (list_all is_behind xs) (list_all is_behind ys) (sym (list_all-append is_behind xs ys) ∙ h)
