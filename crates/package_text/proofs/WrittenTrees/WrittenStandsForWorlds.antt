-- What is written for the worlds of a table stands for them.
use Rattle.std.proofs.Common.{◌≡◌, ◌+◌, ℕ, List, [], ◌∷◌, ◌++◌, length, map, flat_map, filter_map, get_or, slice_get, refl, sym, ap, subst, ◌∙◌, arith}
use Rattle.std.specs.Prelude.{true, ◌&&◌, ◌||◌, Option, None, Some}
use Rattle.std.specs.List.{list_all}
use Rattle.std.specs.Option.{option_map}
use Rattle.std.proofs.lemmas.Bool.{and_parts, false≢true}
use Rattle.std.proofs.lemmas.List.{length-map, get_or_past}
use Rattle.tables.specs.Tables.{option_all, are_earlier, function_of, is_function_of, is_placed_item, is_placed_world, are_placed_worlds}
use Rattle.tables.specs.Package.{Tree, Meaning, IsUse, IsType, IsFunction, ItemMeaning, WithInterface, WithFunction, WorldMeaning, read_val, read_params, function_meaning, function_item, references, item_meaning, TreeFields}
use Rattle.tables.specs.declared.tables.Direction.{Direction}
use Rattle.tables.specs.declared.tables.Direction.TheVariants as direction
use Rattle.tables.specs.declared.tables.Function.{Function}
use Rattle.tables.specs.declared.tables.Definition.{Definition}
use Rattle.tables.specs.declared.tables.Definition.TheVariants as row
use Rattle.tables.specs.declared.tables.WorldItemKind.{WorldItemKind}
use Rattle.tables.specs.declared.tables.WorldItemKind.TheVariants as item
use Rattle.tables.specs.declared.tables.WorldItem.{WorldItem}
use Rattle.tables.specs.declared.tables.World.{World}
use Rattle.tables.specs.declared.tables.Resolve.{Resolve}
use Rattle.package_form.specs.Ids.{is_owned_by, is_of_worlds}
use Rattle.package_form.specs.Postfix.{unnamed_if, unnamed_parameter}
use Rattle.package_form.specs.Form.{IsInPackageForm}
use Rattle.tables.specs.Names.{full_name_in}
use Rattle.wit_tokens.specs.declared.wit_syntax.ast.Direction.{Direction as Way}
use Rattle.wit_tokens.specs.Syntax.{PathTo, Local, Foreign, Whole}
use Rattle.tree_meaning.specs.Declarations.{path_package, path_interface, world_of, file_worlds, item_tree}
use Rattle.tree_meaning.specs.Resolved.{direction_meaning, fields_of_labelled, resolved_if, member_meaning}
use Rattle.tree_meaning.specs.Resolved as tree
use Rattle.tree_meaning.specs.Building.{table_trees, read_parameter}
use Rattle.tree_meaning.specs.WorldRows.{world_reads}
use Rattle.tree_meaning.proofs.TypesReadStay.{parameters-read}
use Rattle.package_text.specs.Written.{ty_of, members_in, direction_for}
use Rattle.package_text.specs.Tree.{name_here, own_names, own_trees, own_item}
use Rattle.package_text.proofs.WrittenTrees.PathsSpelledByNames.{path_named, named-back}
use Rattle.package_text.proofs.WrittenTrees.TreeByNames.{item_entry, world_entry, file_of}
use Rattle.package_text.proofs.WrittenTrees.WrittenStandsForTree.{members-back, maybe-back}
use Rattle.package_text.proofs.TableRows.RowsReadByEarlierRows.{row-below, function-front}
use Rattle.package_text.proofs.TableRows.RowsReadAsTrees.{is_own, IsNamed, PlaceExpressed, parts-ready, params-expressed, if-expressed, each-front, each-back}
use Rattle.package_text.proofs.TableRows.DefinitionsByInterface.{leaves-at}
use Rattle.package_text.proofs.TableRows.AreRegions.{home}
use Rattle.package_text.proofs.TableRows.RowsAreLocal.{rows-owned}
use Rattle.package_text.proofs.WrittenTrees.PartsOfInterfaces.{stands-at}
use Rattle.package_text.proofs.TableRows.OwnInterfacesBegin.{form-regions}
use Rattle.package_text.proofs.ResolvedTrees.TreeResolvesToPackage.{tree-worlds}
use Rattle.package_text.proofs.TableRows.ItemsOfWorlds.{regions-behind, owner-of-world}

way-back : (d : Direction) → direction_meaning (direction_for d) ≡ d
way-back direction.Import = refl
way-back direction.Export = refl

-- an interface that is named by a path goes by the path's name
path-means : (d : Way) (p : PathTo) → tree.tree_item_meaning (item_tree (Whole d p)) ≡ WithInterface (direction_meaning d) (full_name_in (path_package p) (path_interface p))
path-means d (Local i) = refl
path-means d (Foreign namespace name v i) = refl

-- what is written for a function that names no type stands for it
abbrev IsBack : Meaning → Type 0
IsBack (IsUse t) = Unit {0}
IsBack (IsType t) = Unit {0}
IsBack (IsFunction fs result) = (fields_of_labelled (map (member_meaning []) (members_in fs)) ≡ fs) × (resolved_if [] (option_map ty_of result) ≡ result)

-- what holds in the interface without a name holds of a function that is read so
read-back : (ts : List Tree) (g : Function) (i : List ℕ) → i ≡ [] → map (member_meaning i) (members_in (fields_of_labelled (map (read_parameter ts) g.params))) ≡ map (read_parameter ts) g.params
    → resolved_if i (option_map ty_of (option_map (read_val ts) g.result)) ≡ option_map (read_val ts) g.result → IsBack (function_meaning ts g)
read-back ts g i none params result = (
  subst (λ (fs : TreeFields). fields_of_labelled (map (member_meaning []) (members_in fs)) ≡ fs) (sym (parameters-read ts g.params))
      (ap fields_of_labelled (subst (λ (n : List ℕ). map (member_meaning n) (members_in (fields_of_labelled (map (read_parameter ts) g.params))) ≡ map (read_parameter ts) g.params) none params)),
  subst (λ (n : List ℕ). resolved_if n (option_map ty_of (option_map (read_val ts) g.result)) ≡ option_map (read_val ts) g.result) none result,
)

module _ (r : Resolve) (f : IsInPackageForm r) where
  function-back : (front : List Definition) (g : Function) (rest : List Definition) → r.definitions ≡ front ++ row.Function g ∷ rest → is_of_worlds g.owner ≡ true
      → IsBack (function_meaning (own_trees r) g)
  function-back front g rest e world =
      let ns = own_names r in
      let regions = form-regions r f in
      let o = rows-owned (own_names r) r.definitions (home 0 0 r.interfaces) r.interfaces r.earlier f.postfix regions in
      let k = home 0 0 r.interfaces (length front) in
      let behind = regions-behind r.definitions (home 0 0 r.interfaces) 0 [] r.interfaces r.definitions regions refl front (row.Function g) rest e (omega arith) world in
      let local = o.local front (row.Function g) rest e in
      let t = and_parts (is_owned_by k g.owner || is_of_worlds g.owner) (list_all (λ p. is_own front k p.ty) g.params && option_all (is_own front k) g.result) local in
      let u = and_parts (list_all (λ p. is_own front k p.ty) g.params) (option_all (is_own front k) g.result) t.1 in
      let ready = parts-ready ns r.definitions (home 0 0 r.interfaces) o front (row.Function g) (leaves-at r.definitions [] f.postfix front (row.Function g) rest e refl).0 rest e in
      let params = params-expressed ns front k g.params u.0 (each-front (PlaceExpressed ns front k) (flat_map (unnamed_parameter front) g.params) (unnamed_if front g.result) ready) in
      let result = if-expressed ns front k g.result u.1 (each-back (PlaceExpressed ns front k) (flat_map (unnamed_parameter front) g.params) (unnamed_if front g.result) ready) in
      let long = length-map r.interfaces (name_here r) in
      let none : get_or (own_names r) (home 0 0 r.interfaces (length front)) [] ≡ [] = get_or_past (own_names r) (home 0 0 r.interfaces (length front)) [] (omega (arith, behind, long)) in
      let below = row-below front (row.Function g) rest (subst (λ (ds : List Definition). are_earlier 0 ds ≡ true) e r.earlier) in
      let same : function_meaning (own_trees r) g ≡ function_meaning (references (own_names r) [] front) g =
      ap (λ (ds : List Definition). function_meaning (references (own_names r) [] ds) g) e ∙ function-front (own_names r) front (row.Function g ∷ rest) g below in
      subst IsBack (sym same)
      (read-back (references (own_names r) [] front) g (get_or (own_names r) (home 0 0 r.interfaces (length front)) []) none
      (members-back (get_or (own_names r) (home 0 0 r.interfaces (length front)) []) (IsNamed front (home 0 0 r.interfaces (length front))) (map (read_parameter (references (own_names r) [] front)) g.params) params)
      (maybe-back (get_or (own_names r) (home 0 0 r.interfaces (length front)) []) (IsNamed front (home 0 0 r.interfaces (length front))) (option_map (read_val (references (own_names r) [] front)) g.result) result))

  -- an item of a world
  item-back : (w : ℕ) (way : Direction) (i : WorldItemKind) → is_placed_item r.definitions (length r.interfaces) w i ≡ true
      → tree.tree_item_meaning (item_tree (item_entry (item_meaning (own_names r) (own_trees r) r.definitions way i))) ≡ item_meaning (own_names r) (own_trees r) r.definitions way i
  item-back w way (item.Interface j) h =
      path-means (direction_for way) (path_named (get_or (own_names r) j.0 []))
      ∙ (ap (WithInterface (direction_meaning (direction_for way))) (named-back (get_or (own_names r) j.0 [])) ∙ ap (λ (d : Direction). WithInterface d (get_or (own_names r) j.0 [])) (way-back way))
  item-back w way (item.Function c) h = by (slice_get r.definitions c.0) refl h
    where
      by : (d : Option Definition) → slice_get r.definitions c.0 ≡ d → is_function_of w (function_of d) ≡ true
          → tree.tree_item_meaning (item_tree (item_entry (function_item (own_trees r) way (function_of d)))) ≡ function_item (own_trees r) way (function_of d)
      by None e q = absurd (false≢true q)
      by (Some (row.Type d)) e q = absurd (false≢true q)
      by (Some (row.Function g)) e q =
          let x = stands-at r.definitions c.0 (row.Function g) e in
          let b = function-back x.0 g x.1 x.2 (owner-of-world w g.owner q) in
          let fs = read_params (own_trees r) g.params in
          let result = option_map (read_val (own_trees r)) g.result in
          ap (λ (d : Direction). WithFunction d g.name (fields_of_labelled (map (member_meaning []) (members_in fs))) (resolved_if [] (option_map ty_of result))) (way-back way)
          ∙ (ap (λ (ms : TreeFields). WithFunction way g.name ms (resolved_if [] (option_map ty_of result))) b.0 ∙ ap (λ (t : Option Tree). WithFunction way g.name fs t) b.1)

  items-back : (w : ℕ) (is : List WorldItem) → list_all (λ i. is_placed_item r.definitions (length r.interfaces) w i.kind) is ≡ true
      → map (own_item r) is ≡ map tree.tree_item_meaning (map item_tree (map (λ i. item_entry (own_item r i)) is))
  items-back w [] h = refl
  items-back w (i ∷ is) h =
      let t = and_parts (is_placed_item r.definitions (length r.interfaces) w i.kind) (list_all (λ i. is_placed_item r.definitions (length r.interfaces) w i.kind) is) h in
      ap (λ (m : ItemMeaning). m ∷ map (own_item r) is) (sym (item-back w i.direction i.kind t.0))
      ∙ ap (λ (ms : List ItemMeaning). tree.tree_item_meaning (item_tree (item_entry (own_item r i))) ∷ ms) (items-back w is t.1)

  abbrev own_world : World → WorldMeaning
  own_world w = record { name = w.name; items = map (own_item r) w.items }

  worlds-back : (w : ℕ) (ws : List World) → are_placed_worlds r.definitions (length r.interfaces) w ws ≡ true → map own_world ws ≡ map tree.meaning_of_world (filter_map world_of (map (world_entry r) ws))
  worlds-back w [] h = refl
  worlds-back w (x ∷ xs) h =
      let t = and_parts (is_placed_world r.definitions (length r.interfaces) w x) (are_placed_worlds r.definitions (length r.interfaces) (w + 1) xs) h in
      ap (λ (ms : List ItemMeaning). record { name = x.name; items = ms } ∷ map own_world xs) (items-back w x.items t.0)
      ∙ ap (λ (ms : List WorldMeaning). record { name = x.name; items = map tree.tree_item_meaning (map item_tree (map (λ i. item_entry (own_item r i)) x.items)) } ∷ ms) (worlds-back (w + 1) xs t.1)

  -- the worlds of the table are read as those of the tree
  pub tree-worlds-read : map (world_reads (record { interfaces = own_names r; worlds = r.worlds; rows = r.definitions })) r.worlds ≡ map tree.meaning_of_world (file_worlds (file_of r))
  unfolding table_trees
  tree-worlds-read = worlds-back 0 r.worlds r.worlds_placed ∙ ap (map tree.meaning_of_world) (sym (tree-worlds r))
