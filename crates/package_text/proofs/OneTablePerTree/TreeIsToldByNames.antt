-- The tree that is written for a table is what its names tell: a use goes by the path to the interface of its type.
use Rattle.std.proofs.Common.{◌≡◌, ◌<◌, ◌+◌, ℕ, List, [], ◌∷◌, ◌++◌, length, map, flat_map, get_or, slice_get, refl, sym, ap, ◌∙◌}
use Rattle.std.specs.Prelude.{true, Option, None, Some}
use Rattle.std.specs.List.{list_all}
use Rattle.std.proofs.lemmas.Bool.{and_parts, false≢true, ltb-true}
use Rattle.std.proofs.lemmas.List.{map-append}
use Rattle.wit_tokens.specs.Syntax.{PathTo, Local, Entry, Whole, WorldEntry, FileEntry, AnInterface, AWorld}
use Rattle.wit_print.specs.Unplaced.{nowhere}
use Rattle.tables.specs.Tables.{type_of, function_of, is_function_of, is_placed_item, is_placed_world, are_placed_worlds}
use Rattle.tables.specs.Package.{Tree, TextTree, Reference, NamedDefinition, key_of, read_val, meaning_of, function_meaning, function_item, item_meaning, named_by, named_function}
use Rattle.tables.specs.declared.tables.ValType.TheVariants as val
use Rattle.tables.specs.declared.tables.TypeId.{TypeId}
use Rattle.tables.specs.declared.tables.TypeName.{TypeName}
use Rattle.tables.specs.declared.tables.TypeDef.{TypeDef}
use Rattle.tables.specs.declared.tables.TypeDefKind.{TypeDefKind}
use Rattle.tables.specs.declared.tables.TypeDefKind.TheVariants as kind
use Rattle.tables.specs.declared.tables.Function.{Function}
use Rattle.tables.specs.declared.tables.Owner.{Owner}
use Rattle.tables.specs.declared.tables.Owner.TheVariants as owner
use Rattle.tables.specs.declared.tables.Definition.{Definition}
use Rattle.tables.specs.declared.tables.Definition.TheVariants as row
use Rattle.tables.specs.declared.tables.Direction.{Direction}
use Rattle.tables.specs.declared.tables.WorldItemKind.{WorldItemKind}
use Rattle.tables.specs.declared.tables.WorldItemKind.TheVariants as item
use Rattle.tables.specs.declared.tables.WorldItem.{WorldItem}
use Rattle.tables.specs.declared.tables.World.{World}
use Rattle.tables.specs.declared.tables.Interface.{Interface}
use Rattle.tables.specs.declared.tables.Resolve.{Resolve}
use Rattle.package_form.specs.Reached.{used_by, name_of, name_at}
use Rattle.package_form.specs.Form.{is_earlier, is_earlier_type, is_earlier_name, uses_earlier, ids_of, IsInPackageForm}
use Rattle.package_text.specs.Written.{direction_for}
use Rattle.package_text.specs.Tree.{path_at, name_path, row_path, item_path, own_names, own_trees, definitions_in, row_entries, written_at, interfaces_of_package, own_item, item_written, own_parts}
use Rattle.package_text.specs.Tree as tree
use Rattle.package_text.proofs.TableRows.FormOfSingleRows.{used-at}
use Rattle.package_text.proofs.TableRows.RowsStandForTrees.{name-at}
use Rattle.package_text.proofs.WrittenTrees.PathsSpelledByNames.{path_named}
use Rattle.package_text.proofs.WrittenTrees.TreeByNames.{entry_of, item_entry}
use Rattle.package_text.proofs.WrittenTrees.TreeByNames as named

-- a type of an interface before has a name
earlier-name : (count : ℕ) (o : Option TypeDef) → is_earlier_type count o ≡ true → (m : TypeName) × (name_of o ≡ Some m) × (m.interface.0 < count)
earlier-name count None h = absurd (false≢true h)
earlier-name count (Some d) h = by d.name h
  where
    by : (m : Option TypeName) → is_earlier_name count m ≡ true → (n : TypeName) × (m ≡ Some n) × (n.interface.0 < count)
    by None q = absurd (false≢true q)
    by (Some n) q = (n, refl, ltb-true n.interface.0 count q)

-- ---- where the path to each interface is that of its name

module _ (r : Resolve) (f : IsInPackageForm r) (paths : (j : ℕ) → j < length r.interfaces → path_at r j ≡ path_named (get_or (own_names r) j [])) where
  use-same : (t : TypeId) (l : List ℕ) → is_earlier r.definitions (length r.interfaces) t ≡ true
      → tree.use_entry (name_path r (name_at r.definitions (Some t))) (read_val (own_trees r) (val.Id t)) l ≡ named.use_entry (read_val (own_trees r) (val.Id t)) l
  use-same t l h =
      let m = earlier-name (length r.interfaces) (type_of (slice_get r.definitions t.0)) h in
      let stands : get_or (own_trees r) t.0 TextTree ≡ Reference (key_of (own_names r) m.0) = name-at r t.0 m.0 m.1 in
      let path : name_path r (name_at r.definitions (Some t)) ≡ path_named (get_or (own_names r) m.0.interface.0 []) = ap (name_path r) m.1 ∙ paths m.0.interface.0 m.2 in
      ap (λ (p : PathTo). tree.use_entry p (get_or (own_trees r) t.0 TextTree) l) path
      ∙ (ap (λ (u : Tree). tree.use_entry (path_named (get_or (own_names r) m.0.interface.0 [])) u l) stands
      ∙ sym (ap (λ (u : Tree). named.use_entry u l) stands))

  kind-same : (n : List ℕ) (d : TypeDef) → uses_earlier r.definitions (length r.interfaces) d.kind ≡ true
      → tree.entry_by (row_path r (Some (row.Type d))) n (meaning_of (own_trees r) d.kind) ≡ named.entry_by n (meaning_of (own_trees r) d.kind)
  kind-same n d h = by d.kind h
    where
      by : (k : TypeDefKind) → uses_earlier r.definitions (length r.interfaces) k ≡ true
          → tree.entry_by (name_path r (name_at r.definitions (used_by k))) n (meaning_of (own_trees r) k) ≡ named.entry_by n (meaning_of (own_trees r) k)
      by (kind.Use t) q = use-same t n q
      by (kind.Alias v) q = refl
      by (kind.List v) q = refl
      by (kind.Option v) q = refl
      by (kind.Result ok error) q = refl
      by (kind.Tuple vs) q = refl
      by (kind.Record fs) q = refl
      by (kind.Variant cs) q = refl
      by (kind.Enum names) q = refl
      by (kind.Flags names) q = refl

  row-same : (k : ℕ) (o : Option Definition) → slice_get r.definitions k ≡ o → row_entries r o ≡ map entry_of (definitions_in (own_names r) (own_trees r) o)
  row-same k None e = refl
  row-same k (Some (row.Type d)) e = by d.name refl
    where
      by : (m : Option TypeName) → d.name ≡ m
          → map (tree.entry_of (row_path r (Some (row.Type d)))) (named_by (own_names r) (own_trees r) m d.kind) ≡ map entry_of (named_by (own_names r) (own_trees r) m d.kind)
      by None q = refl
      by (Some n) q = ap (λ (x : Entry). x ∷ []) (kind-same n.name d (used-at r f k d n e q))
  row-same k (Some (row.Function g)) e = by g.owner
    where
      by : (o : Owner) → map (tree.entry_of (row_path r (Some (row.Function g)))) (named_function (own_names r) o g.name (function_meaning (own_trees r) g))
          ≡ map entry_of (named_function (own_names r) o g.name (function_meaning (own_trees r) g))
      by (owner.Interface i) = refl
      by (owner.World w) = refl

  rows-same : (ks : List ℕ) → flat_map (written_at r) ks ≡ map entry_of (flat_map (λ k. definitions_in (own_names r) (own_trees r) (slice_get r.definitions k)) ks)
  rows-same [] = refl
  rows-same (k ∷ ks) =
      let here : List NamedDefinition = definitions_in (own_names r) (own_trees r) (slice_get r.definitions k) in
      let rest : List NamedDefinition = flat_map (λ k. definitions_in (own_names r) (own_trees r) (slice_get r.definitions k)) ks in
      ap (λ (es : List Entry). es ++ flat_map (written_at r) ks) (row-same k (slice_get r.definitions k) refl)
      ∙ (ap (λ (es : List Entry). map entry_of here ++ es) (rows-same ks) ∙ sym (map-append entry_of here rest))

  interfaces-same : (is : List Interface) → map (tree.interface_entry r) is ≡ map (named.interface_entry r) is
  interfaces-same [] = refl
  interfaces-same (i ∷ is) =
      ap (λ (es : List Entry). AnInterface i.name es ∷ map (tree.interface_entry r) is) (rows-same (ids_of i)) ∙ ap (λ (xs : List FileEntry). named.interface_entry r i ∷ xs) (interfaces-same is)

  -- ---- worlds

  item-same : (w : ℕ) (way : Direction) (i : WorldItemKind) → is_placed_item r.definitions (length r.interfaces) w i ≡ true
      → tree.item_entry (item_path r i) (item_meaning (own_names r) (own_trees r) r.definitions way i) ≡ item_entry (item_meaning (own_names r) (own_trees r) r.definitions way i)
  item-same w way (item.Interface j) h = ap (Whole (direction_for way)) (paths j.0 (ltb-true j.0 (length r.interfaces) h))
  item-same w way (item.Function c) h = by (function_of (slice_get r.definitions c.0)) h
    where
      by : (g : Option Function) → is_function_of w g ≡ true → tree.item_entry (Local []) (function_item (own_trees r) way g) ≡ item_entry (function_item (own_trees r) way g)
      by None q = absurd (false≢true q)
      by (Some g) q = refl

  items-same : (w : ℕ) (is : List WorldItem) → list_all (λ i. is_placed_item r.definitions (length r.interfaces) w i.kind) is ≡ true → map (item_written r) is ≡ map (λ i. item_entry (own_item r i)) is
  items-same w [] h = refl
  items-same w (i ∷ is) h =
      let t = and_parts (is_placed_item r.definitions (length r.interfaces) w i.kind) (list_all (λ i. is_placed_item r.definitions (length r.interfaces) w i.kind) is) h in
      ap (λ (e : WorldEntry). e ∷ map (item_written r) is) (item-same w i.direction i.kind t.0) ∙ ap (λ (es : List WorldEntry). item_entry (own_item r i) ∷ es) (items-same w is t.1)

  worlds-same : (k : ℕ) (ws : List World) → are_placed_worlds r.definitions (length r.interfaces) k ws ≡ true → map (tree.world_written r) ws ≡ map (named.world_entry r) ws
  worlds-same k [] h = refl
  worlds-same k (w ∷ ws) h =
      let t = and_parts (is_placed_world r.definitions (length r.interfaces) k w) (are_placed_worlds r.definitions (length r.interfaces) (k + 1) ws) h in
      ap (λ (es : List WorldEntry). AWorld nowhere w.name es ∷ map (tree.world_written r) ws) (items-same k w.items t.0)
      ∙ ap (λ (xs : List FileEntry). named.world_entry r w ∷ xs) (worlds-same (k + 1) ws t.1)

  -- the tree is what its names tell
  pub same-file : tree.file_of r ≡ named.file_of r
  same-file =
      let interfaces = interfaces-same (interfaces_of_package r) in
      let worlds = worlds-same 0 r.worlds r.worlds_placed in
      let p = own_parts r.packages in
      λ j. record { namespace = p.namespace; name = p.name; version = p.version; entries = interfaces j ++ worlds j }
