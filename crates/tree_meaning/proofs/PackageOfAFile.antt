-- The interfaces of a file, and its package.
use Rattle.std.proofs.Common.{◌≡◌, Bool, true, false, cond, ℕ, ◌+◌, ◌<◌, List, [], ◌∷◌, ◌++◌, Result, Ok, Err, IfOk, IfErr, Option, None, Some, map, flat_map, length, get_or, slice_get, refl, ap, sym, ◌∙◌, subst, arith, All, Contains}
use Rattle.std.specs.List.{list_all}
use Rattle.std.proofs.lemmas.List.{length-map, map-append, get_or_default, get_or_append_left}
use Rattle.std.proofs.lemmas.Bool.{ltb-true}
use Rattle.std.proofs.lemmas.Simd.{map-map}
use Rattle.atoms.specs.Label.{IsLabel, is_label}
use Rattle.atoms.proofs.FullNamesHaveOneReading.{label_lacks, has_mark}
use Rattle.tables.specs.PackageNames.{PackageParts, own_name}
use Rattle.tables.specs.Names.{full_name, full_name_in}
use Rattle.std.specs.Option.{option_map}
use Rattle.std.specs.String.{string_bytes}
use Rattle.std.specs.declared.string.String.{String}
use Rattle.std.specs.declared.alloc.Global.{Global}
use Rattle.wit_tokens.specs.View.{version_view}
use Rattle.placement.specs.Order.{IsPlacement}
use Rattle.tables.specs.Package.{Key, key_of, Tree, Reference, IsUse, NamedDefinition, ItemMeaning, WithInterface, WorldMeaning, trees, world_meaning, reference, reference_by, read_kind, references, package_of, interface_names as names_in, named_by, meaning_of, named_function, function_meaning as called, definition_of, definitions_from}
use Rattle.tree_meaning.specs.Resolved.{interface_meaning}
use Rattle.tree_meaning.specs.Resolved as tree
use Rattle.tree_meaning.specs.Declarations.{UsedItem, InterfaceTree, ItemTree, InterfaceNamed, ForeignNamed, FunctionOf, WorldTree, full_item, interfaces, use_interface, full_label, full_use, full_interface, full_world, no_interface, interface_at, interface_tree_name, names_of_trees}
use Rattle.package_form.specs.Entries.{Table}
use Rattle.tree_meaning.specs.Imports.{imports_of}
use Rattle.tree_meaning.specs.Resolves.{ResolvesBehind, package_behind, names_in_order, uses_of_interface, IsKnownIn, IsKnownUseOf, HasKnownNamesOf, interface_uses, type_uses, IsKnownItemOf, IsKnownWorldOf, is_name_of, is_owned_among, is_of_interfaces, AreImports}
use Rattle.package_form.specs.Ids.{interfaces_from}
use Rattle.tree_meaning.specs.Building.{package_meaning, start_table, table_trees, table_definitions}
use Rattle.tables.specs.declared.tables.Interface.{Interface}
use Rattle.tables.specs.declared.tables.TypeName.{TypeName}
use Rattle.tables.specs.declared.tables.Owner.{Owner}
use Rattle.tables.specs.declared.tables.Owner.TheVariants as owner
use Rattle.tables.specs.declared.tables.Definition.{Definition}
use Rattle.tables.specs.declared.tables.Definition.TheVariants as row
use Rattle.tables.specs.declared.tables.Resolve.{Resolve}
use Rattle.package_form.proofs.AllAndContains.{all-contained, contains-map, contains-unmap, contains-here, contains-later, all-head, all-tail}
use Rattle.package_form.proofs.FullNamesStandForInterfaces.{package-there}
use Rattle.tree_meaning.proofs.OrderedNames.{interface-name}
use Rattle.tables.proofs.NamesEarlierTypes.{grouped-at}
use Rattle.tables.proofs.ClosedTypesRowByRow.{split}
use Rattle.tree_meaning.specs.WorldRows.{world_reads}
use Rattle.tables.specs.declared.tables.World.{World}
use Rattle.tree_meaning.proofs.PlacementsHaveNoCycle.{same-map, same-flat}
use Rattle.tree_meaning.proofs.InterfacesUnderFullNames.{uses-full, interface-full}
use Rattle.tree_meaning.proofs.RenamedInterfaces.{renamed_definition, renamed_item, used_under, interface_under, references-same, read-items, definitions-same, meaning-renamed, item-renamed, flat-renamed}

-- the table without the names of its imports, and with these worlds
abbrev pub own_table : List (List ℕ) → Table → List World → Table
own_table names t ws = record { interfaces = names; worlds = ws; rows = t.rows }

-- ---- names under which the package stands

-- the full name of an interface that goes by its label; one of another package goes by its full name
abbrev full_if : PackageParts → List ℕ → List ℕ
full_if p n = cond (is_label n) (own_name p n) n

full-is : (p : PackageParts) (n : List ℕ) → IsLabel n → full_if p n ≡ own_name p n
full-is p n h = ap (λ (b : Bool). cond b (own_name p n) n) h

full-stays : (p : PackageParts) (n : List ℕ) → is_label n ≡ false → full_if p n ≡ n
full-stays p n h = ap (λ (b : Bool). cond b (own_name p n) n) h

-- a full name is no label
not-label : (q : PackageParts) (i : List ℕ) → is_label (own_name q i) ≡ false
not-label q i = by (is_label (own_name q i)) refl
  where
    by : (b : Bool) → is_label (own_name q i) ≡ b → b ≡ false
    by false e = refl
    by true e = absurd (has_mark 58 q.namespace _ (label_lacks 58 (own_name q i) refl e))

none-full : (p : PackageParts) → full_if p [] ≡ []
unfolding is_label
none-full p = refl

fulls-are : (p : PackageParts) (ns : List (List ℕ)) → ((n : List ℕ) → Contains ns n → IsLabel n) → map (full_if p) ns ≡ map (own_name p) ns
fulls-are p [] h = refl
fulls-are p (n ∷ ns) h = let a = full-is p n (h n (contains-here n ns)) in let b = fulls-are p ns (λ m c. h m (contains-later n m ns c)) in cc

map-stays : (f : List ℕ → List ℕ) (ns : List (List ℕ)) → ((n : List ℕ) → Contains ns n → f n ≡ n) → map f ns ≡ ns
map-stays f [] h = refl
map-stays f (n ∷ ns) h = let a = h n (contains-here n ns) in let b = map-stays f ns (λ m c. h m (contains-later n m ns c)) in cc

-- the package that an interface of a table is of
package-of : (r : Resolve) (x : Interface) → Contains r.interfaces x → (q : PackageParts) × (slice_get r.packages x.«package».0 ≡ Some q)
package-of r x c = package-there r.packages x.«package».0 (grouped-at (length r.packages) 0 r.interfaces c.0 x r.grouped c.1 c.2)

imports-stay : (p : PackageParts) (r : Resolve) → map (full_if p) (names_in r) ≡ names_in r
imports-stay p r = map-stays (full_if p) (names_in r) (λ n c.
    let x = contains-unmap (full_name r) r.interfaces n c in
    let q = package-of r x.0 x.1 in
    let named : own_name q.0 x.0.name ≡ n = sym (ap (λ (o : Option PackageParts). full_name_in o x.0.name) q.1) ∙ x.2 in
    subst (λ (k : List ℕ). full_if p k ≡ k) named (full-stays p (own_name q.0 x.0.name) (not-label q.0 x.0.name)))

use-full : (p : PackageParts) (u : UsedItem) → (u.«package» ≡ None → IsLabel u.interface) → full_if p (use_interface u) ≡ use_interface (full_use p u)
use-full p u h = by u.«package» refl
  where
    by : (o : Option PackageParts) → u.«package» ≡ o → full_if p (full_name_in o u.interface) ≡ full_name_in o (full_label p o u.interface)
    by None e = full-is p u.interface (h e)
    by (Some q) e = full-stays p (own_name q u.interface) (not-label q u.interface)

uses-under : (p : PackageParts) (j : List ℕ) (us : List UsedItem) → ((u : UsedItem) → Contains us u → u.«package» ≡ None → IsLabel u.interface)
    → map (tree.use_meaning j) (map (used_under (full_if p) (none-full p)) us) ≡ map (tree.use_meaning j) (map (full_use p) us)
uses-under p j [] h = refl
uses-under p j (u ∷ us) h =
    let named : List ℕ → NamedDefinition = λ n. record { key = record { interface = j; name = u.local }; meaning = IsUse (Reference (record { interface = n; name = u.name })) } in
    ap (λ (n : List ℕ). named n ∷ map (tree.use_meaning j) (map (used_under (full_if p) (none-full p)) us)) (use-full p u (h u (contains-here u us)))
    ∙ ap (λ (ds : List NamedDefinition). tree.use_meaning j (full_use p u) ∷ ds) (uses-under p j us (λ v c. h v (contains-later u v us c)))

under-means : (p : PackageParts) (i : InterfaceTree) (order : List ℕ) → IsLabel i.name → ((u : UsedItem) → Contains i.uses u → u.«package» ≡ None → IsLabel u.interface)
    → interface_meaning (interface_under (full_if p) (none-full p) i) order ≡ interface_meaning (full_interface p i) order
under-means p i order named h =
    let rest : List ℕ → List NamedDefinition = λ n. tree.in_order n i.types order ++ map (tree.meaning_of_function n) i.functions in
    ap (λ (n : List ℕ). map (tree.use_meaning n) (map (used_under (full_if p) (none-full p)) i.uses) ++ rest n) (full-is p i.name named)
    ∙ ap (λ (ds : List NamedDefinition). ds ++ rest (own_name p i.name)) (uses-under p (own_name p i.name) i.uses h)

-- ---- more names behind those that rows name

module _ (ns ms : List (List ℕ)) where
  key-within : (n : TypeName) → is_name_of (length ns) (Some n) ≡ true → key_of (ns ++ ms) n ≡ key_of ns n
  key-within n h = ap (λ (i : List ℕ). record { interface = i; name = n.name }) (get_or_append_left ns ms [] n.interface.0 (ltb-true n.interface.0 (length ns) h))

  reference-within : (ts : List Tree) (d : Definition) → is_of_interfaces (length ns) d ≡ true → reference (ns ++ ms) ts d ≡ reference ns ts d
  reference-within ts (row.Type d) h = by d.name h
    where
      by : (o : Option TypeName) → is_name_of (length ns) o ≡ true → reference_by (ns ++ ms) o (read_kind ts d.kind) ≡ reference_by ns o (read_kind ts d.kind)
      by None q = refl
      by (Some n) q = ap Reference (key-within n q)
  reference-within ts (row.Function f) h = refl

  definition-within : (ts : List Tree) (d : Definition) → is_of_interfaces (length ns) d ≡ true → definition_of (ns ++ ms) ts d ≡ definition_of ns ts d
  definition-within ts (row.Type d) h = by d.name h
    where
      by : (o : Option TypeName) → is_name_of (length ns) o ≡ true → named_by (ns ++ ms) ts o d.kind ≡ named_by ns ts o d.kind
      by None q = refl
      by (Some n) q = ap (λ (k : Key). record { key = k; meaning = meaning_of ts d.kind } ∷ []) (key-within n q)
  definition-within ts (row.Function f) h = by f.owner h
    where
      by : (o : Owner) → is_owned_among (length ns) o ≡ true → named_function (ns ++ ms) o f.name (called ts f) ≡ named_function ns o f.name (called ts f)
      by (owner.Interface i) q = ap (λ (n : List ℕ). record { key = record { interface = n; name = f.name }; meaning = called ts f } ∷ []) (get_or_append_left ns ms [] i.0 (ltb-true i.0 (length ns) q))
      by (owner.World w) q = absurd (cc)

  pub definitions-within : (ts : List Tree) (ds : List Definition) → list_all (is_of_interfaces (length ns)) ds ≡ true → definitions_from (ns ++ ms) ts ds ≡ definitions_from ns ts ds
  definitions-within ts [] h = refl
  definitions-within ts (d ∷ ds) h =
      let s = split (is_of_interfaces (length ns) d) (list_all (is_of_interfaces (length ns)) ds) h in
      ap (λ (xs : List NamedDefinition). xs ++ definitions_from (ns ++ ms) (ts ++ reference (ns ++ ms) ts d ∷ []) ds) (definition-within ts d s.0)
      ∙ ap (λ (t : Tree). definition_of ns ts d ++ definitions_from (ns ++ ms) (ts ++ t ∷ []) ds) (reference-within ts d s.0)
      ∙ ap (λ (xs : List NamedDefinition). definition_of ns ts d ++ xs) (definitions-within (ts ++ reference ns ts d ∷ []) ds s.1)

-- ---- the package

-- The table that interfaces define behind their imports is that of their package, whose names are full names.
module _ (imports : Resolve) (a : AreImports imports) (p : PackageParts) (is : List InterfaceTree) (order : List ℕ) (orders : List (List ℕ)) (names : List (List ℕ)) (t : Table)
    (placed : IsPlacement (interface_uses is) order)
    (types : (k : ℕ) → k < length is → IsPlacement (type_uses (interface_at is k)) (get_or orders k [])) (ordered : names ≡ names_in_order is order)
    (interfaces : t.interfaces ≡ names_in imports ++ names)
    (made : table_definitions t ≡ table_definitions (start_table imports names) ++ package_meaning is orders order)
    (labels : All IsLabel (names_of_trees is)) (known : All (HasKnownNamesOf (imports_of imports) is) is) where
  below : (k : ℕ) → k < length order → get_or order k 0 < length is
  below k l = omega (arith, (placed.next k l).in_range, length-map is (uses_of_interface (names_of_trees is)))

  label-here : (k : ℕ) → k < length is → IsLabel (interface_at is k).name
  label-here k l = subst IsLabel (sym (interface-name is k)) (labels k [] (omega (arith, l, length-map is interface_tree_name)))

  label-used : (k : ℕ) → k < length is → (u : UsedItem) → Contains (interface_at is k).uses u → u.«package» ≡ None → IsLabel u.interface
  label-used k l u c e =
      let here : HasKnownNamesOf (imports_of imports) is (interface_at is k) = known k no_interface l in
      let x = all-contained (IsKnownUseOf (imports_of imports) is) (interface_at is k).uses u here.uses c in
      let y = subst (λ (o : Option PackageParts). IsKnownIn (imports_of imports) is o u.interface u.name) e x in
      subst IsLabel y.2 (all-contained IsLabel (names_of_trees is) y.0.name labels (contains-map interface_tree_name is y.0 y.1))

  label-ordered : (n : List ℕ) → Contains names n → IsLabel n
  label-ordered n c =
      let k = contains-unmap (λ (k : ℕ). (interface_at is k).name) order n (subst (λ (ns : List (List ℕ)). Contains ns n) ordered c) in
      let l : k.0 < length is = subst (λ (j : ℕ). j < length is) k.1.2 (subst (λ (j : ℕ). j < length is) (get_or_default order k.1.0 0 k.0 k.1.1) (below k.1.0 k.1.1)) in
      subst IsLabel k.2 (label-here k.0 l)

  abbrev fulls : List (List ℕ)
  fulls = names_in imports ++ map (own_name p) names

  fulls-renamed : map (full_if p) (names_in imports ++ names) ≡ fulls
  fulls-renamed =
      map-append (full_if p) (names_in imports) names ∙ ap (λ (ns : List (List ℕ)). ns ++ map (full_if p) names) (imports-stay p imports)
      ∙ ap (λ (ns : List (List ℕ)). names_in imports ++ ns) (fulls-are p names label-ordered)

  table-renamed : map (full_if p) t.interfaces ≡ fulls
  table-renamed = ap (map (full_if p)) interfaces ∙ fulls-renamed

  names-ordered : fulls ≡ names_in imports ++ names_in_order (map (full_interface p) is) order
  names-ordered =
      ap (λ (ns : List (List ℕ)). names_in imports ++ ns)
      (ap (map (own_name p)) ordered ∙ map-map (own_name p) (λ (k : ℕ). (interface_at is k).name) order
      ∙ same-map (λ (k : ℕ). own_name p (interface_at is k).name) (λ (k : ℕ). (interface_at (map (full_interface p) is) k).name) order
      (λ k l. ap interface_tree_name (sym (interface-full p is (get_or order k 0) (below k l)))))

  meaning-here : (k : ℕ) → k < length is
      → map (renamed_definition (full_if p) (none-full p)) (interface_meaning (interface_at is k) (get_or orders k [])) ≡ interface_meaning (interface_at (map (full_interface p) is) k) (get_or orders k [])
  meaning-here k l =
      sym (meaning-renamed (full_if p) (none-full p) (interface_at is k) (get_or orders k []))
      ∙ under-means p (interface_at is k) (get_or orders k []) (label-here k l) (label-used k l)
      ∙ ap (λ (i : InterfaceTree). interface_meaning i (get_or orders k [])) (sym (interface-full p is k l))

  imports-mean : map (renamed_definition (full_if p) (none-full p)) (definitions_from (names_in imports ++ names) [] imports.definitions) ≡ definitions_from (names_in imports) [] imports.definitions
  imports-mean =
      sym (definitions-same (full_if p) (none-full p) (names_in imports ++ names) [] imports.definitions)
      ∙ ap (λ (ns : List (List ℕ)). definitions_from ns [] imports.definitions) fulls-renamed
      ∙ definitions-within (names_in imports) (map (own_name p) names) [] imports.definitions
      (subst (λ (n : ℕ). list_all (is_of_interfaces n) imports.definitions ≡ true) (sym (length-map imports.interfaces (full_name imports))) a.owned)

  definitions-ordered : definitions_from fulls [] t.rows
      ≡ definitions_from (names_in imports) [] imports.definitions ++ flat_map (λ k. interface_meaning (interface_at (map (full_interface p) is) k) (get_or orders k [])) order
  unfolding table_definitions
  definitions-ordered =
      let renamed = renamed_definition (full_if p) (none-full p) in
      ap (λ (ns : List (List ℕ)). definitions_from ns [] t.rows) (sym table-renamed)
      ∙ definitions-same (full_if p) (none-full p) t.interfaces [] t.rows
      ∙ ap (map renamed) made
      ∙ map-append renamed (definitions_from (names_in imports ++ names) [] imports.definitions) (package_meaning is orders order)
      ∙ ap (λ (ds : List NamedDefinition). ds ++ map renamed (package_meaning is orders order)) imports-mean
      ∙ ap (λ (ds : List NamedDefinition). definitions_from (names_in imports) [] imports.definitions ++ ds)
      (flat-renamed (full_if p) (none-full p) (λ k. interface_meaning (interface_at is k) (get_or orders k [])) order
      ∙ same-flat (λ k. map renamed (interface_meaning (interface_at is k) (get_or orders k [])))
      (λ k. interface_meaning (interface_at (map (full_interface p) is) k) (get_or orders k [])) order (λ k l. meaning-here (get_or order k 0) (below k l)))

  -- the worlds, whose interfaces are known
  module _ (ws : List World) (trees : List WorldTree) (read : map (world_reads t) ws ≡ map tree.meaning_of_world trees) (here : All (IsKnownWorldOf (imports_of imports) names) trees) where
    item-full : (i : ItemTree) → IsKnownItemOf (imports_of imports) names i → renamed_item (full_if p) (none-full p) (tree.tree_item_meaning i) ≡ tree.tree_item_meaning (full_item p i)
    item-full (InterfaceNamed way n) c = ap (WithInterface (tree.direction_meaning way)) (full-is p n (label-ordered n c))
    item-full (ForeignNamed way q n) c = ap (WithInterface (tree.direction_meaning way)) (full-stays p (own_name q n) (not-label q n))
    item-full (FunctionOf way f) c = sym (item-renamed (full_if p) (none-full p) (FunctionOf way f))

    items-full : (is : List ItemTree) → All (IsKnownItemOf (imports_of imports) names) is
        → map (renamed_item (full_if p) (none-full p)) (map tree.tree_item_meaning is) ≡ map tree.tree_item_meaning (map (full_item p) is)
    items-full [] h = refl
    items-full (i ∷ is) h =
        ap (λ (m : ItemMeaning). m ∷ map (renamed_item (full_if p) (none-full p)) (map tree.tree_item_meaning is)) (item-full i (all-head (IsKnownItemOf (imports_of imports) names) i is h))
        ∙ ap (λ (ms : List ItemMeaning). tree.tree_item_meaning (full_item p i) ∷ ms) (items-full is (all-tail (IsKnownItemOf (imports_of imports) names) i is h))

    -- a world under its full name, and so its interfaces
    abbrev full_meaning : WorldMeaning → WorldMeaning
    full_meaning m = record { name = own_name p m.name; items = map (renamed_item (full_if p) (none-full p)) m.items }

    worlds-meant : (xs : List WorldTree) → All (IsKnownWorldOf (imports_of imports) names) xs → map full_meaning (map tree.meaning_of_world xs) ≡ map tree.meaning_of_world (map (full_world p) xs)
    worlds-meant [] h = refl
    worlds-meant (x ∷ xs) h =
        ap (λ (ms : List ItemMeaning). record { name = own_name p x.name; items = ms } ∷ map full_meaning (map tree.meaning_of_world xs))
        (items-full x.items (all-head (IsKnownWorldOf (imports_of imports) names) x xs h))
        ∙ ap (λ (ms : List WorldMeaning). tree.meaning_of_world (full_world p x) ∷ ms) (worlds-meant xs (all-tail (IsKnownWorldOf (imports_of imports) names) x xs h))

    world-read : (w : World) → world_meaning fulls (references fulls [] t.rows) t.rows (own_name p w.name) w ≡ full_meaning (world_reads t w)
    unfolding table_trees
    world-read w =
        let to = full_if p in
        let named : List ItemMeaning → WorldMeaning = λ ms. record { name = own_name p w.name; items = ms } in
        ap (λ (ns : List (List ℕ)). world_meaning ns (references ns [] t.rows) t.rows (own_name p w.name) w) (sym table-renamed)
        ∙ ap (λ (ts : List Tree). world_meaning (map to t.interfaces) ts t.rows (own_name p w.name) w) (references-same to (none-full p) t.interfaces [] t.rows)
        ∙ ap named (read-items to (none-full p) t.interfaces (references t.interfaces [] t.rows) t.rows w.items)

    worlds-read : (xs : List World) → map (λ w. world_meaning fulls (references fulls [] t.rows) t.rows (own_name p w.name) w) xs ≡ map full_meaning (map (world_reads t) xs)
    worlds-read [] = refl
    worlds-read (w ∷ xs) =
        ap (λ (m : WorldMeaning). m ∷ map (λ x. world_meaning fulls (references fulls [] t.rows) t.rows (own_name p x.name) x) xs) (world-read w)
        ∙ ap (λ (ms : List WorldMeaning). full_meaning (world_reads t w) ∷ ms) (worlds-read xs)

    pub table-resolves : ResolvesBehind (package_of imports) (map (full_interface p) is) (map (full_world p) trees) (package_behind (names_in imports) p (own_table names t ws))
    table-resolves = record {
      order = order;
      placed = subst (λ (us : List (List ℕ)). IsPlacement us order) (sym (uses-full p is)) placed;
      types = λ k. get_or orders k [];
      types_placed = λ k l.
          let m : k < length is = omega (arith, l, length-map is (full_interface p)) in
          subst (λ (i : InterfaceTree). IsPlacement (type_uses i) (get_or orders k [])) (sym (interface-full p is k m)) (types k m);
      names = names-ordered;
      worlds = worlds-read ws ∙ ap (map full_meaning) read ∙ worlds-meant trees here;
      definitions = definitions-ordered;
    }

pub names-kept : (rows : List Definition) (i : ℕ) (ns : List (List ℕ)) → map (λ (x : Interface). x.name) (interfaces_from rows i ns) ≡ ns
names-kept rows i [] = refl
names-kept rows i (n ∷ ns) = ap (λ (ms : List (List ℕ)). n ∷ ms) (names-kept rows (i + 1) ns)

pub version-is : (v : Option (String Global)) → version_view v ≡ option_map string_bytes v
version-is None = refl
version-is (Some v) = refl

pub ok-map : {T E : Type 0} (r : Result T E) (P Q : T → Type 0) → ((x : T) → P x → Q x) → IfOk r P → IfOk r Q
ok-map (Ok x) P Q f h = f x h
ok-map (Err e) P Q f h = tt

pub err-map : {T E : Type 0} (r : Result T E) (P Q : E → Type 0) → ((x : E) → P x → Q x) → IfErr r P → IfErr r Q
err-map (Ok x) P Q f h = tt
err-map (Err e) P Q f h = f e h
