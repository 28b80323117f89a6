-- The tree of a closed table in the form of packages resolves to the package of the table, behind its imports.
use Rattle.std.proofs.Common.{◌≡◌, ◌<◌, ℕ, List, [], ◌∷◌, ◌++◌, length, map, flat_map, filter_map, get_or, refl, sym, ap, subst, ◌∙◌, arith, All, slice_get}
use Rattle.std.specs.Prelude.{Bool, true, false, cond, Some}
use Rattle.std.specs.List.{list_all, filter}
use Rattle.std.proofs.lemmas.Bool.{and_parts, eqb-true}
use Rattle.std.proofs.lemmas.List.{get_or-map}
use Rattle.std.proofs.lemmas.List.Folds.{list_all-append}
use Rattle.atoms.specs.Label.{IsLabel}
use Rattle.tables.specs.Tables.{is_placed}
use Rattle.tables.specs.PackageNames.{PackageParts, own_name}
use Rattle.tables.specs.Names.{full_name_in, world_name}
use Rattle.tables.specs.Package.{Package, NamedDefinition, WorldMeaning, references, definitions_from, world_meaning, interface_names as names_in, package_of}
use Rattle.tables.specs.declared.tables.Interface.{Interface}
use Rattle.tables.specs.declared.tables.World.{World}
use Rattle.tables.specs.declared.tables.Resolve.{Resolve}
use Rattle.tables.proofs.ClosedTypesRowByRow.{both}
use Rattle.package_form.specs.Closed.{own_package, is_world_of}
use Rattle.package_form.specs.Reached.{is_interface_of}
use Rattle.package_form.specs.Entries.{Table, labels_of}
use Rattle.package_form.specs.Form.{IsInPackageForm}
use Rattle.package_form.proofs.FullNamesStandForInterfaces.{some-package, own-worlds}
use Rattle.placement.specs.Order.{IsPlacement}
use Rattle.tree_meaning.specs.Imports.{imports_of}
use Rattle.tree_meaning.specs.Declarations.{InterfaceTree, full_world, full_worlds, interface_of, interfaces, world_of, file_worlds, full_interface, full_interfaces, no_interface, interface_at, interface_tree_name, names_of_trees}
use Rattle.tree_meaning.specs.Resolved.{interface_meaning}
use Rattle.tree_meaning.specs.Resolved as tree
use Rattle.tree_meaning.specs.Resolves.{ResolvesBehind, KnowsPackagesOf, HasKnownNamesOf, IsKnownWorldOf, type_uses, names_in_order, package_behind, interfaces_behind, IsClosedPackageOf}
use Rattle.tree_meaning.specs.Building.{package_meaning, start_table, table_definitions}
use Rattle.tree_meaning.specs.WorldRows.{world_reads}
use Rattle.tree_meaning.proofs.PlacementsHaveNoCycle.{same-flat}
use Rattle.tree_meaning.proofs.PackageOfAFile.{own_table, table-resolves}
use Rattle.package_text.specs.Tree.{own_names, interfaces_of_package, own_parts}
use Rattle.package_text.specs.Writable.{IsWritable}
use Rattle.package_text.specs.Imports.{AreImportsOf}
use Rattle.package_text.proofs.WrittenTrees.TreeByNames.{interface_entry, world_entry, file_of}
use Rattle.package_text.proofs.ResolvedTrees.OwnPlacement.{NamesEarlier, places_of, numbers-length, numbers-at, map-places, flat-places}
use Rattle.package_text.proofs.ResolvedTrees.TreeResolvesInPlace.{AreParts, meaning_in_place, placed-here, types-placed, parts-back}
use Rattle.package_text.proofs.TableRows.AreRegions.{AreRegions, home}
use Rattle.package_text.proofs.TableRows.RowsAreLocal.{rows-owned}
use Rattle.package_text.proofs.TableRows.DefinitionsByInterface.{definitions-split}
use Rattle.package_text.proofs.TableRows.WorldRowsStandLast.{IsCut, regions-cut, form-items}
use Rattle.package_text.proofs.ResolvedTrees.TreesNameWhatIsKnown.{AreKnownTrees}
use Rattle.package_text.proofs.ResolvedTrees.TreesNameEarlierTrees.{trees-from}
use Rattle.package_text.proofs.WrittenTrees.PartsOfInterfaces.{parts-from}
use Rattle.package_text.proofs.TableRows.IdsAreRowPlaces.{own-ids}
use Rattle.package_text.proofs.TableRows.OwnInterfacesBegin.{form-regions, begins, own-at, own-are-labels, own-there}
use Rattle.package_text.proofs.TableRows.ImportsStandFirst.{before-same, own-place, names-are, fulls-are, are-imports, rooms-there}

own-placed : (r : Resolve) (f : IsInPackageForm r) → list_all (is_placed r.definitions) (interfaces_of_package r) ≡ true
own-placed r f =
    let b = begins r f in
    (and_parts (list_all (is_placed r.definitions) b.front) (list_all (is_placed r.definitions) (interfaces_of_package r))
    (sym (list_all-append (is_placed r.definitions) b.front (interfaces_of_package r)) ∙ (ap (list_all (is_placed r.definitions)) (sym b.interfaces) ∙ r.placed))).1

-- the own definitions of a table
abbrev pub behind_definitions : (r : Resolve) → IsInPackageForm r → List NamedDefinition
behind_definitions r f = definitions_from (own_names r) (references (own_names r) [] (begins r f).before) (begins r f).behind

-- what is written for the own interfaces of a table in form
pub form-parts : (r : Resolve) (f : IsInPackageForm r) → AreParts (map (interface_entry r) (interfaces_of_package r)) (behind_definitions r f)
form-parts r f =
    let b = begins r f in
    parts-from (own_names r) r.definitions (home 0 0 r.interfaces) r.earlier (rows-owned (own_names r) r.definitions (home 0 0 r.interfaces) r.interfaces r.earlier f.postfix (form-regions r f)) f.postfix
    (length b.front) b.before (interfaces_of_package r) b.behind b.regions b.rows (own-placed r f) (own-at r b)

no-interfaces : (r : Resolve) (ws : List World) → filter_map interface_of (map (world_entry r) ws) ≡ []
no-interfaces r [] = refl
no-interfaces r (w ∷ ws) = no-interfaces r ws

interfaces-first : (r : Resolve) (is : List Interface) → filter_map interface_of (map (interface_entry r) is ++ map (world_entry r) r.worlds) ≡ filter_map interface_of (map (interface_entry r) is)
interfaces-first r [] = no-interfaces r r.worlds
interfaces-first r (i ∷ is) = let h = interfaces-first r is in cc

-- the interfaces of the tree are written for the own ones of the table
pub tree-interfaces : (r : Resolve) → interfaces (file_of r) ≡ filter_map interface_of (map (interface_entry r) (interfaces_of_package r))
tree-interfaces r = interfaces-first r (interfaces_of_package r)

-- the worlds of the tree are written for those of the table
pub tree-worlds : (r : Resolve) → file_worlds (file_of r) ≡ filter_map world_of (map (world_entry r) r.worlds)
tree-worlds r = by (interfaces_of_package r)
  where
    by : (is : List Interface) → filter_map world_of (map (interface_entry r) is ++ map (world_entry r) r.worlds) ≡ filter_map world_of (map (world_entry r) r.worlds)
    by [] = refl
    by (i ∷ is) = by is

written-names : (r : Resolve) (is : List Interface) → names_of_trees (filter_map interface_of (map (interface_entry r) is)) ≡ labels_of is
written-names r [] = refl
written-names r (i ∷ is) = ap (λ (ns : List (List ℕ)). i.name ∷ ns) (written-names r is)

-- the interfaces of the tree have the names of the own ones of the table
pub tree-names : (r : Resolve) → names_of_trees (interfaces (file_of r)) ≡ labels_of (interfaces_of_package r)
tree-names r = ap names_of_trees (tree-interfaces r) ∙ written-names r (interfaces_of_package r)

-- what the trees of the interfaces name stands before it
pub known-trees : (r imports : Resolve) (w : IsWritable r) (a : AreImportsOf r imports) → All IsLabel (labels_of r.interfaces) → AreKnownTrees (imports_of imports) [] (interfaces (file_of r))
known-trees r imports w a labels =
    let f = w.form in
    let b = begins r w.form in
    subst (AreKnownTrees (imports_of imports) []) (sym (tree-interfaces r))
    (trees-from (imports_of imports) (own_names r) r.definitions (home 0 0 r.interfaces) r.earlier
    (rows-owned (own_names r) r.definitions (home 0 0 r.interfaces) r.interfaces r.earlier f.postfix (form-regions r f)) f.postfix
    (length b.front) b.before (interfaces_of_package r) b.behind b.regions b.rows (own-placed r w.form) (own-at r b) (own-are-labels r b labels) b.past [] (rooms-there r imports w a labels))

passes : {A : Type 0} (p : A → Bool) (xs : List A) → list_all p (filter p xs) ≡ true
passes p [] = refl
passes {A = A} p (x ∷ xs) = by (p x) refl (passes p xs)
  where
    by : (b : Bool) → p x ≡ b → list_all p (filter p xs) ≡ true → list_all p (cond b (x ∷ filter p xs) (filter p xs)) ≡ true
    by true e on = both _ _ e on
    by false e on = on

-- the table under the names that its interfaces go by
abbrev pub table_here : Resolve → Table
table_here r = record { interfaces = own_names r; worlds = r.worlds; rows = r.definitions }

module _ (r imports : Resolve) (w : IsWritable r) (a : AreImportsOf r imports) (labels : All IsLabel (labels_of r.interfaces)) (earlier : NamesEarlier (interfaces (file_of r)))
    (tree_labels : All IsLabel (names_of_trees (interfaces (file_of r)))) (paths : KnowsPackagesOf (imports_of imports) (file_of r))
    (known : All (HasKnownNamesOf (imports_of imports) (interfaces (file_of r))) (interfaces (file_of r))) (placed : All (IsKnownWorldOf (imports_of imports) (labels_of (interfaces_of_package r))) (file_worlds (file_of r)))
    (read : map (world_reads (table_here r)) r.worlds ≡ map tree.meaning_of_world (file_worlds (file_of r))) where
  abbrev is : List InterfaceTree
  is = interfaces (file_of r)

  abbrev order : List ℕ
  order = places_of (length (interfaces (file_of r)))

  abbrev types_in_place : InterfaceTree → List ℕ
  types_in_place i = places_of (length i.types)

  abbrev orders : List (List ℕ)
  orders = map types_in_place (interfaces (file_of r))

  abbrev names : List (List ℕ)
  names = labels_of (interfaces_of_package r)

  abbrev p : PackageParts
  p = own_parts r.packages

  order-at : (k : ℕ) → k < length is → get_or orders k [] ≡ types_in_place (interface_at is k)
  order-at k l = get_or-map types_in_place is k no_interface [] l

  meaning-at : (k : ℕ) → k < length order → meaning_in_place (interface_at is (get_or order k 0)) ≡ interface_meaning (interface_at is (get_or order k 0)) (get_or orders (get_or order k 0) [])
  meaning-at k l =
      let m : k < length is = omega (arith, l, numbers-length 0 (length is)) in
      let here : get_or order k 0 ≡ k = numbers-at 0 (length is) k m ∙ omega arith in
      ap (interface_meaning (interface_at is (get_or order k 0))) (sym (order-at (get_or order k 0) (omega (arith, here, m))))

  names-placed : names ≡ names_in_order is order
  names-placed = sym (map-places interface_tree_name no_interface is ∙ tree-names r)

  own-defined : behind_definitions r w.form ≡ package_meaning is orders order
  own-defined =
      sym (ap (flat_map meaning_in_place) (tree-interfaces r) ∙ parts-back (map (interface_entry r) (interfaces_of_package r)) (behind_definitions r w.form) (form-parts r w.form))
      ∙ (sym (flat-places meaning_in_place no_interface is) ∙ same-flat (λ k. meaning_in_place (interface_at is k)) (λ k. interface_meaning (interface_at is k) (get_or orders k [])) order meaning-at)

  defines : table_definitions (table_here r) ≡ table_definitions (start_table imports names) ++ package_meaning is orders order
  unfolding table_definitions
  defines =
      let b = begins r w.form in
      let ns = own_names r in
      ap (definitions_from ns []) b.rows
      ∙ (definitions-split ns [] b.before b.behind
      ∙ (ap (λ (ds : List NamedDefinition). ds ++ behind_definitions r w.form)
      (ap (definitions_from ns []) (before-same r imports w a labels) ∙ ap (λ (ms : List (List ℕ)). definitions_from ms [] imports.definitions) (names-are r imports w a labels))
      ∙ ap (λ (ds : List NamedDefinition). definitions_from (names_in imports ++ names) [] imports.definitions ++ ds) own-defined))

  own-resolves : ResolvesBehind (package_of imports) (map (full_interface p) is) (map (full_world p) (file_worlds (file_of r))) (package_behind (names_in imports) p (own_table names (table_here r) r.worlds))
  own-resolves =
      table-resolves imports (are-imports r imports w a labels) p is order orders names (table_here r) (placed-here is earlier)
      (λ k l. subst (IsPlacement (type_uses (interface_at is k))) (sym (order-at k l)) (types-placed (interface_at is k) (earlier.types k l))) names-placed (names-are r imports w a labels) defines tree_labels known
      r.worlds (file_worlds (file_of r)) read placed

  there : slice_get r.packages (own_package r.packages) ≡ Some p
  there = own-there r.packages (some-package r w.form.closed)

  worlds-full : (ns : List (List ℕ)) (ws : List World) → list_all (is_world_of (own_package r.packages)) ws ≡ true
      → map (λ (w : World). world_meaning ns (references ns [] r.definitions) r.definitions (world_name r w) w) ws
      ≡ map (λ (w : World). world_meaning ns (references ns [] r.definitions) r.definitions (own_name p w.name) w) ws
  worlds-full ns [] h = refl
  worlds-full ns (x ∷ xs) h =
      let s = and_parts (is_world_of (own_package r.packages) x) (list_all (is_world_of (own_package r.packages)) xs) h in
      let named : world_name r x ≡ own_name p x.name =
      ap (λ o. full_name_in o x.name) (ap (slice_get r.packages) (eqb-true x.«package».0 (own_package r.packages) s.0) ∙ there) in
      ap (λ (n : List ℕ). world_meaning ns (references ns [] r.definitions) r.definitions n x ∷ map (λ (y : World). world_meaning ns (references ns [] r.definitions) r.definitions (world_name r y) y) xs) named
      ∙ ap (λ (ms : List WorldMeaning). world_meaning ns (references ns [] r.definitions) r.definitions (own_name p x.name) x ∷ ms) (worlds-full ns xs s.1)

  -- the package of the table, where its interfaces go by these names
  abbrev package_under : List (List ℕ) → Package
  package_under ns = record {
    interfaces = ns;
    worlds = map (λ (w : World). world_meaning ns (references ns [] r.definitions) r.definitions (own_name p w.name) w) r.worlds;
    definitions = definitions_from ns [] r.definitions;
  }

  package-same : package_behind (names_in imports) p (own_table names (table_here r) r.worlds) ≡ package_of r
  package-same =
      ap package_under (sym (fulls-are r imports w a labels))
      ∙ ap (λ (ws : List WorldMeaning). record { interfaces = names_in r; worlds = ws; definitions = definitions_from (names_in r) [] r.definitions })
      (sym (worlds-full (names_in r) r.worlds (own-worlds r w.form.closed)))

  cut : IsCut r.interfaces [] r.definitions
  cut = regions-cut r.definitions (home 0 0 r.interfaces) 0 [] r.interfaces r.definitions (form-regions r w.form)

  own-made : interfaces_of_package r ≡ interfaces_behind (length imports.packages) (length imports.interfaces) r.definitions names
  own-made =
      own-ids (length imports.packages) r.definitions (home 0 0 r.interfaces) imports.interfaces (interfaces_of_package r)
      (subst (λ (js : List Interface). AreRegions r.definitions (home 0 0 r.interfaces) 0 [] js r.definitions) a.interfaces (form-regions r w.form))
      (ap (list_all (is_placed r.definitions)) (sym a.interfaces) ∙ r.placed)
      (subst (λ (n : ℕ). list_all (is_interface_of n) (interfaces_of_package r) ≡ true) (own-place r imports w a labels) (passes (is_interface_of (own_package r.packages)) r.interfaces))

  pub tree-package : IsClosedPackageOf imports (file_of r) r
  tree-package = record {
    earlier = paths;
    packages = a.packages;
    resolves = subst (ResolvesBehind (package_of imports) (full_interfaces (file_of r)) (full_worlds (file_of r))) package-same own-resolves;
    postfix = w.form.postfix;
    behind = cut.behind;
    items = form-items r w.form cut;
    rows = a.rows;
    own = (names, a.interfaces ∙ ap (λ (js : List Interface). imports.interfaces ++ js) own-made);
    worlds = subst (λ (n : ℕ). list_all (is_world_of n) r.worlds ≡ true) (own-place r imports w a labels) (own-worlds r w.form.closed);
    within = w.form.entries;
  }
