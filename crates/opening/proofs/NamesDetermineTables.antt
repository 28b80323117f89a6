-- Names determine the rows behind a set, and so its table.
use Rattle.std.proofs.Common.{◌≡◌, ◌+◌, ℕ, suc, true, List, [], ◌∷◌, ◌++◌, length, map, flat_map, slice_get, Option, Some, refl, sym, ap, subst, ◌∙◌, arith, append-nil, append_assoc, eqb-true}
use Rattle.std.proofs.lemmas.Bool.{and_parts}
use Rattle.std.proofs.lemmas.List.{length-append, length-map, map-append, append_cancel_left}
use Rattle.package_form.specs.Closed.{is_world_of}
use Rattle.package_form.specs.Form.{functions_of}
use Rattle.package_form.specs.Ids.{is_world_function, places_where}
use Rattle.package_form.proofs.AllAndContains.{flat_map-append}
use Rattle.package_form.proofs.InterfacesOfOnePackage.{one-full-name}
use Rattle.package_sets.proofs.GrowingLists.{behind-get}
use Rattle.package_sets.proofs.MovedRows.MovedRowsKeepMeaning.{definitions-append, references-append}
use Rattle.package_text.proofs.OneTablePerTree.SameNamesSameRows.{IsSound, append-same, one-list, row_world, world_owners}
use Rattle.tables.specs.Names.{full_name_in, world_name}
use Rattle.tables.specs.Package.{NamedDefinition, Package, Tree, WorldMeaning, definitions, definitions_from, interface_names, package_of, references, trees, world_meaning, worlds}
use Rattle.tables.specs.PackageNames.{PackageParts, own_name}
use Rattle.tables.specs.Same.{IsSamePackage}
use Rattle.tables.specs.Tables.{are_placed_worlds, is_placed_world}
use Rattle.tables.specs.declared.tables.Definition.{Definition}
use Rattle.tables.specs.declared.tables.Interface.{Interface}
use Rattle.tables.specs.declared.tables.Resolve.{Resolve}
use Rattle.tables.specs.declared.tables.World.{World}
use Rattle.tree_meaning.specs.Resolves.{interfaces_behind}
use Rattle.tree_meaning.proofs.AllDefinitions.{all-are, all_from, no-place}
use Rattle.tree_meaning.proofs.TableRows.{places-append}
use Rattle.tree_meaning.proofs.TypedRows.{earlier-typed}
use Rattle.opening.specs.Sole.{IsSetTable, HasOwnBehind, NamesDetermine}
use Rattle.package_text.proofs.OneTablePerTree.WorldsAreToldByMeaning.{owners_by, placed-owners, worlds-owned, worlds-same, worlds_at}
use Rattle.opening.proofs.SetTablesAreSound.{counted, names-apart, names-filled, sound}
use Rattle.tree_meaning.proofs.WorldMeanings.{all-append, back-of, behind-none, worlds_definitions}

map-same : {A B : Type 0} (g : A → B) → ((a b : A) → g a ≡ g b → a ≡ b) → (xs ys : List A) → map g xs ≡ map g ys → xs ≡ ys
map-same g one [] [] e = refl
map-same g one [] (y ∷ ys) e = absurd cc
map-same g one (x ∷ xs) [] e = absurd cc
map-same g one (x ∷ xs) (y ∷ ys) e =
    let front : g x ≡ g y = cc in
    let back : map g xs ≡ map g ys = cc in
    let a = one x y front in
    let b = map-same g one xs ys back in
    cc

placed-behind : (ds : List Definition) (count k : ℕ) (ws vs : List World) → are_placed_worlds ds count k (ws ++ vs) ≡ true → are_placed_worlds ds count (k + length ws) vs ≡ true
placed-behind ds count k [] vs h = subst (λ (n : ℕ). are_placed_worlds ds count n vs ≡ true) (omega arith) h
placed-behind ds count k (w ∷ ws) vs h =
    subst (λ (n : ℕ). are_placed_worlds ds count n vs ≡ true) (next k (length ws))
    (placed-behind ds count (k + 1) ws vs (and_parts (is_placed_world ds count k w) (are_placed_worlds ds count (k + 1) (ws ++ vs)) h).1)
  where
    next : (k m : ℕ) → k + 1 + m ≡ k + suc m
    next k m = omega arith

named-behind : (ps : List PackageParts) (p : PackageParts) (n m : ℕ) (rows : List Definition) (names : List (List ℕ)) → slice_get ps n ≡ Some p
    → map (λ (x : Interface). full_name_in (slice_get ps x.«package».0) x.name) (interfaces_behind n m rows names) ≡ map (own_name p) names
named-behind ps p n m rows [] e = refl
named-behind ps p n m rows (x ∷ names) e =
    ap (λ (o : Option PackageParts). full_name_in o x ∷ map (λ (y : Interface). full_name_in (slice_get ps y.«package».0) y.name) (interfaces_behind n (m + 1) rows names)) e
    ∙ ap (λ (ns : List (List ℕ)). own_name p x ∷ ns) (named-behind ps p n (m + 1) rows names e)

-- ---- one table

module _ (set : Resolve) (own : PackageParts) (r : Resolve) (t : IsSetTable r) (a : HasOwnBehind set own r) where
  abbrev ns : List (List ℕ)
  ns = interface_names r

  abbrev below : List Tree
  below = references ns [] set.definitions

  abbrev meaning : World → WorldMeaning
  meaning w = world_meaning ns (trees r) r.definitions (world_name r w) w

  told-definitions : definitions r ≡ definitions_from ns [] set.definitions ++ definitions_from ns below a.rows
  told-definitions = ap (definitions_from ns []) a.rows_are ∙ definitions-append ns [] set.definitions a.rows

  front-defined : definitions_from ns below a.rows ≡ all_from ns below a.behind.front
  front-defined =
      ap (definitions_from ns below) a.behind.parts
      ∙ (definitions-append ns below a.behind.front a.behind.back
      ∙ (ap (λ (xs : List NamedDefinition). definitions_from ns below a.behind.front ++ xs) (behind-none ns (references ns below a.behind.front) a.behind.back a.behind.all)
      ∙ (append-nil (definitions_from ns below a.behind.front) ∙ all-are ns below a.behind.front a.behind.none)))

  parted : r.definitions ≡ (set.definitions ++ a.behind.front) ++ a.behind.back
  parted = a.rows_are ∙ (ap (λ (ds : List Definition). set.definitions ++ ds) a.behind.parts ∙ sym (append_assoc set.definitions a.behind.front a.behind.back))

  items-back : places_where is_world_function (length (set.definitions ++ a.behind.front)) a.behind.back ≡ flat_map functions_of a.worlds
  items-back =
      let n = length set.definitions in
      let m = length a.behind.front in
      let long : length (set.definitions ++ a.behind.front) ≡ n + m = omega (arith, length-append set.definitions a.behind.front) in
      let first : places_where is_world_function n a.rows ≡ places_where is_world_function (n + m) a.behind.back =
      ap (places_where is_world_function n) a.behind.parts
      ∙ (places-append is_world_function n a.behind.front a.behind.back ∙ ap (λ (ps : List ℕ). ps ++ places_where is_world_function (n + m) a.behind.back) (no-place n a.behind.front a.behind.none)) in
      ap (λ (k : ℕ). places_where is_world_function k a.behind.back) long ∙ (sym first ∙ a.items)

  back-defined : all_from ns (references ns below a.behind.front) a.behind.back ≡ worlds_definitions (map meaning a.worlds)
  back-defined =
      ap (λ (ts : List Tree). all_from ns ts a.behind.back) (sym (references-append ns [] set.definitions a.behind.front))
      ∙ back-of ns r.definitions (earlier-typed r.definitions r.earlier r.typed) r.earlier r.typed (world_name r) a.worlds (set.definitions ++ a.behind.front) a.behind.back parted a.behind.all items-back

  pub whole-told : all_from ns [] r.definitions ≡ all_from ns [] set.definitions ++ (definitions_from ns below a.rows ++ worlds_definitions (map meaning a.worlds))
  whole-told =
      ap (all_from ns []) a.rows_are
      ∙ (all-append ns [] set.definitions a.rows
      ∙ ap (λ (xs : List NamedDefinition). all_from ns [] set.definitions ++ xs)
      (ap (all_from ns below) a.behind.parts
      ∙ (all-append ns below a.behind.front a.behind.back
      ∙ (ap (λ (xs : List NamedDefinition). xs ++ all_from ns (references ns below a.behind.front) a.behind.back) (sym front-defined)
      ∙ ap (λ (xs : List NamedDefinition). definitions_from ns below a.rows ++ xs) back-defined))))

  pub worlds-told : worlds r ≡ map meaning set.worlds ++ map meaning a.worlds
  worlds-told = ap (map meaning) a.worlds_are ∙ map-append meaning set.worlds a.worlds

  pub placed : are_placed_worlds r.definitions (length r.interfaces) (length set.worlds) a.worlds ≡ true
  placed =
      subst (λ (n : ℕ). are_placed_worlds r.definitions (length r.interfaces) n a.worlds ≡ true) (omega arith)
      (placed-behind r.definitions (length r.interfaces) 0 set.worlds a.worlds (subst (λ (ws : List World). are_placed_worlds r.definitions (length r.interfaces) 0 ws ≡ true) a.worlds_are r.worlds_placed))

  pub owners-told : world_owners r.definitions ≡ world_owners set.definitions ++ owners_by (length set.worlds) (map meaning a.worlds)
  owners-told =
      ap (flat_map row_world) a.rows_are
      ∙ (flat_map-append row_world set.definitions a.rows
      ∙ ap (λ (xs : List ℕ). world_owners set.definitions ++ xs)
      (placed-owners r.definitions set.definitions a.rows a.rows_are
      ∙ (ap (worlds_at r.definitions) a.items ∙ worlds-owned ns (trees r) r.definitions (length r.interfaces) (world_name r) (length set.worlds) a.worlds placed)))

  pub own-at : slice_get r.packages (length set.packages) ≡ Some own
  own-at = ap (λ (ps : List PackageParts). slice_get ps (length set.packages)) a.packages ∙ (ap (slice_get (set.packages ++ own ∷ [])) (omega arith) ∙ behind-get set.packages (own ∷ []) 0)

  pub fulls : interface_names r ≡ map (λ (x : Interface). full_name_in (slice_get r.packages x.«package».0) x.name) set.interfaces ++ map (own_name own) a.names
  fulls =
      let named : Interface → List ℕ = λ x. full_name_in (slice_get r.packages x.«package».0) x.name in
      let behind = interfaces_behind (length set.packages) (length set.interfaces) r.definitions a.names in
      ap (map named) a.interfaces_are
      ∙ (map-append named set.interfaces behind
      ∙ ap (λ (xs : List (List ℕ)). map named set.interfaces ++ xs) (named-behind r.packages own (length set.packages) (length set.interfaces) r.definitions a.names own-at))

  pub world-full : (w : World) → is_world_of (length set.packages) w ≡ true → world_name r w ≡ own_name own w.name
  world-full w q = ap (λ (o : Option PackageParts). full_name_in o w.name) (ap (slice_get r.packages) (eqb-true w.«package».0 (length set.packages) q) ∙ own-at)

-- ---- two tables

module _ (set : Resolve) (own : PackageParts) (r s : Resolve) (t : IsSetTable r) (u : IsSetTable s) (a : HasOwnBehind set own r) (b : HasOwnBehind set own s) (same : package_of r ≡ package_of s) where
  abbrev n : ℕ
  n = length set.packages

  packages-same : r.packages ≡ s.packages
  packages-same = a.packages ∙ sym b.packages

  names : interface_names r ≡ interface_names s
  names = ap (λ (q : Package). q.interfaces) same

  abbrev mean : Resolve → World → WorldMeaning
  mean x w = world_meaning (interface_names x) (trees x) x.definitions (world_name x w) w

  own-worlds : map (mean r) a.worlds ≡ map (mean s) b.worlds
  own-worlds =
      (append-same (map (mean r) set.worlds) (map (mean s) set.worlds) (map (mean r) a.worlds) (map (mean s) b.worlds) (length-map set.worlds (mean r) ∙ sym (length-map set.worlds (mean s)))
      (sym (worlds-told set own r t a) ∙ (ap (λ (q : Package). q.worlds) same ∙ worlds-told set own s u b))).1

  abbrev own_of : Resolve → List Definition → List (List ℕ) → List NamedDefinition
  own_of x rows ms = definitions_from ms (references ms [] set.definitions) rows

  own-definitions : own_of r a.rows (interface_names r) ≡ own_of s b.rows (interface_names s)
  own-definitions =
      append_cancel_left (definitions_from (interface_names r) [] set.definitions) _ _
      (sym (told-definitions set own r t a)
      ∙ (ap (λ (q : Package). q.definitions) same
      ∙ (told-definitions set own s u b ∙ ap (λ (ms : List (List ℕ)). definitions_from ms [] set.definitions ++ own_of s b.rows (interface_names s)) (sym names))))

  told-same : all_from (interface_names r) [] r.definitions ≡ all_from (interface_names r) [] s.definitions
  told-same =
      whole-told set own r t a
      ∙ (ap (λ (xs : List NamedDefinition). all_from (interface_names r) [] set.definitions ++ (xs ++ worlds_definitions (map (mean r) a.worlds))) own-definitions
      ∙ (ap (λ (ms : List WorldMeaning). all_from (interface_names r) [] set.definitions ++ (own_of s b.rows (interface_names s) ++ worlds_definitions ms)) own-worlds
      ∙ (ap (λ (ms : List (List ℕ)). all_from ms [] set.definitions ++ (own_of s b.rows (interface_names s) ++ worlds_definitions (map (mean s) b.worlds))) names
      ∙ (sym (whole-told set own s u b) ∙ ap (λ (ms : List (List ℕ)). all_from ms [] s.definitions) (sym names)))))

  owners-same : world_owners r.definitions ≡ world_owners s.definitions
  owners-same =
      owners-told set own r t a
      ∙ (ap (λ (ms : List WorldMeaning). world_owners set.definitions ++ owners_by (length set.worlds) ms) own-worlds ∙ sym (owners-told set own s u b))

  rows-same : r.definitions ≡ s.definitions
  rows-same =
      one-list (interface_names r) (names-apart r t.form t.labels) (names-filled r t.form t.labels) r.definitions s.definitions (sound r t.form t.labels)
      (subst (λ (ms : List (List ℕ)). IsSound ms s.definitions) (sym names) (sound s u.form u.labels)) a.postfix b.postfix told-same owners-same

  own-same : a.names ≡ b.names
  own-same =
      let front : List PackageParts → List (List ℕ) = λ ps. map (λ (x : Interface). full_name_in (slice_get ps x.«package».0) x.name) set.interfaces in
      let whole : front r.packages ++ map (own_name own) a.names ≡ front r.packages ++ map (own_name own) b.names =
      sym (fulls set own r t a) ∙ (names ∙ (fulls set own s u b ∙ ap (λ (ps : List PackageParts). front ps ++ map (own_name own) b.names) (sym packages-same))) in
      map-same (own_name own) (λ x y e. one-full-name own x y e) a.names b.names (append_cancel_left (front r.packages) (map (own_name own) a.names) (map (own_name own) b.names) whole)

  interfaces-same : r.interfaces ≡ s.interfaces
  interfaces-same =
      a.interfaces_are ∙ (ap (λ (ls : List (List ℕ)). set.interfaces ++ interfaces_behind n (length set.interfaces) r.definitions ls) own-same
      ∙ (ap (λ (ds : List Definition). set.interfaces ++ interfaces_behind n (length set.interfaces) ds b.names) rows-same ∙ sym b.interfaces_are))

  own-rows-same : a.rows ≡ b.rows
  own-rows-same = append_cancel_left set.definitions a.rows b.rows (sym a.rows_are ∙ (rows-same ∙ b.rows_are))

  worlds-one : a.worlds ≡ b.worlds
  worlds-one =
      worlds-same (interface_names r) (names-apart r t.form t.labels) (trees r) r.definitions (length r.interfaces) (counted r t.form t.labels) n own (world_name r) (world_name s)
      (world-full set own r t a) (world-full set own s u b) (length set.worlds) (length set.worlds) a.worlds b.worlds a.of_own b.of_own (placed set own r t a) placed-there meant [] []
      (append-nil (flat_map functions_of a.worlds) ∙ (sym a.items ∙ (ap (places_where is_world_function (length set.definitions)) own-rows-same ∙ (b.items ∙ sym (append-nil (flat_map functions_of b.worlds))))))
    where
      placed-there : are_placed_worlds r.definitions (length r.interfaces) (length set.worlds) b.worlds ≡ true
      placed-there =
          ap (λ (ds : List Definition). are_placed_worlds ds (length r.interfaces) (length set.worlds) b.worlds) rows-same
          ∙ (ap (λ (is : List Interface). are_placed_worlds s.definitions (length is) (length set.worlds) b.worlds) interfaces-same ∙ placed set own s u b)

      meant : map (λ w. world_meaning (interface_names r) (trees r) r.definitions (world_name r w) w) a.worlds ≡ map (λ w. world_meaning (interface_names r) (trees r) r.definitions (world_name s w) w) b.worlds
      meant =
          own-worlds
          ∙ (ap (λ (ms : List (List ℕ)). map (λ w. world_meaning ms (references ms [] s.definitions) s.definitions (world_name s w) w) b.worlds) (sym names)
          ∙ ap (λ (ds : List Definition). map (λ w. world_meaning (interface_names r) (references (interface_names r) [] ds) ds (world_name s w) w) b.worlds) (sym rows-same))

  one-table : IsSamePackage r s
  one-table = record {
    packages = packages-same;
    interfaces = interfaces-same;
    worlds = a.worlds_are ∙ (ap (λ (ws : List World). set.worlds ++ ws) worlds-one ∙ sym b.worlds_are);
    definitions = rows-same;
  }

pub names-determine : (set : Resolve) (own : PackageParts) (r s : Resolve) → NamesDetermine set own r s
names-determine set own r s t u a b same = one-table set own r s t u a b same
