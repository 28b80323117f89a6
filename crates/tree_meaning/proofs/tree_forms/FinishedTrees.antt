-- The table of a tree is its package; where it isn't, a fault is told.
use Rattle.std.proofs.Common.{◌≡◌, ◌≢◌, ◌⊎◌, true, ◌==◌, ◌&&◌, nat_le, nat_lt, IsTrue, inl, inr, ℕ, ◌+◌, ◌<◌, ◌≤◌, List, [], ◌∷◌, ◌++◌, Option, map, length, slice_get, refl, ap, sym, ◌∙◌, subst, arith}
use Rattle.std.specs.List.{filter_map, list_all}
use Rattle.std.proofs.lemmas.List.{length-map, length-append, map-append}
use Rattle.std.proofs.lemmas.Bool.{eqb-true, ltb-true}
use Rattle.tables.specs.PackageNames.{PackageParts, own_name}
use Rattle.tables.specs.Names.{full_name, full_name_in, world_name}
use Rattle.wit_tokens.specs.Syntax.{FileEntry, AnInterface, AWorld, File}
use Rattle.package_form.specs.Scope.{AreDistinct}
use Rattle.tables.specs.Package.{Package, WorldMeaning, worlds as worlds_in, trees, world_meaning, references, package_of, interface_names as names_in, definitions_from}
use Rattle.tree_meaning.specs.Declarations.{InterfaceTree, interface_of, other_packages, interfaces, file_worlds, package_named, full_interfaces, full_worlds, interface_tree_name, names_of_trees}
use Rattle.tree_meaning.specs.Scopes.{file_name, scopes}
use Rattle.package_form.specs.Distinct.{RefusesScopes}
use Rattle.package_form.specs.Entries.{Table, table_of, labels_of, type_entries}
use Rattle.tree_meaning.specs.Imports.{Imports, imports_of}
use Rattle.tree_meaning.specs.Resolves.{ResolvesBehind, package_behind, with_names, HasWorldsBehind, HasItems, PassesLimit, HasEntries, HasNoFaultsOf, HasDistinctNames, KnowsPackagesOf, interfaces_behind, IsClosedPackageOf, ResolveRefusesOf}
use Rattle.tree_meaning.specs.Finished.{IsFinished}
use Rattle.tree_meaning.specs.Knowing.{RefusesPackage, RefusesUnknown}
use Rattle.package_form.specs.Postfix.{IsPostfix}
use Rattle.tables.specs.declared.error.ResolveError.{ResolveError}
use Rattle.tables.specs.declared.error.ResolveError.TheVariants as error
use Rattle.tables.specs.declared.tables.Interface.{Interface}
use Rattle.tables.specs.declared.tables.Definition.{Definition}
use Rattle.tables.specs.declared.tables.Resolve.{Resolve}
use Rattle.package_form.proofs.AllAndContains.{all-head, get-front}
use Rattle.tree_meaning.proofs.NamesOfScopeAreApart.{AreOthers, AreApart, apart-distinct, are-apart}
use Rattle.tree_meaning.proofs.ReferencesOfDefinitions.{Every}
use Rattle.tree_meaning.proofs.TableRows.{behind-length}
use Rattle.tree_meaning.proofs.MoreRowsReadTheSame.{get-end}
use Rattle.tables.proofs.ClosedTypesRowByRow.{split, both}
use Rattle.tables.specs.Tables.{are_earlier, name_types, are_grouped}
use Rattle.tree_meaning.specs.WorldRows.{world_stands, worlds_stand}
use Rattle.tables.specs.declared.tables.World.{World}
use Rattle.tree_meaning.proofs.PackageOfAFile.{own_table}
use Rattle.package_form.specs.Closed.{is_world_of}

-- ---- names of a file

-- the names of interfaces are some of the names of the file
names-among : (P : List ℕ → Type 0) (es : List FileEntry) → Every P (map file_name es) → Every P (map interface_tree_name (filter_map interface_of es))
names-among P [] h = tt
names-among P (AnInterface n xs ∷ es) h = (h.0, names-among P es h.1)
names-among P (AWorld at n ws ∷ es) h = names-among P es h.1

interfaces-apart : (es : List FileEntry) → AreApart (map file_name es) → AreApart (map interface_tree_name (filter_map interface_of es))
interfaces-apart [] h = tt
interfaces-apart (AnInterface n xs ∷ es) h = (names-among (AreOthers n) es h.0, interfaces-apart es h.1)
interfaces-apart (AWorld at n ws ∷ es) h = interfaces-apart es h.1

pub distinct-interfaces : {m : Imports} (f : File) → HasNoFaultsOf m f → AreDistinct (names_of_trees (interfaces f))
distinct-interfaces f h =
    apart-distinct (names_of_trees (interfaces f)) (interfaces-apart f.entries (are-apart (map file_name f.entries) (all-head AreDistinct _ _ h.distinct)))

pub has-entries : {A B : Type 0} (g : A → B) (xs : List A) → 0 < length xs → map g xs ≢ []
has-entries g [] l e = absurd (omega (arith, l))
has-entries g (x ∷ xs) l e = absurd (cc)

pub refuses-duplicate : (m : Imports) (f : File) (e : ResolveError) → HasEntries f → RefusesScopes (scopes f) e → ResolveRefusesOf m f e
refuses-duplicate m f (error.Duplicate n) some h = (some, h)
refuses-duplicate m f error.NoMemory some h = tt
refuses-duplicate m f _ some h = absurd h

pub refuses-package : (m : Imports) (f : File) (e : ResolveError) → HasEntries f → HasDistinctNames f → RefusesPackage m.packages (other_packages f) e → ResolveRefusesOf m f e
refuses-package m f (error.NoPackage p) some distinct h = (some, distinct, h)
refuses-package m f error.NoMemory some distinct h = tt
refuses-package m f _ some distinct h = absurd h

pub refuses-unknown : (m : Imports) (f : File) (is : List InterfaceTree) (e : ResolveError) → is ≡ interfaces f → HasEntries f → HasDistinctNames f → KnowsPackagesOf m f → RefusesUnknown m is (file_worlds f) e
    → ResolveRefusesOf m f e
refuses-unknown m f is (error.Unknown n) same some distinct there h = (some, distinct, there, subst (λ ts. RefusesUnknown m ts (file_worlds f) (error.Unknown n)) same h)
refuses-unknown m f is error.NoMemory same some distinct there h = tt
refuses-unknown m f is _ same some distinct there h = absurd h

-- What is made of the tables of a file behind its imports: its interfaces, and behind them its worlds.
pub record IsTableOf (before : Package) (f : File) (t : Table) : Type 0 where
  pub resolves : ResolvesBehind before (full_interfaces f) (full_worlds f) (package_behind before.interfaces (package_named f) t)
  pub postfix : IsPostfix t.rows
  pub behind : HasWorldsBehind t.rows
  pub items : HasItems t.rows t.worlds
  pub earlier : IsTrue (are_earlier 0 t.rows)
  pub typed : IsTrue (name_types t.rows)

pub refuses-limit : (m : Imports) (f : File) (t : Table) (e : ResolveError) → IsTableOf m.meaning f t → HasNoFaultsOf m f → (e ≡ error.NoMemory) ⊎ ((e ≡ error.Limit) × PassesLimit (with_names m.meaning.interfaces t))
    → ResolveRefusesOf m f e
refuses-limit m f t e h faults (inl q) = subst (ResolveRefusesOf m f) (sym q) tt
refuses-limit m f t e h faults (inr q) = subst (ResolveRefusesOf m f) (sym q.0) (inr (
  faults,
  record { table = t; resolves = h.resolves; postfix = h.postfix; behind = h.behind; items = h.items; earlier = h.earlier; typed = h.typed; passes = q.1 },
))

front-named : (ps : List PackageParts) (p : PackageParts) (first : ℕ) (is : List Interface) → are_grouped (length ps) first is ≡ true
    → map (λ (x : Interface). full_name_in (slice_get (ps ++ p ∷ []) x.«package».0) x.name) is ≡ map (λ (x : Interface). full_name_in (slice_get ps x.«package».0) x.name) is
front-named ps p first [] h = refl
front-named ps p first (i ∷ is) h =
    let s = split (nat_le first i.«package».0 && nat_lt i.«package».0 (length ps)) (are_grouped (length ps) i.«package».0 is) h in
    let l = ltb-true i.«package».0 (length ps) (split (nat_le first i.«package».0) (nat_lt i.«package».0 (length ps)) s.0).1 in
    ap (λ (o : Option PackageParts). full_name_in o i.name ∷ map (λ (x : Interface). full_name_in (slice_get (ps ++ p ∷ []) x.«package».0) x.name) is) (get-front ps (p ∷ []) i.«package».0 l)
    ∙ ap (λ (ns : List (List ℕ)). full_name_in (slice_get ps i.«package».0) i.name ∷ ns) (front-named ps p i.«package».0 is s.1)

own-named : (ps : List PackageParts) (p : PackageParts) (rows : List Definition) (i : ℕ) (ns : List (List ℕ))
    → map (λ (x : Interface). full_name_in (slice_get (ps ++ p ∷ []) x.«package».0) x.name) (interfaces_behind (length ps) i rows ns) ≡ map (own_name p) ns
own-named ps p rows i [] = refl
own-named ps p rows i (n ∷ ns) =
    ap (λ (o : Option PackageParts). full_name_in o n ∷ map (λ (x : Interface). full_name_in (slice_get (ps ++ p ∷ []) x.«package».0) x.name) (interfaces_behind (length ps) (i + 1) rows ns)) (get-end ps p (length ps) refl)
    ∙ ap (λ (ms : List (List ℕ)). own_name p n ∷ ms) (own-named ps p rows (i + 1) ns)

-- the full names of imports, and behind them those of the own interfaces
pub names-behind : (imports r : Resolve) (p : PackageParts) (rows : List Definition) (names : List (List ℕ)) → r.packages ≡ imports.packages ++ p ∷ []
    → r.interfaces ≡ imports.interfaces ++ interfaces_behind (length imports.packages) (length imports.interfaces) rows names → names_in r ≡ names_in imports ++ map (own_name p) names
names-behind imports r p rows names packages interfaces =
    let ps = imports.packages in
    let named : List PackageParts → Interface → List ℕ = λ qs x. full_name_in (slice_get qs x.«package».0) x.name in
    let behind = interfaces_behind (length ps) (length imports.interfaces) rows names in
    ap (λ (qs : List PackageParts). map (named qs) r.interfaces) packages
    ∙ ap (map (named (ps ++ p ∷ []))) interfaces
    ∙ map-append (named (ps ++ p ∷ [])) imports.interfaces behind
    ∙ ap (λ (ns : List (List ℕ)). ns ++ map (named (ps ++ p ∷ [])) behind) (front-named ps p 0 imports.interfaces imports.grouped)
    ∙ ap (λ (ns : List (List ℕ)). names_in imports ++ ns) (own-named ps p rows (length imports.interfaces) names)

module _ (imports : Resolve) (p : PackageParts) (names : List (List ℕ)) (t : Table) (r : Resolve) (f : IsFinished imports p names t r) where
  abbrev own : Table
  own = own_table names t t.worlds

  abbrev fulls_in : List (List ℕ)
  fulls_in = names_in imports ++ map (own_name p) names

  names-same : names_in r ≡ fulls_in
  names-same = names-behind imports r p t.rows names f.packages f.interfaces

  -- all worlds are of the last package
  worlds-named : (k : ℕ) (ws : List World) → worlds_stand (length imports.packages) t k ws ≡ true
      → map (λ w. world_meaning fulls_in (references fulls_in [] t.rows) t.rows (full_name_in (slice_get (imports.packages ++ p ∷ []) w.«package».0) w.name) w) ws
      ≡ map (λ w. world_meaning fulls_in (references fulls_in [] t.rows) t.rows (own_name p w.name) w) ws
  worlds-named k [] h = refl
  worlds-named k (w ∷ ws) h =
      let n = length imports.packages in
      let s = split (world_stands n t k w) (worlds_stand n t (k + 1) ws) h in
      let last : w.«package».0 ≡ n = eqb-true w.«package».0 n (split (w.«package».0 == n) _ s.0).0 in
      let here : List ℕ → WorldMeaning = λ m. world_meaning fulls_in (references fulls_in [] t.rows) t.rows m w in
      ap (λ (o : Option PackageParts). here (full_name_in o w.name)
      ∷ map (λ x. world_meaning fulls_in (references fulls_in [] t.rows) t.rows (full_name_in (slice_get (imports.packages ++ p ∷ []) x.«package».0) x.name) x) ws) (get-end imports.packages p w.«package».0 last)
      ∙ ap (λ (ms : List WorldMeaning). here (own_name p w.name) ∷ ms) (worlds-named (k + 1) ws s.1)

  worlds-last : (k : ℕ) (ws : List World) → worlds_stand (length imports.packages) t k ws ≡ true → list_all (is_world_of (length imports.packages)) ws ≡ true
  worlds-last k [] h = refl
  worlds-last k (w ∷ ws) h =
      let n = length imports.packages in
      let s = split (world_stands n t k w) (worlds_stand n t (k + 1) ws) h in
      both (is_world_of n w) (list_all (is_world_of n) ws) (split (w.«package».0 == n) _ s.0).0 (worlds-last (k + 1) ws s.1)

  package-same : worlds_stand (length imports.packages) t 0 t.worlds ≡ true → package_of r ≡ package_behind (names_in imports) p own
  package-same stand =
      let file_worlds : worlds_in r ≡ (package_behind (names_in imports) p own).worlds =
      ap (λ (ws : List World). map (λ w. world_meaning (names_in r) (trees r) r.definitions (world_name r w) w) ws) f.worlds
      ∙ ap (λ (ps : List PackageParts). map (λ w. world_meaning (names_in r) (trees r) r.definitions (full_name_in (slice_get ps w.«package».0) w.name) w) t.worlds) f.packages
      ∙ ap (λ (ns : List (List ℕ)). map (λ w. world_meaning ns (references ns [] r.definitions) r.definitions (full_name_in (slice_get (imports.packages ++ p ∷ []) w.«package».0) w.name) w) t.worlds) names-same
      ∙ ap (λ (ds : List Definition). map (λ w. world_meaning fulls_in (references fulls_in [] ds) ds (full_name_in (slice_get (imports.packages ++ p ∷ []) w.«package».0) w.name) w) t.worlds) f.definitions
      ∙ worlds-named 0 t.worlds stand in
      let definitions : (package_of r).definitions ≡ (package_behind (names_in imports) p own).definitions =
      ap (λ (ns : List (List ℕ)). definitions_from ns [] r.definitions) names-same ∙ ap (definitions_from fulls_in []) f.definitions in
      ap (λ (ns : List (List ℕ)). record { interfaces = ns; worlds = worlds_in r; definitions = (package_of r).definitions }) names-same
      ∙ ap (λ (ws : List WorldMeaning). record { interfaces = fulls_in; worlds = ws; definitions = (package_of r).definitions }) file_worlds
      ∙ ap (λ ds. record { interfaces = fulls_in; worlds = (package_behind (names_in imports) p own).worlds; definitions = ds }) definitions

  entries-same : t.interfaces ≡ names_in imports ++ names → type_entries (table_of r) ≤ 65535
  entries-same is =
      let counted : length (labels_of r.interfaces) ≡ length t.interfaces =
      omega (
        arith,
        length-map r.interfaces (λ (x : Interface). x.name),
        ap length f.interfaces,
        length-append imports.interfaces (interfaces_behind (length imports.packages) (length imports.interfaces) t.rows names),
        behind-length (length imports.packages) (length imports.interfaces) t.rows names,
        ap length is,
        length-append (names_in imports) names,
        length-map imports.interfaces (full_name imports),
      ) in
      rw (counted, f.worlds, f.definitions) f.within

  pub is-package : (g : File) → KnowsPackagesOf (imports_of imports) g → p ≡ package_named g → t.interfaces ≡ names_in imports ++ names → (own : List Definition) × (t.rows ≡ imports.definitions ++ own)
      → IsTableOf (package_of imports) g own → worlds_stand (length imports.packages) t 0 t.worlds ≡ true → IsClosedPackageOf imports g r
  is-package g earlier named is rows m stand = record {
    earlier = earlier;
    packages = f.packages ∙ ap (λ (q : PackageParts). imports.packages ++ q ∷ []) named;
    resolves = subst (ResolvesBehind (package_of imports) (full_interfaces g) (full_worlds g)) (ap (λ (q : PackageParts). package_behind (names_in imports) q own) (sym named) ∙ sym (package-same stand)) m.resolves;
    postfix = subst IsPostfix (sym f.definitions) m.postfix;
    behind = subst HasWorldsBehind (sym f.definitions) m.behind;
    items = subst (λ (ds : List Definition). HasItems ds r.worlds) (sym f.definitions) (subst (HasItems t.rows) (sym f.worlds) m.items);
    rows = (rows.0, f.definitions ∙ rows.1);
    own = (names, f.interfaces ∙ ap (λ (ds : List Definition). imports.interfaces ++ interfaces_behind (length imports.packages) (length imports.interfaces) ds names) (sym f.definitions));
    worlds = ap (list_all (is_world_of (length imports.packages))) f.worlds ∙ worlds-last 0 t.worlds stand;
    within = entries-same is;
  }
