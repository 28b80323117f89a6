-- Where a tree without faults resolves to a package, each cause of a refusal is absurd; only memory can be wanting.
use Rattle.std.proofs.Common.{◌≡◌, ◌≤◌, inl, inr, ℕ, List, [], ◌∷◌, ◌++◌, length, map, get_or, refl, sym, ap, subst, ◌∙◌, arith, Result, Ok, Err, IfOk, IfErr}
use Rattle.std.specs.Prelude.{Option, None, Some, true, sum, All, Contains}
use Rattle.std.proofs.lemmas.Bool.{false≢true}
use Rattle.std.proofs.lemmas.List.Elements.{All-contains}
use Rattle.wit_tokens.specs.Syntax.{File}
use Rattle.tables.specs.Tables.{are_standard}
use Rattle.tables.specs.PackageNames.{PackageParts, own_name}
use Rattle.tables.specs.Names.{full_name, world_name}
use Rattle.tables.specs.declared.tables.Interface.{Interface}
use Rattle.tables.specs.Package.{Package, package_of, references, trees as trees_in, interface_names as names_in}
use Rattle.tables.specs.declared.tables.Resolve.{Resolve}
use Rattle.tables.specs.declared.error.ResolveError.{ResolveError}
use Rattle.tables.specs.declared.error.ResolveError.TheVariants as error
use Rattle.package_form.specs.Scope.{AreDistinct}
use Rattle.placement.specs.Order.{IsPlacement}
use Rattle.package_form.specs.Postfix.{IsPostfix}
use Rattle.tree_meaning.specs.Declarations.{UsedItem, InterfaceTree, ItemTree, InterfaceNamed, ForeignNamed, FunctionOf, other_packages, interfaces, file_worlds, package_named, full_interface, full_interfaces, full_worlds, interface_at, names_of_trees, interface_tree_name, type_names, named_definition, names_in_function}
use Rattle.tree_meaning.specs.Scopes.{scopes}
use Rattle.tree_meaning.specs.Imports.{Import, Imports, no_import, import_at, AreApart, interfaces_of, imports_of}
use Rattle.tree_meaning.specs.Resolves.{IsTooLargeBehind, ResolvesBehind, full_names, package_behind, with_names, interface_uses, type_uses, PassesLimit, HasDuplicate, HasDistinctNames, LacksPackage, KnowsPackagesOf, IsKnownIn, IsKnownUseOf, IsLackingIn, IsUnknownUse, IsUnknownIn, HasUnknown, HasKnownNamesOf, IsKnownItemOf, IsKnownWorldOf, IsUnknownItem, HasCycle, HasWorldsBehind, HasItems, file_fits, IsClosedPackageOf, HasNoFaultsOf, ResolveRefusesOf, AnswersOnlyBehind}
use Rattle.package_form.specs.Entries.{world_entries, Table, table_of, entries_of, type_entries}
use Rattle.tree_meaning.proofs.tree_forms.FinishedTrees.{distinct-interfaces}
use Rattle.package_form.proofs.NamesStandForOneRow.{same-place}
use Rattle.package_form.proofs.AllAndContains.{contains-here, contains-map, contains-right}
use Rattle.std.proofs.lemmas.List.{get_or-map, length-map, length-append, get_or_default}
use Rattle.tree_meaning.proofs.PlacementsHaveNoCycle.{no-cycle, one-behind}
use Rattle.tree_meaning.proofs.InterfacesUnderFullNames.{interface-full, uses-full}
use Rattle.tree_meaning.proofs.tree_forms.TypeEntriesByName.{entries, entries-by-name}
use Rattle.tree_meaning.proofs.TableRows.{IsTyped}
use Rattle.tree_meaning.proofs.tree_forms.WeightsByName.{sizes}
use Rattle.tree_meaning.proofs.tree_forms.StandardRows.{standard-by-name}
use Rattle.tree_meaning.proofs.AllDefinitions.{all_from}
use Rattle.tree_meaning.proofs.TypedRows.{earlier-typed}
use Rattle.tree_meaning.proofs.WorldMeanings.{worlds_definitions, world_size, all-told, functions-there, worlds-sized}

-- a name that stands twice
no-duplicate : (f : File) (n : List ℕ) → HasDistinctNames f → HasDuplicate f n → ⊥
no-duplicate f n d x =
    let k = x.2 in
    (All-contains AreDistinct (scopes f) x.0 d x.1).each k.0 k.1 k.3

-- a package that isn't there
no-lack : (m : Imports) (f : File) (p : PackageParts) → KnowsPackagesOf m f → LacksPackage m f p → ⊥
no-lack m f p known x =
    let named = subst (λ ps. Contains ps p) (sym x.are) (contains-right x.before (p ∷ x.after) p (contains-here p x.after)) in
    x.lacks (All-contains (Contains m.packages) (other_packages f) p known named)

-- ---- a name that stands for nothing

-- interfaces of one name are one
one-interface : (is : List InterfaceTree) (i j : InterfaceTree) → AreDistinct (names_of_trees is) → Contains is i → Contains is j → i.name ≡ j.name → i ≡ j
one-interface is i j d a b e =
    let counted : length (names_of_trees is) ≡ length is = length-map is interface_tree_name in
    let x : get_or (names_of_trees is) a.0 [] ≡ i.name = get_or-map interface_tree_name is a.0 i [] a.1 ∙ ap interface_tree_name a.2 in
    let y : get_or (names_of_trees is) b.0 [] ≡ j.name = get_or-map interface_tree_name is b.0 j [] b.1 ∙ ap interface_tree_name b.2 in
    let k : a.0 ≡ b.0 = same-place (names_of_trees is) a.0 b.0 d (omega (arith, counted, a.1)) (omega (arith, counted, b.1)) (x ∙ (e ∙ sym y)) in
    sym a.2 ∙ (get_or_default is a.0 i j a.1 ∙ (ap (λ n. get_or is n j) k ∙ b.2))

-- .. and so are imports
one-import : (ks : List Import) → AreApart ks → (j k : Import) → Contains ks j → Contains ks k → j.«package» ≡ k.«package» → j.name ≡ k.name → j ≡ k
one-import ks apart j k a b e f =
    let x : import_at ks a.0 ≡ j = get_or_default ks a.0 no_import j a.1 ∙ a.2 in
    let y : import_at ks b.0 ≡ k = get_or_default ks b.0 no_import k b.1 ∙ b.2 in
    let same = apart.each a.0 b.0 a.1 b.1 (ap (λ (i : Import). i.«package») x ∙ e ∙ sym (ap (λ (i : Import). i.«package») y)) (ap (λ (i : Import). i.name) x ∙ f ∙ sym (ap (λ (i : Import). i.name) y)) in
    sym x ∙ ap (import_at ks) same ∙ y

module _ (m : Imports) (apart : AreApart m.interfaces) where
  no-unknown-use : (is : List InterfaceTree) (u : UsedItem) (n : List ℕ) → AreDistinct (names_of_trees is) → IsKnownUseOf m is u → IsUnknownUse m is u n → ⊥
  no-unknown-use is u n d h y = by u.«package» h y
    where
      by : (o : Option PackageParts) → IsKnownIn m is o u.interface u.name → IsLackingIn m is o u.interface u.name n → ⊥
      by None (j, c, e, has) (inl x) = x.1 (subst (Contains (names_of_trees is)) (e ∙ sym x.0) (contains-map interface_tree_name is j c))
      by None (j, c, e, has) (inr (same, x)) =
          x.3 (subst (λ i. Contains (type_names i) n) (one-interface is j x.0 d c x.1 (e ∙ sym x.2)) (subst (Contains (type_names j)) (sym same) has))
      by (Some q) k (inl x) = x.1 (k.0, k.1, k.2, k.3 ∙ sym x.0)
      by (Some q) k (inr (same, x)) =
          x.4 (subst (λ (i : Import). Contains i.types n) (one-import m.interfaces apart k.0 x.0 k.1 x.1 (k.2 ∙ sym x.2) (k.3 ∙ sym x.3)) (subst (Contains k.0.types) (sym same) k.4))

  no-unknown-in : (f : File) (n : List ℕ) → HasNoFaultsOf m f → (i : InterfaceTree) → Contains (interfaces f) i → IsUnknownIn m (interfaces f) i n → ⊥
  no-unknown-in f n h i c x = by x
    where
      known : HasKnownNamesOf m (interfaces f) i
      known = All-contains (HasKnownNamesOf m (interfaces f)) (interfaces f) i h.known.in_interfaces c

      distinct : AreDistinct (names_of_trees (interfaces f))
      distinct = distinct-interfaces f h

      by : IsUnknownIn m (interfaces f) i n → ⊥
      by (inl (u, b, y)) = no-unknown-use (interfaces f) u n distinct (All-contains (IsKnownUseOf m (interfaces f)) i.uses u known.uses b) y
      by (inr (inl (t, b, y))) =
          y.1 (All-contains (Contains (type_names i)) (named_definition t.definition) n (All-contains (λ t. All (Contains (type_names i)) (named_definition t.definition)) i.types t known.types b) y.0)
      by (inr (inr (g, b, y))) =
          y.1 (All-contains (Contains (type_names i)) (names_in_function g.function) n (All-contains (λ g. All (Contains (type_names i)) (names_in_function g.function)) i.functions g known.functions b) y.0)

  no-unknown-item : (names : List (List ℕ)) (i : ItemTree) (n : List ℕ) → IsKnownItemOf m names i → IsUnknownItem m names i n → ⊥
  no-unknown-item names (InterfaceNamed way j) n known x = x.1 (subst (Contains names) (sym x.0) known)
  no-unknown-item names (ForeignNamed way q j) n known x = x.1 (known.0, known.1, known.2, known.3 ∙ sym x.0)
  no-unknown-item names (FunctionOf way g) n known x =
      let c = subst (λ (ns : List (List ℕ)). Contains ns n) known x in
      absurd (omega (arith, c.1))

  no-unknown : (f : File) (n : List ℕ) → HasNoFaultsOf m f → HasUnknown m f n → ⊥
  no-unknown f n h (inl (i, c, x)) = no-unknown-in f n h i c x
  no-unknown f n h (inr (w, c, (i, d, x))) =
      let names = names_of_trees (interfaces f) in
      let known = All-contains (IsKnownWorldOf m names) (file_worlds f) w h.known.in_worlds c in
      no-unknown-item names i n (All-contains (IsKnownItemOf m names) w.items i known d) x

-- ---- cycles

no-cycle-in : (before : Package) (f : File) (p : Package) → ResolvesBehind before (full_interfaces f) (full_worlds f) p → HasCycle f → ⊥
no-cycle-in before f p r (inl c) =
    no-cycle (interface_uses (interfaces f)) r.order (subst (λ (us : List (List ℕ)). IsPlacement us r.order) (uses-full (package_named f) (interfaces f)) r.placed) c.0 c.1
no-cycle-in before f p r (inr (i, b, c)) =
    let here : interface_at (interfaces f) b.0 ≡ i = get_or_default (interfaces f) b.0 _ i b.1 ∙ b.2 in
    let full = interface-full (package_named f) (interfaces f) b.0 b.1 ∙ ap (full_interface (package_named f)) here in
    let placed = r.types_placed b.0 (omega (arith, b.1, length-map (interfaces f) (full_interface (package_named f)))) in
    no-cycle (type_uses i) (r.types b.0) (subst (λ (j : InterfaceTree). IsPlacement (type_uses j) (r.types b.0)) full placed) c.0 c.1

-- ---- limits

-- Two tables of one package, whose rows name earlier types and stand in postfix order: both pass a limit or none does. `ns` and `ms` are
-- the full names of their interfaces.
same-limits : (t u : Table) (ns ms : List (List ℕ)) → length ns ≡ length t.interfaces → length ms ≡ length u.interfaces → ns ≡ ms
    → sum (map world_entries t.worlds) ≡ sum (map world_entries u.worlds) → all_from ns [] t.rows ≡ all_from ms [] u.rows
    → IsTyped t.rows → IsPostfix t.rows → IsTyped u.rows → IsPostfix u.rows → type_entries t ≤ 65535 → are_standard t.rows ≡ true → PassesLimit u → ⊥
same-limits t u ns ms long_t long_u names file_worlds meant a p b q within standard passes = by passes
  where
    by : PassesLimit u → ⊥
    by (inl l) =
        let x = entries-by-name ns t.rows (λ f d r z. a f d r z) p in
        let y = entries-by-name ms u.rows (λ f d r z. b f d r z) q in
        let sums : sum (map entries_of t.rows) ≡ sum (map entries_of u.rows) = x ∙ (ap (sizes entries) meant ∙ sym y) in
        let counts = ap length names in
        omega (arith, within, l, sums, counts, long_t, long_u, file_worlds)
    by (inr h) = false≢true (sym h ∙ standard-by-name ns ms t.rows u.rows a p b q meant standard)

-- what a table tells of its tree, behind imports or without any
pub record IsTold (before : Package) (f : File) (r : Resolve) : Type 0 where
  pub resolves : ResolvesBehind before (full_interfaces f) (full_worlds f) (package_of r)
  pub postfix : IsPostfix r.definitions
  pub behind : HasWorldsBehind r.definitions
  pub items : HasItems r.definitions r.worlds
  pub within : type_entries (table_of r) ≤ 65535

not-too-large : (before : Package) (f : File) (r : Resolve) → IsTold before f r → IsTooLargeBehind before f → ⊥
not-too-large before f r h x =
    let n = package_named f in
    let t = x.table in
    let ns = before.interfaces ++ full_names n t in
    let same = one-behind before (full_interfaces f) (full_worlds f) (package_of r) (package_behind before.interfaces n t) h.resolves x.resolves in
    let typed = earlier-typed r.definitions r.earlier r.typed in
    let typed_too = earlier-typed t.rows x.earlier x.typed in
    let first = all-told (names_in r) r.definitions typed r.earlier r.typed (world_name r) r.worlds h.behind h.items in
    let second = all-told ns t.rows typed_too x.earlier x.typed (λ w. own_name n w.name) t.worlds x.behind x.items in
    let meant = first ∙ ap (λ (p : Package). p.definitions ++ worlds_definitions p.worlds) same ∙ sym second in
    let sized = worlds-sized (names_in r) (trees_in r) r.definitions (world_name r) r.worlds (functions-there r.definitions r.worlds h.items) in
    let sized_too = worlds-sized ns (references ns [] t.rows) t.rows (λ w. own_name n w.name) t.worlds (functions-there t.rows t.worlds x.items) in
    let entries_same = sized ∙ ap (λ (p : Package). sum (map world_size p.worlds)) same ∙ sym sized_too in
    let long : length ns ≡ length (before.interfaces ++ t.interfaces) =
    omega (arith, length-append before.interfaces (full_names n t), length-append before.interfaces t.interfaces, length-map t.interfaces (own_name n)) in
    same-limits (table_of r) (with_names before.interfaces t) (names_in r) ns (length-map r.interfaces (full_name r) ∙ sym (length-map r.interfaces (λ (i : Interface). i.name))) long
    (ap (λ (p : Package). p.interfaces) same) entries_same meant typed h.postfix typed_too x.postfix h.within r.standard x.passes

-- ---- no refusal but for memory

-- Where a tree has a package, the only refusal is for memory.
module _ (m : Imports) (apart : AreApart m.interfaces) (f : File) (r : Resolve) (faults : HasNoFaultsOf m f) (fits : file_fits f ≡ true) (told : IsTold m.meaning f r) where
  only-memory : (e : ResolveError) → ResolveRefusesOf m f e → e ≡ error.NoMemory
  only-memory error.EmptyPackage x = absurd (faults.some x)
  only-memory error.NotThisShape x = absurd x
  only-memory (error.Duplicate n) x = absurd (no-duplicate f n faults.distinct x.1)
  only-memory (error.NoPackage p) x = absurd (no-lack m f p faults.packages x.2)
  only-memory (error.Unknown n) x = absurd (no-unknown m apart f n faults x.3)
  only-memory error.Cycle x = absurd (no-cycle-in m.meaning f (package_of r) told.resolves x.1)
  only-memory error.Limit (inl x) = absurd (false≢true (sym x.1 ∙ fits))
  only-memory error.Limit (inr x) = absurd (not-too-large m.meaning f r told x.1)
  only-memory error.NoMemory x = refl
  only-memory (error.SamePackage p) x = absurd x
  only-memory error.SetLimit x = absurd x

closed-told : (imports : Resolve) (f : File) (r : Resolve) → IsClosedPackageOf imports f r → IsTold (package_of imports) f r
closed-told imports f r h = record { resolves = h.resolves; postfix = h.postfix; behind = h.behind; items = h.items; within = h.within }

-- .. and closed tables of one tree behind one table of imports are one
pub answers-behind : (imports : Resolve) (f : File) (answer : Result Resolve ResolveError) → AreApart (interfaces_of imports) → IfOk answer (IsClosedPackageOf imports f)
    → IfErr answer (ResolveRefusesOf (imports_of imports) f) → AnswersOnlyBehind imports f answer
answers-behind imports f (Ok p) apart ok err = λ r h. one-behind (package_of imports) (full_interfaces f) (full_worlds f) (package_of p) (package_of r) ok.resolves h.resolved.resolves
answers-behind imports f (Err e) apart ok err = λ r h. only-memory (imports_of imports) apart f r h.faults h.fits (closed-told imports f r h.resolved) e err
