-- The table of a package behind imports that are reached is closed.
use Rattle.std.proofs.Common.{◌≡◌, ◌≢◌, ◌⊎◌, ℕ, zero, suc, ◌+◌, ◌<◌, ◌≤◌, Bool, true, false, not, ◌==◌, ◌&&◌, ◌||◌, nat_le, IsTrue, List, [], ◌∷◌, ◌++◌, map, filter_map, flat_map, length, refl, ap, sym, ◌∙◌, subst, arith, Contains, inl, inr, Option, append_assoc}
use Rattle.std.specs.List.{list_all, list_any}
use Rattle.std.proofs.lemmas.Bool.{leb-true, le-leb}
use Rattle.std.proofs.lemmas.List.{length-map, length-append, get_or_default}
use Rattle.std.proofs.lemmas.List.Folds.{list_any-append}
use Rattle.wit_tokens.specs.Syntax.{FileEntry, AnInterface, AWorld, File}
use Rattle.tables.specs.PackageNames.{PackageParts, own_name}
use Rattle.tables.specs.Names.{full_name_in, world_name}
use Rattle.tables.specs.Package.{NamedDefinition, WorldMeaning, references, interface_names as names_in, trees as trees_in, world_meaning as meaning_in, WithInterface, Tree}
use Rattle.tables.specs.declared.tables.Definition.{Definition}
use Rattle.tables.specs.declared.tables.Interface.{Interface}
use Rattle.tables.specs.declared.tables.World.{World}
use Rattle.tables.specs.declared.tables.Resolve.{Resolve}
use Rattle.tables.proofs.ClosedTypesRowByRow.{split, both}
use Rattle.package_form.specs.Closed.{own_package, has_own, is_same_package, are_apart, are_of_a_set, has_each_package, is_world_of, is_closed_table, is_closed}
use Rattle.package_form.specs.Reached.{reached_by_row, reached_by_world, reached, is_among, is_interface_of, are_reached}
use Rattle.package_form.proofs.AllAndContains.{contains-here, contains-left, contains-right, contains-map, contains-flat}
use Rattle.package_form.proofs.FullNamesStandForInterfaces.{package-is}
use Rattle.placement.specs.Order.{IsPlacement}
use Rattle.tree_meaning.specs.Declarations.{UsedItem, InterfaceTree, ForeignNamed, interfaces, file_worlds, interface_of, world_of, full_use, full_item, full_interface, full_world, full_worlds, full_label, interface_at, no_interface, names_of_trees, use_interface, package_named}
use Rattle.tree_meaning.specs.Resolved.{use_meaning, direction_meaning, tree_item_meaning, meaning_of_world}
use Rattle.tree_meaning.specs.Imports.{Import, import_at, interfaces_of, imports_of}
use Rattle.tree_meaning.specs.ImportForms.{IsNamedBehind, UsesImport, HasImportItem, NamesImport, AreReachedFrom}
use Rattle.tree_meaning.specs.Resolves.{interface_uses, uses_of_interface, HasNoFaultsOf, AreImports, interfaces_behind, IsClosedPackageOf}
use Rattle.tree_meaning.proofs.tree_forms.InterfaceBlocks.{block_definitions, blocks_definitions}
use Rattle.tree_meaning.proofs.TableRows.{references-append, is-that}
use Rattle.tree_meaning.proofs.InterfacesUnderFullNames.{interface-full}
use Rattle.tree_meaning.proofs.tree_forms.InterfaceOfEachRow.{IsPlace}
use Rattle.tree_meaning.proofs.tree_forms.FullNamesStandForOne.{own-some}
use Rattle.tree_meaning.proofs.PlacedTypesNameEarlier.{among-at}
use Rattle.tree_meaning.proofs.tree_forms.IdsArePlacesOfNamedRows.{not-that}
use Rattle.tree_meaning.proofs.tree_forms.ReachedByMeaning.{defined-by, use-reaches, item-reaches, reached-kept}
use Rattle.tree_meaning.proofs.tree_forms.ResolvedTreesAreInForm.{block, trees, order, types, blocks, own, back, first, parts, defined, table, count, import-here}
use Rattle.tree_meaning.proofs.AllDefinitions.{all_of}

some-order : (uses : List (List ℕ)) (order : List ℕ) → IsPlacement uses order → 0 < length uses → 0 < length order
some-order uses [] placed l = absurd (let e = placed.complete 0 l in cc)
some-order uses (k ∷ order) placed l = omega arith

some-entry : (es : List FileEntry) → es ≢ [] → (0 < length (filter_map interface_of es)) ⊎ (0 < length (filter_map world_of es))
some-entry [] some = absurd (some refl)
some-entry (AnInterface n xs ∷ es) some = inl (omega arith)
some-entry (AWorld at n ws ∷ es) some = inr (omega arith)

-- ---- packages

not-same : (p q : PackageParts) → (p ≡ q → ⊥) → is_same_package p q ≡ false
not-same p q h = by (is_same_package p q) refl
  where
    by : (b : Bool) → is_same_package p q ≡ b → b ≡ false
    by true e = absurd (h (package-is p q e))
    by false e = refl

-- one more package, of another name
one-more : (ps : List PackageParts) (q : PackageParts) → are_apart ps ≡ true → (¬ Contains ps q) → are_apart (ps ++ q ∷ []) ≡ true
one-more [] q h other = refl
one-more (p ∷ ps) q h other =
    let s = split (not (list_any (is_same_package p) ps)) (are_apart ps) h in
    let last : is_same_package p q ≡ false = not-same p q (λ e. other (subst (Contains (p ∷ ps)) e (contains-here p ps))) in
    let none : list_any (is_same_package p) (ps ++ q ∷ []) ≡ list_any (is_same_package p) ps =
    list_any-append (is_same_package p) ps (q ∷ []) ∙ ap (λ (b : Bool). list_any (is_same_package p) ps || (b || false)) last ∙ or-false (list_any (is_same_package p) ps) in
    both (not (list_any (is_same_package p) (ps ++ q ∷ []))) (are_apart (ps ++ q ∷ [])) (ap not none ∙ s.0) (one-more ps q s.1 (λ c. other (contains-right (p ∷ []) ps q c)))
  where
    or-false : (b : Bool) → (b || false) ≡ b
    or-false true = refl
    or-false false = refl

-- own interfaces behind those of all other packages
own-behind : (n next j : ℕ) (rows : List Definition) (ns : List (List ℕ)) → n ≤ next → has_each_package n next (interfaces_behind n j rows ns) ≡ true
own-behind n next j rows [] l = le-leb n next l
own-behind n next j rows (m ∷ ms) l = both (nat_le n next) _ (le-leb n next l) (own-behind n (n + 1) (j + 1) rows ms (omega arith))

each-behind : (n next j : ℕ) (is : List Interface) (rows : List Definition) (ns : List (List ℕ)) → has_each_package n next is ≡ true → has_each_package n next (is ++ interfaces_behind n j rows ns) ≡ true
each-behind n next j [] rows ns h = own-behind n next j rows ns (leb-true n next h)
each-behind n next j (i ∷ is) rows ns h =
    let s = split (nat_le i.«package».0 next) (has_each_package n (i.«package».0 + 1) is) h in
    both (nat_le i.«package».0 next) _ s.0 (each-behind n (i.«package».0 + 1) j is rows ns s.1)

some-own : (n j : ℕ) (rows : List Definition) (ns : List (List ℕ)) → 0 < length ns → list_any (is_interface_of n) (interfaces_behind n j rows ns) ≡ true
some-own n j rows [] l = absurd (omega (arith, l))
some-own n j rows (m ∷ ms) l = ap (λ (b : Bool). b || list_any (is_interface_of n) (interfaces_behind n (j + 1) rows ms)) (is-that n n refl)

-- ---- interfaces that are reached

or-true : (a b : Bool) → b ≡ true → (a || b) ≡ true
or-true true b e = refl
or-true false b e = e

among : (places : List ℕ) (k : ℕ) → Contains places k → is_among places k ≡ true
among [] k c = absurd (omega (arith, c.1))
among (p ∷ ps) k (zero, l, e) = ap (λ (b : Bool). b || is_among ps k) (is-that p k e)
among (p ∷ ps) k (suc n, l, e) = or-true (p == k) (is_among ps k) (among ps k (n, omega (arith, l), e))

own-reached : (n : ℕ) (places : List ℕ) (k j : ℕ) (rows : List Definition) (ns : List (List ℕ)) → are_reached n places k (interfaces_behind n j rows ns) ≡ true
own-reached n places k j rows [] = refl
own-reached n places k j rows (m ∷ ms) = both ((n == n) || is_among places k) _ (ap (λ (b : Bool). b || is_among places k) (is-that n n refl)) (own-reached n places (k + 1) (j + 1) rows ms)

all-reached : (n : ℕ) (places : List ℕ) (k j : ℕ) (is : List Interface) (rows : List Definition) (ns : List (List ℕ)) → ((m : ℕ) → m < length is → is_among places (k + m) ≡ true)
    → are_reached n places k (is ++ interfaces_behind n j rows ns) ≡ true
all-reached n places k j [] rows ns h = own-reached n places k j rows ns
all-reached n places k j (i ∷ is) rows ns h =
    let z : k + 0 ≡ k = omega arith in
    let here = subst (λ (m : ℕ). is_among places m ≡ true) z (h 0 (omega arith)) in
    both (is_interface_of n i || is_among places k) _ (or-true (is_interface_of n i) (is_among places k) here)
    (all-reached n places (k + 1) j is rows ns (λ m l. let y : k + suc m ≡ k + 1 + m = omega arith in subst (λ (x : ℕ). is_among places x ≡ true) y (h (suc m) (omega (arith, l)))))

module _ (imports : Resolve) (f : File) (r : Resolve) (a : AreImports imports) (h : HasNoFaultsOf (imports_of imports) f) (named_so : IsNamedBehind imports f) (p : IsClosedPackageOf imports f r) where
  abbrev q : PackageParts
  q = package_named f

  abbrev n : ℕ
  n = length imports.packages

  abbrev is : List InterfaceTree
  is = trees imports f r a h named_so p

  abbrev ks : List Import
  ks = interfaces_of imports

  -- ---- what the file's paths name is reached

  -- the tree of an interface, in package order
  tree-there : (j : InterfaceTree) (c : Contains (interfaces f) j) → Contains (order imports f r a h named_so p) c.0 × (interface_at is c.0 ≡ full_interface q j)
  tree-there j c =
      let l : c.0 < length (interface_uses is) = omega (arith, c.1, length-map is (uses_of_interface (names_of_trees is)), length-map (interfaces f) (full_interface q)) in (
        among-at p.resolves.order c.0 (p.resolves.placed.complete c.0 l),
        interface-full q (interfaces f) c.0 c.1 ∙ ap (full_interface q) (get_or_default (interfaces f) c.0 no_interface j c.1 ∙ c.2),
      )

  use-there : (j : InterfaceTree) (c : Contains (interfaces f) j) (u : UsedItem) → Contains j.uses u → Contains (blocks_definitions (blocks imports f r a h named_so p)) (use_meaning (own_name q j.name) (full_use q u))
  use-there j c u d =
      let x = use_meaning (own_name q j.name) (full_use q u) in
      let here = block is (types imports f r a h named_so p) in
      let t = tree-there j c in
      let uses = contains-map (use_meaning (own_name q j.name)) (map (full_use q) j.uses) (full_use q u) (contains-map (full_use q) j.uses u d) in
      let inside : Contains (here c.0).uses x = subst (λ (i : InterfaceTree). Contains (map (use_meaning i.name) i.uses) x) (sym t.1) uses in
      contains-flat block_definitions (map here (order imports f r a h named_so p)) (here c.0) x (contains-map here (order imports f r a h named_so p) c.0 t.0)
      (contains-left (here c.0).uses ((here c.0).types ++ (here c.0).functions) x inside)

  named-use : (k : ℕ) → k < length imports.interfaces → UsesImport f (import_at ks k).«package» (import_at ks k).name → Contains (reached r.definitions r.worlds) k
  named-use k l (j, c, (u, d, of, is_name)) =
      let ns = names_in r in
      let front = first imports f r a h named_so p in
      let later = back imports f r a h named_so p in
      let x = use_meaning (own_name q j.name) (full_use q u) in
      let there = subst (λ (xs : List NamedDefinition). Contains xs x) (sym (defined imports f r a h named_so p)) (use-there j c u d) in
      let b = defined-by ns (references ns [] front) (own imports f r a h named_so p) x there in
      let whole : r.definitions ≡ (front ++ b.pre) ++ b.definition ∷ (b.post ++ later) =
      parts imports f r a h named_so p ∙ ap (λ (ds : List Definition). front ++ (ds ++ later)) b.parts
      ∙ ap (λ (ds : List Definition). front ++ ds) (append_assoc b.pre (b.definition ∷ b.post) later) ∙ sym (append_assoc front b.pre (b.definition ∷ (b.post ++ later))) in
      let named : use_interface (full_use q u) ≡ own_name (import_at ks k).«package» (import_at ks k).name =
      ap (λ (o : Option PackageParts). full_name_in o (full_label q o u.interface)) of ∙ ap (own_name (import_at ks k).«package») is_name in
      let place : IsPlace ns k (use_interface (full_use q u)) = subst (IsPlace ns k) (sym named) (import-here imports f r a h named_so p k l) in
      let defines = subst (λ (ts : List Tree). Contains (all_of ns ts b.definition) x) (sym (references-append ns [] front b.pre)) b.defines in
      contains-left (flat_map (reached_by_row r.definitions) r.definitions) (flat_map reached_by_world r.worlds) k
      (use-reaches ns r.definitions (table imports f r a h named_so p) (front ++ b.pre) b.definition (b.post ++ later) x (record { interface = use_interface (full_use q u); name = u.name }) k whole defines refl place)

  named-item : (k : ℕ) → k < length imports.interfaces → HasImportItem f (import_at ks k).«package» (import_at ks k).name → Contains (reached r.definitions r.worlds) k
  named-item k l (w, c, (way, d)) =
      let i = own_name (import_at ks k).«package» (import_at ks k).name in
      let tree = ForeignNamed way (import_at ks k).«package» (import_at ks k).name in
      let meant = meaning_of_world (full_world q w) in
      let there : Contains (map (λ (v : World). meaning_in (names_in r) (trees_in r) r.definitions (world_name r v) v) r.worlds) meant =
      subst (λ (ms : List WorldMeaning). Contains ms meant) (sym p.resolves.worlds) (contains-map meaning_of_world (full_worlds f) (full_world q w) (contains-map (full_world q) (file_worlds f) w c)) in
      let items : Contains meant.items (WithInterface (direction_meaning way) i) =
      contains-map tree_item_meaning (map (full_item q) w.items) (full_item q tree) (contains-map (full_item q) w.items tree d) in
      contains-right (flat_map (reached_by_row r.definitions) r.definitions) (flat_map reached_by_world r.worlds) k
      (item-reaches (names_in r) r.definitions (table imports f r a h named_so p) (trees_in r) r.worlds (world_name r) meant (direction_meaning way) i k
      (own-some (import_at ks k).«package» (import_at ks k).name) there items (import-here imports f r a h named_so p k l))

  -- ---- the table

  module _ (reach : AreReachedFrom imports f) where
    import-reached : (k : ℕ) → k < length imports.interfaces → Contains (reached r.definitions r.worlds) k
    import-reached k l = elim (reach.reached k l) [
      | inl c ↦
          let rows = flat_map (reached_by_row r.definitions) r.definitions in
          contains-left rows (flat_map reached_by_world r.worlds) k
          (subst (λ (ds : List Definition). Contains (flat_map (reached_by_row ds) ds) k) (sym p.rows.1) (reached-kept imports.definitions p.rows.0 k c))
      | inr c ↦ by k l c
    ]
      where
        by : (k : ℕ) → k < length imports.interfaces → NamesImport f (import_at ks k) → Contains (reached r.definitions r.worlds) k
        by k l (inl c) = named-use k l c
        by k l (inr c) = named-item k l c

    abbrev behind : List Interface
    behind = interfaces_behind n (length imports.interfaces) r.definitions p.own.0

    has-own : has_own n r.interfaces r.worlds ≡ true
    has-own = elim (some-entry f.entries h.some) [
      | inl l ↦
          let many : 0 < length (interface_uses is) = omega (arith, l, length-map (interfaces f) (full_interface q), length-map is (uses_of_interface (names_of_trees is))) in
          let placed = some-order (interface_uses is) p.resolves.order p.resolves.placed many in
          let counted : 0 < length p.own.0 = omega (
            arith,
            placed,
            count imports f r a h named_so p,
            length-map (blocks imports f r a h named_so p) (λ b. b.name),
            length-map p.resolves.order (block is (types imports f r a h named_so p)),
          ) in
          let there : list_any (is_interface_of n) r.interfaces ≡ true =
          ap (list_any (is_interface_of n)) p.own.1 ∙ list_any-append (is_interface_of n) imports.interfaces behind
          ∙ or-true (list_any (is_interface_of n) imports.interfaces) (list_any (is_interface_of n) behind) (some-own n (length imports.interfaces) r.definitions p.own.0 counted) in
          or-true (not (length r.worlds == 0)) (list_any (is_interface_of n) r.interfaces) there
      | inr l ↦
          let meant = ap length p.resolves.worlds in
          let many : 0 < length r.worlds =
          omega (arith, l, meant, length-map r.worlds (λ w. meaning_in (names_in r) (trees_in r) r.definitions (world_name r w) w), length-map (full_worlds f) meaning_of_world, length-map (file_worlds f) (full_world q)) in
          ap (λ (b : Bool). not b || list_any (is_interface_of n) r.interfaces) (not-zero (length r.worlds) many)
    ]
      where
        not-zero : (m : ℕ) → 0 < m → (m == 0) ≡ false
        not-zero m l = not-that m 0 (λ e. omega (arith, e, l))

    of-a-set : are_of_a_set (imports.packages ++ q ∷ []) ≡ true
    of-a-set =
        both (nat_le (length (imports.packages ++ q ∷ [])) 64) (are_apart (imports.packages ++ q ∷ [])) (le-leb _ 64 (omega (arith, length-append imports.packages (q ∷ []), reach.few)))
        (one-more imports.packages q reach.apart named_so.other)

    reached-all : are_reached n (reached r.definitions r.worlds) 0 (imports.interfaces ++ behind) ≡ true
    reached-all =
        all-reached n (reached r.definitions r.worlds) 0 (length imports.interfaces) imports.interfaces r.definitions p.own.0 (λ m l.
        let z : m ≡ 0 + m = omega arith in
        subst (λ (k : ℕ). is_among (reached r.definitions r.worlds) k ≡ true) z (among (reached r.definitions r.worlds) m (import-reached m l)))

    closed-with : is_closed_table (imports.packages ++ q ∷ []) (imports.interfaces ++ behind) r.worlds r.definitions ≡ true
    closed-with =
        let last : n ≡ own_package (imports.packages ++ q ∷ []) = omega (arith, length-append imports.packages (q ∷ [])) in
        let js = imports.interfaces ++ behind in
        subst (λ (m : ℕ). (has_own m js r.worlds && (are_of_a_set (imports.packages ++ q ∷ []) && (has_each_package m 0 js && (list_all (is_world_of m) r.worlds && are_reached m (reached r.definitions r.worlds) 0 js)))) ≡ true) last
        (both (has_own n js r.worlds) _ (ap (λ (is : List Interface). has_own n is r.worlds) (sym p.own.1) ∙ has-own)
        (both (are_of_a_set (imports.packages ++ q ∷ [])) _ of-a-set
        (both (has_each_package n 0 js) _ (each-behind n 0 (length imports.interfaces) imports.interfaces r.definitions p.own.0 reach.each)
        (both (list_all (is_world_of n) r.worlds) _ p.worlds reached-all))))

    pub closes : IsTrue (is_closed r)
    closes = ap (λ (ps : List PackageParts). is_closed_table ps r.interfaces r.worlds r.definitions) p.packages
        ∙ ap (λ (is : List Interface). is_closed_table (imports.packages ++ q ∷ []) is r.worlds r.definitions) p.own.1 ∙ closed-with
