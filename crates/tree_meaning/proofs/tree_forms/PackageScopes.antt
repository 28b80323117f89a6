-- What a syntax tree resolves to has distinct names in each scope of its table.
use Rattle.std.proofs.Common.{◌≡◌, ℕ, ◌<◌, ◌+◌, true, ◌&&◌, nat_le, nat_lt, List, [], ◌∷◌, ◌++◌, map, flat_map, filter_map, length, get_or, slice_get, refl, ap, sym, subst, ◌∙◌, arith, All, Contains, Bool, Option, append-nil, append_assoc, cond, inl, inr, suc, ◌≤◌, length-append}
use Rattle.std.proofs.lemmas.List.{length-map, get_or_default, append_cancel_left}
use Rattle.std.specs.List.{list_all}
use Rattle.std.proofs.lemmas.Bool.{ltb-true, eqb-true, leb-true}
use Rattle.std.proofs.lemmas.List.Folds.{list_all-append}
use Rattle.std.proofs.lemmas.Simd.{map-map}
use Rattle.wit_tokens.specs.Syntax.{FileEntry, AnInterface, AWorld, File}
use Rattle.tables.specs.PackageNames.{PackageParts, own_name}
use Rattle.tables.specs.Names.{full_name_in, world_name}
use Rattle.tables.proofs.ClosedTypesRowByRow.{split}
use Rattle.tables.specs.Package.{Tree, WorldMeaning, worlds as worlds_in, world_meaning as meaning_in, trees as trees_in, interface_names as names_in, references}
use Rattle.tables.specs.declared.tables.World.{World}
use Rattle.tables.specs.declared.tables.Definition.{Definition}
use Rattle.tables.specs.declared.tables.Interface.{Interface}
use Rattle.tables.specs.declared.tables.Resolve.{Resolve}
use Rattle.tables.specs.Tables.{are_grouped}
use Rattle.package_form.specs.Scope.{AreDistinct}
use Rattle.package_form.specs.Ends.{end_of, rows_of, interfaces_end, is_parted}
use Rattle.package_form.specs.Ids.{interface_in, interfaces_from}
use Rattle.package_form.proofs.InterfacesOfOnePackage.{one-full-name}
use Rattle.placement.specs.Order.{IsPlacement}
use Rattle.tree_meaning.specs.Declarations.{InterfaceTree, WorldTree, interfaces, file_worlds, package_named, full_world, interface_of, world_of, full_interface, type_name, interface_at, no_interface, interface_tree_name, names_of_trees}
use Rattle.tree_meaning.specs.Scopes.{file_name, interface_scopes}
use Rattle.tree_meaning.specs.Resolves.{uses_of_interface, interface_uses, names_in_order, AreImports, HasNoFaultsOf, IsClosedPackageOf, interfaces_behind}
use Rattle.package_form.proofs.AllAndContains.{all-head, all-tail, all-append, all-none, all-left, all-right, all-contained, contains-unmap, flat_map-append}
use Rattle.package_form.proofs.NamesMetOneByOne.{below_or_at}
use Rattle.package_form.proofs.NamesMetInEachPackage.{each-distinct}
use Rattle.package_form.proofs.ScopesAreDistinct.{interfaces-distinct as import-scopes-distinct, names-distinct as interface-labels-distinct}
use Rattle.tree_meaning.proofs.OrderedNames.{interface-name}
use Rattle.tree_meaning.proofs.tree_forms.IdsArePlacesOfNamedRows.{not-that}
use Rattle.tree_meaning.proofs.tree_forms.FinishedTrees.{distinct-interfaces, names-behind}
use Rattle.tree_meaning.specs.Resolved.{meaning_of_world}
use Rattle.tree_meaning.specs.Imports.{imports_of}
use Rattle.tree_meaning.specs.ImportForms.{IsNamedBehind}
use Rattle.tree_meaning.proofs.RowsOfEachInterface.{is_inner_row}
use Rattle.tree_meaning.proofs.InterfacesUnderFullNames.{locals-full, interface-full, uses-full}
use Rattle.package_form.specs.Naming.{row_members, rows_scopes, interfaces_scopes, label_of, world_scopes, package_scopes, interface_label_of, interface_labels_of, of_each, world_labels_of}
use Rattle.tree_meaning.proofs.tree_forms.RowsCutByDefinition.{heads, tails, rows-mean}
use Rattle.tree_meaning.proofs.ReferencesOfDefinitions.{Every, every-append, every-front, every-back}
use Rattle.tree_meaning.proofs.MoreRowsReadTheSame.{get-end}
use Rattle.tree_meaning.proofs.tree_forms.InterfaceBlocks.{Block, block_names, block_definitions, blocks_definitions}
use Rattle.tree_meaning.proofs.tree_forms.ResolvedTreesAreInForm.{block, trees, order, types, blocks, named, are-all, back, defined, used-parts, elsewhere, table, count, elsewhere-first, first-end, ordered, own, own_names, parts}
use Rattle.tree_meaning.proofs.tree_forms.MemberNamesOfRows.{HasDistinctMembers, rows-distinct}
use Rattle.tree_meaning.proofs.ScopesFromDeclarations.{HasDistinctParts, function_name, interfaces-distinct}
use Rattle.tree_meaning.proofs.tree_forms.TreeNames.{placed-distinct, names-distinct, members-distinct}
use Rattle.tree_meaning.proofs.tree_forms.TableScopes.{HasDistinctKeys, scoped}
use Rattle.tree_meaning.proofs.NamesOfScopeAreApart.{AreOthers, AreApart, every-from, every-contained, apart-distinct, are-apart, apart-insert, apart-between}
use Rattle.tree_meaning.proofs.TableRows.{is-that}
use Rattle.tree_meaning.proofs.tree_forms.ImportsStandInClosedTables.{rows-kept}
use Rattle.package_form.specs.Closed.{is_world_of}

every-map : {A B : Type 0} (P : B → Type 0) (f : A → B) (xs : List A) → Every (λ x. P (f x)) xs → Every P (map f xs)
every-map P f [] h = tt
every-map P f (x ∷ xs) h = (h.0, every-map P f xs h.1)

all-flat : {A B : Type 0} (P : B → Type 0) (g : A → List B) (xs : List A) → Every (λ x. All P (g x)) xs → All P (flat_map g xs)
all-flat P g [] h = all-none P
all-flat P g (x ∷ xs) h = all-append P (g x) (flat_map g xs) h.0 (all-flat P g xs h.1)

-- the scopes of rows, whatever the names and the package of their interfaces
scopes-so : (k : ℕ) (rows : List Definition) (start j : ℕ) (ns ms : List (List ℕ)) → length ns ≡ length ms
    → interfaces_scopes rows start (interfaces_behind k j rows ns) ≡ interfaces_scopes rows start (interfaces_from rows j ms)
scopes-so k rows start j [] [] e = refl
scopes-so k rows start j [] (m ∷ ms) e = absurd (omega (arith, e))
scopes-so k rows start j (n ∷ ns) [] e = absurd (omega (arith, e))
scopes-so k rows start j (n ∷ ns) (m ∷ ms) e =
    ap (λ (ss : List (List (List ℕ))). rows_scopes (rows_of rows start (interface_in rows j m)) ++ ss)
    (scopes-so k rows (end_of start (interface_in rows j m)) (j + 1) ns ms (omega (arith, e)))

-- those of interfaces that stand behind others
scopes-behind : (rows : List Definition) (start : ℕ) (is js : List Interface) → interfaces_scopes rows start (is ++ js) ≡ interfaces_scopes rows start is ++ interfaces_scopes rows (interfaces_end start is) js
scopes-behind rows start [] js = refl
scopes-behind rows start (i ∷ is) js =
    let here = rows_scopes (rows_of rows start i) in
    ap (λ (ss : List (List (List ℕ))). here ++ ss) (scopes-behind rows (end_of start i) is js)
    ∙ sym (append_assoc here (interfaces_scopes rows (end_of start i) is) (interfaces_scopes rows (interfaces_end (end_of start i) is) js))

-- .. and of those whose rows have others behind them
scopes-kept : (rows more : List Definition) (start : ℕ) (is : List Interface) → is_parted (length rows) start is [] ≡ true → interfaces_scopes (rows ++ more) start is ≡ interfaces_scopes rows start is
scopes-kept rows more start [] h = refl
scopes-kept rows more start (i ∷ is) h =
    let a = split (nat_le start (end_of start i)) _ h in
    let b = split (nat_le (end_of start i) (length rows)) (is_parted (length rows) (end_of start i) is []) a.1 in
    let here = rows-kept rows more start i (leb-true start (end_of start i) a.0) (leb-true (end_of start i) (length rows) b.0) in
    ap (λ (ds : List Definition). rows_scopes ds ++ interfaces_scopes (rows ++ more) (end_of start i) is) here
    ∙ ap (λ (ss : List (List (List ℕ))). rows_scopes (rows_of rows start i) ++ ss) (scopes-kept rows more (end_of start i) is b.1)

-- ---- the names of interfaces and of worlds, package by package

-- none is of a package behind those of the imports
none-behind : (count first : ℕ) (is : List Interface) (k : ℕ) → are_grouped count first is ≡ true → count ≤ k → interface_labels_of is k ≡ []
none-behind count first [] k h l = refl
none-behind count first (i ∷ is) k h l =
    let s = split (nat_le first i.«package».0 && nat_lt i.«package».0 count) (are_grouped count i.«package».0 is) h in
    let m = ltb-true i.«package».0 count (split (nat_le first i.«package».0) (nat_lt i.«package».0 count) s.0).1 in
    ap (λ (b : Bool). cond b (i.name ∷ []) [] ++ interface_labels_of is k) (not-that i.«package».0 k (λ e. omega (arith, e, m, l))) ∙ none-behind count i.«package».0 is k s.1 l

labels-behind : (n : ℕ) (j : ℕ) (rows : List Definition) (ns : List (List ℕ)) → interface_labels_of (interfaces_behind n j rows ns) n ≡ ns
labels-behind n j rows [] = refl
labels-behind n j rows (m ∷ ms) =
    ap (λ (b : Bool). cond b (m ∷ []) [] ++ interface_labels_of (interfaces_behind n (j + 1) rows ms) n) (is-that n n refl) ∙ ap (λ (ns : List (List ℕ)). m ∷ ns) (labels-behind n (j + 1) rows ms)

labels-elsewhere : (n k : ℕ) (j : ℕ) (rows : List Definition) (ns : List (List ℕ)) → (k ≡ n → ⊥) → interface_labels_of (interfaces_behind n j rows ns) k ≡ []
labels-elsewhere n k j rows [] h = refl
labels-elsewhere n k j rows (m ∷ ms) h =
    ap (λ (b : Bool). cond b (m ∷ []) [] ++ interface_labels_of (interfaces_behind n (j + 1) rows ms) k) (not-that n k h) ∙ labels-elsewhere n k (j + 1) rows ms h

worlds-here : (n : ℕ) (ws : List World) → list_all (is_world_of n) ws ≡ true → world_labels_of ws n ≡ map label_of ws
worlds-here n [] h = refl
worlds-here n (w ∷ ws) h =
    let s = split (is_world_of n w) (list_all (is_world_of n) ws) h in
    ap (λ (b : Bool). cond b (w.name ∷ []) [] ++ world_labels_of ws n) s.0 ∙ ap (λ (ns : List (List ℕ)). w.name ∷ ns) (worlds-here n ws s.1)

worlds-elsewhere : (n k : ℕ) (ws : List World) → list_all (is_world_of n) ws ≡ true → (k ≡ n → ⊥) → world_labels_of ws k ≡ []
worlds-elsewhere n k [] h other = refl
worlds-elsewhere n k (w ∷ ws) h other =
    let s = split (is_world_of n w) (list_all (is_world_of n) ws) h in
    let at = eqb-true w.«package».0 n s.0 in
    ap (λ (b : Bool). cond b (w.name ∷ []) [] ++ world_labels_of ws k) (not-that w.«package».0 k (λ e. other (e ∙ at))) ∙ worlds-elsewhere n k ws s.1 other

-- names whose full names are the same are
names-apart : (p : PackageParts) (ns ms : List (List ℕ)) → map (own_name p) ns ≡ map (own_name p) ms → ns ≡ ms
names-apart p [] [] e = refl
names-apart p [] (m ∷ ms) e = absurd (cc)
names-apart p (n ∷ ns) [] e = absurd (cc)
names-apart p (n ∷ ns) (m ∷ ms) e =
    let first : own_name p n ≡ own_name p m = heads e in
    let a = one-full-name p n m first in
    let b = names-apart p ns ms (tails e) in
    cc

-- under its full name an interface has the same parts
parts-full : (p : PackageParts) (i : InterfaceTree) → HasDistinctParts i → HasDistinctParts (full_interface p i)
parts-full p i h = record {
  names = subst (λ (ns : List (List ℕ)). AreApart (ns ++ (map type_name i.types ++ map function_name i.functions))) (sym (locals-full p i.uses)) h.names;
  types = h.types;
  functions = h.functions;
}

-- ---- worlds

abbrev world_label : WorldTree → List ℕ
world_label w = w.name

abbrev meaning_name : WorldMeaning → List ℕ
meaning_name m = m.name

-- all of these worlds are of the last package
labels-full : (ps : List PackageParts) (q : PackageParts) (ws : List World) → list_all (is_world_of (length ps)) ws ≡ true
    → map (λ (w : World). full_name_in (slice_get (ps ++ q ∷ []) w.«package».0) w.name) ws ≡ map (λ (w : World). own_name q w.name) ws
labels-full ps q [] h = refl
labels-full ps q (w ∷ ws) h =
    let s = split (is_world_of (length ps) w) (list_all (is_world_of (length ps)) ws) h in
    ap (λ (o : Option PackageParts). full_name_in o w.name ∷ map (λ (v : World). full_name_in (slice_get (ps ++ q ∷ []) v.«package».0) v.name) ws)
    (get-end ps q w.«package».0 (eqb-true w.«package».0 (length ps) s.0))
    ∙ ap (λ (ns : List (List ℕ)). own_name q w.name ∷ ns) (labels-full ps q ws s.1)

names-told : (ns : List (List ℕ)) (ts : List Tree) (rows : List Definition) (name : World → List ℕ) (ws : List World)
    → map name ws ≡ map meaning_name (map (λ w. meaning_in ns ts rows (name w) w) ws)
names-told ns ts rows name [] = refl
names-told ns ts rows name (w ∷ ws) = ap (λ (ms : List (List ℕ)). name w ∷ ms) (names-told ns ts rows name ws)

names-meant : (q : PackageParts) (ws : List WorldTree) → map meaning_name (map meaning_of_world (map (full_world q) ws)) ≡ map (own_name q) (map world_label ws)
names-meant q [] = refl
names-meant q (w ∷ ws) = ap (λ (ms : List (List ℕ)). own_name q w.name ∷ ms) (names-meant q ws)

world-scopes-distinct : (q : PackageParts) (es : List FileEntry) → All AreDistinct (flat_map (interface_scopes q) es)
    → All AreDistinct (flat_map world_scopes (map meaning_of_world (map (full_world q) (filter_map world_of es))))
world-scopes-distinct q [] h = all-none AreDistinct
world-scopes-distinct q (AnInterface n xs ∷ es) h = world-scopes-distinct q es (all-right AreDistinct (interface_scopes q (AnInterface n xs)) (flat_map (interface_scopes q) es) h)
world-scopes-distinct q (AWorld at n ws ∷ es) h =
    all-append AreDistinct (interface_scopes q (AWorld at n ws)) (flat_map world_scopes (map meaning_of_world (map (full_world q) (filter_map world_of es))))
    (all-left AreDistinct (interface_scopes q (AWorld at n ws)) (flat_map (interface_scopes q) es) h)
    (world-scopes-distinct q es (all-right AreDistinct (interface_scopes q (AWorld at n ws)) (flat_map (interface_scopes q) es) h))

-- interfaces and worlds share a scope
both-among : (P : List ℕ → Type 0) (es : List FileEntry) → Every P (map file_name es) → Every P (map interface_tree_name (filter_map interface_of es) ++ map world_label (filter_map world_of es))
both-among P [] h = tt
both-among P (AnInterface n xs ∷ es) h = (h.0, both-among P es h.1)
both-among P (AWorld at n ws ∷ es) h =
    let is = map interface_tree_name (filter_map interface_of es) in
    let vs = map world_label (filter_map world_of es) in
    let later = both-among P es h.1 in
    every-append P is (n ∷ vs) (every-front P is vs later) (h.0, every-back P is vs later)

entries-apart : (es : List FileEntry) → AreApart (map file_name es) → AreApart (map interface_tree_name (filter_map interface_of es) ++ map world_label (filter_map world_of es))
entries-apart [] h = tt
entries-apart (AnInterface n xs ∷ es) h = (both-among (AreOthers n) es h.0, entries-apart es h.1)
entries-apart (AWorld at n ws ∷ es) h =
    apart-insert n (map interface_tree_name (filter_map interface_of es)) (map world_label (filter_map world_of es)) (both-among (AreOthers n) es h.0) (entries-apart es h.1)

-- the names in package order are those of interfaces
ordered-of : (is : List InterfaceTree) (order : List ℕ) → IsPlacement (interface_uses is) order → (n : List ℕ) → Contains (names_in_order is order) n → Contains (names_of_trees is) n
ordered-of is order placed n c =
    let k = contains-unmap (λ (k : ℕ). (interface_at is k).name) order n c in
    let at : get_or order k.1.0 0 ≡ k.0 = get_or_default order k.1.0 0 k.0 k.1.1 ∙ k.1.2 in
    let q = (placed.next k.1.0 k.1.1).in_range in
    let l : k.0 < length (names_of_trees is) = omega (arith, q, at, length-map is (uses_of_interface (names_of_trees is)), length-map is interface_tree_name) in
    (k.0, l, get_or_default (names_of_trees is) k.0 n [] l ∙ sym (interface-name is k.0) ∙ k.2)

module _ (imports : Resolve) (f : File) (r : Resolve) (a : AreImports imports) (h : HasNoFaultsOf (imports_of imports) f) (named_so : IsNamedBehind imports f) (p : IsClosedPackageOf imports f r) where
  abbrev q : PackageParts
  q = package_named f

  abbrev is : List InterfaceTree
  is = trees imports f r a h named_so p

  abbrev ks : List ℕ
  ks = order imports f r a h named_so p

  abbrev bs : List Block
  bs = blocks imports f r a h named_so p

  abbrev n : ℕ
  n = length imports.packages

  abbrev start : ℕ
  start = length imports.definitions

  in-range : (k : ℕ) → Contains ks k → k < length is
  in-range k c =
      let q = (p.resolves.placed.next c.0 c.1).in_range in
      let at : get_or ks c.0 0 ≡ k = get_or_default ks c.0 0 k c.1 ∙ c.2 in
      omega (arith, q, at, length-map is (uses_of_interface (names_of_trees is)))

  parts-distinct : (k : ℕ) → k < length is → HasDistinctParts (interface_at is k)
  parts-distinct k l =
      let own = interfaces f in
      let m : k < length own = omega (arith, l, length-map own (full_interface (package_named f))) in
      subst HasDistinctParts (sym (interface-full (package_named f) own k m))
      (parts-full (package_named f) (interface_at own k)
      (all-contained HasDistinctParts own (interface_at own k)
      (interfaces-distinct (package_named f) f.entries (all-tail AreDistinct (map file_name f.entries) (flat_map (interface_scopes (package_named f)) f.entries) h.distinct))
      (k, m, get_or_default own k (interface_at own k) no_interface m)))

  keys-distinct : Every HasDistinctKeys bs
  keys-distinct =
      every-map HasDistinctKeys (block is (types imports f r a h named_so p)) ks
      (every-from (λ k. HasDistinctKeys (block is (types imports f r a h named_so p) k)) ks (λ k c.
      let l = in-range k c in
      names-distinct (interface_at is k) (types imports f r a h named_so p k) (p.resolves.types_placed k l) (parts-distinct k l)))

  definitions-distinct : All HasDistinctMembers (blocks_definitions bs)
  definitions-distinct =
      all-flat HasDistinctMembers block_definitions bs
      (every-map (λ b. All HasDistinctMembers (block_definitions b)) (block is (types imports f r a h named_so p)) ks
      (every-from (λ k. All HasDistinctMembers (block_definitions (block is (types imports f r a h named_so p) k))) ks (λ k c.
      let l = in-range k c in
      members-distinct (interface_at is k) (types imports f r a h named_so p k) (p.resolves.types_placed k l) (parts-distinct k l))))

  abbrev rows : List Definition
  rows = own imports f r a h named_so p

  rows-members : All AreDistinct (map row_members rows)
  rows-members =
      let first = imports.definitions in
      let last = back imports f r a h named_so p in
      let all = ap (list_all is_inner_row) (sym (parts imports f r a h named_so p)) ∙ (table imports f r a h named_so p).inner in
      let later = (split (list_all is_inner_row first) (list_all is_inner_row (rows ++ last)) (sym (list_all-append is_inner_row first (rows ++ last)) ∙ all)).1 in
      let inner = (split (list_all is_inner_row rows) (list_all is_inner_row last) (sym (list_all-append is_inner_row rows last) ∙ later)).0 in
      let before_trees = references (names_in r) [] first in
      rows-distinct (names_in r) before_trees rows inner
      (rows-mean (names_in r) HasDistinctMembers before_trees rows (subst (All HasDistinctMembers) (sym (defined imports f r a h named_so p)) definitions-distinct))

  -- the interfaces' own names
  names-own : own_names imports f r a h named_so p ≡ names_in_order (interfaces f) ks
  names-own =
      let there = names-behind imports r q r.definitions p.own.0 p.packages p.own.1 in
      names-apart q p.own.0 (names_in_order (interfaces f) ks)
      (append_cancel_left (names_in imports) _ _ (sym there ∙ named imports f r a h named_so p ∙ ap (λ (ns : List (List ℕ)). names_in imports ++ ns) (ordered imports f r a h named_so p)))

  -- the worlds' own names
  worlds-own : map label_of r.worlds ≡ map world_label (file_worlds f)
  worlds-own =
      names-apart q (map label_of r.worlds) (map world_label (file_worlds f))
      (map-map (own_name q) label_of r.worlds
      ∙ sym (labels-full imports.packages q r.worlds p.worlds)
      ∙ sym (ap (λ (ps : List PackageParts). map (λ (w : World). full_name_in (slice_get ps w.«package».0) w.name) r.worlds) p.packages)
      ∙ names-told (names_in r) (trees_in r) r.definitions (world_name r) r.worlds
      ∙ ap (map meaning_name) p.resolves.worlds ∙ names-meant q (file_worlds f))

  -- the names of the own interfaces, in package order, and of worlds
  names-apart-there : AreDistinct (p.own.0 ++ map label_of r.worlds)
  names-apart-there =
      let mine = interfaces f in
      let placed = subst (λ (us : List (List ℕ)). IsPlacement us ks) (uses-full q mine) p.resolves.placed in
      let long : length (interface_uses mine) ≡ length (names_of_trees mine) = length-map mine (uses_of_interface (names_of_trees mine)) ∙ sym (length-map mine interface_tree_name) in
      let ordered = placed-distinct (interface_uses mine) ks placed (names_of_trees mine) (λ k. (interface_at mine k).name) (interface-name mine) long (distinct-interfaces f h) in
      let both = entries-apart f.entries (are-apart (map file_name f.entries) (all-head AreDistinct (map file_name f.entries) (flat_map (interface_scopes q) f.entries) h.distinct)) in
      let kept : (P : List ℕ → Type 0) → Every P (names_of_trees mine) → Every P (names_in_order mine ks) =
      λ P e. every-from P (names_in_order mine ks) (λ n c. every-contained P (names_of_trees mine) n e (ordered-of mine ks placed n c)) in
      let there = apart-between [] (names_of_trees mine) (names_in_order mine ks) (map world_label (file_worlds f)) both kept (are-apart (names_in_order mine ks) ordered) in
      subst AreDistinct (sym (ap (λ (ns : List (List ℕ)). ns ++ map label_of r.worlds) names-own ∙ ap (λ (ns : List (List ℕ)). names_in_order mine ks ++ ns) worlds-own))
      (apart-distinct (names_in_order mine ks ++ map world_label (file_worlds f)) there)

  worlds-distinct : All AreDistinct (flat_map world_scopes (worlds_in r))
  worlds-distinct =
      subst (λ (ms : List WorldMeaning). All AreDistinct (flat_map world_scopes ms)) (sym p.resolves.worlds)
      (world-scopes-distinct q f.entries (all-tail AreDistinct (map file_name f.entries) (flat_map (interface_scopes q) f.entries) h.distinct))

  module _ (distinct : All AreDistinct (package_scopes imports)) where
    abbrev behind : List Interface
    behind = interfaces_behind n (length imports.interfaces) r.definitions p.own.0

    abbrev labels : ℕ → List (List ℕ)
    labels k = interface_labels_of r.interfaces k ++ world_labels_of r.worlds k

    labels-split : (k : ℕ) → interface_labels_of r.interfaces k ≡ interface_labels_of imports.interfaces k ++ interface_labels_of behind k
    labels-split k = ap (λ (js : List Interface). interface_labels_of js k) p.own.1 ∙ flat_map-append (interface_label_of k) imports.interfaces behind

    -- each package has the names that it has among the imports, the last one the own names
    package-distinct : (k : ℕ) → k < length r.packages → AreDistinct (labels k)
    package-distinct k l =
        let counted : k < suc n = omega (arith, l, ap length p.packages, length-append imports.packages (q ∷ [])) in
        elim (below_or_at k n counted) [
          | inl low ↦
              let other : k ≡ n → ⊥ = λ e. omega (arith, low, e) in
              let same : labels k ≡ interface_labels_of imports.interfaces k =
              ap (λ (ns : List (List ℕ)). ns ++ world_labels_of r.worlds k) (labels-split k ∙ ap (λ (ns : List (List ℕ)). interface_labels_of imports.interfaces k ++ ns) (labels-elsewhere n k (length imports.interfaces) r.definitions p.own.0 other) ∙ append-nil (interface_labels_of imports.interfaces k))
              ∙ ap (λ (ns : List (List ℕ)). interface_labels_of imports.interfaces k ++ ns) (worlds-elsewhere n k r.worlds p.worlds other) ∙ append-nil (interface_labels_of imports.interfaces k) in
              subst AreDistinct (sym same) (interface-labels-distinct imports distinct k low)
          | inr at ↦
              let same : labels n ≡ p.own.0 ++ map label_of r.worlds =
              ap (λ (ns : List (List ℕ)). ns ++ world_labels_of r.worlds n) (labels-split n
              ∙ ap (λ (ns : List (List ℕ)). ns ++ interface_labels_of behind n) (none-behind n 0 imports.interfaces n imports.grouped (omega arith)) ∙ labels-behind n (length imports.interfaces) r.definitions p.own.0)
              ∙ ap (λ (ns : List (List ℕ)). p.own.0 ++ ns) (worlds-here n r.worlds p.worlds) in
              subst (λ (m : ℕ). AreDistinct (labels m)) (sym at) (subst AreDistinct (sym same) names-apart-there)
        ]

    imports-scopes : All AreDistinct (interfaces_scopes r.definitions 0 imports.interfaces)
    imports-scopes =
        subst (λ (ss : List (List (List ℕ))). All AreDistinct ss)
        (sym (ap (λ (ds : List Definition). interfaces_scopes ds 0 imports.interfaces) (parts imports f r a h named_so p)
        ∙ scopes-kept imports.definitions (rows ++ back imports f r a h named_so p) 0 imports.interfaces named_so.form.parted))
        (import-scopes-distinct imports distinct)

    own-scopes : All AreDistinct (interfaces_scopes r.definitions start behind)
    own-scopes =
        subst (λ (ss : List (List (List ℕ))). All AreDistinct ss) (sym (scopes-so n r.definitions start (length imports.interfaces) p.own.0 (block_names bs) (count imports f r a h named_so p)))
        (scoped (names_in r) r.definitions (table imports f r a h named_so p) (length imports.interfaces) bs imports.definitions rows (back imports f r a h named_so p) (parts imports f r a h named_so p)
        (elsewhere-first imports f r a h named_so p) (defined imports f r a h named_so p) (used-parts imports f r a h named_so p) (elsewhere imports f r a h named_so p) (are-all imports f r a h named_so p)
        rows-members keys-distinct)

    all-scopes : All AreDistinct (interfaces_scopes r.definitions 0 r.interfaces)
    all-scopes =
        subst (λ (ss : List (List (List ℕ))). All AreDistinct ss)
        (sym (ap (interfaces_scopes r.definitions 0) p.own.1 ∙ scopes-behind r.definitions 0 imports.interfaces behind
        ∙ ap (λ (m : ℕ). interfaces_scopes r.definitions 0 imports.interfaces ++ interfaces_scopes r.definitions m behind) (first-end imports f r a h named_so p)))
        (all-append AreDistinct (interfaces_scopes r.definitions 0 imports.interfaces) (interfaces_scopes r.definitions start behind) imports-scopes own-scopes)

    pub has-distinct-names : All AreDistinct (package_scopes r)
    has-distinct-names =
        let zero_plus : (k : ℕ) → k ≡ 0 + k = λ k. omega arith in
        all-append AreDistinct (of_each labels 0 r.packages) (interfaces_scopes r.definitions 0 r.interfaces ++ flat_map world_scopes (worlds_in r))
        (each-distinct labels 0 r.packages (λ k l. subst (λ (m : ℕ). AreDistinct (labels m)) (zero_plus k) (package-distinct k l)))
        (all-append AreDistinct (interfaces_scopes r.definitions 0 r.interfaces) (flat_map world_scopes (worlds_in r)) all-scopes worlds-distinct)
