-- What a syntax tree resolves to is in package form.
use Rattle.std.proofs.Common.{◌≡◌, ◌≢◌, Option, None, Some, is_some, append_assoc, ℕ, zero, suc, ◌+◌, ◌<◌, ◌≤◌, Bool, true, false, not, ◌||◌, ◌&&◌, ◌==◌, IsTrue, List, [], ◌∷◌, ◌++◌, map, flat_map, filter_map, take, length, get_or, refl, ap, sym, subst, ◌∙◌, arith, All, Contains, inl, inr}
use Rattle.std.specs.Prelude.{slice_index_or}
use Rattle.std.specs.List.{list_all}
use Rattle.std.proofs.lemmas.List.Folds.{list_all-append}
use Rattle.std.proofs.lemmas.List.{length-map, length-take, get_or-take, get_or_default, get_or-map, length-append, append_cancel_left}
use Rattle.std.proofs.lemmas.Simd.{map-map}
use Rattle.atoms.specs.FullName.{is_package_label, is_version_or_none}
use Rattle.atoms.specs.Label.{is_label}
use Rattle.tables.specs.PackageNames.{PackageParts, own_name}
use Rattle.tables.specs.Names.{full_name, world_name, full_name_in}
use Rattle.wit_tokens.specs.Syntax.{FileEntry, AnInterface, AWorld, File}
use Rattle.wit_tokens.specs.FullNames.{has_label}
use Rattle.tables.specs.Package.{Tree, NamedDefinition, named_by, reference, references, interface_names as names_in, definitions, definitions_from}
use Rattle.tables.specs.declared.tables.TypeName.{TypeName}
use Rattle.tables.specs.declared.tables.Owner.{Owner}
use Rattle.tables.specs.declared.tables.Owner.TheVariants as owner
use Rattle.tables.specs.declared.tables.Definition.{Definition}
use Rattle.tables.specs.declared.tables.Definition.TheVariants as row
use Rattle.tables.specs.declared.tables.Interface.{Interface}
use Rattle.tables.specs.declared.tables.Resolve.{Resolve}
use Rattle.placement.specs.Order.{IsPlacement, has_placed}
use Rattle.package_form.specs.Scope.{AreDistinct}
use Rattle.tree_meaning.specs.Declarations.{UsedItem, FunctionItem, InterfaceTree, interfaces, file_worlds, package_named, full_interface, full_interfaces, interface_of, interface_at, no_interface, interface_tree_name, names_of_trees, use_interface}
use Rattle.tree_meaning.specs.Resolved.{use_meaning, type_meaning, meaning_of_function, in_order, interface_meaning, no_type, definition_meaning, fields_of_labelled, member_meaning, resolved_if}
use Rattle.tree_meaning.specs.Resolves.{place_of, own_uses, uses_of_interface, interface_uses, names_in_order, is_behind, HasWorldsBehind, AreImports, HasKnownNamesOf, HasNoFaultsOf, IsClosedPackageOf, IsKnownIn, IsKnownUseOf, interfaces_behind, is_of_interfaces}
use Rattle.tree_meaning.specs.Imports.{Imports, HasImport, imports_of, import_at, interfaces_of}
use Rattle.tree_meaning.specs.ImportForms.{IsNamedBehind}
use Rattle.package_form.specs.Ids.{is_of_worlds, is_world_function}
use Rattle.package_form.proofs.AllAndContains.{all-at, all-contained, contains-map, contains-unmap, compared}
use Rattle.tree_meaning.proofs.PlacedTypesNameEarlier.{all-from, place-found, all-places, among-at}
use Rattle.tree_meaning.proofs.PlacementsHaveNoCycle.{same-map}
use Rattle.package_form.proofs.NamesStandForOneRow.{same-place}
use Rattle.tree_meaning.proofs.OrderedNames.{interface-name, name-in-order}
use Rattle.tree_meaning.proofs.tree_forms.FinishedTrees.{distinct-interfaces}
use Rattle.tree_meaning.proofs.PackageOfAFile.{definitions-within}
use Rattle.tree_meaning.proofs.OwnUsedNames.{own-name, own-used}
use Rattle.tree_meaning.proofs.InterfacesUnderFullNames.{interface-full, known-full, uses-full}
use Rattle.package_form.specs.Form.{is_named, have_items, IsInPackageForm, is_package_name, are_interfaces, has_full_names as has_names}
use Rattle.tables.proofs.ClosedTypesRowByRow.{split, both}
use Rattle.package_form.proofs.PostfixIsDecided.{postfix-used}
use Rattle.tree_meaning.proofs.ReferencesOfDefinitions.{if-refers, members-refer, body-refers, Every}
use Rattle.tree_meaning.proofs.TableRows.{is-that, behind-length}
use Rattle.package_form.specs.Ends.{interfaces_end, are_worlds_parted, is_parted}
use Rattle.package_form.specs.Unused.{are_used}
use Rattle.package_form.specs.Closed.{is_closed}
use Rattle.tree_meaning.proofs.tree_forms.InterfaceOfEachRow.{IsPlace, MeansUse, MeansType, MeansFunction}
use Rattle.tree_meaning.proofs.tree_forms.InterfaceBlocks.{Block, IsBlock, AreBlocks, blocks_definitions, block_names}
use Rattle.tree_meaning.proofs.RowsOfEachInterface.{used-inner}
use Rattle.tree_meaning.proofs.tree_forms.RowsStandWhereDefined.{IsTable}
use Rattle.tree_meaning.proofs.tree_forms.InterfaceRowsAreInForm.{Formed, formed}
use Rattle.tree_meaning.proofs.AllDefinitions.{all_from, all-are}
use Rattle.tree_meaning.proofs.tree_forms.RowsCutByDefinition.{rows-mean}
use Rattle.tree_meaning.proofs.tree_forms.IdsArePlacesOfNamedRows.{IsElsewhere, places-same}
use Rattle.tree_meaning.proofs.TypedRows.{earlier-typed}
use Rattle.tree_meaning.proofs.WorldMeanings.{worlds_definitions, front-told, items-behind, back-told, all-append}
use Rattle.tree_meaning.proofs.tree_forms.WorldRowsAreInForm.{RefersNowhere, worlds-nowhere, worlds-formed}
use Rattle.tree_meaning.proofs.tree_forms.ImportsStandInClosedTables.{behind-end, end-so, ends-postfix, front-behind, interfaces-behind, interfaces-kept, last-end, no-worlds, other-interfaces, parted-behind, parted-so, standing-so, used-behind}
use Rattle.tree_meaning.proofs.tree_forms.FullNamesStandForOne.{own-some, own-place, imported-place, import-place}

-- ---- an order

not-true : (b : Bool) → not b ≡ true → b ≡ true → ⊥
not-true true h e = absurd (cc)
not-true false h e = absurd (cc)

among : (xs : List ℕ) (x : ℕ) → Contains xs x → has_placed xs x ≡ true
among [] x c = absurd (omega (arith, c.1))
among (y ∷ xs) x (zero, l, e) = ap (λ (b : Bool). b || has_placed xs x) (is-that y x e)
among (y ∷ xs) x (suc k, l, e) = or-right (y == x) (has_placed xs x) (among xs x (k, omega (arith, l), e))
  where
    or-right : (a b : Bool) → b ≡ true → (a || b) ≡ true
    or-right true b e = refl
    or-right false b e = e

module _ (uses : List (List ℕ)) (order : List ℕ) (placed : IsPlacement uses order) where
  new-at : (k : ℕ) → k < length order → has_placed (take k order) (get_or order k 0) ≡ true → ⊥
  new-at k l e = not-true (has_placed (take k order) (get_or order k 0)) (split (not (has_placed (take k order) (get_or order k 0))) _ (placed.next k l).ready).0 e

  before-at : (a b : ℕ) → a < b → b < length order → Contains (take b order) (get_or order a 0)
  before-at a b l m =
      let long : length (take b order) ≡ b = length-take b order ∙ omega (arith, m) in
      (a, omega (arith, l, long), get_or-take b order a (get_or order a 0) l ∙ get_or_default order a (get_or order a 0) 0 (omega (arith, l, m)))

  once : (a b : ℕ) → a < b → b < length order → get_or order a 0 ≡ get_or order b 0 → ⊥
  once a b l m e = new-at b m (among (take b order) (get_or order b 0) (subst (Contains (take b order)) e (before-at a b l m)))

  pub one-place : (a b : ℕ) → a < length order → b < length order → get_or order a 0 ≡ get_or order b 0 → a ≡ b
  one-place a b l m e = elim (compared a b) [
    | inl q ↦ absurd (once a b q m e)
    | inr q ↦ elim q [
      | inl r ↦ absurd (once b a r l (sym e))
      | inr r ↦ r
    ]
  ]

-- ---- the blocks of a package

module _ (is : List InterfaceTree) (types : ℕ → List ℕ) where
  abbrev pub block : ℕ → Block
  block k = record {
    name = (interface_at is k).name;
    uses = map (use_meaning (interface_at is k).name) (interface_at is k).uses;
    types = in_order (interface_at is k).name (interface_at is k).types (types k);
    functions = map (meaning_of_function (interface_at is k).name) (interface_at is k).functions;
  }

  names-are : (order : List ℕ) → block_names (map block order) ≡ names_in_order is order
  names-are [] = refl
  names-are (k ∷ order) = ap (λ (ns : List (List ℕ)). (interface_at is k).name ∷ ns) (names-are order)

  definitions-are : (order : List ℕ) → blocks_definitions (map block order) ≡ flat_map (λ k. interface_meaning (interface_at is k) (types k)) order
  definitions-are [] = refl
  definitions-are (k ∷ order) = ap (λ (ds : List NamedDefinition). interface_meaning (interface_at is k) (types k) ++ ds) (definitions-are order)

pub each-map : {A : Type 0} (P : NamedDefinition → Type 0) (f : A → NamedDefinition) (xs : List A) → ((x : A) → Contains xs x → P (f x)) → All P (map f xs)
each-map P f xs h = all-from P (map f xs) (λ y c. let u = contains-unmap f xs y c in subst P u.2 (h u.0 u.1))

-- the labels of interfaces, in package order
labels-once : (is : List InterfaceTree) (order : List ℕ) → IsPlacement (interface_uses is) order → AreDistinct (names_of_trees is)
    → (a b : ℕ) → a < length order → b < length order → (interface_at is (get_or order a 0)).name ≡ (interface_at is (get_or order b 0)).name → a ≡ b
labels-once is order placed distinct a b l m e =
    let p = get_or order a 0 in
    let q = get_or order b 0 in
    let there : (k : ℕ) → k < length order → get_or order k 0 < length (names_of_trees is) =
    λ k n. omega (arith, (placed.next k n).in_range, length-map is (uses_of_interface (names_of_trees is)), length-map is interface_tree_name) in
    let same = same-place (names_of_trees is) p q distinct (there a l) (there b m) (sym (interface-name is p) ∙ e ∙ interface-name is q) in
    one-place (interface_uses is) order placed a b l m same

-- The names of the interfaces of a table: behind `before` imports stand those of a tree, in package order.
module _ (m : Imports) (before : ℕ) (ns : List (List ℕ)) (imported : (q : PackageParts) (i : List ℕ) → HasImport m q i → (k : ℕ) × (k < before) × IsPlace ns k (own_name q i))
    (is : List InterfaceTree) (types : ℕ → List ℕ) (order : List ℕ) (placed : IsPlacement (interface_uses is) order)
    (is-place : (j : ℕ) → j < length order → IsPlace ns (before + j) (interface_at is (get_or order j 0)).name)
    (some : (k : ℕ) → k < length is → (interface_at is k).name ≢ []) (known : All (HasKnownNamesOf m is) is) where
  in-range : (j : ℕ) → j < length order → get_or order j 0 < length is
  in-range j l = omega (arith, (placed.next j l).in_range, length-map is (uses_of_interface (names_of_trees is)))

  module _ (j : ℕ) (l : j < length order) where
    abbrev i : InterfaceTree
    i = interface_at is (get_or order j 0)

    known-here : HasKnownNamesOf m is i
    known-here = all-at (HasKnownNamesOf m is) is (get_or order j 0) i known (in-range j l) (get_or_default is (get_or order j 0) no_interface i (in-range j l))

    -- a use of the interface at an earlier place
    means-at : (u : UsedItem) (place : ℕ) → place < before + j → IsPlace ns place (use_interface u) → MeansUse ns (before + j) i.name (use_meaning i.name u)
    means-at u place earlier there = record { key = refl; target = record { interface = use_interface u; name = u.name }; meaning = refl; place = place; earlier = earlier; there = there }

    means-own : (u : UsedItem) → Contains i.uses u → u.«package» ≡ None → IsKnownIn m is None u.interface u.name → MeansUse ns (before + j) i.name (use_meaning i.name u)
    means-own u c none x =
        let names = names_of_trees is in
        let found = place-found names u.interface (subst (Contains names) x.2 (contains-map interface_tree_name is x.0 x.1)) in
        let ready = (split (not (has_placed (take j order) (get_or order j 0))) (list_all (has_placed (take j order)) (get_or (interface_uses is) (get_or order j 0) [])) (placed.next j l).ready).1 in
        let all = subst (λ us. list_all (has_placed (take j order)) us ≡ true) (get_or-map (uses_of_interface names) is (get_or order j 0) no_interface [] (in-range j l)) ready in
        let used = own-used i u none c in
        let n = among-at (take j order) found.0 (all-places (has_placed (take j order)) (place_of names) (own_uses i) u.interface found.0 all used found.1) in
        let cut : length (take j order) ≡ j = length-take j order ∙ omega (arith, l) in
        let q : n.0 < j = omega (arith, n.1, cut) in
        let at : get_or order n.0 0 ≡ found.0 = get_or_default order n.0 0 found.0 (omega (arith, q, l)) ∙ sym (get_or-take j order n.0 found.0 q) ∙ n.2 in
        let named : (interface_at is (get_or order n.0 0)).name ≡ use_interface u = ap (λ (p : ℕ). (interface_at is p).name) at ∙ interface-name is found.0 ∙ found.2 ∙ sym (own-name u none) in
        means-at u (before + n.0) (omega (arith, q)) (subst (IsPlace ns (before + n.0)) named (is-place n.0 (omega (arith, q, l))))

    means-import : (u : UsedItem) (q : PackageParts) → u.«package» ≡ Some q → IsKnownIn m is (Some q) u.interface u.name → MeansUse ns (before + j) i.name (use_meaning i.name u)
    means-import u q e x =
        let p = imported q u.interface (x.0, x.1, x.2, x.3) in
        let named : own_name q u.interface ≡ use_interface u = sym (ap (λ (o : Option PackageParts). full_name_in o u.interface) e) in
        means-at u p.0 (omega (arith, p.1)) (subst (IsPlace ns p.0) named p.2)

    means-use : (u : UsedItem) → Contains i.uses u → MeansUse ns (before + j) i.name (use_meaning i.name u)
    means-use u c = by u.«package» refl (all-contained (IsKnownUseOf m is) i.uses u known-here.uses c)
      where
        by : (o : Option PackageParts) → u.«package» ≡ o → IsKnownIn m is o u.interface u.name → MeansUse ns (before + j) i.name (use_meaning i.name u)
        by None e x = means-own u c e x
        by (Some q) e x = means-import u q e x

    means-type : (k : ℕ) → MeansType i.name (type_meaning i.name (slice_index_or i.types k no_type))
    means-type k =
        record { key = refl; tree = definition_meaning i.name (slice_index_or i.types k no_type).definition; meaning = refl; refers = body-refers i.name (slice_index_or i.types k no_type).definition }

    means-function : (f : FunctionItem) → MeansFunction i.name (meaning_of_function i.name f)
    means-function f = record {
      key = refl;
      params = fields_of_labelled (map (member_meaning i.name) f.function.params);
      result = resolved_if i.name f.function.result;
      meaning = refl;
      params_refer = members-refer i.name f.function.params;
      result_refers = if-refers i.name f.function.result;
    }

    is-block : IsBlock ns (before + j) (block is types (get_or order j 0))
    is-block = record {
      place = is-place j l;
      some = some (get_or order j 0) (in-range j l);
      uses = each-map (MeansUse ns (before + j) i.name) (use_meaning i.name) i.uses means-use;
      types = each-map (MeansType i.name) (λ k. type_meaning i.name (slice_index_or i.types k no_type)) (types (get_or order j 0)) (λ k c. means-type k);
      functions = each-map (MeansFunction i.name) (meaning_of_function i.name) i.functions (λ f c. means-function f);
    }

  are-blocks : (j at : ℕ) (ks : List ℕ) → at ≡ before + j → ((n : ℕ) → n < length ks → (j + n < length order) × (get_or ks n 0 ≡ get_or order (j + n) 0)) → AreBlocks ns at (map (block is types) ks)
  are-blocks j at [] e h = tt
  are-blocks j at (k ∷ ks) e h =
      let first = h 0 (omega arith) in
      let here : j < length order = omega (arith, first.0) in
      let same : get_or order j 0 ≡ k = ap (λ (n : ℕ). get_or order n 0) (let z : j ≡ j + 0 = omega arith in z) ∙ sym first.1 in (
        subst (λ (n : ℕ). IsBlock ns n (block is types k)) (sym e) (subst (λ (n : ℕ). IsBlock ns (before + j) (block is types n)) same (is-block j here)),
        are-blocks (j + 1) (at + 1) ks (omega (arith, e)) (λ n l. let next = h (suc n) (omega (arith, l)) in let z : j + suc n ≡ j + 1 + n = omega arith in (omega (arith, next.0), next.1 ∙ ap (λ (m : ℕ). get_or order m 0) z)),
      )

  pub all-blocks : AreBlocks ns before (map (block is types) order)
  all-blocks = are-blocks 0 before order (omega arith) (λ n l. let e : n ≡ 0 + n = omega arith in (omega (arith, l), ap (λ (m : ℕ). get_or order m 0) e))

-- ---- the package

-- rows behind those of interfaces are of no interface, and have a name where they are functions of worlds
behind-elsewhere : (ds : List Definition) → list_all is_behind ds ≡ true → (k : ℕ) → Every (IsElsewhere k) ds
behind-elsewhere [] h k = tt
behind-elsewhere (d ∷ ds) h k = let s = split (is_behind d) (list_all is_behind ds) h in (by d s.0, behind-elsewhere ds s.1 k)
  where
    by : (c : Definition) → is_behind c ≡ true → IsElsewhere k c
    by (row.Type t) q = named t.name q
      where
        named : (n : Option TypeName) → not (is_some n) ≡ true → IsElsewhere k (row.Type (record { name = n; kind = t.kind }))
        named None r = record { used = refl; typed = refl; function = refl }
        named (Some n) r = absurd (cc)
    by (row.Function g) q = owned g.owner q
      where
        owned : (o : Owner) → is_of_worlds o ≡ true → IsElsewhere k (row.Function (record { owner = o; name = g.name; params = g.params; result = g.result }))
        owned (owner.Interface i) r = absurd (cc)
        owned (owner.World w) r = record { used = refl; typed = refl; function = refl }

behind-named : (ds : List Definition) → list_all is_behind ds ≡ true → Every (λ d. is_named d ≡ is_world_function d) ds
behind-named [] h = tt
behind-named (d ∷ ds) h = let s = split (is_behind d) (list_all is_behind ds) h in (by d s.0, behind-named ds s.1)
  where
    by : (c : Definition) → is_behind c ≡ true → is_named c ≡ is_world_function c
    by (row.Type t) q = ap not q
    by (row.Function g) q = sym q

-- rows that define nothing have no name
nothing-behind : (ns : List (List ℕ)) (trees : List Tree) (ds : List Definition) → all_from ns trees ds ≡ [] → list_all is_behind ds ≡ true
nothing-behind ns trees [] e = refl
nothing-behind ns trees (row.Type d ∷ ds) e = by d.name e (λ q. nothing-behind ns (trees ++ reference ns trees (row.Type d) ∷ []) ds q)
  where
    rest : List NamedDefinition
    rest = all_from ns (trees ++ reference ns trees (row.Type d) ∷ []) ds

    by : (o : Option TypeName) → named_by ns trees o d.kind ++ rest ≡ [] → (rest ≡ [] → list_all is_behind ds ≡ true)
        → (not (is_some o) && list_all is_behind ds) ≡ true
    by None q again = again q
    by (Some n) q again = absurd (cc)
nothing-behind ns trees (row.Function f ∷ ds) e = absurd (cc)

-- interfaces of a file whose names make full names have labels
labels-are : (es : List FileEntry) → list_all has_label es ≡ true → (n : List ℕ) → Contains (map interface_tree_name (filter_map interface_of es)) n → is_label n ≡ true
labels-are [] h n c = absurd (omega (arith, c.1))
labels-are (AnInterface i xs ∷ es) h n (zero, l, e) = ap is_label (sym e) ∙ (split (is_label i) (list_all has_label es) h).0
labels-are (AnInterface i xs ∷ es) h n (suc k, l, e) = labels-are es (split (is_label i) (list_all has_label es) h).1 n (k, omega (arith, l), e)
labels-are (AWorld at i ws ∷ es) h n c = labels-are es (split true (list_all has_label es) h).1 n c

module _ (imports : Resolve) (f : File) (r : Resolve) (a : AreImports imports) (h : HasNoFaultsOf (imports_of imports) f) (named_so : IsNamedBehind imports f) (p : IsClosedPackageOf imports f r) where
  abbrev pub trees : List InterfaceTree
  trees = full_interfaces f

  abbrev pub order : List ℕ
  order = p.resolves.order

  abbrev pub types : ℕ → List ℕ
  types = p.resolves.types

  abbrev pub blocks : List Block
  blocks = map (block trees types) order

  -- how many interfaces stand in front of the own ones
  abbrev pub before : ℕ
  before = length imports.interfaces

  abbrev q : PackageParts
  q = package_named f

  names-split : (is_package_name q ≡ true) × (list_all has_label f.entries ≡ true)
  names-split =
      let x = split (is_package_label f.namespace) _ named_so.names in
      let y = split (is_package_label f.name) _ x.1 in
      let z = split (is_version_or_none f.version) _ y.1 in
      (both (is_package_label f.namespace) _ x.0 (both (is_package_label f.name) (is_version_or_none f.version) y.0 z.0), z.1)

  have-names : IsTrue (has_names r)
  have-names =
      ap (list_all is_package_name) p.packages ∙ list_all-append is_package_name imports.packages (q ∷ [])
      ∙ both (list_all is_package_name imports.packages) (is_package_name q && true) named_so.form.names (both (is_package_name q) true names-split.0 refl)

  -- ---- names

  abbrev own_labels : List (List ℕ)
  own_labels = names_in_order (interfaces f) order

  pub below : (k : ℕ) → k < length order → get_or order k 0 < length (interfaces f)
  below k l = omega (arith, (p.resolves.placed.next k l).in_range, length-map trees (uses_of_interface (names_of_trees trees)), length-map (interfaces f) (full_interface q))

  pub ordered : names_in_order trees order ≡ map (own_name q) own_labels
  ordered =
      same-map (λ (k : ℕ). (interface_at trees k).name) (λ (k : ℕ). own_name q (interface_at (interfaces f) k).name) order (λ k l. ap interface_tree_name (interface-full q (interfaces f) (get_or order k 0) (below k l)))
      ∙ sym (map-map (own_name q) (λ (k : ℕ). (interface_at (interfaces f) k).name) order)

  pub named : names_in r ≡ names_in imports ++ names_in_order trees order
  named = p.resolves.names

  all-named : names_in r ≡ names_in imports ++ map (own_name q) own_labels
  all-named = named ∙ ap (λ (ns : List (List ℕ)). names_in imports ++ ns) ordered

  long : length own_labels ≡ length order
  long = length-map order (λ (k : ℕ). (interface_at (interfaces f) k).name)

  own-label : (j : ℕ) → j < length own_labels → is_label (get_or own_labels j []) ≡ true
  own-label j l =
      let k = get_or order j 0 in
      let m : k < length (names_of_trees (interfaces f)) = omega (arith, below j (omega (arith, l, long)), length-map (interfaces f) interface_tree_name) in
      labels-are f.entries names-split.1 (get_or own_labels j [])
      (k, m, get_or_default (names_of_trees (interfaces f)) k (get_or own_labels j []) [] m ∙ sym (interface-name (interfaces f) k) ∙ sym (name-in-order (interfaces f) order j (omega (arith, l, long))))

  placed-own : IsPlacement (interface_uses (interfaces f)) order
  placed-own = subst (λ (us : List (List ℕ)). IsPlacement us order) (uses-full q (interfaces f)) p.resolves.placed

  labels-differ : (j k : ℕ) → j < length own_labels → k < length own_labels → get_or own_labels j [] ≡ get_or own_labels k [] → j ≡ k
  labels-differ j k l m e =
      let u : j < length order = omega (arith, l, long) in
      let v : k < length order = omega (arith, m, long) in
      labels-once (interfaces f) order placed-own (distinct-interfaces f h) j k u v (sym (name-in-order (interfaces f) order j u) ∙ e ∙ name-in-order (interfaces f) order k v)

  is-place : (j : ℕ) → j < length order → IsPlace (names_in r) (before + j) (interface_at trees (get_or order j 0)).name
  is-place j l =
      let m : j < length own_labels = omega (arith, l, long) in
      let here : own_name q (get_or own_labels j []) ≡ (interface_at trees (get_or order j 0)).name =
      ap (own_name q) (name-in-order (interfaces f) order j l) ∙ sym (ap interface_tree_name (interface-full q (interfaces f) (get_or order j 0) (below j l))) in
      subst (λ (ns : List (List ℕ)). IsPlace ns (before + j) (interface_at trees (get_or order j 0)).name) (sym all-named)
      (subst (IsPlace (names_in imports ++ map (own_name q) own_labels) (before + j)) here
      (own-place imports named_so.form a.apart q names-split.0 named_so.other own_labels own-label labels-differ j m))

  imported : (o : PackageParts) (i : List ℕ) → HasImport (imports_of imports) o i → (k : ℕ) × (k < before) × IsPlace (names_in r) k (own_name o i)
  imported o i c =
      subst (λ (ns : List (List ℕ)). (k : ℕ) × (k < before) × IsPlace ns k (own_name o i)) (sym all-named)
      (imported-place imports named_so.form a.apart q names-split.0 named_so.other own_labels own-label labels-differ o i c)

  pub import-here : (k : ℕ) → k < before → IsPlace (names_in r) k (own_name (import_at (interfaces_of imports) k).«package» (import_at (interfaces_of imports) k).name)
  import-here k l =
      subst (λ (ns : List (List ℕ)). IsPlace ns k (own_name (import_at (interfaces_of imports) k).«package» (import_at (interfaces_of imports) k).name)) (sym all-named)
      (import-place imports named_so.form a.apart q names-split.0 named_so.other own_labels own-label labels-differ k l)

  some-name : (k : ℕ) → k < length trees → (interface_at trees k).name ≢ []
  some-name k l =
      let m : k < length (interfaces f) = omega (arith, l, length-map (interfaces f) (full_interface q)) in
      subst (λ (i : InterfaceTree). i.name ≢ []) (sym (interface-full q (interfaces f) k m)) (own-some q (interface_at (interfaces f) k).name)

  pub are-all : AreBlocks (names_in r) before blocks
  are-all =
      all-blocks (imports_of imports) before (names_in r) imported trees types order p.resolves.placed is-place some-name
      (known-full (imports_of imports) q (interfaces f) h.known.in_interfaces)

  -- ---- rows

  abbrev pub front : List Definition
  front = p.behind.front

  abbrev pub back : List Definition
  back = p.behind.back

  abbrev pub first : List Definition
  first = imports.definitions

  used : are_used r.definitions 0 [] r.definitions ≡ true
  used = postfix-used r.definitions r.earlier p.postfix

  pub table : IsTable r.definitions
  table = record { earlier = r.earlier; typed = r.typed; inner = used-inner r.definitions 0 [] r.definitions used }

  pub behind-first : (ds : List Definition) × (front ≡ first ++ ds) × (p.rows.0 ≡ ds ++ back)
  behind-first = front-behind before first p.rows.0 front back (sym p.rows.1 ∙ p.behind.parts) a.owned (ends-postfix first a.postfix) p.behind.all

  -- those of the own interfaces
  abbrev pub own : List Definition
  own = behind-first.0

  pub parts : r.definitions ≡ first ++ (own ++ back)
  parts = p.rows.1 ∙ ap (λ (ds : List Definition). first ++ ds) behind-first.2

  pub elsewhere : (k : ℕ) → Every (IsElsewhere k) back
  elsewhere = behind-elsewhere back p.behind.all

  pub elsewhere-first : (k : ℕ) → before ≤ k → Every (IsElsewhere k) first
  elsewhere-first k l = other-interfaces before k l first a.owned

  pub used-parts : are_used r.definitions (length first) [] (own ++ back) ≡ true
  used-parts = used-behind r.definitions first (own ++ back) (subst (λ (ds : List Definition). are_used r.definitions 0 [] ds ≡ true) parts used) (ends-postfix first a.postfix)

  first-defined : all_from (names_in r) [] first ≡ definitions imports
  first-defined =
      let counted : before ≡ length (names_in imports) = sym (length-map imports.interfaces (full_name imports)) in
      sym (all-are (names_in r) [] first (no-worlds before first a.owned))
      ∙ ap (λ (ns : List (List ℕ)). definitions_from ns [] first) named
      ∙ definitions-within (names_in imports) (names_in_order trees order) [] first (subst (λ (n : ℕ). list_all (is_of_interfaces n) first ≡ true) counted a.owned)

  pub defined : all_from (names_in r) (references (names_in r) [] first) own ≡ blocks_definitions blocks
  defined =
      append_cancel_left (definitions imports) _ _
      (ap (λ (ds : List NamedDefinition). ds ++ all_from (names_in r) (references (names_in r) [] first) own) (sym first-defined)
      ∙ sym (all-append (names_in r) [] first own) ∙ ap (all_from (names_in r) []) (sym behind-first.1)
      ∙ sym (front-told (names_in r) r.definitions p.behind) ∙ p.resolves.definitions ∙ ap (λ (ds : List NamedDefinition). definitions imports ++ ds) (sym (definitions-are trees types order)))

  abbrev pub own_names : List (List ℕ)
  own_names = p.own.0

  pub count : length own_names ≡ length (block_names blocks)
  count =
      let n = length imports.packages in
      omega (
        arith,
        ap length p.own.1,
        length-append imports.interfaces (interfaces_behind n before r.definitions own_names),
        behind-length n before r.definitions own_names,
        length-map r.interfaces (full_name r),
        ap length named,
        length-append (names_in imports) (names_in_order trees order),
        length-map imports.interfaces (full_name imports),
        ap length (names-are trees types order),
      )

  abbrev in-place : Formed (names_in r) r.definitions table before (block_names blocks) first own back
  in-place = formed (names_in r) r.definitions table before blocks first own back parts elsewhere-first defined used-parts elsewhere are-all

  abbrev last : List Definition
  last = in-place.last

  abbrev rest : List Definition
  rest = in-place.rest ++ back

  whole : r.definitions ≡ last ++ rest
  whole = parts ∙ sym (append_assoc first own back) ∙ ap (λ (ds : List Definition). ds ++ back) in-place.whole ∙ append_assoc last in-place.rest back

  -- the rows of interfaces are those up to the last with a name
  abbrev cut : HasWorldsBehind r.definitions
  cut = record {
    front = last;
    back = rest;
    parts = whole;
    none = (split (list_all (λ d. not (is_world_function d)) last) _ (sym (list_all-append (λ d. not (is_world_function d)) last in-place.rest)
        ∙ ap (list_all (λ d. not (is_world_function d))) (sym in-place.whole ∙ sym behind-first.1) ∙ p.behind.none)).0;
    all = list_all-append is_behind in-place.rest back
        ∙ both (list_all is_behind in-place.rest) (list_all is_behind back) (nothing-behind (names_in r) (references (names_in r) [] last) in-place.rest in-place.nothing) p.behind.all;
  }

  nowhere : All RefersNowhere (all_from (names_in r) (references (names_in r) [] last) rest)
  nowhere =
      let told = back-told (names_in r) r.definitions (earlier-typed r.definitions r.earlier r.typed) r.earlier r.typed (world_name r) r.worlds cut p.items in
      subst (All RefersNowhere) (sym (told ∙ ap worlds_definitions p.resolves.worlds)) (worlds-nowhere (imports_of imports) q (names_of_trees (interfaces f)) (file_worlds f) h.known.in_worlds)

  worlds-in-place : (are_worlds_parted (length r.definitions) (length last) r.worlds ≡ true) × (have_items r.definitions 0 (length last) r.worlds ≡ true)
  worlds-in-place =
      worlds-formed (names_in r) r.definitions table (length r.interfaces) 0 r.worlds last rest cut.parts cut.all in-place.on
      (rows-mean (names_in r) RefersNowhere (references (names_in r) [] last) rest nowhere)
      (places-same is_named is_world_function (length last) rest (behind-named rest cut.all) ∙ items-behind (names_in r) r.definitions r.worlds cut p.items) r.worlds_placed

  -- ---- interfaces

  abbrev behind : List Interface
  behind = interfaces_behind (length imports.packages) before r.definitions own_names

  -- the own rows begin where those of the imports end
  pub first-end : interfaces_end 0 imports.interfaces ≡ length first
  first-end = last-end (length first) 0 imports.interfaces named_so.form.parted

  parted : is_parted (length r.definitions) 0 r.interfaces r.worlds ≡ true
  parted =
      let few : length first ≤ length r.definitions = omega (arith, ap length parts, length-append first (own ++ back)) in
      ap (λ (is : List Interface). is_parted (length r.definitions) 0 is r.worlds) p.own.1
      ∙ parted-behind (length first) (length r.definitions) 0 imports.interfaces behind r.worlds few named_so.form.parted
      (parted-so (length imports.packages) (length r.definitions) r.definitions r.worlds (length first) before own_names (block_names blocks) count ∙ in-place.parted r.worlds worlds-in-place.0)

  standing : are_interfaces r.definitions 0 0 r.interfaces ≡ true
  standing =
      let kept : are_interfaces r.definitions 0 0 imports.interfaces ≡ true =
      ap (λ (ds : List Definition). are_interfaces ds 0 0 imports.interfaces) parts
      ∙ interfaces-kept first (own ++ back) 0 0 imports.interfaces named_so.form.parted imports.placed named_so.form.interfaces in
      let zero_plus : before ≡ 0 + before = omega arith in
      let there : are_interfaces r.definitions before (length first) behind ≡ true =
      standing-so (length imports.packages) r.definitions before (length first) before own_names (block_names blocks) count ∙ in-place.standing in
      ap (are_interfaces r.definitions 0 0) p.own.1
      ∙ interfaces-behind r.definitions 0 0 imports.interfaces behind kept
      (subst (λ (n : ℕ). are_interfaces r.definitions n (interfaces_end 0 imports.interfaces) behind ≡ true) zero_plus
      (subst (λ (n : ℕ). are_interfaces r.definitions before n behind ≡ true) (sym first-end) there))

  ends : interfaces_end 0 r.interfaces ≡ length last
  ends =
      ap (interfaces_end 0) p.own.1 ∙ behind-end 0 imports.interfaces behind ∙ ap (λ (n : ℕ). interfaces_end n behind) first-end
      ∙ end-so (length imports.packages) r.definitions (length first) before own_names (block_names blocks) count ∙ in-place.ends

  pub has-form : IsTrue (is_closed r) → IsInPackageForm r
  has-form closed = record {
    closed = closed;
    names = have-names;
    parted = parted;
    interfaces = standing;
    worlds = ap (λ (n : ℕ). have_items r.definitions 0 n r.worlds) ends ∙ worlds-in-place.1;
    postfix = p.postfix;
    entries = p.within;
  }
