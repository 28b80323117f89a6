-- Interfaces are defined in package order: each after those that it uses.
use Rattle.std.proofs.Common.{◌≡◌, ℕ, ◌+◌, ◌<◌, ◌≤◌, true, not, List, [], ◌∷◌, ◌++◌, Option, None, Some, map, flat_map, take, length, get_or, refl, ap, sym, ◌∙◌, subst, arith, All, Contains, ◌⊎◌, inl, inr}
use Rattle.std.specs.List.{list_all}
use Rattle.std.specs.Option.{option_map}
use Rattle.std.proofs.lemmas.List.{length-append, length-map, length-take, get_or-map, get_or_default, get_or_append_left, get_or_at, get_or-take, take_all}
use Rattle.package_form.specs.Scope.{AreDistinct}
use Rattle.placement.specs.Order.{IsPlacement, has_placed}
use Rattle.tables.specs.Names.{full_name, full_name_in}
use Rattle.tables.specs.PackageNames.{PackageParts}
use Rattle.tables.specs.Package.{NamedDefinition, interface_names as import_names}
use Rattle.tables.specs.declared.tables.Resolve.{Resolve}
use Rattle.tree_meaning.specs.Declarations.{UsedItem, InterfaceTree, interface_at, no_interface, interface_tree_name, names_of_trees, type_names}
use Rattle.tree_meaning.specs.Resolved.{interface_meaning}
use Rattle.package_form.specs.Entries.{Table}
use Rattle.tree_meaning.specs.Imports.{Import, AreApart, no_import, interfaces_of, imports_of}
use Rattle.tree_meaning.specs.Resolves.{interface_uses, own_uses, uses_of_interface, type_uses, IsKnownIn, IsKnownUseOf, HasKnownNamesOf, names_in_order, place_of, used_place}
use Rattle.tree_meaning.specs.Building.{label_at, AddsDefinitions, DefinesPackage, package_meaning, start_table}
use Rattle.tree_scopes.specs.KnownScopes.{IsScope, scope_names, ArePlaced, AreImportScopes}
use Rattle.tree_rows.specs.Defining.{CanUse, DefinesInterface}
use Rattle.tables.specs.declared.tables.InterfaceId.{InterfaceId}
use Rattle.tree_scopes.specs.declared.known.KnownTypes.{KnownTypes}
use Rattle.tables.proofs.ClosedTypesRowByRow.{split}
use Rattle.package_form.proofs.AllAndContains.{all-append, all-cons, all-none, all-contained, contains-map, flat_map-append, flat_map-one}
use Rattle.package_form.proofs.NamesStandForOneRow.{same-place}
use Rattle.package_form.proofs.NamesMetOneByOne.{below_or_at, take-more}
use Rattle.tree_rows.proofs.OneRowMore.{adds-none, adds-trans}
use Rattle.tree_rows.proofs.OneDefinitionMore.{scopes-later}
use Rattle.tree_meaning.proofs.PlacedTypesNameEarlier.{all-from, place-found, place-first, all-places, among-at, all-placed}
use Rattle.tree_meaning.proofs.OwnUsedNames.{own-name, own-used}
use Rattle.tree_meaning.proofs.ImportsFoundByName.{imports-length, place-is, place-some, only-import, import-named, get_or-append-right}
use Rattle.tree_meaning.proofs.OrderedNames.{interface-name, name-in-order}

-- the scopes of the imports and of the first k interfaces
pub record PackageSoFar (imports : Resolve) (k : ℕ) (is : List InterfaceTree) (order : List ℕ) (orders : List (List ℕ)) (start t : Table) (scopes : List KnownTypes) : Type 0 where
  pub adds : AddsDefinitions start t (package_meaning is orders (take k order))
  pub count : length scopes ≡ length imports.interfaces + k
  pub scoped : All (IsScope t) scopes
  pub ids : ArePlaced scopes
  pub imported : (m : ℕ) (d : KnownTypes) → m < length imports.interfaces → scope_names (get_or scopes m d) ≡ get_or (map (λ x. x.types) (interfaces_of imports)) m []
  pub names : (m : ℕ) (d : KnownTypes) (n : List ℕ) → m < k → Contains (type_names (interface_at is (get_or order m 0))) n
      → Contains (scope_names (get_or scopes (length imports.interfaces + m) d)) n

pub none-defined : (imports : Resolve) (is : List InterfaceTree) (order : List ℕ) (orders : List (List ℕ)) (names : List (List ℕ)) (t : Table) (scopes : List KnownTypes)
    → t ≡ start_table imports names → AreImportScopes imports scopes → PackageSoFar imports 0 is order orders t t scopes
none-defined imports is order orders names t scopes e h =
    let long : length scopes ≡ length imports.interfaces =
    sym (length-map scopes scope_names) ∙ ap length h.names ∙ length-map (interfaces_of imports) (λ (x : Import). x.types) ∙ imports-length imports.packages imports.definitions 0 imports.interfaces in
    record {
      adds = adds-none t;
      count = omega (arith, long);
      scoped = h.scoped t (ap (λ (x : Table). x.rows) e);
      ids = h.placed;
      imported = λ m d l. sym (get_or-map scope_names scopes m d [] (omega (arith, l, long))) ∙ ap (λ (ns : List (List (List ℕ))). get_or ns m []) h.names;
      names = λ m d n l c. absurd (omega (arith, l));
    }

module _ (imports : Resolve) (is : List InterfaceTree) (order : List ℕ) (orders : List (List ℕ)) (start t : Table) (scopes : List KnownTypes) (k : ℕ) (names : List (List ℕ))
    (starts : start ≡ start_table imports names) (ordered : names ≡ names_in_order is order) (placed : IsPlacement (interface_uses is) order) (distinct : AreDistinct (names_of_trees is))
    (apart : AreApart (interfaces_of imports)) (h : PackageSoFar imports k is order orders start t scopes) (l : k < length order) where
  abbrev before : ℕ
  before = length imports.interfaces

  in-range : (m : ℕ) → m < length order → get_or order m 0 < length is
  in-range m q = omega (arith, (placed.next m q).in_range, length-map is (uses_of_interface (names_of_trees is)))

  pub index-below : get_or order k 0 < length is
  index-below = in-range k l

  interfaces-are : t.interfaces ≡ import_names imports ++ names
  interfaces-are = h.adds.front.interfaces ∙ ap (λ (x : Table). x.interfaces) starts

  pub name-here : (m : ℕ) → m < length order → label_at t (before + m) ≡ (interface_at is (get_or order m 0)).name
  name-here m q =
      ap (λ (ns : List (List ℕ)). get_or ns (before + m) []) interfaces-are
      ∙ get_or-append-right (import_names imports) names [] before m (sym (length-map imports.interfaces (full_name imports)))
      ∙ ap (λ (ns : List (List ℕ)). get_or ns m []) ordered ∙ name-in-order is order m q

  -- an interface of the own package
  use-own : (u : UsedItem) → Contains (own_uses (interface_at is (get_or order k 0))) u.interface → (o : Option PackageParts) → u.«package» ≡ o → o ≡ None
      → IsKnownIn (imports_of imports) is None u.interface u.name → CanUse (interfaces_of imports) names t scopes u
  use-own u used o e none x =
      let ns = names_of_trees is in
      let j = get_or order k 0 in
      let i = interface_at is j in
      let there : Contains ns u.interface = subst (Contains ns) x.2 (contains-map interface_tree_name is x.0 x.1) in
      let found = place-found ns u.interface there in
      let so_far = take k order in
      let ready = (split (not (has_placed so_far j)) (list_all (has_placed so_far) (get_or (interface_uses is) j [])) (placed.next k l).ready).1 in
      let all = subst (λ us. list_all (has_placed so_far) us ≡ true) (get_or-map (uses_of_interface ns) is j no_interface [] index-below) ready in
      let m = among-at so_far found.0 (all-places (has_placed so_far) (place_of ns) (own_uses i) u.interface found.0 all used found.1) in
      let long : length so_far ≡ k = length-take k order ∙ omega (arith, l) in
      let q : m.0 < k = omega (arith, m.1, long) in
      let at : get_or order m.0 0 ≡ found.0 = get_or_default order m.0 0 found.0 (omega (arith, q, l)) ∙ sym (get_or-take k order m.0 found.0 q) ∙ m.2 in
      let r = x.1.0 in
      let is_x : get_or is r no_interface ≡ x.0 = get_or_default is r no_interface x.0 x.1.1 ∙ x.1.2 in
      let named : get_or names m.0 [] ≡ u.interface =
      ap (λ (ms : List (List ℕ)). get_or ms m.0 []) ordered ∙ name-in-order is order m.0 (omega (arith, q, l)) ∙ ap (λ (p : ℕ). (interface_at is p).name) at ∙ interface-name is found.0 ∙ found.2 in
      let many : length names ≡ length order = ap length ordered ∙ length-map order (λ (n : ℕ). (interface_at is n).name) in
      let first = place-first names u.interface m.0 (omega (arith, q, l, many)) named in
      let n = first.0 in
      let nk : n < k = omega (arith, first.3, q) in
      let p = get_or order n 0 in
      let np : p < length is = in-range n (omega (arith, nk, l)) in
      let here : get_or names n [] ≡ (interface_at is p).name = ap (λ (ms : List (List ℕ)). get_or ms n []) ordered ∙ name-in-order is order n (omega (arith, nk, l)) in
      let same : get_or ns p [] ≡ get_or ns r [] = sym (interface-name is p) ∙ sym here ∙ first.2 ∙ sym x.2 ∙ ap interface_tree_name (sym is_x) ∙ interface-name is r in
      let pr : p ≡ r = same-place ns p r distinct (omega (arith, np, length-map is interface_tree_name)) (omega (arith, x.1.1, length-map is interface_tree_name)) same in
      let tree : interface_at is p ≡ x.0 = ap (interface_at is) pr ∙ is_x in
      let none_here : u.«package» ≡ None = e ∙ none in
      let counted : length (interfaces_of imports) ≡ before = imports-length imports.packages imports.definitions 0 imports.interfaces in
      record {
        place = before + n;
        found = ap (λ (w : Option PackageParts). used_place (interfaces_of imports) names w u.interface) none_here
            ∙ ap (λ (w : Option ℕ). option_map (λ v. length (interfaces_of imports) + v) w) first.1 ∙ ap (λ (v : ℕ). Some (v + n)) counted;
        within = omega (arith, nk, h.count);
        named = name-here n (omega (arith, nk, l)) ∙ sym here ∙ first.2 ∙ sym (own-name u none_here);
        has = λ d. h.names n d u.name nk (subst (λ (y : InterfaceTree). Contains (type_names y) u.name) (sym tree) x.3);
      }

  -- an import
  use-import : (u : UsedItem) (q : PackageParts) → u.«package» ≡ Some q → IsKnownIn (imports_of imports) is (Some q) u.interface u.name → CanUse (interfaces_of imports) names t scopes u
  use-import u q e x =
      let ks = interfaces_of imports in
      let p = place-some ks q u.interface x.0 x.1 x.2 x.3 in
      let f = place-is ks q u.interface p.0 p.1 in
      let counted : length ks ≡ before = imports-length imports.packages imports.definitions 0 imports.interfaces in
      let below : p.0 < before = omega (arith, f.below, counted) in
      record {
        place = p.0;
        found = ap (λ (w : Option PackageParts). used_place ks names w u.interface) e ∙ p.1;
        within = omega (arith, below, h.count);
        named = ap (λ (ns : List (List ℕ)). get_or ns p.0 []) interfaces-are
            ∙ get_or_append_left (import_names imports) names [] p.0 (omega (arith, below, length-map imports.interfaces (full_name imports)))
            ∙ import-named imports p.0 below q u.interface f
            ∙ sym (ap (λ (w : Option PackageParts). full_name_in w u.interface) e);
        has = λ d. subst (λ (ns : List (List ℕ)). Contains ns u.name)
            (sym (h.imported p.0 d below ∙ get_or-map (λ (y : Import). y.types) ks p.0 no_import [] f.below))
            (subst (λ (y : Import). Contains y.types u.name) (only-import ks apart q u.interface p.0 f x.0 x.1 x.2 x.3) x.4);
      }

  can-use : (u : UsedItem) → Contains (interface_at is (get_or order k 0)).uses u → HasKnownNamesOf (imports_of imports) is (interface_at is (get_or order k 0))
      → CanUse (interfaces_of imports) names t scopes u
  can-use u c known = by u.«package» refl (all-contained (IsKnownUseOf (imports_of imports) is) (interface_at is (get_or order k 0)).uses u known.uses c)
    where
      by : (o : Option PackageParts) → u.«package» ≡ o → IsKnownIn (imports_of imports) is o u.interface u.name → CanUse (interfaces_of imports) names t scopes u
      by None e x = use-own u (own-used (interface_at is (get_or order k 0)) u e c) None e refl x
      by (Some q) e x = use-import u q e x

  pub can-use-all : HasKnownNamesOf (imports_of imports) is (interface_at is (get_or order k 0)) → All (CanUse (interfaces_of imports) names t scopes) (interface_at is (get_or order k 0)).uses
  can-use-all known = all-from (CanUse (interfaces_of imports) names t scopes) (interface_at is (get_or order k 0)).uses (λ u c. can-use u c known)

  pub one-more : (new : Table) (scope : KnownTypes) (place : InterfaceId) (i : InterfaceTree) (types : List ℕ) (after : List KnownTypes) → place.0 ≡ before + k
      → i ≡ interface_at is (get_or order k 0) → types ≡ get_or orders (get_or order k 0) [] → IsPlacement (type_uses i) types → after ≡ scopes ++ scope ∷ []
      → DefinesInterface t new scope place i types → PackageSoFar imports (k + 1) is order orders start new after
  one-more new scope place i types after at ei et typed more d =
      let j = get_or order k 0 in
      let f : ℕ → List NamedDefinition = λ n. interface_meaning (interface_at is n) (get_or orders n []) in
      let this : interface_meaning i types ≡ f j = rw (ei, et) refl in
      let all : package_meaning is orders (take k order) ++ interface_meaning i types ≡ package_meaning is orders (take (k + 1) order) =
      ap (λ (ds : List NamedDefinition). package_meaning is orders (take k order) ++ ds) (this ∙ sym (flat_map-one f j))
      ∙ sym (flat_map-append f (take k order) (j ∷ [])) ∙ ap (flat_map f) (sym (take-more order k j l (get_or_default order k 0 j l))) in
      subst (PackageSoFar imports (k + 1) is order orders start new) (sym more) (record {
        adds = subst (AddsDefinitions start new) all (adds-trans start t new _ _ h.adds d.adds);
        count = omega (arith, length-append scopes (scope ∷ []), h.count);
        scoped = all-append (IsScope new) scopes (scope ∷ []) (scopes-later t new scopes d.adds.front h.scoped) (all-cons (IsScope new) scope [] d.scoped (all-none (IsScope new)));
        ids = λ m e q. by-id m e (below_or_at m (before + k) (omega (arith, q, length-append scopes (scope ∷ []), h.count)));
        imported = λ m e q. ap scope_names (front m e (omega (arith, q))) ∙ h.imported m e q;
        names = λ m e n q c. by-name m e n c (below_or_at m k (omega (arith, q)));
      })
    where
      front : (m : ℕ) (e : KnownTypes) → m < before + k → get_or (scopes ++ scope ∷ []) m e ≡ get_or scopes m e
      front m e q = get_or_append_left scopes (scope ∷ []) e m (omega (arith, q, h.count))

      last : (m : ℕ) (e : KnownTypes) → m ≡ before + k → get_or (scopes ++ scope ∷ []) m e ≡ scope
      last m e q = get_or_at scopes scope [] e m (h.count ∙ sym q)

      by-id : (m : ℕ) (e : KnownTypes) → (m < before + k) ⊎ (m ≡ before + k) → (get_or (scopes ++ scope ∷ []) m e).interface.0 ≡ m
      by-id m e (inl q) = ap (λ (s : KnownTypes). s.interface.0) (front m e q) ∙ h.ids m e (omega (arith, q, h.count))
      by-id m e (inr q) = ap (λ (s : KnownTypes). s.interface.0) (last m e q) ∙ ap (λ (p : InterfaceId). p.0) d.interface ∙ at ∙ sym q

      by-name : (m : ℕ) (e : KnownTypes) (n : List ℕ) → Contains (type_names (interface_at is (get_or order m 0))) n → (m < k) ⊎ (m ≡ k)
          → Contains (scope_names (get_or (scopes ++ scope ∷ []) (before + m) e)) n
      by-name m e n c (inl q) = subst (λ (s : KnownTypes). Contains (scope_names s) n) (sym (front (before + m) e (omega (arith, q)))) (h.names m e n q c)
      by-name m e n c (inr q) =
          let here : Contains (type_names i) n = subst (λ (y : InterfaceTree). Contains (type_names y) n) (sym ei)
          (subst (λ (p : ℕ). Contains (type_names (interface_at is (get_or order p 0))) n) q c) in
          let at_end : before + m ≡ before + k = omega (arith, q) in
          subst (λ (s : KnownTypes). Contains (scope_names s) n) (sym (last (before + m) e at_end))
          (subst (λ (ms : List (List ℕ)). Contains ms n) (sym d.names) (all-placed i types typed n here))

pub defines-package : (imports : Resolve) (is : List InterfaceTree) (order : List ℕ) (orders : List (List ℕ)) (start t : Table) (scopes : List KnownTypes) (k : ℕ) (names : List (List ℕ))
    → start ≡ start_table imports names → length order ≤ k → PackageSoFar imports k is order orders start t scopes → DefinesPackage (start_table imports names) is order orders t
defines-package imports is order orders start t scopes k names e l h =
    subst (λ (x : Table). DefinesPackage x is order orders t) e (record { adds = subst (λ (ks : List ℕ). AddsDefinitions start t (package_meaning is orders ks)) (take_all k order l) h.adds })
