-- A file that stands alone: the case of no imports.
use Rattle.std.proofs.Common.{◌≡◌, ℕ, ◌+◌, true, List, [], ◌∷◌, ◌++◌, map, length, refl, ap, sym, ◌∙◌, subst, arith, nat_le, nat_lt, ◌&&◌}
use Rattle.std.proofs.lemmas.Bool.{ltb-true}
use Rattle.std.specs.List.{list_all}
use Rattle.wit_tokens.specs.Syntax.{File}
use Rattle.tables.specs.PackageNames.{PackageParts}
use Rattle.tables.specs.Names.{full_name, world_name}
use Rattle.tables.specs.Package.{Package, package_of, interface_names as names_in, trees, world_meaning, worlds as worlds_in, definitions, definitions_from}
use Rattle.tables.specs.declared.error.ResolveError.{ResolveError}
use Rattle.tables.specs.declared.tables.Definition.{Definition}
use Rattle.tables.specs.declared.tables.Interface.{Interface}
use Rattle.tables.specs.declared.tables.Resolve.{Resolve}
use Rattle.tables.specs.declared.tables.World.{World}
use Rattle.tables.specs.Tables.{are_worlds_grouped}
use Rattle.tables.proofs.ClosedTypesRowByRow.{split, both}
use Rattle.package_form.specs.Entries.{labels_of}
use Rattle.package_form.specs.Ids.{interfaces_from}
use Rattle.package_form.specs.Postfix.{IsPostfix, begin}
use Rattle.tree_meaning.specs.Declarations.{package_named, full_interfaces, full_worlds}
use Rattle.tree_meaning.specs.Imports.{Imports, no_imports, imports_from, interfaces_of, imports_of}
use Rattle.tree_meaning.specs.Resolves.{ResolvesBehind, KnowsPackagesOf, HasNoFaults, HasNoFaultsOf, IsPackageOf, is_of_interfaces, AreImports, in_package, interfaces_behind, IsClosedPackageOf, ResolveRefuses, ResolveRefusesOf}
use Rattle.tree_meaning.proofs.PackageOfAFile.{names-kept}
use Rattle.tree_meaning.proofs.TableRows.{is-that}
use Rattle.package_form.specs.Closed.{is_world_of}

-- interfaces are made as those of the first package
first-kept : (rows : List Definition) (i : ℕ) (ns : List (List ℕ)) → map (in_package 0) (interfaces_from rows i ns) ≡ interfaces_from rows i ns
first-kept rows i [] = refl
first-kept rows i (n ∷ ns) = let a = first-kept rows (i + 1) ns in cc

-- worlds of one package are of the first
first-worlds : (first : ℕ) (ws : List World) → are_worlds_grouped 1 first ws ≡ true → list_all (is_world_of 0) ws ≡ true
first-worlds first [] h = refl
first-worlds first (w ∷ ws) h =
    let s = split (nat_le first w.«package».0 && nat_lt w.«package».0 1) (are_worlds_grouped 1 w.«package».0 ws) h in
    let l = ltb-true w.«package».0 1 (split (nat_le first w.«package».0) (nat_lt w.«package».0 1) s.0).1 in
    both (is_world_of 0 w) (list_all (is_world_of 0) ws) (is-that w.«package».0 0 (omega (arith, l))) (first-worlds w.«package».0 ws s.1)

module _ (imports : Resolve) (packages : imports.packages ≡ []) (interfaces : imports.interfaces ≡ []) (worlds : imports.worlds ≡ []) (rows : imports.definitions ≡ []) where
  none : imports_of imports ≡ no_imports
  none =
      let a : interfaces_of imports ≡ [] = ap (imports_from imports.packages imports.definitions 0) interfaces in
      let b : names_in imports ≡ [] = ap (map (full_name imports)) interfaces in
      let c : worlds_in imports ≡ [] = ap (map (λ w. world_meaning (names_in imports) (trees imports) imports.definitions (world_name imports w) w)) worlds in
      let d : definitions imports ≡ [] = ap (definitions_from (names_in imports) []) rows in
      λ j. record { packages = packages j; interfaces = a j; meaning = record { interfaces = b j; worlds = c j; definitions = d j } }

  pub are-imports : AreImports imports
  are-imports = record {
    worlds = worlds;
    apart = record {
      each = λ j k l m e f.
          let a : interfaces_of imports ≡ [] = ap (imports_from imports.packages imports.definitions 0) interfaces in
          absurd (omega (arith, l, ap length a));
    };
    owned = ap (list_all (is_of_interfaces (length imports.interfaces))) rows;
    postfix = subst IsPostfix (sym rows) begin;
  }

  pub no-faults : (f : File) → HasNoFaultsOf (imports_of imports) f → HasNoFaults f
  no-faults f h = subst (λ (m : Imports). HasNoFaultsOf m f) none h

  pub refuses : (f : File) (e : ResolveError) → ResolveRefusesOf (imports_of imports) f e → ResolveRefuses f e
  refuses f e h = subst (λ (m : Imports). ResolveRefusesOf m f e) none h

  -- the interfaces of a closed table without imports are those of its rows
  own-alone : (ds : List Definition) (names : List (List ℕ)) → imports.interfaces ++ interfaces_behind (length imports.packages) (length imports.interfaces) ds names ≡ interfaces_from ds 0 names
  own-alone ds names =
      ap (λ (is : List Interface). is ++ interfaces_behind (length imports.packages) (length imports.interfaces) ds names) interfaces
      ∙ ap (λ (ps : List PackageParts). interfaces_behind (length ps) (length imports.interfaces) ds names) packages
      ∙ ap (λ (is : List Interface). interfaces_behind 0 (length is) ds names) interfaces
      ∙ first-kept ds 0 names

  pub is-package : (f : File) (r : Resolve) → IsClosedPackageOf imports f r → IsPackageOf f r
  is-package f r h =
      let names = h.own.0 in
      let own : r.interfaces ≡ interfaces_from r.definitions 0 names = h.own.1 ∙ own-alone r.definitions names in
      let labels : labels_of r.interfaces ≡ names = ap labels_of own ∙ names-kept r.definitions 0 names in
      record {
        earlier = subst (λ (m : Imports). KnowsPackagesOf m f) none h.earlier;
        packages = h.packages ∙ ap (λ (ps : List PackageParts). ps ++ package_named f ∷ []) packages;
        resolves = subst (λ (p : Package). ResolvesBehind p (full_interfaces f) (full_worlds f) (package_of r)) (ap (λ (m : Imports). m.meaning) none) h.resolves;
        postfix = h.postfix;
        behind = h.behind;
        items = h.items;
        ids = own ∙ ap (interfaces_from r.definitions 0) (sym labels);
        within = h.within;
      }

  pub closed-package : (f : File) (r : Resolve) → IsPackageOf f r → IsClosedPackageOf imports f r
  closed-package f r h =
      let names = labels_of r.interfaces in
      record {
        earlier = subst (λ (m : Imports). KnowsPackagesOf m f) (sym none) h.earlier;
        packages = h.packages ∙ sym (ap (λ (ps : List PackageParts). ps ++ package_named f ∷ []) packages);
        resolves = subst (λ (p : Package). ResolvesBehind p (full_interfaces f) (full_worlds f) (package_of r)) (ap (λ (m : Imports). m.meaning) (sym none)) h.resolves;
        postfix = h.postfix;
        behind = h.behind;
        items = h.items;
        rows = (r.definitions, sym (ap (λ (ds : List Definition). ds ++ r.definitions) rows));
        own = (names, h.ids ∙ sym (own-alone r.definitions names));
        worlds = ap (λ (ps : List PackageParts). list_all (is_world_of (length ps)) r.worlds) packages
            ∙ first-worlds 0 r.worlds (subst (λ (n : ℕ). are_worlds_grouped n 0 r.worlds ≡ true) (ap length h.packages) r.worlds_grouped);
        within = h.within;
      }

  pub without-faults : (f : File) → HasNoFaults f → HasNoFaultsOf (imports_of imports) f
  without-faults f h = subst (λ (m : Imports). HasNoFaultsOf m f) (sym none) h

-- ---- a table of a file that stands alone

-- the table of no imports
unfoldable pub empty : Resolve
empty = record {
  packages = [];
  interfaces = [];
  worlds = [];
  definitions = [];
  earlier = refl;
  typed = refl;
  standard = refl;
  placed = refl;
  grouped = refl;
  worlds_grouped = refl;
  worlds_placed = refl;
}
