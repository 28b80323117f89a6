-- Where the items of a file stand is nothing to its names: what is said of the file without places holds.
use Rattle.std.proofs.Common.{◌≡◌, ◌≢◌, ℕ, List, [], ◌∷◌, ◌++◌, map, flat_map, filter_map, refl, sym, ap, subst, ◌∙◌, All}
use Rattle.std.specs.Prelude.{◌&&◌, Contains}
use Rattle.std.specs.List.{list_all}
use Rattle.wit_tokens.specs.Syntax.{Entry, Uses, Defines, Declares, WorldEntry, Whole, Single, FileEntry, AnInterface, AWorld, File}
use Rattle.package_form.specs.Scope.{AreDistinct}
use Rattle.package_form.specs.Naming.{world_scopes}
use Rattle.tree_meaning.specs.Declarations.{InterfaceTree, WorldTree, ItemTree, entry_packages, world_entry_packages, file_entry_packages, other_packages, entry_uses, entry_types, entry_functions, entry_names, entry_scopes, interface_tree, interface_of, interfaces, item_tree, world_of, file_worlds, package_named, full_interface, full_interfaces, full_world, full_worlds, names_of_trees}
use Rattle.tree_meaning.specs.Resolved.{meaning_of_world}
use Rattle.tree_meaning.specs.Scopes.{file_name, interface_scopes, scopes}
use Rattle.tree_meaning.specs.Imports.{Imports, imports_of}
use Rattle.tree_meaning.specs.Resolves.{ResolvesBehind, KnowsPackagesOf, HasKnownNamesOf, IsKnownWorldOf, HasNoFaultsOf, IsClosedPackageOf, body_fits, signature_fits, entry_fits, world_entry_fits, interface_fits, file_fits}
use Rattle.tables.specs.Package.{package_of}
use Rattle.tables.specs.PackageNames.{PackageParts}
use Rattle.tables.specs.declared.tables.Resolve.{Resolve}
use Rattle.wit_print.specs.Unplaced.{unplaced_entry, unplaced_world_entry, unplaced_file_entry, unplaced}

-- ---- what doesn't see places

uses-kept : (es : List Entry) → flat_map entry_uses (map unplaced_entry es) ≡ flat_map entry_uses es
uses-kept [] = refl
uses-kept (Uses at p us ∷ es) = let h = uses-kept es in cc
uses-kept (Defines at n d ∷ es) = uses-kept es
uses-kept (Declares at n f ∷ es) = uses-kept es

types-kept : (es : List Entry) → flat_map entry_types (map unplaced_entry es) ≡ flat_map entry_types es
types-kept [] = refl
types-kept (Uses at p us ∷ es) = types-kept es
types-kept (Defines at n d ∷ es) = let h = types-kept es in cc
types-kept (Declares at n f ∷ es) = types-kept es

functions-kept : (es : List Entry) → flat_map entry_functions (map unplaced_entry es) ≡ flat_map entry_functions es
functions-kept [] = refl
functions-kept (Uses at p us ∷ es) = functions-kept es
functions-kept (Defines at n d ∷ es) = functions-kept es
functions-kept (Declares at n f ∷ es) = let h = functions-kept es in cc

names-kept : (es : List Entry) → flat_map entry_names (map unplaced_entry es) ≡ flat_map entry_names es
names-kept [] = refl
names-kept (Uses at p us ∷ es) = let h = names-kept es in cc
names-kept (Defines at n d ∷ es) = let h = names-kept es in cc
names-kept (Declares at n f ∷ es) = let h = names-kept es in cc

scopes-kept : (es : List Entry) → flat_map entry_scopes (map unplaced_entry es) ≡ flat_map entry_scopes es
scopes-kept [] = refl
scopes-kept (Uses at p us ∷ es) = scopes-kept es
scopes-kept (Defines at n d ∷ es) = let h = scopes-kept es in cc
scopes-kept (Declares at n f ∷ es) = let h = scopes-kept es in cc

paths-kept : (es : List Entry) → flat_map entry_packages (map unplaced_entry es) ≡ flat_map entry_packages es
paths-kept [] = refl
paths-kept (Uses at p us ∷ es) = let h = paths-kept es in cc
paths-kept (Defines at n d ∷ es) = paths-kept es
paths-kept (Declares at n f ∷ es) = paths-kept es

world-paths-kept : (es : List WorldEntry) → flat_map world_entry_packages (map unplaced_world_entry es) ≡ flat_map world_entry_packages es
world-paths-kept [] = refl
world-paths-kept (Whole way p ∷ es) = let h = world-paths-kept es in cc
world-paths-kept (Single way at n f ∷ es) = world-paths-kept es

packages-kept : (es : List FileEntry) → flat_map file_entry_packages (map unplaced_file_entry es) ≡ flat_map file_entry_packages es
packages-kept [] = refl
packages-kept (AnInterface n is ∷ es) = let a = paths-kept is in let b = packages-kept es in rw (a, b) refl
packages-kept (AWorld at n ws ∷ es) = let a = world-paths-kept ws in let b = packages-kept es in rw (a, b) refl

tree-kept : (n : List ℕ) (es : List Entry) → interface_tree n (map unplaced_entry es) ≡ interface_tree n es
tree-kept n es =
    let a = uses-kept es in let b = types-kept es in let c = functions-kept es in
    rw (a, b, c) refl

interfaces-kept : (es : List FileEntry) → filter_map interface_of (map unplaced_file_entry es) ≡ filter_map interface_of es
interfaces-kept [] = refl
interfaces-kept (AnInterface n is ∷ es) = let a = tree-kept n is in let b = interfaces-kept es in cc
interfaces-kept (AWorld at n ws ∷ es) = interfaces-kept es

file-names-kept : (es : List FileEntry) → map file_name (map unplaced_file_entry es) ≡ map file_name es
file-names-kept [] = refl
file-names-kept (AnInterface n is ∷ es) = let b = file-names-kept es in cc
file-names-kept (AWorld at n ws ∷ es) = let b = file-names-kept es in cc

items-kept : (es : List WorldEntry) → map item_tree (map unplaced_world_entry es) ≡ map item_tree es
items-kept [] = refl
items-kept (Whole way p ∷ es) = let h = items-kept es in cc
items-kept (Single way at n f ∷ es) = let h = items-kept es in cc

worlds-kept : (es : List FileEntry) → filter_map world_of (map unplaced_file_entry es) ≡ filter_map world_of es
worlds-kept [] = refl
worlds-kept (AnInterface n is ∷ es) = worlds-kept es
worlds-kept (AWorld at n ws ∷ es) =
    ap (λ (is : List ItemTree). record { name = n; items = is } ∷ filter_map world_of (map unplaced_file_entry es)) (items-kept ws)
    ∙ ap (λ (xs : List WorldTree). record { name = n; items = map item_tree ws } ∷ xs) (worlds-kept es)

all-scopes-kept : (p : PackageParts) (es : List FileEntry) → flat_map (interface_scopes p) (map unplaced_file_entry es) ≡ flat_map (interface_scopes p) es
all-scopes-kept p [] = refl
all-scopes-kept p (AnInterface n is ∷ es) =
    let a = names-kept is in let b = scopes-kept is in let c = all-scopes-kept p es in rw (a, b, c) refl
all-scopes-kept p (AWorld at n ws ∷ es) =
    ap (λ (is : List ItemTree). world_scopes (meaning_of_world (full_world p (record { name = n; items = is }))) ++ flat_map (interface_scopes p) (map unplaced_file_entry es)) (items-kept ws)
    ∙ ap (λ (xs : List (List (List ℕ))). interface_scopes p (AWorld at n ws) ++ xs) (all-scopes-kept p es)

entries-fit : (es : List Entry) → list_all entry_fits (map unplaced_entry es) ≡ list_all entry_fits es
entries-fit [] = refl
entries-fit (Uses at p us ∷ es) = entries-fit es
entries-fit (Defines at n d ∷ es) = ap (λ b. body_fits d && b) (entries-fit es)
entries-fit (Declares at n f ∷ es) = ap (λ b. signature_fits f && b) (entries-fit es)

world-entries-fit : (es : List WorldEntry) → list_all world_entry_fits (map unplaced_world_entry es) ≡ list_all world_entry_fits es
world-entries-fit [] = refl
world-entries-fit (Whole d p ∷ es) = world-entries-fit es
world-entries-fit (Single d at n f ∷ es) = ap (λ b. signature_fits f && b) (world-entries-fit es)

files-fit : (es : List FileEntry) → list_all interface_fits (map unplaced_file_entry es) ≡ list_all interface_fits es
files-fit [] = refl
files-fit (AnInterface n is ∷ es) = ap (λ b. b && list_all interface_fits (map unplaced_file_entry es)) (entries-fit is) ∙ ap (λ b. list_all entry_fits is && b) (files-fit es)
files-fit (AWorld at n ws ∷ es) = ap (λ b. b && list_all interface_fits (map unplaced_file_entry es)) (world-entries-fit ws) ∙ ap (λ b. list_all world_entry_fits ws && b) (files-fit es)

-- ---- two files that differ in places alone

module _ (f g : File) (same : unplaced g ≡ unplaced f) where
  entries-same : map unplaced_file_entry g.entries ≡ map unplaced_file_entry f.entries
  entries-same = ap (λ (h : File). h.entries) same

  interfaces-same : interfaces g ≡ interfaces f
  interfaces-same = sym (interfaces-kept g.entries) ∙ (ap (filter_map interface_of) entries-same ∙ interfaces-kept f.entries)

  packages-same : other_packages g ≡ other_packages f
  packages-same = sym (packages-kept g.entries) ∙ (ap (flat_map file_entry_packages) entries-same ∙ packages-kept f.entries)

  packages-known : (m : Imports) → KnowsPackagesOf m f → KnowsPackagesOf m g
  packages-known m h = subst (All (Contains m.packages)) (sym packages-same) h

  worlds-same : file_worlds g ≡ file_worlds f
  worlds-same = sym (worlds-kept g.entries) ∙ (ap (filter_map world_of) entries-same ∙ worlds-kept f.entries)

  named-same : package_named g ≡ package_named f
  named-same = ap package_named same

  full-same : full_interfaces g ≡ full_interfaces f
  full-same = ap (λ (p : PackageParts). map (full_interface p) (interfaces g)) named-same ∙ ap (map (full_interface (package_named f))) interfaces-same

  full-worlds-same : full_worlds g ≡ full_worlds f
  full-worlds-same = ap (λ (p : PackageParts). map (full_world p) (file_worlds g)) named-same ∙ ap (map (full_world (package_named f))) worlds-same

  scopes-same : scopes g ≡ scopes f
  scopes-same =
      let a : map file_name g.entries ≡ map file_name f.entries = sym (file-names-kept g.entries) ∙ (ap (map file_name) entries-same ∙ file-names-kept f.entries) in
      let p = package_named f in
      let b : flat_map (interface_scopes (package_named g)) g.entries ≡ flat_map (interface_scopes (package_named f)) f.entries =
      ap (λ (q : PackageParts). flat_map (interface_scopes q) g.entries) named-same
      ∙ (sym (all-scopes-kept p g.entries) ∙ (ap (flat_map (interface_scopes p)) entries-same ∙ all-scopes-kept p f.entries)) in
      ap (λ (ns : List (List ℕ)). ns ∷ flat_map (interface_scopes (package_named g)) g.entries) a ∙ ap (λ (ss : List (List (List ℕ))). map file_name f.entries ∷ ss) b

  pub package-kept : (imports r : Resolve) → IsClosedPackageOf imports f r → IsClosedPackageOf imports g r
  package-kept imports r h = record {
    earlier = packages-known (imports_of imports) h.earlier;
    packages = h.packages ∙ ap (λ (p : PackageParts). imports.packages ++ p ∷ []) (sym named-same);
    resolves = subst (λ (is : List InterfaceTree). ResolvesBehind (package_of imports) is (full_worlds g) (package_of r)) (sym full-same)
        (subst (λ (ws : List WorldTree). ResolvesBehind (package_of imports) (full_interfaces f) ws (package_of r)) (sym full-worlds-same) h.resolves);
    postfix = h.postfix;
    behind = h.behind;
    items = h.items;
    rows = h.rows;
    own = h.own;
    worlds = h.worlds;
    within = h.within;
  }

  pub fits-kept : file_fits g ≡ file_fits f
  fits-kept = sym (files-fit g.entries) ∙ (ap (list_all interface_fits) entries-same ∙ files-fit f.entries)

  some-kept : f.entries ≢ [] → g.entries ≢ []
  some-kept h e = h (none f.entries (sym entries-same ∙ ap (map unplaced_file_entry) e))
    where
      none : (es : List FileEntry) → map unplaced_file_entry es ≡ [] → es ≡ []
      none [] q = refl
      none (x ∷ es) q = absurd cc

  pub faults-kept : (m : Imports) → HasNoFaultsOf m f → HasNoFaultsOf m g
  faults-kept m h = record {
    some = some-kept h.some;
    distinct = subst (All AreDistinct) (sym scopes-same) h.distinct;
    packages = packages-known m h.packages;
    known = record {
      in_interfaces = subst (λ (is : List InterfaceTree). All (HasKnownNamesOf m is) is) (sym interfaces-same) h.known.in_interfaces;
      in_worlds = subst (λ (ws : List WorldTree). All (IsKnownWorldOf m (names_of_trees (interfaces g))) ws) (sym worlds-same)
          (subst (λ (is : List InterfaceTree). All (IsKnownWorldOf m (names_of_trees is)) (file_worlds f)) (sym interfaces-same) h.known.in_worlds);
    };
  }
