-- The tree and the text of a package stand for it.
use Rattle.std.proofs.Common.{◌≡◌, ◌≤◌, ℕ, List, [], ◌∷◌, ◌++◌, length, map, refl, sym, subst, ◌∙◌, arith, All}
use Rattle.std.specs.Prelude.{Bool, true, false, ◌||◌, cond}
use Rattle.std.specs.List.{list_any, list_all, filter}
use Rattle.std.proofs.lemmas.Bool.{false≢true}
use Rattle.atoms.specs.Label.{IsLabel}
use Rattle.tables.specs.PackageNames.{PackageParts}
use Rattle.tables.specs.Tables.{are_grouped}
use Rattle.tables.specs.declared.tables.Interface.{Interface}
use Rattle.tables.specs.declared.tables.World.{World}
use Rattle.tables.specs.declared.tables.Resolve.{Resolve}
use Rattle.wit_tokens.specs.Lexing.{limit}
use Rattle.wit_tokens.specs.Syntax.{File}
use Rattle.wit_print.specs.Canonical.{canonical_text}
use Rattle.wit_print.specs.Printable.{IsPrintable}
use Rattle.wit_print.specs.Laws.{IsReadBack}
use Rattle.package_form.specs.Closed.{own_package, has_own, IsAlone}
use Rattle.package_form.specs.Reached.{is_interface_of}
use Rattle.package_form.specs.Entries.{labels_of}
use Rattle.package_form.specs.Form.{IsInPackageForm}
use Rattle.package_form.proofs.AllAndContains.{all-left}
use Rattle.package_form.proofs.InterfacesOfOnePackage.{all-first}
use Rattle.package_form.proofs.FullNamesStandForInterfaces.{own-part}
use Rattle.tree_meaning.specs.Imports.{imports_of}
use Rattle.tree_meaning.specs.Declarations.{interfaces, names_of_trees, file_worlds, package_named}
use Rattle.tree_meaning.proofs.ScopesFromDeclarations.{HasDistinctParts, interfaces-distinct}
use Rattle.tree_meaning.specs.Resolves.{KnowsPackagesOf, IsKnownWorldOf, HasEntries, HasNoFaultsOf, IsClosedPackageOf, file_fits}
use Rattle.tree_meaning.proofs.FilesThatStandAlone.{no-faults, is-package}
use Rattle.package_text.specs.Tree.{interfaces_of_package, own_parts}
use Rattle.package_text.specs.Tree as tree
use Rattle.package_text.specs.Writable.{IsWritable}
use Rattle.package_text.specs.Imports.{AreImportsOf}
use Rattle.package_text.specs.Laws.{IsTreeOfClosed, IsTextOfClosed, IsTreeOfPackage, IsTextOfPackage}
use Rattle.package_text.proofs.WrittenTrees.TreeByNames.{interface_entry, world_entry, file_of}
use Rattle.package_text.proofs.WrittenTrees.PathsSpelledByNames.{paths-spelt}
use Rattle.package_text.proofs.OneTablePerTree.TreeIsToldByNames.{same-file}
use Rattle.package_text.proofs.PrintableTrees.TreesHaveTexts.{tree-printable}
use Rattle.package_text.proofs.ResolvedTrees.PathsNameImports.{paths-known}
use Rattle.package_text.proofs.PrintableTrees.SpansDoNotMatter.{package-kept, faults-kept, fits-kept}
use Rattle.package_text.proofs.ResolvedTrees.ScopesOfTheTree.{tree-interfaces-distinct, tree-distinct}
use Rattle.package_text.proofs.TableRows.OwnInterfacesBegin.{kept-all, begins, own-are-labels}
use Rattle.package_text.proofs.TableRows.ImportsStandFirst.{are-imports, items-there}
use Rattle.package_text.proofs.ResolvedTrees.TreeResolvesToPackage.{tree-interfaces, tree-names, known-trees, tree-package}
use Rattle.package_text.proofs.ResolvedTrees.TreesNameWhatIsKnown.{trees-know}
use Rattle.package_text.proofs.TableRows.ItemsOfWorlds.{tree-worlds-known}
use Rattle.package_text.proofs.WrittenTrees.WrittenStandsForWorlds.{tree-worlds-read}
use Rattle.package_text.proofs.ResolvedTrees.NamesEarlier.{names-earlier}

interface-labels : (r : Resolve) → IsWritable r → All IsLabel (labels_of r.interfaces)
interface-labels r w = all-left IsLabel (labels_of r.interfaces) _ w.labels

-- the tree is what its names tell
told-file : (r : Resolve) → IsWritable r → tree.file_of r ≡ file_of r
told-file r w = same-file r w.form (paths-spelt r w.form.names (interface-labels r w))

not-none : {A : Type 0} (xs : List A) (y : A) (ys : List A) → xs ++ y ∷ ys ≡ [] → ⊥
not-none [] y ys e = absurd cc
not-none (x ∷ xs) y ys e = absurd cc

-- the tree has entries
tree-some : (r : Resolve) → IsInPackageForm r → HasEntries (file_of r)
tree-some r f = by r.interfaces r.worlds (own-part r f.closed)
  where
    some : (is : List Interface) → list_any (is_interface_of (own_package r.packages)) is ≡ true → map (interface_entry r) (filter (is_interface_of (own_package r.packages)) is) ++ [] ≡ [] → ⊥
    some [] h e = false≢true h
    some (i ∷ is) h e = one (is_interface_of (own_package r.packages) i) h e (λ q. some is q)
      where
        one : (b : Bool) → (b || list_any (is_interface_of (own_package r.packages)) is) ≡ true
            → map (interface_entry r) (cond b (i ∷ filter (is_interface_of (own_package r.packages)) is) (filter (is_interface_of (own_package r.packages)) is)) ++ [] ≡ []
            → (list_any (is_interface_of (own_package r.packages)) is ≡ true → map (interface_entry r) (filter (is_interface_of (own_package r.packages)) is) ++ [] ≡ [] → ⊥) → ⊥
        one true q u on = absurd cc
        one false q u on = on q u

    by : (is : List Interface) (ws : List World) → has_own (own_package r.packages) is ws ≡ true
        → map (interface_entry r) (filter (is_interface_of (own_package r.packages)) is) ++ map (world_entry r) ws ≡ [] → ⊥
    by is [] h e = some is h e
    by is (w ∷ ws) h e = not-none (map (interface_entry r) (filter (is_interface_of (own_package r.packages)) is)) (world_entry r w) (map (world_entry r) ws) e

-- ---- behind imports

-- what the names of a closed table tell
abbrev TellsPackage : Resolve → Resolve → Type 0
TellsPackage r imports = HasNoFaultsOf (imports_of imports) (file_of r) × IsClosedPackageOf imports (file_of r) r

told-package : (r imports : Resolve) → IsWritable r → AreImportsOf r imports → TellsPackage r imports
told-package r imports w a =
    let f = file_of r in
    let m = imports_of imports in
    let labels = interface-labels r w in
    let trees = known-trees r imports w a labels in
    let know = trees-know m (interfaces f) trees in
    let apart = subst (All HasDistinctParts) (sym (tree-interfaces r)) (interfaces-distinct (package_named f) (map (interface_entry r) (interfaces_of_package r)) (tree-interfaces-distinct r w.form w.distinct)) in
    let placed = tree-worlds-known r w.form m (labels_of (interfaces_of_package r)) (items-there r imports w a labels) in
    let here : All (IsKnownWorldOf m (names_of_trees (interfaces f))) (file_worlds f) = subst (λ (ns : List (List ℕ)). All (IsKnownWorldOf m ns) (file_worlds f)) (sym (tree-names r)) placed in
    let own : All IsLabel (names_of_trees (interfaces f)) = subst (All IsLabel) (sym (tree-names r)) (own-are-labels r (begins r w.form) labels) in
    let paths : KnowsPackagesOf m f = subst (KnowsPackagesOf m) (told-file r w) (paths-known r imports.packages a.packages) in
    let whole = tree-package r imports w a labels (names-earlier m (interfaces f) trees apart) own paths know placed (tree-worlds-read r w.form) in (
      record { some = tree-some r w.form; distinct = tree-distinct r w.form whole.resolves.worlds w.distinct; packages = paths; known = record { in_interfaces = know; in_worlds = here } },
      whole,
    )

pub tree-of-closed : (r imports : Resolve) → IsTreeOfClosed r imports
tree-of-closed r imports w a =
    let t = subst (λ (f : File). HasNoFaultsOf (imports_of imports) f × IsClosedPackageOf imports f r) (sym (told-file r w)) (told-package r imports w a) in
    (are-imports r imports w a (interface-labels r w), t.0, t.1)

pub text-of-closed : ((f : File) → IsReadBack f) → (r imports : Resolve) → IsTextOfClosed r imports
text-of-closed back r imports w a nested few =
    let same = told-file r w in
    let f = tree.file_of r in
    let printable : IsPrintable f =
    subst IsPrintable (sym same) (tree-printable r w (subst (λ (g : File). file_fits g ≡ true) same nested) (subst (λ (g : File). length (canonical_text g) ≤ limit) same few)) in
    let x = back f printable few in
    let t = tree-of-closed r imports w a in
    (x.0, x.1, record { faults = faults-kept f x.0 x.2 (imports_of imports) t.1; fits = fits-kept f x.0 x.2 ∙ nested; resolved = package-kept f x.0 x.2 imports r t.2 })

-- ---- a package that stands alone

-- the table of no imports
abbrev pub empty : Resolve
empty = record {
  packages = [];
  interfaces = [];
  worlds = [];
  definitions = [];
  earlier = refl;
  typed = refl;
  standard = refl;
  placed = refl;
  grouped = refl;
  worlds_grouped = refl;
  worlds_placed = refl;
}

alone-imports : (r : Resolve) → IsAlone r → AreImportsOf r empty
alone-imports r alone = record {
  packages = one r.packages alone;
  interfaces = sym (kept-all (is_interface_of (own_package r.packages)) r.interfaces
      (subst (λ (n : ℕ). list_all (is_interface_of n) r.interfaces ≡ true) zero (all-first 0 r.interfaces (subst (λ n. are_grouped n 0 r.interfaces ≡ true) alone r.grouped))));
  worlds = refl;
  rows = (r.definitions, refl);
  ends = refl;
}
  where
    zero : 0 ≡ own_package r.packages
    zero = omega (arith, alone)

    one : (ps : List PackageParts) → length ps ≡ 1 → ps ≡ own_parts ps ∷ []
    one [] h = absurd (omega (arith, h))
    one (p ∷ []) h = refl
    one (p ∷ q ∷ ps) h = absurd (omega (arith, h))

pub tree-of-package : (r : Resolve) → IsTreeOfPackage r
tree-of-package r w alone =
    let t = tree-of-closed r empty w (alone-imports r alone) in
    (no-faults empty refl refl refl refl (tree.file_of r) t.1, is-package empty refl refl refl refl (tree.file_of r) r t.2)

pub text-of-package : ((f : File) → IsReadBack f) → (r : Resolve) → IsTextOfPackage r
text-of-package back r w alone nested few =
    let x = text-of-closed back r empty w (alone-imports r alone) nested few in
    let h = x.2 in
    (x.0, x.1, record { faults = no-faults empty refl refl refl refl x.0 h.faults; fits = h.fits; resolved = is-package empty refl refl refl refl x.0 r h.resolved })
