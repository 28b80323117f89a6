-- A closed table that begins with a table of a set's imports has it as its imports; that of a tree begins with the tree's.
use Rattle.std.proofs.Common.{All, ◌≡◌, ◌+◌, ◌<◌, ◌≤◌, ℕ, Bool, true, not, List, [], ◌∷◌, ◌++◌, length, take, drop, slice_get, Some, ap, sym, subst, ◌∙◌, arith, Contains}
use Rattle.std.proofs.lemmas.List.{get_or_default, take_all, take-append-drop}
use Rattle.std.proofs.lemmas.List.Elements.{filter_passes}
use Rattle.atoms.specs.Label.{IsLabel}
use Rattle.package_form.specs.Closed.{own_package}
use Rattle.package_form.specs.Ends.{is_parted}
use Rattle.package_form.specs.Form.{IsInPackageForm}
use Rattle.package_form.specs.Entries.{labels_of}
use Rattle.package_form.specs.Laws.{IsLabelled}
use Rattle.package_form.specs.Naming.{package_scopes}
use Rattle.package_form.specs.Reached.{is_interface_of}
use Rattle.package_form.specs.Scope.{AreDistinct}
use Rattle.package_form.proofs.AllAndContains.{all-contained, all-get, all-left, all-map}
use Rattle.package_form.proofs.NamesMetOneByOne.{take-more}
use Rattle.package_form.proofs.FullNamesStandForInterfaces.{some-package}
use Rattle.package_sets.specs.Imports.{IsImportsOf}
use Rattle.package_sets.specs.Joining.{imports}
use Rattle.package_sets.specs.Set.{IsSet}
use Rattle.package_sets.specs.SetForm.{IsInSetForm}
use Rattle.package_sets.proofs.FoundImports.OfImports.{follows}
use Rattle.package_sets.proofs.FoundImports.BeginsWithImports.{imports-front, begins-packages, begins-imports, begins-rows}
use Rattle.package_sets.proofs.GrowingLists.{not-is}
use Rattle.package_text.specs.Imports.{AreImportsOf}
use Rattle.package_text.specs.Tree.{interfaces_of_package, own_parts}
use Rattle.package_text.specs.Writable.{package_labels}
use Rattle.package_text.proofs.TableRows.OwnInterfacesBegin.{begins}
use Rattle.tree_meaning.specs.Imports.{nameless}
use Rattle.tree_meaning.specs.Resolves.{IsClosedPackageOf}
use Rattle.tree_meaning.proofs.tree_forms.ImportsStandInClosedTables.{last-end}
use Rattle.package_adding.proofs.FileTableBeginsWithImports.{begins-with}
use Rattle.tables.specs.PackageNames.{PackageParts}
use Rattle.tables.specs.declared.tables.Definition.{Definition}
use Rattle.tables.specs.declared.tables.Interface.{Interface}
use Rattle.tables.specs.declared.tables.Resolve.{Resolve}
use Rattle.tables.specs.declared.tables.World.{World}
use Rattle.wit_tokens.specs.Syntax.{File}
use Rattle.package_adding.specs.Added.{IsOfTree}
use Rattle.package_sets.specs.BehindImports.{HasImportTable, IsBehindImports}
use Rattle.package_adding.proofs.FileNamesWhatItsTableNames.{named-of-tree}

-- the own package is the last
last-own : (ps : List PackageParts) → 0 < length ps → ps ≡ take (own_package ps) ps ++ own_parts ps ∷ []
last-own ps l =
    let within : own_package ps < length ps = omega (arith, l) in
    let all : length ps ≤ own_package ps + 1 = omega arith in
    sym (take_all (own_package ps + 1) ps all) ∙ take-more ps (own_package ps) (own_parts ps) within (get_or_default ps (own_package ps) nameless (own_parts ps) within)

-- the interfaces of other packages, and behind them the own ones
interfaces-parted : (closed : Resolve) → IsInPackageForm closed → closed.interfaces ≡ imports closed ++ interfaces_of_package closed
interfaces-parted closed form =
    let b = begins closed form in
    let own = own_package closed.packages in
    let other = λ (k : ℕ) (i : Interface) (e : slice_get b.front k ≡ Some i). not-is (is_interface_of own i) (all-get (λ (j : Interface). not (is_interface_of own j)) b.front k i b.others e) in
    let mine = λ (i : Interface) (c : Contains (interfaces_of_package closed) i). all-contained (λ (j : Interface). is_interface_of own j ≡ true) (interfaces_of_package closed) i (filter_passes (is_interface_of own) closed.interfaces) c in
    b.interfaces ∙ ap (λ (is : List Interface). is ++ interfaces_of_package closed) (sym (imports-front closed b.front (interfaces_of_package closed) b.interfaces other mine))

-- the rows of a set's imports end with those of the last interface
import-ends : (set t : Resolve) (packages interfaces : List Bool) → IsImportsOf set packages interfaces t → IsSet set → is_parted (length t.definitions) 0 t.interfaces [] ≡ true
import-ends set t packages interfaces n s =
    let its = follows set packages interfaces t n in
    subst (λ (ws : List World). is_parted (length t.definitions) 0 t.interfaces ws ≡ true) its.worlds_are (its.in_form s).parted

pub behind-imports : (t closed : Resolve) → HasImportTable closed t → (set : Resolve) (packages interfaces : List Bool) → IsImportsOf set packages interfaces t → IsSet set → IsInPackageForm closed
    → AreImportsOf closed t
behind-imports t closed h set packages interfaces n s form = record {
  packages = last-own closed.packages (some-package closed form.closed) ∙ ap (λ (ps : List PackageParts). ps ++ own_parts closed.packages ∷ []) h.packages;
  interfaces = interfaces-parted closed form ∙ ap (λ (is : List Interface). is ++ interfaces_of_package closed) h.interfaces;
  worlds = (follows set packages interfaces t n).worlds_are;
  rows =
      let behind = drop (length t.definitions) closed.definitions in
      (behind, sym (take-append-drop (length t.definitions) closed.definitions) ∙ ap (λ (ds : List Definition). ds ++ behind) h.rows);
  ends = sym (last-end (length t.definitions) 0 t.interfaces (import-ends set t packages interfaces n s));
}

-- ---- of a tree

pub tree-behind : (t : Resolve) (f : File) (closed : Resolve) → IsClosedPackageOf t f closed → HasImportTable closed t
tree-behind t f closed r =
    let b = begins-with t f closed r in
    record { packages = begins-packages t closed b; interfaces = begins-imports t closed b; rows = begins-rows t closed b }

-- ---- of a tree over a set

pub interfaces-labelled : (r : Resolve) → All IsLabel (package_labels r) → All IsLabelled r.interfaces
interfaces-labelled r labels = all-map IsLabel (λ (i : Interface). i.name) r.interfaces (all-left IsLabel (labels_of r.interfaces) _ labels)

pub tree-is-behind : (f : File) (set closed : Resolve) → IsOfTree f set closed → ∥ IsInSetForm set ∥₁ → ∥ IsInPackageForm closed ∥₁ → ∥ All AreDistinct (package_scopes closed) ∥₁ → All IsLabel (package_labels closed)
    → IsBehindImports set closed
tree-is-behind f set closed t form formed distinct labels = record {
  packages = t.from.packages;
  interfaces = t.from.interfaces;
  named = named-of-tree f set closed t form formed distinct (interfaces-labelled closed labels);
  imports = t.imports;
  are = t.from.are;
  stands = tree-behind t.imports f closed t.resolved;
}
