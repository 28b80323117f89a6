-- What is added of a tree is its package by names, behind the rows that were there.
use Rattle.std.proofs.Common.{◌≡◌, All, Contains, true, ℕ, List, [], ◌∷◌, ◌++◌, length, drop, flat_map, slice_get, Some, ap, sym, subst, ◌∙◌, arith}
use Rattle.std.proofs.Math.Seq.{drop-append_seam}
use Rattle.std.proofs.lemmas.List.{append_cancel_left, length-map}
use Rattle.std.specs.List.{list_all}
use Rattle.package_form.specs.Closed.{own_package}
use Rattle.package_form.specs.Ends.{interfaces_end}
use Rattle.package_adding.specs.Added.{AddsTree}
use Rattle.package_adding.proofs.BeginningsAreImports.{interfaces-labelled}
use Rattle.package_adding.proofs.FileNamesWhatItsTableNames.{StandsBehind, tree-behind}
use Rattle.package_adding.proofs.FileTableBeginsWithImports.{begins-with}
use Rattle.package_sets.specs.Follows.{AreInForm, BeginsWith, OfAttached, own_definitions, own_interface_names}
use Rattle.package_sets.specs.Joining.{import_count}
use Rattle.package_sets.specs.Set.{HasRowsInForm}
use Rattle.package_sets.specs.SetForm.{IsInSetForm}
use Rattle.package_sets.proofs.FoundImports.BeginsWithImports.{begins-count, begins-imports, begins-rows, own-is}
use Rattle.package_sets.proofs.AttachedSets.KeepsTower.{follows}
use Rattle.package_sets.proofs.KeptParts.ClosedTypesStay.{kept-from}
use Rattle.package_sets.proofs.GrowingLists.{behind-get, drop-map, get-contains}
use Rattle.package_form.proofs.AllAndContains.{all-mono}
use Rattle.package_sets.proofs.AttachedSets.RowsKeepTheirMeaning.{own-told}
use Rattle.package_sets.proofs.MovedRows.MovedRowsKeepMeaning.{definitions-append}
use Rattle.package_text.specs.Writable.{IsWritable}
use Rattle.tables.specs.Names.{full_name}
use Rattle.tables.specs.Package.{NamedDefinition, Package, package_of, interface_names, definitions, definitions_from, references}
use Rattle.tables.specs.PackageNames.{PackageParts}
use Rattle.tables.specs.declared.tables.Definition.{Definition}
use Rattle.tables.specs.declared.tables.Resolve.{Resolve}
use Rattle.tree_meaning.specs.Declarations.{InterfaceTree, full_interfaces, full_worlds, interface_at, other_packages, package_named}
use Rattle.tree_meaning.specs.Resolved.{interface_meaning}
use Rattle.tree_meaning.specs.Resolves.{IsClosedPackageOf, Resolves, is_of_interfaces, names_in_order}
use Rattle.tree_meaning.proofs.PackageOfAFile.{definitions-within}
use Rattle.wit_tokens.specs.Syntax.{File}
use Rattle.opening.specs.Told.{and_then, IsTold, AddsFile, TreeIsTold, own_part, ComponentIsTold}
use Rattle.package_sets.specs.Attached.{IsAttached}
use Rattle.ctype_bin.specs.declared.component.RawComponent.{RawComponent}

pub rows-in-form : (closed : Resolve) → IsWritable closed → HasRowsInForm closed
rows-in-form closed w = record { parted = w.form.parted; interfaces = w.form.interfaces; items = w.form.worlds }

-- a closed table's own part, behind the rows that were there
pub told-behind : (set closed r : Resolve) (id : ℕ) → IsInSetForm set → IsWritable closed → (a : IsAttached set closed r id) → IsTold set a.fits.own (own_part closed) r
told-behind set closed r id form w a = record {
  packages = a.packages_are;
  behind = its.behind;
  names = names;
  apart = formed.packages;
  distinct = formed.scopes;
}
  where
    its : OfAttached set closed r
    its = follows set closed r id a

    formed : IsInSetForm r
    formed = its.in_form form w.form w.distinct

    names : package_of r ≡ and_then (package_of set) (own_part closed)
    names =
        let h : AreInForm set closed = record { set_is = form.rows.stands; rows = rows-in-form closed w; closed_is = w.form.closed } in
        let a = its.interfaces_are in
        let d = its.definitions_are h in
        let x = its.worlds_are h in
        cc

pub component-is-told : (raw : RawComponent) (set closed r : Resolve) (id : ℕ) → ComponentIsTold raw set closed r id
component-is-told raw set closed r id form w t = record {
  closed = closed;
  component = t.component;
  own = t.attached.fits.own;
  own_is = t.attached.fits.own_is;
  is = told-behind set closed r id form w t.attached;
}

module _ (f : File) (set closed r : Resolve) (id : ℕ) (form : IsInSetForm set) (w : IsWritable closed) (t : AddsTree f set closed r id) where
  abbrev imports : Resolve
  imports = t.tree.imports

  abbrev s : StandsBehind imports f closed
  s = tree-behind f set closed t.tree ∣ form ∣₁ ∣ w.form ∣₁ ∣ w.distinct ∣₁ (interfaces-labelled closed w.labels)

  abbrev c : IsClosedPackageOf imports f closed
  c = t.tree.resolved

  abbrev b : BeginsWith imports closed
  b = begins-with imports f closed c

  abbrev is : List InterfaceTree
  is = full_interfaces f

  abbrev ns : List (List ℕ)
  ns = interface_names closed

  abbrev own_names : List (List ℕ)
  own_names = names_in_order is c.resolves.order

  abbrev own : List Definition
  own = c.rows.0

  abbrev meanings : List NamedDefinition
  meanings = flat_map (λ k. interface_meaning (interface_at is k) (c.resolves.types k)) c.resolves.order

  abbrev told : Package
  told = own_part closed

  counted : length (interface_names imports) ≡ length imports.interfaces
  counted = length-map imports.interfaces (full_name imports)

  own-names : own_interface_names closed ≡ own_names
  own-names =
      sym (drop-map (full_name closed) (import_count closed) closed.interfaces)
      ∙ (ap (λ (n : ℕ). drop n ns) (begins-count imports closed b ∙ sym counted)
      ∙ (ap (drop (length (interface_names imports))) c.resolves.names ∙ drop-append_seam (interface_names imports) own_names))

  first-defined : definitions_from ns [] imports.definitions ≡ definitions imports
  first-defined =
      ap (λ (xs : List (List ℕ)). definitions_from xs [] imports.definitions) c.resolves.names
      ∙ definitions-within (interface_names imports) own_names [] imports.definitions (subst (λ (n : ℕ). list_all (is_of_interfaces n) imports.definitions ≡ true) (sym counted) s.owned)

  own-defined : definitions_from ns (references ns [] imports.definitions) own ≡ meanings
  own-defined =
      append_cancel_left (definitions imports) _ _
      (ap (λ (ds : List NamedDefinition). ds ++ definitions_from ns (references ns [] imports.definitions) own) (sym first-defined)
      ∙ (sym (definitions-append ns [] imports.definitions own) ∙ (ap (definitions_from ns []) (sym c.rows.1) ∙ c.resolves.definitions)))

  own-definitions : own_definitions closed ≡ meanings
  own-definitions =
      let m = length imports.definitions in
      own-told closed (rows-in-form closed w) w.form.closed m (sym s.ends ∙ ap (interfaces_end 0) (sym (begins-imports imports closed b)))
      ∙ (ap (λ (ds : List Definition). definitions_from ns (references ns [] ds) (drop m closed.definitions)) (begins-rows imports closed b)
      ∙ (ap (λ (ds : List Definition). definitions_from ns (references ns [] imports.definitions) ds) (ap (drop m) c.rows.1 ∙ drop-append_seam imports.definitions own) ∙ own-defined))

  resolves : Resolves is (full_worlds f) told
  resolves = record {
    order = c.resolves.order;
    placed = c.resolves.placed;
    types = c.resolves.types;
    types_placed = c.resolves.types_placed;
    names = own-names;
    worlds = c.resolves.worlds;
    definitions = own-definitions;
  }

  pub own-package-is : t.attached.fits.own ≡ package_named f
  own-package-is =
      let at : slice_get closed.packages (own_package closed.packages) ≡ Some (package_named f) =
      ap (slice_get closed.packages) (own-is imports closed b)
      ∙ (ap (λ (ps : List PackageParts). slice_get ps (length imports.packages)) c.packages
      ∙ (ap (slice_get (imports.packages ++ package_named f ∷ [])) (omega arith) ∙ behind-get imports.packages (package_named f ∷ []) 0)) in
      let one : Some t.attached.fits.own ≡ Some (package_named f) = sym t.attached.fits.own_is ∙ at in
      cc

  known : All (Contains set.packages) (other_packages f)
  known = all-mono (Contains imports.packages) (Contains set.packages) there (other_packages f) c.earlier
    where
      there : (p : PackageParts) → Contains imports.packages p → Contains set.packages p
      there p h =
          let n = t.tree.from.are in
          let k = kept-from n.to.packages set.packages p (subst (λ (ps : List PackageParts). Contains ps p) n.table.packages h) in
          get-contains set.packages k.0 p k.2

  adds : AddsFile f set r
  adds = record {
    known = known;
    told = told;
    resolves = resolves;
    is = subst (λ (p : PackageParts). IsTold set p told r) own-package-is (told-behind set closed r id form w t.attached);
  }

pub tree-is-told : (f : File) (set closed r : Resolve) (id : ℕ) → TreeIsTold f set closed r id
tree-is-told f set closed r id form w t = adds f set closed r id form w t
