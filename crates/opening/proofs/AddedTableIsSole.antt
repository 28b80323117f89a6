-- A file, or a component, adds its package to a set in one way: what is told of the table is told of no other.
use Rattle.std.proofs.Common.{All, ◌≡◌, ℕ, zero, suc, List, [], ◌∷◌, map, drop, Some, slice_get, ap, sym, subst, ◌∙◌}
use Rattle.std.proofs.Math.Logic.{∥∥₁_map₂}
use Rattle.component_reader.specs.Component.{Candidate, IsMadeOf}
use Rattle.ctype_bin.specs.declared.component.RawComponent.{RawComponent}
use Rattle.package_adding.proofs.BeginningsAreImports.{interfaces-labelled}
use Rattle.package_form.specs.Closed.{own_package}
use Rattle.package_form.specs.Laws.{IsLabelled}
use Rattle.package_form.specs.Naming.{package_scopes}
use Rattle.package_form.specs.Scope.{AreDistinct}
use Rattle.package_form.proofs.AllAndContains.{all-append, all-cons, all-head, all-none, all-tail}
use Rattle.package_sets.specs.Attached.{IsAttached}
use Rattle.package_sets.specs.Joining.{import_count, joined, own_interfaces}
use Rattle.package_sets.proofs.AttachedSets.KeepsTower.{follows}
use Rattle.package_sets.proofs.SamePackagesAreOne.{same-tables}
use Rattle.package_text.specs.Writable.{IsWritable}
use Rattle.set_rows.specs.Moved.{Renaming, put_interface}
use Rattle.tables.specs.PackageNames.{PackageParts}
use Rattle.tables.specs.Same.{IsSamePackage}
use Rattle.tables.specs.declared.tables.Interface.{Interface}
use Rattle.wit_component.specs.ToComponent.{ComponentStands}
use Rattle.wit_component.proofs.CandidateIsThePackage.{reads-as}
use Rattle.tables.specs.Package.{Package, package_of}
use Rattle.tables.specs.declared.tables.Resolve.{Resolve}
use Rattle.tree_meaning.specs.Declarations.{full_interfaces, full_worlds}
use Rattle.tree_meaning.specs.Imports.{no_package}
use Rattle.tree_meaning.proofs.PlacementsHaveNoCycle.{one-behind}
use Rattle.wit_tokens.specs.Syntax.{File}
use Rattle.opening.specs.Sole.{AddsRawInOrder, ComponentIsInOrder, FileIsSole, HasOwnBehind, IsSetTable, RawIsSole, TreeIsInOrder}
use Rattle.opening.specs.Told.{and_then, own_part}
use Rattle.opening.proofs.NamesDetermineTables.{names-determine}
use Rattle.opening.proofs.OwnRowsComeLast.{component-is-behind, tree-is-behind}
use Rattle.opening.proofs.AddedPackageIsTold.{told-behind, tree-is-told}

pub file-is-sole : (f : File) (set r s : Resolve) → FileIsSole f set r s
file-is-sole f set r s a b =
    let same : a.adds.told ≡ b.adds.told = one-behind no_package (full_interfaces f) (full_worlds f) a.adds.told b.adds.told a.adds.resolves b.adds.resolves in
    let names : package_of r ≡ package_of s = a.adds.is.names ∙ (ap (λ (p : Package). and_then (package_of set) p) same ∙ sym b.adds.is.names) in
    names-determine set _ r s a.table b.table a.order b.order names

-- ---- a component

some-is : {A : Type 0} (x y : A) → Some x ≡ Some y → x ≡ y
some-is x y e = cc

made-same : (c d : Candidate) (x y : Resolve) → c ≡ d → IsMadeOf c x → IsMadeOf d y → IsSamePackage x y
made-same c d x y e m n =
    let h : IsMadeOf c y = subst (λ (z : Candidate). IsMadeOf z y) (sym e) n in
    record { packages = m.packages ∙ sym h.packages; interfaces = m.interfaces ∙ sym h.interfaces; worlds = m.worlds ∙ sym h.worlds; definitions = m.definitions ∙ sym h.definitions }

-- the closed table that it stands for is one
one-closed : (raw : RawComponent) (x y : Resolve) → ComponentStands raw x → ComponentStands raw y → All AreDistinct (package_scopes x) → All AreDistinct (package_scopes y) → x ≡ y
one-closed raw x y s t d e =
    let a = reads-as raw x s d in
    let b = reads-as raw y t e in
    same-tables x y (made-same a.0 b.0 x y (some-is a.0 b.0 (sym a.1 ∙ b.1)) a.2 b.2)

module _ (raw : RawComponent) (set r s : Resolve) (a : AddsRawInOrder raw set r) (b : AddsRawInOrder raw set s) where
  with-one : a.adds.closed ≡ b.adds.closed → IsSamePackage r s
  with-one e =
      let owns : Some a.adds.own ≡ Some b.adds.own = sym a.adds.own_is ∙ (ap (λ (c : Resolve). slice_get c.packages (own_package c.packages)) e ∙ b.adds.own_is) in
      let own : b.adds.own ≡ a.adds.own = sym (some-is a.adds.own b.adds.own owns) in
      let names : package_of r ≡ package_of s = a.adds.is.names ∙ (ap (λ (c : Resolve). and_then (package_of set) (own_part c)) e ∙ sym b.adds.is.names) in
      names-determine set a.adds.own r s a.table b.table a.order (subst (λ (p : PackageParts). HasOwnBehind set p s) own b.order) names

  sole : ∥ IsSamePackage r s ∥₁
  sole =
      ∥∥₁_map₂ a.adds.component.stands b.adds.component.stands
      (λ x y. with-one (one-closed raw a.adds.closed b.adds.closed x y a.adds.component.distinct b.adds.component.distinct))

pub raw-is-sole : (raw : RawComponent) (set r s : Resolve) → RawIsSole raw set r s
raw-is-sole raw set r s a b = sole raw set r s a b

-- ---- what is added is that table

dropped : (n : ℕ) (is : List Interface) → All IsLabelled is → All IsLabelled (drop n is)
dropped zero is a = a
dropped (suc n) [] a = all-none IsLabelled
dropped (suc n) (i ∷ is) a = dropped n is (all-tail IsLabelled i is a)

moved : (to : Renaming) (is : List Interface) → All IsLabelled is → All IsLabelled (map (put_interface to) is)
moved to [] a = all-none IsLabelled
moved to (i ∷ is) a = all-cons IsLabelled (put_interface to i) (map (put_interface to) is) (all-head IsLabelled i is a) (moved to is (all-tail IsLabelled i is a))

module _ (set closed r : Resolve) (id : ℕ) (good : IsSetTable set) (w : IsWritable closed) (a : IsAttached set closed r id) where
  abbrev to : Renaming
  to = joined set closed a.fits.imports.places

  table : IsSetTable r
  table = record {
    form = (follows set closed r id a).in_form good.form w.form w.distinct;
    labels = subst (λ (is : List Interface). All IsLabelled is) (sym a.own_behind.interfaces)
        (all-append IsLabelled set.interfaces (map (put_interface to) (own_interfaces closed)) good.labels
        (moved to (own_interfaces closed) (dropped (import_count closed) closed.interfaces (interfaces-labelled closed w.labels))));
  }

pub tree-is-in-order : (f : File) (set closed r : Resolve) (id : ℕ) → TreeIsInOrder f set closed r id
tree-is-in-order f set closed r id good w t = record {
  adds = tree-is-told f set closed r id good.form w t;
  table = table set closed r id good w t.attached;
  order = tree-is-behind f set closed r id good.form w t;
}

pub component-is-in-order : (raw : RawComponent) (set closed r : Resolve) (id : ℕ) → ComponentIsInOrder raw set closed r id
component-is-in-order raw set closed r id good w t = record {
  adds = record {
    closed = closed;
    component = t.component;
    own = t.attached.fits.own;
    own_is = t.attached.fits.own_is;
    is = told-behind set closed r id good.form w t.attached;
  };
  table = table set closed r id good w t.attached;
  order = component-is-behind raw set closed r id good.form w t;
}
