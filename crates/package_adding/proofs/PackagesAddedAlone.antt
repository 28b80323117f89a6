-- A package that names no other, added to a set that has none.
use Rattle.std.proofs.Common.{◌≡◌, ◌∙◌, ◌≤◌, ◌==◌, ℕ, zero, suc, Bool, true, false, List, [], ◌∷◌, map, length, slice_get, Some, refl, ap, sym, subst, arith, true≢false, eq-eqb, eqb-true, inl, inr, All, IsTrue}
use Rattle.std.proofs.Math.Bool.{Bool-set}
use Rattle.std.proofs.Math.Logic.{∥∥₁_map, ∥∥₁_elim}
use Rattle.std.specs.List.{list_any, items_where_true}
use Rattle.std.proofs.lemmas.List.{length-take}
use Rattle.std.proofs.lemmas.Option.{slice_get_within}
use Rattle.atoms.specs.Label.{IsLabel}
use Rattle.ctype_bin.specs.declared.component.RawComponent.{RawComponent}
use Rattle.package_form.specs.Closed.{IsAlone, own_package, is_same_package}
use Rattle.package_form.specs.Form.{IsInPackageForm}
use Rattle.package_form.proofs.FullNamesStandForInterfaces.{some-package}
use Rattle.package_sets.specs.Attached.{HasRoom, has_package, others, HasAll, LacksFirst, IsAttached}
use Rattle.package_sets.specs.BehindImports.{IsBehindImports}
use Rattle.package_sets.specs.SetForm.{IsEmpty}
use Rattle.package_sets.proofs.AttachedSets.AttachesAlone.{attached-alone, behind-alone, no-imports-of, no-marks-of}
use Rattle.package_sets.proofs.GrowingLists.{one-there}
use Rattle.package_sets.proofs.AttachedAndImportedAreOne.{attached-one}
use Rattle.package_sets.proofs.SamePackagesAreOne.{same-tables}
use Rattle.package_text.specs.Writable.{IsWritable, package_labels}
use Rattle.tables.specs.PackageNames.{PackageParts}
use Rattle.tables.specs.declared.error.ResolveError.{ResolveError}
use Rattle.tables.specs.declared.error.ResolveError.TheVariants as error
use Rattle.tables.specs.declared.tables.Resolve.{Resolve}
use Rattle.tree_meaning.specs.Resolves.{IsPackageOf, ResolveRefuses, file_fits}
use Rattle.tree_meaning.proofs.FilesThatStandAlone.{no-faults, is-package, without-faults, closed-package, refuses}
use Rattle.tree_meaning.proofs.tree_forms.AlonePackagesAreInForm.{has-form, has-distinct-names}
use Rattle.wit_tokens.specs.Syntax.{File}
use Rattle.wit_tokens.specs.FullNames.{file_has_full_names}
use Rattle.package_adding.specs.Added.{IsOfComponent, AddsComponent, ComponentNotAdded, AreImportsFrom, AddsTree, IsRefusedTree, TreeNotAdded}
use Rattle.package_adding.specs.Alone.{IsFileAlone, IsComponentAlone, FileAloneRefuses, ComponentAloneRefuses}
use Rattle.package_adding.specs.Named.{NamesInterface}

-- nothing is kept of nothing
kept-none : {A : Type 0} (bs : List Bool) (xs : List A) → xs ≡ [] → items_where_true bs xs ≡ []
kept-none [] xs e = refl
kept-none (b ∷ bs) [] e = refl
kept-none (b ∷ bs) (x ∷ xs) e = absurd (cc)

module _ (none : Resolve) (e : IsEmpty none) where
  -- what a file imports of no package
  empty-imports : (f : File) (imports : Resolve) → AreImportsFrom f none imports → IsEmpty imports
  empty-imports f imports from =
      let is = from.are in
      record {
        packages = is.table.packages ∙ kept-none is.to.packages none.packages e.packages;
        interfaces = is.table.interfaces ∙ ap (map _) (kept-none is.to.interfaces none.interfaces e.interfaces);
        worlds = is.table.worlds ∙ ap (map _) (kept-none is.to.worlds none.worlds e.worlds);
        definitions = is.table.definitions ∙ ap (map _) (kept-none is.to.rows none.definitions e.definitions);
      }

  -- ---- what is added

  module _ (closed r : Resolve) (id : ℕ) (a : IsAttached none closed r id) (behind : IsBehindImports none closed) where
    is-alone : IsAlone closed
    is-alone =
        let no-packages = behind.are.table.packages ∙ kept-none behind.are.to.packages none.packages e.packages in
        omega (arith, ap length behind.stands.packages, ap length no-packages, length-take (own_package closed.packages) closed.packages, slice_get_within closed.packages (own_package closed.packages) a.fits.own a.fits.own_is)

    -- in form, it is attached as it is
    pub is-set : ∥ IsInPackageForm closed ∥₁ → closed ≡ r
    is-set form = same-tables closed r (attached-one none closed closed r 0 id (attached-alone none closed e form is-alone) a).0

  pub file-alone : (f : File) (closed r : Resolve) (id : ℕ) → AddsTree f none closed r id → IsBehindImports none closed → ∥ IsWritable closed ∥₁ → file_fits f ≡ true
      → All IsLabel (package_labels r) → IsFileAlone f r
  file-alone f closed r id h behind w fits labels =
      let i = empty-imports f h.tree.imports h.tree.from in
      record {
        fits = fits;
        faults = no-faults h.tree.imports i.packages i.interfaces i.worlds i.definitions f h.tree.faults;
        resolved = subst (IsPackageOf f) (is-set closed r id h.attached behind (∥∥₁_map w (λ x. x.form))) (is-package h.tree.imports i.packages i.interfaces i.worlds i.definitions f closed h.tree.resolved);
        labels = labels;
      }

  pub component-alone : (raw : RawComponent) (closed r : Resolve) (id : ℕ) → AddsComponent raw none closed r id → All IsLabel (package_labels r) → IsComponentAlone raw r
  component-alone raw closed r id h labels =
      let same = is-set closed r id h.attached h.behind (∥∥₁_map h.component.stands (λ s. s.form)) in
      record { component = subst (IsOfComponent raw) same h.component; alone = subst IsAlone same (is-alone closed r id h.attached h.behind); labels = labels }

  -- ---- what can be added

  pub file-writable : (f : File) (r : Resolve) → IsTrue (file_has_full_names f) → IsFileAlone f r → ∥ IsWritable r ∥₁
  file-writable f r named h = ∣ record { form = has-form f r h.faults named h.resolved; distinct = has-distinct-names f r h.faults named h.resolved; labels = h.labels } ∣₁

  pub component-writable : (raw : RawComponent) (r : Resolve) → IsComponentAlone raw r → ∥ IsWritable r ∥₁
  component-writable raw r h = ∥∥₁_map h.component.stands (λ s. record { form = s.form; distinct = h.component.distinct; labels = h.labels })

  file-is-alone : (f : File) (r : Resolve) → IsFileAlone f r → IsAlone r
  file-is-alone f r h = ap length h.resolved.packages

  pub file-behind : (f : File) (r : Resolve) → IsFileAlone f r → IsBehindImports none r
  file-behind f r h = behind-alone none e r (file-is-alone f r h)

  pub file-added : (f : File) (r : Resolve) → IsTrue (file_has_full_names f) → IsFileAlone f r → AddsTree f none r r 0
  file-added f r named h = record {
    tree = record {
      imports = none;
      from = record { packages = []; interfaces = []; named = no-marks-of none e (NamesInterface f); are = no-imports-of none e };
      faults = without-faults none e.packages e.interfaces e.worlds e.definitions f h.faults;
      resolved = closed-package none e.packages e.interfaces e.worlds e.definitions f r h.resolved;
    };
    attached = attached-alone none r e (∥∥₁_map (file-writable f r named h) (λ w. w.form)) (file-is-alone f r h);
  }

  pub component-added : (raw : RawComponent) (r : Resolve) → IsComponentAlone raw r → AddsComponent raw none r r 0
  component-added raw r h = record {
    component = h.component;
    behind = behind-alone none e r h.alone;
    attached = attached-alone none r e (∥∥₁_map h.component.stands (λ s. s.form)) h.alone;
  }

  -- ---- refusals

  no-package : (p : PackageParts) → has_package none p ≡ false
  no-package p = ap (λ (ps : List PackageParts). list_any (is_same_package p) ps) e.packages

  no-name : (p : PackageParts) → has_package none p ≡ true → ⊥
  no-name p h = true≢false (sym h ∙ no-package p)

  room : HasRoom none
  room = omega (arith, ap length e.packages)

  pub file-refused : (f : File) (x : ResolveError) → TreeNotAdded f none x → FileAloneRefuses f x
  file-refused f x h = by x h
    where
      tree : (x : ResolveError) → IsRefusedTree f none x → ResolveRefuses f x
      tree x t = let i = empty-imports f t.imports t.from in refuses t.imports i.packages i.interfaces i.worlds i.definitions f x t.refused

      by : (x : ResolveError) → TreeNotAdded f none x → FileAloneRefuses f x
      by error.SetLimit h = h room
      by (error.SamePackage p) h = no-name _ h.3
      by error.NoMemory h = tt
      by error.EmptyPackage h = h.1
      by error.NotThisShape h = tree error.NotThisShape h.3
      by error.Cycle h = tree error.Cycle h.3
      by error.Limit h = tree error.Limit h.3
      by (error.Duplicate n) h = tree (error.Duplicate n) h.3
      by (error.Unknown n) h = tree (error.Unknown n) h.3
      by (error.NoPackage p) h = tree (error.NoPackage p) h.3

  -- 47 of a component names its first import
  first-import : (closed : Resolve) (p : PackageParts) → LacksFirst none (others closed) p → slice_get (others closed) 0 ≡ Some p
  first-import closed p h = by h.place refl
    where
      by : (k : ℕ) → h.place ≡ k → slice_get (others closed) 0 ≡ Some p
      by zero at = subst (λ (n : ℕ). slice_get (others closed) n ≡ Some p) at h.stands
      by (suc k) at =
          let x = one-there (others closed) 0 (omega (arith, slice_get_within (others closed) h.place p h.stands)) in
          absurd (no-name x.0 (h.have 0 x.0 (omega (arith, at)) x.1))

  -- a component whose imports the set has imports nothing
  imports-nothing : (raw : RawComponent) (closed : Resolve) → IsOfComponent raw closed → HasAll none (others closed) → IsAlone closed
  imports-nothing raw closed of has = eqb-true (length closed.packages) 1 (∥∥₁_elim of.stands (Bool-set (length closed.packages == 1) true) (λ s. eq-eqb (length closed.packages) 1 (omega (arith, few, some-package closed s.form.closed))))
    where
      few : length closed.packages ≤ 1
      few = by (length (others closed)) refl
        where
          by : (n : ℕ) → length (others closed) ≡ n → length closed.packages ≤ 1
          by zero l = omega (arith, l, length-take (own_package closed.packages) closed.packages)
          by (suc n) l = let x = one-there (others closed) 0 (omega (arith, l)) in absurd (no-name x.0 (has 0 x.0 x.1))

  pub component-refused : (raw : RawComponent) (x : ResolveError) → ComponentNotAdded raw none x → ComponentAloneRefuses raw x
  component-refused raw error.SetLimit h = h room
  component-refused raw (error.SamePackage p) (closed, of, h) = no-name p h.1.stands
  component-refused raw (error.NoPackage p) (closed, of, h) = record { closed = closed; component = of; first = first-import closed p h.2 }
  component-refused raw error.NotThisShape (inl h) = h.1
  component-refused raw error.NotThisShape (inr (closed, of, h)) =
      let alone = imports-nothing raw closed of h.2 in
      absurd (h.3 ((attached-alone none closed e (∥∥₁_map of.stands (λ s. s.form)) alone).fits, behind-alone none e closed alone))
  component-refused raw error.NoMemory h = h.1
  component-refused raw error.EmptyPackage h = h.1
  component-refused raw error.Cycle h = h.1
  component-refused raw error.Limit h = h.1
  component-refused raw (error.Duplicate n) h = h.1
  component-refused raw (error.Unknown n) h = h.1
