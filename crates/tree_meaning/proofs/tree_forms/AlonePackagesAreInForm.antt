-- A file that stands alone: its package is in the form that packages have, and has distinct names in each scope.
use Rattle.std.proofs.Common.{◌≡◌, ℕ, IsTrue, List, [], ◌++◌, map, flat_map, length, refl, ap, sym, ◌∙◌, subst, arith, All}
use Rattle.std.specs.List.{list_all}
use Rattle.wit_tokens.specs.Syntax.{File}
use Rattle.wit_tokens.specs.FullNames.{file_has_full_names}
use Rattle.tables.specs.PackageNames.{PackageParts}
use Rattle.tables.specs.Names.{world_name}
use Rattle.tables.specs.Package.{WorldMeaning, interface_names as names_in, trees as trees_in, world_meaning as meaning_in}
use Rattle.tables.specs.declared.tables.Definition.{Definition}
use Rattle.tables.specs.declared.tables.Interface.{Interface}
use Rattle.tables.specs.declared.tables.Resolve.{Resolve}
use Rattle.tables.specs.declared.tables.World.{World}
use Rattle.package_form.specs.Closed.{are_apart, has_each_package}
use Rattle.package_form.specs.Ends.{is_parted, are_worlds_parted}
use Rattle.package_form.specs.Form.{IsInPackageForm, is_package_name, are_interfaces}
use Rattle.package_form.specs.Laws.{IsLabelled}
use Rattle.package_form.specs.Naming.{interface_labels_of, world_labels_of, of_each, interfaces_scopes, world_scopes, package_scopes}
use Rattle.package_form.specs.Scope.{AreDistinct}
use Rattle.package_form.proofs.AllAndContains.{all-none}
use Rattle.tree_meaning.specs.Resolves.{HasNoFaults, IsPackageOf}
use Rattle.tree_meaning.specs.ImportForms.{IsNamedBehind, AreReachedFrom}
use Rattle.tree_meaning.proofs.FilesThatStandAlone.{empty, are-imports, closed-package, without-faults}
use Rattle.tree_meaning.proofs.tree_forms.ResolvedTreesAreInForm.{has-form as has-form-behind}
use Rattle.tree_meaning.proofs.tree_forms.PackageScopes.{has-distinct-names as has-names-behind}
use Rattle.tree_meaning.proofs.tree_forms.TablesAreClosed.{closes}

module _ (imports : Resolve) (packages : imports.packages ≡ []) (interfaces : imports.interfaces ≡ []) (worlds : imports.worlds ≡ []) (rows : imports.definitions ≡ []) where
  named-behind : (f : File) → IsTrue (file_has_full_names f) → IsNamedBehind imports f
  named-behind f full = record {
    form = record {
      names = ap (list_all is_package_name) packages;
      labels = subst (All IsLabelled) (sym interfaces) (all-none IsLabelled);
      parted = ap (λ (is : List Interface). is_parted (length imports.definitions) 0 is []) interfaces ∙ ap (λ (ds : List Definition). are_worlds_parted (length ds) 0 []) rows;
      interfaces = ap (are_interfaces imports.definitions 0 0) interfaces;
    };
    names = full;
    other = λ c. absurd (omega (arith, c.1, ap length packages));
  }

  none-reached : (f : File) → AreReachedFrom imports f
  none-reached f = record {
    few = omega (arith, ap length packages);
    apart = ap are_apart packages;
    each = ap (λ (ps : List PackageParts). has_each_package (length ps) 0 imports.interfaces) packages ∙ ap (has_each_package 0 0) interfaces;
    reached = λ k l. absurd (omega (arith, l, ap length interfaces));
  }

  no-scopes : package_scopes imports ≡ []
  no-scopes =
      let meaning : List World → List WorldMeaning = λ ws. map (λ (w : World). meaning_in (names_in imports) (trees_in imports) imports.definitions (world_name imports w) w) ws in
      ap (λ (ps : List PackageParts). of_each (λ k. interface_labels_of imports.interfaces k ++ world_labels_of imports.worlds k) 0 ps ++ (interfaces_scopes imports.definitions 0 imports.interfaces ++ flat_map world_scopes (meaning imports.worlds))) packages
      ∙ ap (λ (is : List Interface). interfaces_scopes imports.definitions 0 is ++ flat_map world_scopes (meaning imports.worlds)) interfaces
      ∙ ap (λ (ws : List World). flat_map world_scopes (meaning ws)) worlds

  distinct-none : All AreDistinct (package_scopes imports)
  distinct-none = subst (λ (ss : List (List (List ℕ))). All AreDistinct ss) (sym no-scopes) (all-none AreDistinct)

module _ (f : File) (r : Resolve) (h : HasNoFaults f) (full : IsTrue (file_has_full_names f)) (p : IsPackageOf f r) where
  pub has-form : IsInPackageForm r
  unfolding empty
  has-form =
      let apart = are-imports empty refl refl refl refl in
      let faults = without-faults empty refl refl refl refl f h in
      let named = named-behind empty refl refl refl refl f full in
      let closed = closed-package empty refl refl refl refl f r p in
      has-form-behind empty f r apart faults named closed (closes empty f r apart faults named closed (none-reached empty refl refl refl refl f))

  pub has-distinct-names : All AreDistinct (package_scopes r)
  unfolding empty
  has-distinct-names =
      has-names-behind empty f r (are-imports empty refl refl refl refl) (without-faults empty refl refl refl refl f h) (named-behind empty refl refl refl refl f full) (closed-package empty refl refl refl refl f r p)
      (distinct-none empty refl refl refl refl)
