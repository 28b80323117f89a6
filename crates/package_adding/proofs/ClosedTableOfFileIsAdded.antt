-- The closed table of a file over a set: it is in form, and is put behind the set unless memory is wanting.
use Rattle.std.proofs.Common.{◌≡◌, ◌+◌, false, true≢false, IsTrue, List, [], ◌∷◌, Some, length, slice_get, ap, sym, subst, ◌∙◌, arith, All, length-append}
use Rattle.std.proofs.Math.Logic.{∥∥₁_elim, ∥∥₁_map}
use Rattle.package_form.specs.Closed.{own_package, is_closed}
use Rattle.package_form.specs.Form.{IsInPackageForm}
use Rattle.package_form.specs.Laws.{IsLabelled}
use Rattle.package_form.specs.Naming.{package_scopes}
use Rattle.package_form.specs.Scope.{AreDistinct}
use Rattle.package_sets.specs.Attached.{HasRoom, has_package, IsRefused}
use Rattle.package_sets.specs.SetForm.{IsInSetForm}
use Rattle.package_sets.proofs.FoundImports.OfImports.{follows}
use Rattle.package_sets.proofs.GrowingLists.{behind-get}
use Rattle.tree_meaning.specs.Declarations.{package_named}
use Rattle.tree_meaning.specs.ImportForms.{IsNamedBehind, AreReachedFrom}
use Rattle.tree_meaning.specs.Imports.{imports_of}
use Rattle.tree_meaning.specs.Resolves.{HasEntries, HasNoFaultsOf}
use Rattle.tables.specs.PackageNames.{PackageParts}
use Rattle.tables.specs.declared.error.ResolveError.{ResolveError}
use Rattle.tables.specs.declared.error.ResolveError.TheVariants as error
use Rattle.tables.specs.declared.tables.Resolve.{Resolve}
use Rattle.wit_tokens.specs.FullNames.{file_has_full_names}
use Rattle.wit_tokens.specs.Syntax.{File}
use Rattle.package_adding.specs.Added.{AreImportsFrom, IsOfTree, IsNewName, IsRefusedTree, CauseStands, TreeNotAdded}
use Rattle.package_adding.proofs.ImportsFromSets.{named-behind, reached-from}
use Rattle.package_adding.proofs.FileTableBeginsWithImports.{begins-with}

pub cause-stands : (f : File) (s : Resolve) (e : ResolveError) → IsRefusedTree f s e → CauseStands f s e
cause-stands f s error.EmptyPackage h = h
cause-stands f s error.NotThisShape h = h
cause-stands f s (error.Duplicate n) h = h
cause-stands f s (error.NoPackage p) h = h
cause-stands f s (error.SamePackage p) h = h
cause-stands f s (error.Unknown n) h = h
cause-stands f s error.Cycle h = h
cause-stands f s error.Limit h = h
cause-stands f s error.SetLimit h = h
cause-stands f s error.NoMemory h = tt

pub not-resolved : (f : File) (s : Resolve) → HasRoom s → HasEntries f → IsNewName f s → (e : ResolveError) → CauseStands f s e → TreeNotAdded f s e
not-resolved f s room some new error.EmptyPackage h = (room, h.refused)
not-resolved f s room some new error.NotThisShape h = (room, some, new, h)
not-resolved f s room some new (error.Duplicate n) h = (room, some, new, h)
not-resolved f s room some new (error.NoPackage p) h = (room, some, new, h)
not-resolved f s room some new (error.SamePackage p) h = absurd h.refused
not-resolved f s room some new (error.Unknown n) h = (room, some, new, h)
not-resolved f s room some new error.Cycle h = (room, some, new, h)
not-resolved f s room some new error.Limit h = (room, some, new, h)
not-resolved f s room some new error.SetLimit h = absurd h.refused
not-resolved f s room some new error.NoMemory h = room

-- ---- behind the imports

module _ (f : File) (s r : Resolve) (from : AreImportsFrom f s r) (form : ∥ IsInSetForm s ∥₁) (labels : All IsLabelled r.interfaces) (names : IsTrue (file_has_full_names f)) (new : IsNewName f s) where
  pub in-form : All IsLabelled s.interfaces → HasRoom s → (closed : Resolve) → HasNoFaultsOf (imports_of r) f → (IsNamedBehind r f → AreReachedFrom r f → IsTrue (is_closed closed))
      → (IsNamedBehind r f → IsTrue (is_closed closed) → IsInPackageForm closed) → ∥ IsInPackageForm closed ∥₁
  in-form set-labels room closed faults g h =
      ∥∥₁_map form (λ t.
      let b = named-behind s from.packages from.interfaces r from.are f t labels names new in
      h b (g b (reached-from s from.packages from.interfaces r from.are f t labels set-labels from.named faults room)))

  pub distinct-scopes : (closed : Resolve) → (IsNamedBehind r f → All AreDistinct (package_scopes r) → All AreDistinct (package_scopes closed)) → ∥ All AreDistinct (package_scopes closed) ∥₁
  distinct-scopes closed h =
      ∥∥₁_map form (λ t. h (named-behind s from.packages from.interfaces r from.are f t labels names new) ((follows s from.packages from.interfaces r from.are).scopes t.rows t.postfix t.scopes))

-- ---- behind the set

module _ (f : File) (s closed : Resolve) (t : IsOfTree f s closed) where
  own-is : (p : PackageParts) → slice_get closed.packages (own_package closed.packages) ≡ Some p → p ≡ package_named f
  own-is p h =
      let ps = t.imports.packages in
      let last : own_package closed.packages ≡ length ps + 0 = omega (arith, ap length t.resolved.packages, length-append ps (package_named f ∷ [])) in
      let there = sym h ∙ ap (slice_get closed.packages) last ∙ ap (λ (qs : List PackageParts). slice_get qs (length ps + 0)) t.resolved.packages ∙ behind-get ps (package_named f ∷ []) 0 in
      cc (there)

  pub not-put : ∥ IsInSetForm s ∥₁ → IsNewName f s → (e : ResolveError) → IsRefused s closed e → TreeNotAdded f s e
  not-put form new error.SetLimit h = h
  not-put form new error.NoMemory h = h
  not-put form new (error.Duplicate n) h = absurd h
  not-put form new (error.Unknown n) h = absurd h
  not-put form new error.Cycle h = absurd h
  not-put form new error.EmptyPackage h = absurd h
  not-put form new error.Limit h = absurd h
  not-put form new (error.SamePackage p) h = absurd (true≢false (sym h.1.stands ∙ subst (λ (q : PackageParts). has_package s q ≡ false) (sym (own-is p h.1.own)) new))
  not-put form new (error.NoPackage p) h =
      let none : IsProp ⊥ = hlevel in
      absurd (∥∥₁_elim form none (λ g. true≢false (sym (((follows s t.from.packages t.from.interfaces t.imports t.from.are).found g.rows g.apart closed (begins-with t.imports f closed t.resolved)).have h.2.place p h.2.stands) ∙ h.2.lacks)))
  not-put form new error.NotThisShape h =
      let none : IsProp ⊥ = hlevel in
      absurd (∥∥₁_elim form none (λ g. h.3 ((follows s t.from.packages t.from.interfaces t.imports t.from.are).found g.rows g.apart closed (begins-with t.imports f closed t.resolved)).fits))
