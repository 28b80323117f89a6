-- A package that a set has room for, of which a set is made, is not refused but for memory, and makes one set.
use Rattle.std.proofs.Common.{◌≡◌, ◌<◌, ◌+◌, ◌∙◌, Bool, true, true≢false, ℕ, List, [], ◌∷◌, Some, length, slice_get, ap, sym, subst, arith, All, length-append}
use Rattle.std.proofs.Math.Logic.{∥∥₁_elim}
use Rattle.ctype_bin.specs.declared.component.RawComponent.{RawComponent}
use Rattle.package_form.specs.Closed.{own_package}
use Rattle.package_form.specs.Naming.{package_scopes}
use Rattle.package_form.specs.Scope.{AreDistinct}
use Rattle.package_sets.specs.Attached.{IsAttached, IsRefused}
use Rattle.package_sets.specs.Imports.{IsImportsOf}
use Rattle.package_sets.specs.One.{AttachesOne, ImportsOne}
use Rattle.package_sets.proofs.GrowingLists.{behind-get}
use Rattle.package_sets.proofs.SamePackagesAreOne.{same-tables, same-is-prop}
use Rattle.tree_meaning.specs.Declarations.{package_named}
use Rattle.tree_meaning.specs.Imports.{imports_of}
use Rattle.tree_meaning.specs.Resolves.{file_fits, HasNoFaultsOf, IsClosedPackageOf, HasClosedPackage}
use Rattle.tables.specs.PackageNames.{PackageParts}
use Rattle.tables.specs.Same.{IsSamePackage}
use Rattle.tables.specs.declared.error.ResolveError.{ResolveError}
use Rattle.tables.specs.declared.error.ResolveError.TheVariants as error
use Rattle.tables.specs.declared.tables.Resolve.{Resolve}
use Rattle.wit_tokens.specs.Syntax.{File}
use Rattle.wit_component.specs.ToComponent.{ComponentStands}
use Rattle.package_sets.specs.BehindImports.{IsBehindImports}
use Rattle.package_adding.specs.Added.{IsOfComponent, IsRefusedBehind, AreImportsFrom, IsOfTree, AddsTree, HasName, IsWantOfMemoryToAdd}
use Rattle.package_adding.specs.Named.{NamesInterface}
use Rattle.package_adding.proofs.MarksOfNamesAreOne.{one-marks}

-- ---- want of memory

pub want-is-prop : (e : ResolveError) → IsProp (IsWantOfMemoryToAdd e)
want-is-prop error.NoMemory = hlevel
want-is-prop error.EmptyPackage = hlevel
want-is-prop error.NotThisShape = hlevel
want-is-prop error.Cycle = hlevel
want-is-prop error.Limit = hlevel
want-is-prop error.SetLimit = hlevel
want-is-prop (error.Duplicate n) = hlevel
want-is-prop (error.Unknown n) = hlevel
want-is-prop (error.NoPackage p) = hlevel
want-is-prop (error.SamePackage p) = hlevel

pub want : (e : ResolveError) → e ≡ error.NoMemory → IsWantOfMemoryToAdd e
want e is = subst IsWantOfMemoryToAdd (sym is) tt

-- ---- a closed table that is attached

module _ (s closed r : Resolve) (id : ℕ) (h : IsAttached s closed r id) where
  pub is-known : id < length r.packages
  is-known = omega (arith, h.id_is, ap length h.packages_are, length-append s.packages (h.fits.own ∷ []))

  not-refused : (e : ResolveError) → IsRefused s closed e → IsWantOfMemoryToAdd e
  not-refused error.NoMemory g = tt
  not-refused error.SetLimit g = absurd (g h.room)
  not-refused (error.Duplicate n) g = absurd g
  not-refused (error.Unknown n) g = absurd g
  not-refused error.Cycle g = absurd g
  not-refused error.EmptyPackage g = absurd g
  not-refused error.Limit g = absurd g
  not-refused (error.SamePackage p) g = absurd (true≢false (sym g.1.stands ∙ h.new p g.1.own))
  not-refused (error.NoPackage p) g = absurd (true≢false (sym (h.have g.2.place p g.2.stands) ∙ g.2.lacks))
  not-refused error.NotThisShape g = absurd (g.3 h.fits)

  -- the same one is not refused but for memory
  pub refused-for-memory : (answer : Resolve) → IsSamePackage answer closed → (e : ResolveError) → IsRefused s answer e → IsWantOfMemoryToAdd e
  refused-for-memory answer same e g = not-refused e (subst (λ (x : Resolve). IsRefused s x e) (same-tables answer closed same) g)

  -- .. nor where it is a component's whose imports are just those of the set
  pub component-refused : IsBehindImports s closed → (answer : Resolve) → IsSamePackage answer closed → (e : ResolveError) → IsRefusedBehind s answer e → IsWantOfMemoryToAdd e
  component-refused behind answer same e g = by e (subst (λ (x : Resolve). IsRefusedBehind s x e) (same-tables answer closed same) g)
    where
      by : (e : ResolveError) → IsRefusedBehind s closed e → IsWantOfMemoryToAdd e
      by error.NotThisShape x = absurd (x.3 (h.fits, behind))
      by error.NoMemory h = not-refused error.NoMemory h
      by error.SetLimit h = not-refused error.SetLimit h
      by (error.NoPackage p) h = not-refused (error.NoPackage p) h
      by (error.SamePackage p) h = not-refused (error.SamePackage p) h
      by (error.Duplicate n) h = absurd h
      by (error.Unknown n) h = absurd h
      by error.Cycle h = absurd h
      by error.EmptyPackage h = absurd h
      by error.Limit h = absurd h

  -- .. and makes the same set
  pub makes-one : ((set c : Resolve) → AttachesOne set c) → (answer : Resolve) → IsSamePackage answer closed → (new : Resolve) (j : ℕ) → IsAttached s answer new j → IsSamePackage new r
  makes-one law answer same new j g = (law s closed new r j id (subst (λ (x : Resolve). IsAttached s x new j) (same-tables answer closed same) g) h).0

-- ---- components

-- the one table that a component stands for
pub one-component : (raw : RawComponent) (closed : Resolve) → IsOfComponent raw closed → (answer : Resolve)
    → ((p : Resolve) → ComponentStands raw p → All AreDistinct (package_scopes p) → IsSamePackage answer p) → IsSamePackage answer closed
one-component raw closed of answer only = ∥∥₁_elim of.stands (same-is-prop answer closed) (λ stands. only closed stands of.distinct)

pub component-for-memory : (raw : RawComponent) (closed : Resolve) → IsOfComponent raw closed → (e : ResolveError)
    → ((p : Resolve) → ComponentStands raw p → All AreDistinct (package_scopes p) → e ≡ error.NoMemory) → IsWantOfMemoryToAdd e
component-for-memory raw closed of e only = ∥∥₁_elim of.stands (want-is-prop e) (λ stands. want e (only closed stands of.distinct))

-- ---- trees

module _ (f : File) (s closed r : Resolve) (id : ℕ) (h : AddsTree f s closed r id) where
  own : slice_get closed.packages (own_package closed.packages) ≡ Some (package_named f)
  own =
      let ps = h.tree.imports.packages in
      let last : own_package closed.packages ≡ length ps + 0 = omega (arith, ap length h.tree.resolved.packages, length-append ps (package_named f ∷ [])) in
      ap (slice_get closed.packages) last ∙ ap (λ (qs : List PackageParts). slice_get qs (length ps + 0)) h.tree.resolved.packages ∙ behind-get ps (package_named f ∷ []) 0

  -- the set has no package of its name
  pub lacks-name : HasName f s → ⊥
  lacks-name has = true≢false (sym has ∙ h.attached.new (package_named f) own)

-- the imports of a file are one table
pub one-imports : ((set : Resolve) (packages interfaces : List Bool) → ImportsOne set packages interfaces) → (f : File) (s t u : Resolve) → AreImportsFrom f s t → AreImportsFrom f s u → u ≡ t
one-imports law f s t u a b =
    let marks = one-marks (NamesInterface f) s b.packages b.interfaces a.packages a.interfaces b.named a.named in
    let are = subst (λ (bs : List Bool). IsImportsOf s a.packages bs u) marks.1 (subst (λ (bs : List Bool). IsImportsOf s bs b.interfaces u) marks.0 b.are) in
    same-tables u t (law s a.packages a.interfaces u t are a.are)

-- the closed table of a file over a set is one behind its imports
pub has-closed : (f : File) (s t p : Resolve) → (h : IsOfTree f s p) → h.imports ≡ t → file_fits f ≡ true → HasClosedPackage t f p
has-closed f s t p h same fits = record {
  faults = subst (λ (x : Resolve). HasNoFaultsOf (imports_of x) f) same h.faults;
  fits = fits;
  resolved = subst (λ (x : Resolve). IsClosedPackageOf x f p) same h.resolved;
}
