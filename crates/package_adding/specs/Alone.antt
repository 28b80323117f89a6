-- A package that names no other: what a tree and what a component is by itself, and why it is refused.
use Rattle.std.specs.Prelude.{◌≡◌, true, All, slice_get, Some}
use Rattle.atoms.specs.Label.{IsLabel}
use Rattle.ctype_bin.specs.declared.component.RawComponent.{RawComponent}
use Rattle.package_form.specs.Closed.{IsAlone}
use Rattle.package_sets.specs.Attached.{others}
use Rattle.package_text.specs.Writable.{package_labels}
use Rattle.tables.specs.PackageNames.{PackageParts}
use Rattle.tables.specs.declared.error.ResolveError.{ResolveError}
use Rattle.tables.specs.declared.error.ResolveError.TheVariants as error
use Rattle.tables.specs.declared.tables.Resolve.{Resolve}
use Rattle.tree_meaning.specs.Resolves.{HasNoFaults, IsPackageOf, ResolveRefuses, file_fits}
use Rattle.wit_component.specs.FromComponent.{ClosedComponentRefuses}
use Rattle.wit_tokens.specs.Syntax.{File}
use Rattle.package_adding.specs.Added.{IsOfComponent}

-- each name of the file stands for something of its own, and no type of it is nested deeper than in a text; this is its package, whose names are labels
pub record IsFileAlone (f : File) (r : Resolve) : Type 0 where
  pub fits : file_fits f ≡ true
  pub faults : HasNoFaults f
  pub resolved : IsPackageOf f r
  pub labels : All IsLabel (package_labels r)

-- the component stands for this package and imports nothing, and its names are labels
pub record IsComponentAlone (raw : RawComponent) (r : Resolve) : Type 0 where
  pub component : IsOfComponent raw r
  pub alone : IsAlone r
  pub labels : All IsLabel (package_labels r)

-- A file by itself is refused as one without imports: 47 for any path that names a package, and never 48 or 49.
abbrev pub FileAloneRefuses : File → ResolveError → Type 0
FileAloneRefuses f e = ResolveRefuses f e

-- the component stands for a closed table, and this is the first of the packages that it imports
pub record ImportsFirst (raw : RawComponent) (p : PackageParts) : Type 0 where
  pub closed : Resolve
  pub component : IsOfComponent raw closed
  pub first : slice_get (others closed) 0 ≡ Some p

-- A component by itself is refused for its own shape, and then by 47 for the first package that it imports.
abbrev pub ComponentAloneRefuses : RawComponent → ResolveError → Type 0
ComponentAloneRefuses raw (error.NoPackage p) = ImportsFirst raw p
ComponentAloneRefuses raw e = ClosedComponentRefuses raw e
