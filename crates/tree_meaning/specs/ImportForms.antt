-- What it takes of imports for the table of a package behind them to be one that packages have.
use Rattle.std.specs.Prelude.{◌≡◌, ◌<◌, ◌⊎◌, ℕ, List, [], length, All, IsTrue, Contains, Some}
use Rattle.wit_tokens.specs.Syntax.{File}
use Rattle.wit_tokens.specs.FullNames.{file_has_full_names}
use Rattle.wit_tokens.specs.declared.wit_syntax.ast.Direction.{Direction}
use Rattle.tables.specs.PackageNames.{PackageParts}
use Rattle.tables.specs.declared.tables.Resolve.{Resolve}
use Rattle.package_form.specs.Closed.{are_apart, has_each_package}
use Rattle.package_form.specs.Ends.{is_parted}
use Rattle.package_form.specs.Form.{are_interfaces, has_full_names as have_full_names}
use Rattle.package_form.specs.Laws.{IsLabelled}
use Rattle.package_form.specs.Reached.{reached as reached_by}
use Rattle.tree_meaning.specs.Declarations.{UsedItem, InterfaceTree, WorldTree, ForeignNamed, interfaces, file_worlds, package_named}
use Rattle.tree_meaning.specs.Imports.{Import, import_at, interfaces_of}

-- imports as the table of a package has them: their names make full names, and rows come interface by interface, each
-- row in its own
pub record AreImportsInForm (imports : Resolve) : Type 0 where
  pub names : IsTrue (have_full_names imports)
  pub labels : All IsLabelled imports.interfaces
  pub parted : IsTrue (is_parted (length imports.definitions) 0 imports.interfaces [])
  pub interfaces : IsTrue (are_interfaces imports.definitions 0 0 imports.interfaces)

-- the imports are in form, and the file is of another package than theirs, whose names make full names too
pub record IsNamedBehind (imports : Resolve) (f : File) : Type 0 where
  pub form : AreImportsInForm imports
  pub names : IsTrue (file_has_full_names f)
  pub other : ¬ Contains imports.packages (package_named f)

-- ---- imports that are reached

-- an interface of the file uses a name of this interface of this package
abbrev pub UsesImport : File → PackageParts → List ℕ → Type 0
UsesImport f q i = (j : InterfaceTree) × Contains (interfaces f) j × ((u : UsedItem) × Contains j.uses u × (u.«package» ≡ Some q) × (u.interface ≡ i))

-- a world of the file has this interface of this package among its items
abbrev pub HasImportItem : File → PackageParts → List ℕ → Type 0
HasImportItem f q i = (w : WorldTree) × Contains (file_worlds f) w × ((way : Direction) × Contains w.items (ForeignNamed way q i))

-- a path of the file names the import
abbrev pub NamesImport : File → Import → Type 0
NamesImport f k = UsesImport f k.«package» k.name ⊎ HasImportItem f k.«package» k.name

-- Imports of a closed table: at most 63 packages, whose names differ and each of which has an interface, and each interface is reached: by
-- another one of them, or from the file.
pub record AreReachedFrom (imports : Resolve) (f : File) : Type 0 where
  pub few : length imports.packages < 64
  pub apart : IsTrue (are_apart imports.packages)
  pub each : IsTrue (has_each_package (length imports.packages) 0 imports.interfaces)
  pub reached : (k : ℕ) → k < length imports.interfaces → Contains (reached_by imports.definitions []) k ⊎ NamesImport f (import_at (interfaces_of imports) k)
