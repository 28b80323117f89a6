-- What holds of the tree and of the text of a package.
use Rattle.std.specs.Prelude.{◌≡◌, ◌≤◌, ℕ, true, length, All, Some, slice_get, slice_index_or}
use Rattle.canonical_abi.specs.Types.{string_type, depth}
use Rattle.tables.specs.Closed.{closed_types}
use Rattle.tables.specs.Same.{IsSamePackage}
use Rattle.tables.specs.declared.tables.TypeDef.{TypeDef}
use Rattle.tables.specs.declared.tables.Definition.TheVariants as row
use Rattle.tables.specs.declared.tables.Resolve.{Resolve}
use Rattle.package_form.specs.Scope.{AreDistinct}
use Rattle.package_form.specs.Naming.{package_scopes}
use Rattle.package_form.specs.Closed.{IsAlone}
use Rattle.package_form.specs.Form.{IsInPackageForm}
use Rattle.wit_tokens.specs.Lexing.{limit}
use Rattle.wit_tokens.specs.Syntax.{File}
use Rattle.wit_text.specs.Reading.{IsRead}
use Rattle.tree_meaning.specs.Imports.{imports_of}
use Rattle.tree_meaning.specs.Resolves.{file_fits, HasNoFaults, HasNoFaultsOf, IsPackageOf, AreImports, IsClosedPackageOf, HasPackage, HasClosedPackage}
use Rattle.package_text.specs.Tree.{file_of}
use Rattle.package_text.specs.Text.{text_of}
use Rattle.package_text.specs.Writable.{IsWritable}
use Rattle.package_text.specs.Imports.{AreImportsOf}

-- the imports of a closed table are ones that a file may have, and with them its tree has no faults and resolves to it
abbrev pub IsTreeOfClosed : Resolve → Resolve → Type 0
IsTreeOfClosed r imports = IsWritable r → AreImportsOf r imports → AreImports imports × HasNoFaultsOf (imports_of imports) (file_of r) × IsClosedPackageOf imports (file_of r) r

-- if the types of a writable closed table nest as in a text and its text is not too long, the text is read as a tree
-- that has no faults with these imports and resolves to the table
abbrev pub IsTextOfClosed : Resolve → Resolve → Type 0
IsTextOfClosed r imports =
    IsWritable r → AreImportsOf r imports → file_fits (file_of r) ≡ true → length (text_of r) ≤ limit → (g : File) × IsRead (text_of r) g × HasClosedPackage imports g r

-- the tree of a package that depends on no other has no faults and resolves to it
abbrev pub IsTreeOfPackage : Resolve → Type 0
IsTreeOfPackage r = IsWritable r → IsAlone r → HasNoFaults (file_of r) × IsPackageOf (file_of r) r

-- if the types of a writable package that depends on no other nest as in a text and its text is not too long, the text
-- is read as a tree that has no faults and resolves to the package
abbrev pub IsTextOfPackage : Resolve → Type 0
IsTextOfPackage r = IsWritable r → IsAlone r → file_fits (file_of r) ≡ true → length (text_of r) ≤ limit → (g : File) × IsRead (text_of r) g × HasPackage g r

-- no type is more than 64 deep
abbrev pub IsShallow : Resolve → Type 0
IsShallow r = (k : ℕ) (d : TypeDef) → slice_get r.definitions k ≡ Some (row.Type d) → depth (slice_index_or (closed_types r) k string_type) ≤ 64

-- if no type of a table in form is more than 64 deep, the types of its tree nest as in a text
abbrev pub NestsAsText : Resolve → Type 0
NestsAsText r = IsInPackageForm r → IsShallow r → file_fits (file_of r) ≡ true

-- a table in form whose names differ in each scope
pub record IsFormed (r : Resolve) : Type 0 where
  pub form : IsInPackageForm r
  pub distinct : All AreDistinct (package_scopes r)

-- a tree that depends on no other package resolves to one table, among those in form whose names differ
abbrev pub HasOneTable : File → Type 0
HasOneTable f = (r s : Resolve) → IsFormed r → IsFormed s → IsPackageOf f r → IsPackageOf f s → IsSamePackage r s

-- a tree resolves to one table, with the same imports before its own rows, among those that can be written
abbrev pub HasOneClosedTable : File → Type 0
HasOneClosedTable f = (imports r s : Resolve) → IsWritable r → IsWritable s → IsClosedPackageOf imports f r → IsClosedPackageOf imports f s → IsSamePackage r s
