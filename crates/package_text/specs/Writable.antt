-- The packages whose tree can be written.
use Rattle.std.specs.Prelude.{ℕ, List, ◌++◌, map, flat_map, All}
use Rattle.atoms.specs.Label.{IsLabel}
use Rattle.tables.specs.declared.tables.Definition.{Definition}
use Rattle.tables.specs.declared.tables.Resolve.{Resolve}
use Rattle.package_form.specs.Entries.{labels_of}
use Rattle.package_form.specs.Scope.{AreDistinct}
use Rattle.package_form.specs.Naming.{row_names, row_members, label_of, package_scopes}
use Rattle.package_form.specs.Form.{IsInPackageForm}

-- a row's name, and those of its members
abbrev pub row_labels : Definition → List (List ℕ)
row_labels d = row_names d ++ row_members d

-- the names of interfaces and worlds, of rows and of their members
abbrev pub package_labels : Resolve → List (List ℕ)
package_labels r = labels_of r.interfaces ++ (map label_of r.worlds ++ flat_map row_labels r.definitions)

-- the closed table in form, whose names are labels that differ in each scope
pub record IsWritable (r : Resolve) : Type 0 where
  pub form : IsInPackageForm r
  pub distinct : All AreDistinct (package_scopes r)
  pub labels : All IsLabel (package_labels r)
