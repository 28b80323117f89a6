-- Whether a closed table stands behind the imports that a set has for it: the interfaces that its own part names, with what these reach, in the
-- set's order (Binary.md, "Import and Export Definitions").
use Rattle.std.specs.Prelude.{◌≡◌, Bool, List, take, length}
use Rattle.package_sets.specs.Attached.{others}
use Rattle.package_sets.specs.Imports.{IsImportsOf}
use Rattle.package_sets.specs.Joining.{imports}
use Rattle.package_sets.specs.NamedIn.{AreNamedIn}
use Rattle.tables.specs.declared.tables.Resolve.{Resolve}

-- a closed table has just this table before its own part: its other packages, their interfaces and rows
pub record HasImportTable (closed table : Resolve) : Type 0 where
  pub packages : others closed ≡ table.packages
  pub interfaces : imports closed ≡ table.interfaces
  pub rows : take (length table.definitions) closed.definitions ≡ table.definitions

-- a closed table has before its own part just the set's table of what that part names, with what this reaches
pub record IsBehindImports (set closed : Resolve) : Type 0 where
  pub packages : List Bool
  pub interfaces : List Bool
  pub named : AreNamedIn closed set packages interfaces
  pub imports : Resolve
  pub are : IsImportsOf set packages interfaces imports
  pub stands : HasImportTable closed imports
