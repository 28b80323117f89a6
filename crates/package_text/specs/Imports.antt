-- The imports of a closed table as a table of their own.
use Rattle.std.specs.Prelude.{◌≡◌, List, [], ◌∷◌, ◌++◌, length}
use Rattle.tables.specs.declared.tables.Definition.{Definition}
use Rattle.tables.specs.declared.tables.Resolve.{Resolve}
use Rattle.package_form.specs.Ends.{interfaces_end}
use Rattle.package_text.specs.Tree.{interfaces_of_package, own_parts}

-- the packages before the own one, their interfaces, and the rows before the first of the own interfaces
pub record AreImportsOf (r imports : Resolve) : Type 0 where
  pub packages : r.packages ≡ imports.packages ++ own_parts r.packages ∷ []
  pub interfaces : r.interfaces ≡ imports.interfaces ++ interfaces_of_package r
  pub worlds : imports.worlds ≡ []
  pub rows : (own : List Definition) × (r.definitions ≡ imports.definitions ++ own)
  pub ends : length imports.definitions ≡ interfaces_end 0 imports.interfaces
