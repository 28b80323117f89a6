-- Two packages that are the same: the same names, and the same tables.
use Rattle.std.specs.Prelude.{◌≡◌}
use Rattle.tables.specs.declared.tables.Resolve.{Resolve}

-- two tables have equal packages, interfaces, worlds and rows, in the same order
pub record IsSamePackage (a b : Resolve) : Type 0 where
  pub packages : a.packages ≡ b.packages
  pub interfaces : a.interfaces ≡ b.interfaces
  pub worlds : a.worlds ≡ b.worlds
  pub definitions : a.definitions ≡ b.definitions
