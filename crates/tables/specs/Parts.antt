-- A package is made of its parts alone.
use Rattle.std.specs.Prelude.{◌≡◌, ◌&&◌, ℕ, Bool, List, length}
use Rattle.tables.specs.PackageNames.{PackageParts}
use Rattle.tables.specs.Tables.{are_earlier, name_types, are_standard, are_placed, are_grouped, are_worlds_grouped, are_placed_worlds}
use Rattle.tables.specs.declared.tables.Interface.{Interface}
use Rattle.tables.specs.declared.tables.World.{World}
use Rattle.tables.specs.declared.tables.Definition.{Definition}
use Rattle.tables.specs.declared.tables.Resolve.{Resolve}

-- worlds are of one of `count` packages, in order of these, and their items are in the tables
abbrev pub are_worlds : ℕ → List Definition → ℕ → List World → Bool
are_worlds count ds interfaces ws = are_worlds_grouped count 0 ws && are_placed_worlds ds interfaces 0 ws

-- these rows, interfaces and worlds are tables of `count` packages: ids are of their kind, types within the limits
abbrev pub is_package : ℕ → List Definition → List Interface → List World → Bool
is_package count ds is ws =
    (are_earlier 0 ds && name_types ds) && (are_standard ds && (are_placed ds is && (are_grouped count 0 is && are_worlds count ds (length is) ws)))

-- the table has these packages, interfaces, worlds and rows, all in this order
pub record HasParts (ps : List PackageParts) (is : List Interface) (ws : List World) (ds : List Definition) (r : Resolve) : Type 0 where
  pub has_packages : r.packages ≡ ps
  pub has_interfaces : r.interfaces ≡ is
  pub has_worlds : r.worlds ≡ ws
  pub has_definitions : r.definitions ≡ ds
