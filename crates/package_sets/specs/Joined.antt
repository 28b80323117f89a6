-- Places in a set, as lists of them.
use Rattle.std.specs.Prelude.{◌≡◌, ℕ, [], List, length, true, take}
use Rattle.set_rows.specs.Moved.{Renaming}
use Rattle.package_sets.specs.Attached.{HasRoom, HasAll, IsNew, IsOwn, others}
use Rattle.package_sets.specs.Joining.{imports, AreFound, import_rows, all_places, place_in, AreRowsThere, AreIdsThere}
use Rattle.package_sets.specs.declared.joining.Joined.{Joined}
use Rattle.tables.specs.PackageNames.{PackageParts}
use Rattle.tables.specs.declared.tables.Resolve.{Resolve}

-- where a closed table is in a set: its own package, interfaces, worlds and rows; the first `imported` rows are imports
pub record JoinedPlaces : Type 0 where
  pub «package» : ℕ
  pub interfaces : List ℕ
  pub worlds : List ℕ
  pub rows : List ℕ
  pub imported : ℕ

-- the places of a closed table in a set, from the vectors that a program keeps
abbrev pub joined_places : Joined → JoinedPlaces
joined_places j = record { «package» = j.«package»; interfaces = j.interfaces.items; worlds = j.worlds.items; rows = j.rows.items; imported = j.imported }

-- the places of a closed table in a set, as its new indices there; every row is kept
abbrev pub renaming_of : JoinedPlaces → Renaming
renaming_of j = record {
  packages = λ k. j.«package»;
  interfaces = place_in j.interfaces;
  worlds = place_in j.worlds;
  rows = place_in j.rows;
  keeps = λ k. true;
}

-- what the closed table has stands at these places: its imports where they are found, its own behind all of the set
pub record AreJoined (set closed : Resolve) (j : JoinedPlaces) : Type 0 where
  pub places : List ℕ
  pub found : AreFound set closed (imports closed) places
  pub package_is : j.«package» ≡ length set.packages
  pub interfaces_are : j.interfaces ≡ all_places places (length set.interfaces) (length closed.interfaces)
  pub worlds_are : j.worlds ≡ all_places [] (length set.worlds) (length closed.worlds)
  pub imported_is : j.imported ≡ length (import_rows set closed places)
  pub rows_are : j.rows ≡ all_places (import_rows set closed places) (length set.definitions) (length closed.definitions)

-- the closed table is in the set at these places, and the set has its imports row for row
pub record IsJoined (set closed : Resolve) (j : JoinedPlaces) : Type 0 where
  pub are_joined : AreJoined set closed j
  pub rows : AreRowsThere set (renaming_of j) (take j.imported closed.definitions)
  pub ids : AreIdsThere set (renaming_of j) (imports closed)

-- the closed table's imports are in the set at these places, and its package can be added
pub record FitsBehind (set closed : Resolve) (j : JoinedPlaces) : Type 0 where
  pub room : HasRoom set
  pub new : IsNew set closed
  pub have : HasAll set (others closed)
  pub own : PackageParts
  pub own_is : IsOwn closed own
  pub joined : IsJoined set closed j
