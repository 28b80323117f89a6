-- Sets: the rows of a package's interfaces, then those of its worlds, then the next package's.
use Rattle.std.specs.Prelude.{◌≡◌, ◌≤◌, ◌+◌, ℕ, nat_le, nat_lt, true, List, [], ◌∷◌, length, Contains, slice_get, slice_index_or, None, Some}
use Rattle.std.specs.List.{list_all}
use Rattle.package_form.specs.Ends.{end_of, rows_of, interfaces_end, world_end, world_rows, is_parted}
use Rattle.package_form.specs.Form.{has_ids, is_local, has_items, is_world_row, are_interfaces, have_items}
use Rattle.set_rows.specs.Owners.{owners}
use Rattle.set_rows.specs.Reaches.{named_owners}
use Rattle.tables.specs.declared.tables.WorldId.{WorldId}
use Rattle.tables.specs.declared.tables.Owner.TheVariants as owner
use Rattle.tables.specs.declared.tables.Definition.{Definition}
use Rattle.tables.specs.declared.tables.Interface.{Interface}
use Rattle.tables.specs.declared.tables.World.{World}
use Rattle.tables.specs.declared.tables.Resolve.{Resolve}

-- the rows from start on are an interface's, the interface at place k
pub record AreRowsOf (rows : List Definition) (start k : ℕ) (i : Interface) : Type 0 where
  pub begins : start ≤ end_of start i
  pub ends : end_of start i ≤ length rows
  pub ids : has_ids rows start i ≡ true
  pub local : list_all (is_local rows k) (rows_of rows start i) ≡ true

-- the rows from start on are a world's, the world at place k
pub record AreRowsOfWorld (rows : List Definition) (start k : ℕ) (w : World) : Type 0 where
  pub begins : start ≤ world_end start w
  pub ends : world_end start w ≤ length rows
  pub items : has_items rows start w ≡ true
  pub local : list_all (is_world_row rows k) (world_rows rows start w) ≡ true

-- The rows from start on are those of these interfaces, the first of which is interface k, and of these worlds, the first of which is world j. Those
-- of an interface stand before those of worlds of its package and later ones, and those of a world before those of interfaces of later packages.
pub data ArePackageByPackage (rows : List Definition) : ℕ → ℕ → List Interface → ℕ → List World → Type 0 where
  behind_all : (start k j : ℕ) → start ≡ length rows → ArePackageByPackage rows start k [] j []
  an_interface : (start k : ℕ) (i : Interface) (is : List Interface) (j : ℕ) (ws : List World) → AreRowsOf rows start k i → list_all (λ w. nat_le i.«package».0 w.«package».0) ws ≡ true
      → ArePackageByPackage rows (end_of start i) (k + 1) is j ws → ArePackageByPackage rows start k (i ∷ is) j ws
  a_world : (start k : ℕ) (is : List Interface) (j : ℕ) (w : World) (ws : List World) → AreRowsOfWorld rows start j w → list_all (λ i. nat_lt w.«package».0 i.«package».0) is ≡ true
      → ArePackageByPackage rows (world_end start w) k is (j + 1) ws → ArePackageByPackage rows start k is j (w ∷ ws)

-- all rows are those of the interfaces and worlds, package by package
abbrev pub IsPackageByPackage : Resolve → Type 0
IsPackageByPackage r = ArePackageByPackage r.definitions 0 0 r.interfaces 0 r.worlds

-- a row of a world is named by rows of the world alone
abbrev pub AreWorldsApart : Resolve → Type 0
AreWorldsApart r = (k : ℕ) (d : Definition) (w : WorldId) → slice_get r.definitions k ≡ Some d → Contains (named_owners (owners r.definitions) d) (Some (owner.World w))
    → slice_index_or (owners r.definitions) k None ≡ Some (owner.World w)

-- the rows of the table are package by package, and the rows of a world are named by rows of that world alone
pub record IsSet (r : Resolve) : Type 0 where
  pub stands : IsPackageByPackage r
  pub apart : AreWorldsApart r

-- the rows of a table stand as those of a package in form: interface by interface, and then world by world
pub record HasRowsInForm (r : Resolve) : Type 0 where
  pub parted : is_parted (length r.definitions) 0 r.interfaces r.worlds ≡ true
  pub interfaces : are_interfaces r.definitions 0 0 r.interfaces ≡ true
  pub items : have_items r.definitions 0 (interfaces_end 0 r.interfaces) r.worlds ≡ true
