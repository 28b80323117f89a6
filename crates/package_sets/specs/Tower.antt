-- A set as one table, in which each package is a place: what is asked of it so that each package's own table is one that packages have.
use Rattle.std.specs.Prelude.{◌≡◌, ◌≤◌, ◌<◌, ℕ, ◌+◌, Bool, true, List, ◌||◌, map, sum, length, All}
use Rattle.std.specs.List.{list_any, items_where_true}
use Rattle.package_form.specs.Entries.{entries_of, world_entries}
use Rattle.package_form.specs.Form.{IsInPackageForm}
use Rattle.package_form.specs.Naming.{package_scopes}
use Rattle.package_form.specs.Scope.{AreDistinct}
use Rattle.set_rows.specs.Owners.{owners}
use Rattle.set_rows.specs.Reaches.{Marks, is_marked, OfPackage, AreReached}
use Rattle.package_sets.specs.Attached.{IsAttached}
use Rattle.package_sets.specs.BehindImports.{IsBehindImports}
use Rattle.package_sets.specs.Restricted.{IsRestricted}
use Rattle.package_sets.specs.SetForm.{IsInSetForm, IsEmpty}
use Rattle.tables.specs.Same.{IsSamePackage}
use Rattle.tables.specs.declared.tables.Resolve.{Resolve}
use Rattle.package_form.specs.Closed.{is_world_of}
use Rattle.package_form.specs.Reached.{is_interface_of}

-- the type entries of what is kept of a set
abbrev pub kept_entries : Resolve → List Bool → List Bool → List Bool → ℕ
kept_entries set interfaces worlds rows =
    1 + length (items_where_true interfaces set.interfaces) + (sum (map world_entries (items_where_true worlds set.worlds)) + sum (map entries_of (items_where_true rows set.definitions)))

-- the type entries of what package `id` has and reaches, which has these marks
abbrev pub package_entries : Resolve → ℕ → Marks → ℕ
package_entries set id m = kept_entries set m.interfaces (map (is_world_of id) set.worlds) (map (is_marked m) (owners set.definitions))

-- package `id` of the set has an interface or a world
abbrev pub has_entry : Resolve → ℕ → Bool
has_entry set id = list_any (is_interface_of id) set.interfaces || list_any (is_world_of id) set.worlds

-- package `id` with what it reaches has at most 65535 type entries
abbrev pub IsFew : Resolve → ℕ → Type 0
IsFew set id = (m : Marks) → AreReached set (OfPackage id) m → package_entries set id m ≤ 65535

-- a set's form, in which no package is empty, and none passes the limit of type entries with what it reaches
pub record IsInTower (r : Resolve) : Type 0 where
  pub form : IsInSetForm r
  pub entered : (id : ℕ) → id < length r.packages → has_entry r id ≡ true
  pub few : (id : ℕ) → id < length r.packages → IsFew r id

-- in a tower the table of one package is one that packages have, whose names differ in each scope
abbrev pub IsFormedOf : Resolve → ℕ → Resolve → Type 0
IsFormedOf set own r = IsInTower set → own < length set.packages → IsInPackageForm r × All AreDistinct (package_scopes r)

-- What holds of a set in the tower with the package of a closed table that is in form, and whose names differ in each scope: it stays in the tower;
-- the table of its last package is that closed table, if its imports are just those that its own part names; and the table of each earlier package is
-- what it was.
pub record StaysInTower (set closed r : Resolve) : Type 0 where
  pub tower : IsInTower r
  pub again : IsBehindImports set closed → (table : Resolve) → IsRestricted r (length set.packages) table → IsSamePackage table closed
  pub earlier : (id : ℕ) → id < length set.packages → (table then : Resolve) → IsRestricted r id table → IsRestricted set id then → IsSamePackage table then

-- a set in the tower stays in it with the package of this closed table, if that is in form and its names differ
abbrev pub KeepsTower : Resolve → Resolve → Type 0
KeepsTower set closed = IsInTower set → IsInPackageForm closed → All AreDistinct (package_scopes closed) → (r : Resolve) (id : ℕ) → IsAttached set closed r id → StaysInTower set closed r

-- the set of no packages is in the tower
abbrev pub IsSetOfNone : Resolve → Type 0
IsSetOfNone r = IsEmpty r → IsInTower r
