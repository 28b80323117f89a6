-- The table of some interfaces of a set, with those whose types they name.
use Rattle.std.specs.Prelude.{◌≡◌, ◌⊎◌, ◌<◌, ℕ, Bool, true, false, List, [], length, map, slice_index_or}
use Rattle.set_rows.specs.Owners.{owners}
use Rattle.package_sets.specs.Part.{IsTableOf}
use Rattle.set_rows.specs.Reaches.{Marks, is_marked, padded, OfInterfaces, AreReached}
use Rattle.package_sets.specs.Restricted.{IsReachedIn}
use Rattle.set_rows.specs.declared.moved.Moved.{Moved}
use Rattle.tables.specs.declared.tables.Resolve.{Resolve}

-- the packages that are needed: those that are given, and each that has an interface which is reached
pub record AreNeededBy (set : Resolve) (packages : List Bool) (m : Marks) (needed : List Bool) : Type 0 where
  pub count : length needed ≡ length set.packages
  pub given : (k : ℕ) → k < length set.packages → slice_index_or packages k false ≡ true → slice_index_or needed k false ≡ true
  pub others : (k : ℕ) → IsReachedIn set m k → slice_index_or needed k true ≡ true
  pub only : (k : ℕ) → slice_index_or needed k false ≡ true → (slice_index_or packages k false ≡ true) ⊎ IsReachedIn set m k

-- what an import table keeps of the set: what the given interfaces reach
pub record IsImported (set : Resolve) (packages interfaces : List Bool) (to : Moved) : Type 0 where
  pub marks : Marks
  pub are_reached : AreReached set (OfInterfaces interfaces) marks
  pub packages_are : AreNeededBy set packages marks to.packages
  pub interfaces_are : to.interfaces ≡ marks.interfaces
  pub worlds_are : to.worlds ≡ padded (length set.worlds) []
  pub rows_are : to.rows ≡ map (is_marked marks) (owners set.definitions)

-- The table of what is kept: just the interfaces that are reached from those that are given, with their definitions, in the set's order, and their
-- packages; and no world.
pub record IsImportsOf (set : Resolve) (packages interfaces : List Bool) (r : Resolve) : Type 0 where
  pub to : Moved
  pub kept : IsImported set packages interfaces to
  pub table : IsTableOf set to r
