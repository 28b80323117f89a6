-- A part of a set that names nothing outside itself, and the table of it.
use Rattle.std.specs.Prelude.{◌≡◌, ◌<◌, ℕ, true, false, map, flat_map, length, slice_get, slice_index_or, Option, None, Some, Contains}
use Rattle.set_rows.specs.Owners.{owners}
use Rattle.set_rows.specs.Renamed.{renaming}
use Rattle.set_rows.specs.Moved.{put_interface, put_world, put_row}
use Rattle.set_rows.specs.Reaches.{Marks, is_marked, owners_in, named_owners}
use Rattle.package_sets.specs.Set.{AreWorldsApart}
use Rattle.set_rows.specs.declared.moved.Moved.{Moved}
use Rattle.tables.specs.declared.tables.Owner.{Owner}
use Rattle.tables.specs.declared.tables.Owner.TheVariants as owner
use Rattle.tables.specs.declared.tables.Definition.{Definition}
use Rattle.tables.specs.declared.tables.Interface.{Interface}
use Rattle.tables.specs.declared.tables.World.{World}
use Rattle.tables.specs.declared.tables.Resolve.{Resolve}
use Rattle.std.specs.List.{items_where_true}

-- world k as an owner of rows
abbrev pub of_world : ℕ → Option Owner
of_world k = Some (owner.World (record { 0 = k }))

-- What is kept names what is kept: the rows of the interfaces with marks, and of the worlds that are kept; and the packages of both are kept.
pub record IsPart (set : Resolve) (to : Moved) : Type 0 where
  pub marks : Marks
  pub count : length marks.interfaces ≡ length set.interfaces
  pub count_worlds : length to.worlds ≡ length set.worlds
  pub count_packages : length to.packages ≡ length set.packages
  pub interfaces_are : to.interfaces ≡ marks.interfaces
  pub rows_are : to.rows ≡ map (is_marked marks) (owners set.definitions)
  pub named : (k : ℕ) (d : Definition) (o : Option Owner) → slice_get set.definitions k ≡ Some d → is_marked marks (slice_index_or (owners set.definitions) k None) ≡ true
      → Contains (named_owners (owners set.definitions) d) o → is_marked marks o ≡ true
  pub worlds_marked : (k : ℕ) → k < length set.worlds → slice_index_or to.worlds k false ≡ true → is_marked marks (of_world k) ≡ true
  pub items_marked : (k : ℕ) (w : World) (o : Option Owner) → slice_index_or to.worlds k false ≡ true → slice_get set.worlds k ≡ Some w → Contains (flat_map owners_in w.items) o → is_marked marks o ≡ true
  pub worlds_kept : AreWorldsApart set → (k : ℕ) → k < length set.worlds → is_marked marks (of_world k) ≡ true → slice_index_or to.worlds k false ≡ true
  pub interfaces_needed : (k : ℕ) (i : Interface) → slice_index_or to.interfaces k false ≡ true → slice_get set.interfaces k ≡ Some i → slice_index_or to.packages i.«package».0 false ≡ true
  pub worlds_needed : (k : ℕ) (w : World) → slice_index_or to.worlds k false ≡ true → slice_get set.worlds k ≡ Some w → slice_index_or to.packages w.«package».0 false ≡ true

-- the table of the part of the set that is kept, with new indices
pub record IsTableOf (set : Resolve) (to : Moved) (r : Resolve) : Type 0 where
  pub packages : r.packages ≡ items_where_true to.packages set.packages
  pub interfaces : r.interfaces ≡ map (put_interface (renaming to)) (items_where_true to.interfaces set.interfaces)
  pub worlds : r.worlds ≡ map (put_world (renaming to)) (items_where_true to.worlds set.worlds)
  pub definitions : r.definitions ≡ map (put_row (renaming to)) (items_where_true to.rows set.definitions)
