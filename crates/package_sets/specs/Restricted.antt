-- The table of one package of a set: what the package reaches of the set, as the set's names tell it.
use Rattle.std.specs.Prelude.{◌≡◌, ◌≤◌, ◌<◌, ◌⊎◌, ℕ, Bool, true, false, List, [], ◌∷◌, ◌++◌, map, flat_map, length, slice_get, slice_index_or, Option, None, Some, Contains, if◌then◌else◌}
use Rattle.std.specs.Option.{option_map}
use Rattle.set_rows.specs.Owners.{owners}
use Rattle.tables.specs.Names.{owner_of}
use Rattle.set_rows.specs.declared.moved.Moved.{Moved}
use Rattle.package_sets.specs.Part.{IsTableOf}
use Rattle.set_rows.specs.Reaches.{Marks, is_marked, owners_in, named_owners, OfPackage, AreReached}
use Rattle.tables.specs.Package.{Tree, NamedDefinition, reference, definition_of, interface_names}
use Rattle.tables.specs.declared.tables.Owner.{Owner}
use Rattle.tables.specs.declared.tables.Owner.TheVariants as owner
use Rattle.tables.specs.declared.tables.World.{World}
use Rattle.tables.specs.declared.tables.Definition.{Definition}
use Rattle.tables.specs.declared.tables.Interface.{Interface}
use Rattle.tables.specs.declared.tables.Resolve.{Resolve}
use Rattle.package_form.specs.Closed.{is_world_of}

-- the definitions of owners with this property, in table order, as these rows tell them
abbrev pub definitions_where : (Option Owner → Bool) → List (List ℕ) → List Tree → List Definition → List NamedDefinition
definitions_where has interfaces trees [] = []
definitions_where has interfaces trees (d ∷ ds) =
    (if has (owner_of d) then definition_of interfaces trees d else []) ++ definitions_where has interfaces (trees ++ reference interfaces trees d ∷ []) ds

-- the types and functions of the marked interfaces, in table order, by names
abbrev pub reached_definitions : Resolve → Marks → List NamedDefinition
reached_definitions set m = definitions_where (is_marked m) (interface_names set) [] set.definitions

-- an interface of package k is marked
abbrev pub IsReachedIn : Resolve → Marks → ℕ → Type 0
IsReachedIn set m k = (i : ℕ) × (x : Interface) × (slice_get set.interfaces i ≡ Some x) × (slice_index_or m.interfaces i true ≡ true) × (x.«package».0 ≡ k)

-- the new marks are the old ones, and those of the packages of reached interfaces
pub record AddsNeeded (set : Resolve) (m : Marks) (old new : List Bool) : Type 0 where
  pub count : length new ≡ length old
  pub keeps : (k : ℕ) → slice_index_or old k false ≡ true → slice_index_or new k false ≡ true
  pub others : (k : ℕ) → IsReachedIn set m k → slice_index_or new k true ≡ true
  pub only : (k : ℕ) → slice_index_or new k false ≡ true → (slice_index_or old k false ≡ true) ⊎ IsReachedIn set m k

-- the packages that are needed: the own one, and each that has an interface which is reached
pub record AreNeeded (set : Resolve) (own : ℕ) (m : Marks) (needed : List Bool) : Type 0 where
  pub count : length needed ≡ length set.packages
  pub own_one : own < length set.packages → slice_index_or needed own false ≡ true
  pub others : (k : ℕ) → IsReachedIn set m k → slice_index_or needed k true ≡ true
  pub only : (k : ℕ) → slice_index_or needed k false ≡ true → (k ≡ own) ⊎ IsReachedIn set m k

-- ---- packages in order

-- this number, or 0 if there is none
abbrev pub number_or : Option ℕ → ℕ
number_or None = 0
number_or (Some n) = n

-- the package that an owner is of; of one that isn't there, the first
abbrev pub package_of_owner : Resolve → Option Owner → ℕ
package_of_owner set None = 0
package_of_owner set (Some (owner.Interface i)) = number_or (option_map (λ x. x.«package».0) (slice_get set.interfaces i.0))
package_of_owner set (Some (owner.World w)) = number_or (option_map (λ x. x.«package».0) (slice_get set.worlds w.0))

-- no row names what is of a later package than the row, and no item of a world an interface of a later one than the world
pub record NamesEarlierPackages (set : Resolve) : Type 0 where
  pub rows : (k : ℕ) (d : Definition) (o : Option Owner) → slice_get set.definitions k ≡ Some d → Contains (named_owners (owners set.definitions) d) o
      → package_of_owner set o ≤ package_of_owner set (slice_index_or (owners set.definitions) k None)
  pub items : (w : World) (o : Option Owner) → Contains set.worlds w → Contains (flat_map owners_in w.items) o → package_of_owner set o ≤ w.«package».0

-- what the table of package `own` keeps of the set: what the package reaches
pub record IsNeeded (set : Resolve) (own : ℕ) (to : Moved) : Type 0 where
  pub marks : Marks
  pub are_reached : AreReached set (OfPackage own) marks
  pub packages_are : AreNeeded set own marks to.packages
  pub interfaces_are : to.interfaces ≡ marks.interfaces
  pub worlds_are : to.worlds ≡ map (is_world_of own) set.worlds
  pub rows_are : to.rows ≡ map (is_marked marks) (owners set.definitions)

-- The table of what is kept: just what the package reaches, in the set's order.
pub record IsRestricted (set : Resolve) (own : ℕ) (r : Resolve) : Type 0 where
  pub to : Moved
  pub needed : IsNeeded set own to
  pub table : IsTableOf set to r
