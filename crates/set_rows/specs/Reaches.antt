-- What is reached in a set: by a package, its own interfaces and worlds, and the interfaces whose types they name, directly or by others; by
-- interfaces, those whose types they name so.
use Rattle.std.specs.Prelude.{◌≡◌, ◌⊎◌, ℕ, zero, suc, Bool, true, false, List, [], ◌∷◌, map, flat_map, length, slice_get, slice_index_or, Option, None, Some, Contains, if◌then◌else◌}
use Rattle.set_rows.specs.Owners.{owners, names}
use Rattle.tables.specs.declared.tables.TypeId.{TypeId}
use Rattle.tables.specs.declared.tables.Owner.{Owner}
use Rattle.tables.specs.declared.tables.Owner.TheVariants as owner
use Rattle.tables.specs.declared.tables.Definition.{Definition}
use Rattle.tables.specs.declared.tables.World.{World}
use Rattle.tables.specs.declared.tables.WorldItem.{WorldItem}
use Rattle.tables.specs.declared.tables.WorldItemKind.{WorldItemKind}
use Rattle.tables.specs.declared.tables.WorldItemKind.TheVariants as item
use Rattle.tables.specs.declared.tables.Resolve.{Resolve}
use Rattle.package_form.specs.Closed.{is_world_of}
use Rattle.package_form.specs.Reached.{is_interface_of}

-- a mark for each interface and for each world
pub record Marks : Type 0 where
  pub interfaces : List Bool
  pub worlds : List Bool

-- whether an owner is marked; one that isn't there counts as marked, but in postfix order each row has an owner
abbrev pub is_marked : Marks → Option Owner → Bool
is_marked m None = true
is_marked m (Some (owner.Interface i)) = slice_index_or m.interfaces i.0 true
is_marked m (Some (owner.World w)) = slice_index_or m.worlds w.0 true

-- the marks of just the interfaces and worlds of package `own`
abbrev pub own_marks : Resolve → ℕ → Marks
own_marks set own = record { interfaces = map (is_interface_of own) set.interfaces; worlds = map (is_world_of own) set.worlds }

-- the interface that an item of a world imports or exports by name, or none of a function
abbrev pub item_owners : WorldItemKind → List (Option Owner)
item_owners (item.Interface i) = Some (owner.Interface i) ∷ []
item_owners (item.Function f) = []

-- the interface that a world's item imports or exports by name, as a list of one or none
abbrev pub owners_in : WorldItem → List (Option Owner)
owners_in i = item_owners i.kind

-- the interfaces that the world's items name, if it is a world of package `own`, or else none
abbrev pub world_owners : ℕ → World → List (Option Owner)
world_owners own w = if is_world_of own w then flat_map owners_in w.items else []

-- the owner of the row at this place, or none
abbrev pub owner_at : List (Option Owner) → TypeId → Option Owner
owner_at os t = slice_index_or os t.0 None

-- the owners of the rows that a row refers to
abbrev pub named_owners : List (Option Owner) → Definition → List (Option Owner)
named_owners os d = map (owner_at os) (names d)

-- so many marks: those given, as far as they go, and false for the others
abbrev pub padded : ℕ → List Bool → List Bool
padded zero bs = []
padded (suc n) [] = false ∷ padded n []
padded (suc n) (b ∷ bs) = b ∷ padded n bs

-- the marks of the given interfaces and of no world
abbrev pub given_marks : Resolve → List Bool → Marks
given_marks set given = record { interfaces = padded (length set.interfaces) given; worlds = padded (length set.worlds) [] }

-- where reaching starts: at a package, or at the interfaces with these marks
pub data Start : Type 0 where
  OfPackage : ℕ → Start
  OfInterfaces : List Bool → Start

-- Of a package, what is its own and the interfaces that the items of its worlds name.
abbrev pub IsStart : Resolve → Start → Option Owner → Type 0
IsStart set (OfPackage own) o = (is_marked (own_marks set own) o ≡ true) ⊎ Contains (flat_map (world_owners own) set.worlds) o
IsStart set (OfInterfaces given) o = is_marked (given_marks set given) o ≡ true

-- What is reached in a set: where reaching starts, and whatever a row names that is of what is reached.
pub data Reaches (set : Resolve) (from : Start) : Option Owner → Type 0 where
  of_start : (o : Option Owner) → IsStart set from o → Reaches set from o
  of_row : (k : ℕ) (d : Definition) (o : Option Owner) → slice_get set.definitions k ≡ Some d
      → Reaches set from (slice_index_or (owners set.definitions) k None) → Contains (named_owners (owners set.definitions) d) o → Reaches set from o

-- these are the marks of just the interfaces and worlds that are reached
pub record AreReached (set : Resolve) (from : Start) (m : Marks) : Type 0 where
  pub count : length m.interfaces ≡ length set.interfaces
  pub sound : (o : Option Owner) → is_marked m o ≡ true → Reaches set from o
  pub complete : (o : Option Owner) → Reaches set from o → is_marked m o ≡ true
