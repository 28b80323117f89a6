-- WIT.md, "Package Names": where a row of a table has its name, and the full names of interfaces and worlds.
use Rattle.std.specs.Prelude.{ℕ, ◌==◌, List, Option, None, Some, slice_get, if◌then◌else◌}
use Rattle.std.specs.Option.{option_map}
use Rattle.tables.specs.Names.{full_name, world_name}
use Rattle.tables.specs.declared.tables.Owner.{Owner}
use Rattle.tables.specs.declared.tables.Owner.TheVariants as owner
use Rattle.tables.specs.declared.tables.Resolve.{Resolve}

-- the number of what an owner is: 1 an interface, 2 a world, 0 if there is none
abbrev pub owner_kind : Option Owner → ℕ
owner_kind None = 0
owner_kind (Some (owner.Interface i)) = 1
owner_kind (Some (owner.World w)) = 2

-- the index of an owner among the interfaces or the worlds, or 0 if there is none
abbrev pub owner_number : Option Owner → ℕ
owner_number None = 0
owner_number (Some (owner.Interface i)) = i.0
owner_number (Some (owner.World w)) = w.0

-- the owner of these two numbers: 1 an interface, 2 a world; none of any other first number
abbrev pub numbered_owner : ℕ → ℕ → Option Owner
numbered_owner kind number =
    if kind == 1 then Some (owner.Interface (record { 0 = number }))
    else (if kind == 2 then Some (owner.World (record { 0 = number })) else None)

-- the full name of an interface or a world, if it is in the table
abbrev pub owner_name : Resolve → Owner → Option (List ℕ)
owner_name r (owner.Interface i) = option_map (full_name r) (slice_get r.interfaces i.0)
owner_name r (owner.World w) = option_map (world_name r) (slice_get r.worlds w.0)

-- the full name of an owner, if there is one and it is in the table
abbrev pub owner_name_if : Resolve → Option Owner → Option (List ℕ)
owner_name_if r None = None
owner_name_if r (Some o) = owner_name r o

-- the full name of the owner of these two numbers, if there is one in the table
abbrev pub owner_name_at : Resolve → ℕ → ℕ → Option (List ℕ)
owner_name_at r kind number = owner_name_if r (numbered_owner kind number)
