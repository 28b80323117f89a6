-- The members of a record: the fields of a type, or types side by side.
use Rattle.std.specs.Prelude.{◌≡◌, ℕ, true, List, map, length, Option, slice_get}
use Rattle.std.specs.List.{list_all}
use Rattle.canonical_abi.specs.Types.{Fields, fields_of, record_fields}
use Rattle.tables.specs.Closed.{closed_type}
use Rattle.tables.specs.Tables.{is_below, is_type}
use Rattle.tables.specs.declared.tables.Resolve.{Resolve}
use Rattle.tables.specs.declared.tables.ValType.{ValType}
use Rattle.layout.specs.Named.{OfNamed, own_member}
use Rattle.values.specs.Types.{IsInside}
use Rattle.values.specs.declared.members.Members.{Members}
use Rattle.values.specs.declared.members.Members.TheVariants.{Of, Listed}

-- the members' closed types
abbrev pub members_fields : Resolve → Members → Fields
members_fields r (Of ty) = record_fields (closed_type r ty)
members_fields r (Listed types) = fields_of (map (closed_type r) types.now)

-- types of a package as the fields of a record
abbrev pub fields_of_types : Resolve → List ValType → Fields
fields_of_types r types = fields_of (map (closed_type r) types)

-- types that stand in the package's table
abbrev pub AreAllInside : Resolve → List ValType → Type 0
AreAllInside r types = list_all (is_below (length r.definitions)) types ≡ true

-- members that stand in the package's table
abbrev pub AreInside : Resolve → Members → Type 0
AreInside r (Of ty) = IsInside r ty
AreInside r (Listed types) = AreAllInside r types.now

-- types of the package
abbrev pub AreTypesOf : Resolve → List ValType → Type 0
AreTypesOf r types = list_all (is_type r.definitions) types ≡ true

-- the member at this place, under the very name that its definition gives it
abbrev pub IsOwnMember : Resolve → Members → ℕ → Option ValType → Type 0
IsOwnMember r (Of ty) i o = OfNamed r ty (λ e. own_member r.definitions e i ≡ o)
IsOwnMember r (Listed types) i o = o ≡ slice_get types.now i
