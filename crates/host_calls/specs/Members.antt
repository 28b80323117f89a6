-- CanonicalABI.md, "Alignment" and "Element Size": what stands in the rows of a package's table, and where.
use Rattle.std.specs.Prelude.{ℕ, slice_get, Option, None, Some}
use Rattle.std.specs.Option.{option_map}
use Rattle.canonical_abi.specs.Types.{ClosedType, record_fields, variant_cases, nth_case}
use Rattle.canonical_abi.specs.Layout.{field_places, payload_place}
use Rattle.tables.specs.Closed.{closed_type}
use Rattle.tables.specs.declared.tables.ValType.{ValType}
use Rattle.tables.specs.declared.tables.Definition.{Definition}
use Rattle.tables.specs.declared.tables.Resolve.{Resolve}
use Rattle.host_calls.specs.Contents.{types_of_members}
use Rattle.host_calls.specs.Rows.{row_type, type_info}
use Rattle.host_calls.specs.declared.host_lists.members.MemberInfo.{MemberInfo}

-- the offset of a field if there is one, or of the payload if there is a case, or 0
abbrev pub place_by : Option ℕ → Option (Option ClosedType) → ℕ → ℕ
place_by (Some place) case payload = place
place_by None (Some case) payload = payload
place_by None None payload = 0

-- the offset of member i of a type: of a field its own, of each case's payload one and the same, or 0
abbrev pub member_offset : ClosedType → ℕ → ℕ
member_offset t i = place_by (slice_get (field_places (record_fields t)) i) (nth_case (variant_cases t) i) (payload_place (variant_cases t))

-- what C gets of member i of the row of this number, whose type is this, if it has one
abbrev pub member_info : Resolve → ℕ → ℕ → Option ValType → MemberInfo
member_info r number i v = record { ty = type_info r v; offset = member_offset (closed_type r (row_type number)) i }

-- member i of this row, if there is a row and it has that member
abbrev pub member_in : Resolve → ℕ → ℕ → Option Definition → Option MemberInfo
member_in r number i None = None
member_in r number i (Some d) = option_map (member_info r number i) (slice_get (types_of_members d) i)

-- member i of the row of this number, if there is such a row and it has that member
abbrev pub member_at : Resolve → ℕ → ℕ → Option MemberInfo
member_at r number i = member_in r number i (slice_get r.definitions number)
