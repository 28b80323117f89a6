use Rattle.std.proofs.Common.{◌+◌, ◌*◌, ◌≤◌, map, drop, length}
use Rattle.canonical_abi.specs.Types.{depth, fields_depth}
use Rattle.canonical_abi.specs.Values.{HaveTypes}
use Rattle.canonical_abi.specs.Layout.{field_kinds}
use Rattle.tables.specs.Closed.{closed_type}
use Rattle.values.specs.Members.{members_fields}
use Rattle.values.specs.Val.{value_of}
use Rattle.values.proofs.FieldsFromAPlace.{fields_from}
use Rattle.lift_lower.proofs.LoweredFromParts.{AreLowering}
use Rattle.lift_lower.proofs.lower_flat.+lower.Given as goal

abbrev pub decreases-lower_at : goal.decreases-lower_at
decreases-lower_at g l = 3 * depth (closed_type l.table.now l.ty) + 1

abbrev pub decreases-lower_fields : goal.decreases-lower_fields
decreases-lower_fields g l = 3 * fields_depth (members_fields l.table.now l.members.now) + 2

abbrev pub decreases-lower_variant : goal.decreases-lower_variant
decreases-lower_variant g l = 3 * depth (closed_type l.table.now l.ty)

abbrev pub invariant-lower_fields-loop-index : goal.invariant-lower_fields-loop-index
invariant-lower_fields-loop-index g l =
    let fs = members_fields l.table l.members in
    let vs = map value_of l.values in
    AreLowering l.limit g.G.Guest.allocates fs vs l.initial.flats.items l.index l.flats.items (g.G.Guest.memory l.initial.guest) (g.G.Guest.memory l.guest)
    × HaveTypes (drop l.index vs) (fields_from l.index fs)
    × (length l.flats.items + length (field_kinds (fields_from l.index fs)) ≤ 16)
