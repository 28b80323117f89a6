use Rattle.std.proofs.Common.{◌≡◌, ◌+◌, ◌*◌, ◌≤◌, map, drop, length}
use Rattle.canonical_abi.specs.Types.{depth, fields_depth}
use Rattle.canonical_abi.specs.Layout.{field_kinds}
use Rattle.canonical_abi.specs.Reading.{number_of, lifting_fields}
use Rattle.tables.specs.Closed.{closed_type}
use Rattle.values.specs.Members.{members_fields}
use Rattle.values.specs.Val.{value_of}
use Rattle.lift_lower.proofs.ReadingStepByStep.{with_front}
use Rattle.values.proofs.FieldsFromAPlace.{fields_from}
use Rattle.lift_lower.proofs.lift_flat.+lift.Given as goal

abbrev pub decreases-lift_at : goal.decreases-lift_at
decreases-lift_at l = 2 * depth (closed_type l.table.now l.ty) + 1

abbrev pub decreases-lift_fields : goal.decreases-lift_fields
decreases-lift_fields l = 2 * fields_depth (members_fields l.table.now l.members.now) + 2

abbrev pub decreases-lift_variant : goal.decreases-lift_variant
decreases-lift_variant l = 2 * depth (closed_type l.table.now l.ty)

abbrev pub invariant-lift_fields-loop-index : goal.invariant-lift_fields-loop-index
invariant-lift_fields-loop-index l =
    let fs = members_fields l.table l.members in
    let ns = map number_of l.flats in
    (with_front (map value_of l.fields.items) (lifting_fields (fields_from l.index fs) l.memory (drop l.used ns)) ≡ lifting_fields fs l.memory ns)
    × (l.used + length (field_kinds (fields_from l.index fs)) ≤ length l.flats)
