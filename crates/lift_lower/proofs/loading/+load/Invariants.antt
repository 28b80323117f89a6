use Rattle.std.proofs.Common.{◌≡◌, ◌+◌, ◌-◌, ◌*◌, map}
use Rattle.canonical_abi.specs.Types.{depth, fields_depth, record_fields}
use Rattle.canonical_abi.specs.Reading.{reading, each_at, reading_fields}
use Rattle.tables.specs.Closed.{closed_type}
use Rattle.values.specs.Val.{value_of}
use Rattle.lift_lower.proofs.ReadingStepByStep.{with_front}
use Rattle.values.proofs.FieldsFromAPlace.{fields_from}
use Rattle.lift_lower.proofs.PlacesOfFields.{end_before}
use Rattle.lift_lower.proofs.loading.+load.Given as goal

abbrev pub decreases-load_at : goal.decreases-load_at
decreases-load_at l = 3 * depth (closed_type l.table.now l.ty) + 2

abbrev pub decreases-load_compound : goal.decreases-load_compound
decreases-load_compound l = 3 * depth (closed_type l.table.now l.ty) + 1

abbrev pub decreases-load_list : goal.decreases-load_list
decreases-load_list l = 3 * depth (closed_type l.table.now l.element) + 3

abbrev pub decreases-load_record : goal.decreases-load_record
decreases-load_record l = 3 * fields_depth (record_fields (closed_type l.table.now l.ty)) + 3

abbrev pub decreases-load_variant : goal.decreases-load_variant
decreases-load_variant l = 3 * depth (closed_type l.table.now l.ty)

abbrev pub invariant-load_list-loop-index : goal.invariant-load_list-loop-index
invariant-load_list-loop-index l =
    let f = reading (closed_type l.table l.element) l.memory in
    with_front (map value_of l.items.items) (each_at f l.step (l.start + l.index * l.step) (l.count - l.index)) ≡ each_at f l.step l.start l.count

abbrev pub invariant-load_record-loop-index : goal.invariant-load_record-loop-index
invariant-load_record-loop-index l =
    let fs = record_fields (closed_type l.table l.ty) in
    with_front (map value_of l.fields.items) (reading_fields (fields_from l.index fs) l.memory l.at (end_before 0 l.index fs)) ≡ reading_fields fs l.memory l.at 0
