use Rattle.std.proofs.Common.{◌≡◌, ◌+◌, ◌*◌}
use Rattle.canonical_abi.specs.Types.{depth, record_fields}
use Rattle.tables.specs.Closed.{closed_type}
use Rattle.values.proofs.FieldsFromAPlace.{fields_from, fields_end}
use Rattle.ranges.proofs.CapsOfFields.{Filled}
use Rattle.ranges.proofs.caps.+fill.Given as goal

abbrev pub decreases-fill : goal.decreases-fill
decreases-fill l = 2 * depth (closed_type l.table.now l.ty) + 1

abbrev pub decreases-fill_fields : goal.decreases-fill_fields
decreases-fill_fields l = 2 * depth (closed_type l.table.now l.ty)

abbrev pub invariant-fill_fields-loop-index : goal.invariant-fill_fields-loop-index
invariant-fill_fields-loop-index l =
    let fs = record_fields (closed_type l.table l.ty) in
    Filled fs l.index l.end l.at l.initial.bytes l.bytes l.nodes × (fields_end l.end (fields_from l.index fs) ≡ fields_end 0 fs)
