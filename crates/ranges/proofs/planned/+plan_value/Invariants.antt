use Rattle.std.proofs.Common.{◌≡◌, ◌+◌, ◌*◌}
use Rattle.canonical_abi.specs.Types.{depth, record_fields}
use Rattle.tables.specs.Closed.{closed_type}
use Rattle.values.proofs.FieldsFromAPlace.{fields_from, fields_end}
use Rattle.ranges.proofs.PlansOneByOne.{FieldsPlanned}
use Rattle.ranges.proofs.planned.+plan_value.Given as goal

abbrev pub decreases-plan_fields : goal.decreases-plan_fields
decreases-plan_fields l = 2 * depth (closed_type l.table.now l.ty)

abbrev pub decreases-plan_value : goal.decreases-plan_value
decreases-plan_value l = 2 * depth (closed_type l.table.now l.ty) + 1

abbrev pub invariant-plan_fields-loop-index : goal.invariant-plan_fields-loop-index
invariant-plan_fields-loop-index l =
    let fs = record_fields (closed_type l.table l.ty) in
    FieldsPlanned fs l.index l.end l.at l.fn.plan l.plan × (fields_end l.end (fields_from l.index fs) ≡ fields_end 0 fs)
