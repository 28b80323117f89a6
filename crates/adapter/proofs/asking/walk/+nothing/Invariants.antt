use Rattle.std.proofs.Common.{◌+◌, ◌*◌}
use Rattle.canonical_abi.specs.Types.{depth, fields_depth, record_fields}
use Rattle.tables.specs.Closed.{closed_type}
use Rattle.values.proofs.FieldsFromAPlace.{fields_from}
use Rattle.adapter.proofs.asking.RequestsOfParts.{AskNothing}
use Rattle.adapter.proofs.asking.walk.+nothing.Given as goal

abbrev pub decreases-asks_nothing : goal.decreases-asks_nothing
decreases-asks_nothing l = 2 * depth (closed_type l.table.now l.ty) + 1

abbrev pub decreases-fields_ask_nothing : goal.decreases-fields_ask_nothing
decreases-fields_ask_nothing l = 2 * fields_depth (record_fields (closed_type l.table.now l.ty)) + 2

abbrev pub invariant-fields_ask_nothing-loop-index : goal.invariant-fields_ask_nothing-loop-index
invariant-fields_ask_nothing-loop-index l =
    let fs = record_fields (closed_type l.fn.table l.fn.ty) in
    AskNothing (fields_from l.index fs) → AskNothing fs
