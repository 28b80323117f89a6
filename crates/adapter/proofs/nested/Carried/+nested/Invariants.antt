use Rattle.std.proofs.Common.{◌+◌, ◌*◌}
use Rattle.canonical_abi.specs.Types.{depth, fields_depth, record_fields}
use Rattle.tables.specs.Closed.{closed_type}
use Rattle.adapter.proofs.NestedValuesCrossAsTheyAre.{AreBegun}
use Rattle.adapter.proofs.nested.Carried.+nested.Given as goal

abbrev pub decreases-end_of : goal.decreases-end_of
decreases-end_of l = 2 * depth (closed_type l.self.now.types.now l.ty)

abbrev pub decreases-end_of_fields : goal.decreases-end_of_fields
decreases-end_of_fields l = 2 * fields_depth (record_fields (closed_type l.self.now.types.now l.ty)) + 1

abbrev pub invariant-end_of_fields-loop-index : goal.invariant-end_of_fields-loop-index
invariant-end_of_fields-loop-index l =
    AreBegun (record_fields (closed_type l.self.types.now l.fn.ty)) l.self.flats.now l.index l.from l.end l.initial.nodes l.nodes
