use Rattle.std.proofs.Common.{arith}
use Rattle.canonical_abi.specs.Types.{record_type}
use Rattle.values.specs.Members.{fields_of_types}
use Rattle.values.proofs.FieldsFromAPlace.{count-types}
use Rattle.values.proofs.TypesExtents.{align-pos}
use Rattle.lift_lower.proofs.lifting.load_spilled.Goals as goal

pub check_block-requires-clause-aligned : goal.check_block-requires-clause-aligned
check_block-requires-clause-aligned c =
    omega (arith, align-pos (record_type (fields_of_types c.args.table.now c.args.types.now)), c.record_extent-size.ensures.align)

pub load_fields-requires-clause-counted : goal.load_fields-requires-clause-counted
load_fields-requires-clause-counted c = count-types c.args.table.now c.args.types.now
