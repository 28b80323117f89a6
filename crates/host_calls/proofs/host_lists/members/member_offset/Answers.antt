-- The row stands in the layouts.
use Rattle.values.proofs.TypesExtents.{has-row}
use Rattle.host_calls.proofs.host_lists.members.member_offset.Goals as goal

pub field_offset-requires : goal.field_offset-requires
field_offset-requires c = has-row c.args.types.now c.layouts-layouts.result.now c.args.row c.layouts-layouts.ensures c.requires

pub case_info-requires : goal.case_info-requires
case_info-requires c = has-row c.args.types.now c.layouts-layouts.result.now c.args.row c.layouts-layouts.ensures c.requires
