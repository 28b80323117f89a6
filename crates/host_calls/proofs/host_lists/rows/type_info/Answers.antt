-- The type stands in the layouts.
use Rattle.values.proofs.TypesExtents.{has-row}
use Rattle.host_calls.proofs.host_lists.rows.type_info.Goals as goal

pub size-requires : goal.size-requires
size-requires c = has-row c.args.types.now c.layouts-layouts.result.now c.in-Some.ty c.layouts-layouts.ensures (rw c.in-Some.is at c.requires)

pub align-requires : goal.align-requires
align-requires c = has-row c.args.types.now c.layouts-layouts.result.now c.in-Some.ty c.layouts-layouts.ensures (rw c.in-Some.is at c.requires)
