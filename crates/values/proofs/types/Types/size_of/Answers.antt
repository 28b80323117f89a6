use Rattle.values.proofs.TypesExtents.{has-row}
use Rattle.values.proofs.types.Types.size_of.Goals as goal

pub size-requires : goal.size-requires
size-requires c = has-row c.args.self.now c.layouts.result.now c.args.ty c.layouts.ensures c.requires
