use Rattle.std.proofs.Common.{length}
use Rattle.values.proofs.TypesExtents.{has-row, one-inside}
use Rattle.values.proofs.types.Types.kind_count.Goals as goal

pub flat_count-requires : goal.flat_count-requires
flat_count-requires c = one-inside (length c.layouts.result.now.rows) c.args.ty (has-row c.args.self.now c.layouts.result.now c.args.ty c.layouts.ensures c.requires.inside)
