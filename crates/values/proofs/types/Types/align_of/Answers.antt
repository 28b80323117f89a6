use Rattle.std.proofs.Common.{arith}
use Rattle.tables.specs.Closed.{closed_type}
use Rattle.values.proofs.TypesExtents.{has-row, align-pos}
use Rattle.values.proofs.types.Types.align_of.Goals as goal

pub align-requires : goal.align-requires
align-requires c = has-row c.args.self.now c.layouts.result.now c.args.ty c.layouts.ensures c.requires

pub returns-clause-positive : goal.returns-clause-positive
returns-clause-positive c =
    omega (arith, align-pos (closed_type c.args.self.now c.args.ty), c.align.ensures c.args.self.now c.layouts.ensures)
