use Rattle.overview.proofs.InterfacesInTheLayoutTable.{type-below}
use Rattle.overview.proofs.layouts.align_of.Goals as goal

pub align-requires : goal.align-requires
align-requires c = type-below c.args.resolve.now c.args.layouts.now c.args.id c.requires.laid_out c.requires.placed

pub returns : goal.returns
returns c = c.align.ensures c.args.resolve.now c.requires.laid_out
