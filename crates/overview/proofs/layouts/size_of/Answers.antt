use Rattle.overview.proofs.InterfacesInTheLayoutTable.{type-below}
use Rattle.overview.proofs.layouts.size_of.Goals as goal

pub size-requires : goal.size-requires
size-requires c = type-below c.args.resolve.now c.args.layouts.now c.args.id c.requires.laid_out c.requires.placed

pub returns : goal.returns
returns c = c.size.ensures c.args.resolve.now c.requires.laid_out
