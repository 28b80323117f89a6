use Rattle.overview.proofs.InterfacesInTheLayoutTable.{function-below}
use Rattle.overview.proofs.layouts.lowered.Goals as goal

pub lowered-requires : goal.lowered-requires
lowered-requires c = function-below c.args.resolve.now c.args.layouts.now c.args.id c.requires.laid_out c.requires.function

pub returns : goal.returns
returns c = c.lowered.ensures c.args.resolve.now c.requires.laid_out c.requires.function
