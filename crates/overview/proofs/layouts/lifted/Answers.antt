use Rattle.overview.proofs.InterfacesInTheLayoutTable.{function-below}
use Rattle.overview.proofs.layouts.lifted.Goals as goal

pub lifted-requires : goal.lifted-requires
lifted-requires c = function-below c.args.resolve.now c.args.layouts.now c.args.id c.requires.laid_out c.requires.function

pub returns : goal.returns
returns c = c.lifted.ensures c.args.resolve.now c.requires.laid_out c.requires.function
