use Rattle.tables.proofs.ErasesToClosed.{erases}
use Rattle.tables.proofs.laws.erases_to_closed.Goals as goal

pub returns : goal.returns
returns c = erases c.args._resolve.now
