use Rattle.layout.proofs.StandsForOne.{stands-for-one}
use Rattle.layout.proofs.laws.stands_for_one.Goals as goal

pub returns : goal.returns
returns c = stands-for-one c.args._resolve.now
