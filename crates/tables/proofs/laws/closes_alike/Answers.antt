use Rattle.tables.proofs.ClosesAlike.{closes_alike}
use Rattle.tables.proofs.laws.closes_alike.Goals as goal

pub returns : goal.returns
returns c = closes_alike c.args._resolve.now
