use Rattle.witcall.proofs.StandardSteps.{tell_callee}
use Rattle.witcall.proofs.laws.tells_callee.Goals as goal

pub returns : goal.returns
returns g c = tell_callee _ _ _ _ _ c.args._session.now.package.now.resolve
