use Rattle.canonical_abi.specs.Call.{exact}
use Rattle.canonical_abi.proofs.Sessions.CalleeKeepsHeld.{callee-keeps-held}
use Rattle.witcall.proofs.StandardSteps.{keep_held, place_held, place_held_live, read_held, read_placed}
use Rattle.witcall.proofs.laws.keeps_held.Goals as goal

pub returns-clause-caller : goal.returns-clause-caller
returns-clause-caller g c = keep_held _ _ _ c.args._session.now.package.now.resolve

pub returns-clause-held : goal.returns-clause-held
returns-clause-held g c = read_held _ _ _ c.args._session.now.package.now.resolve

pub returns-clause-placed : goal.returns-clause-placed
returns-clause-placed g c = place_held _ _ _ c.args._session.now.package.now.resolve

pub returns-clause-placed_live : goal.returns-clause-placed_live
returns-clause-placed_live g c = place_held_live _ _ _ c.args._session.now.package.now.resolve

pub returns-clause-read : goal.returns-clause-read
returns-clause-read g c = read_placed _ _ _ c.args._session.now.package.now.resolve

pub returns-clause-callee : goal.returns-clause-callee
returns-clause-callee g c = callee-keeps-held _ _ _ exact
