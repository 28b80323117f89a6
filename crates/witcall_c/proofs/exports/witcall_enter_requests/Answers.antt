-- The status is that of the requests, and the handle stands for what it stood for.
use Rattle.std.proofs.Common.{sym}
use Rattle.witcall_c.proofs.exports.witcall_enter_requests.Goals as goal

pub returns-clause-done : goal.returns-clause-done
returns-clause-done c = (_, sym c.take-held.ensures.taken, c.give.ensures, (c.enter_requests-done.result, c.of.ensures.status, c.enter_requests-done.ensures.done))
