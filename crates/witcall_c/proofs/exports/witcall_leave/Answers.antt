-- The status is that of the half, and the handle stands for what it stood for.
use Rattle.std.proofs.Common.{sym}
use Rattle.witcall_c.proofs.exports.witcall_leave.Goals as goal

pub returns-clause-done : goal.returns-clause-done
returns-clause-done c = (_, sym c.take-held.ensures.taken, c.give.ensures, (c.leave-done.result, c.of.ensures.status, c.leave-done.ensures.done))
