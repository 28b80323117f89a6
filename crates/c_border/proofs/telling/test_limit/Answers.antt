use Rattle.std.proofs.Common.{rules, refl}
use Rattle.c_border.proofs.RequestsInArrays.{within-limit, above-limit}
use Rattle.c_border.proofs.telling.test_limit.Goals as goal

pub returns-in_default-clause-above : goal.returns-in_default-clause-above
returns-in_default-clause-above c = (
  refl,
  above-limit c.args.asked.now c.loop-request.request-index c.loop-request.left c.args.limit (record { align = 0; size = 0 }) c.loop-request-test.true c.loop-request.invariant (search rules),
)

pub returns-clause-ok : goal.returns-clause-ok
returns-clause-ok c = within-limit c.args.asked.now c.loop-request.request-index c.loop-request.left c.args.limit c.loop-request-test.false c.loop-request.invariant
