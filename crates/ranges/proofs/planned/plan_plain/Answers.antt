use Rattle.std.proofs.Common.{refl}
use Rattle.ranges.proofs.PlansOneByOne.{plans-plain}
use Rattle.ranges.proofs.planned.plan_plain.Goals as goal

pub returns : goal.returns
returns c = plans-plain _ c.args.at _ _ refl c.requires.blank c.requires.before _ c.in_ok-nodes.ensures refl c.in_ok-plan.ensures.1
