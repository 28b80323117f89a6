use Rattle.std.proofs.Common.{refl}
use Rattle.ranges.proofs.CapsOfFields.{zeros}
use Rattle.ranges.proofs.PlansOneByOne.{planned-whole}
use Rattle.ranges.proofs.planned.plan_of.Goals as goal

pub plan_value-requires-clause-blank : goal.plan_value-requires-clause-blank
plan_value-requires-clause-blank c = λ i h. zeros 256 i

pub returns-clause-planned : goal.returns-clause-planned
returns-clause-planned c = planned-whole _ _ _ c.size_of-size.ensures.value refl c.new.ensures c.in_ok-plan_value.ensures
