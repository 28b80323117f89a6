use Rattle.std.proofs.Common.{refl}
use Rattle.ranges.proofs.PlansOneByOne.{plans-column}
use Rattle.ranges.proofs.planned.plan_variant.Goals as goal

pub returns : goal.returns
returns c =
    let rows = c.in_ok-rows.ensures in
    plans-column _ c.args.at _ _ refl c.requires.blank c.requires.before (record { at = c.args.at; rows = c.in_ok-rows.rows }) refl rows.some rows.few rows.few_cases rows.bytewise rows.rows c.push.ensures.items refl refl
