use Rattle.std.proofs.Common.{◌≡◌, ◌+◌, take}
use Rattle.layout.specs.Work.{laid_work, saturated}
use Rattle.layout.proofs.LaidSoFar.{LaidSoFar}
use Rattle.layout.proofs.layouts.lay_all.Given as goal

abbrev pub invariant-loop-definition : goal.invariant-loop-definition
invariant-loop-definition l = record {
  laid : LaidSoFar l.resolve l.definition-index l.rows.items l.parts;
  steps_are : l.steps.count ≡ saturated (l.initial.steps.count + laid_work (take l.definition-index l.definition-items));
}
