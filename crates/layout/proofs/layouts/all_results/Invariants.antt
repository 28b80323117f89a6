use Rattle.std.proofs.Common.{◌≡◌, ◌+◌, map, take}
use Rattle.layout.specs.Rows.{definition_result}
use Rattle.layout.specs.Work.{results_work, saturated}
use Rattle.layout.proofs.layouts.all_results.Given as goal

abbrev pub invariant-loop-definition : goal.invariant-loop-definition
invariant-loop-definition l = record {
  results_are : l.results.items ≡ map (definition_result l.rows) (take l.definition-index l.definition-items);
  steps_are : l.steps.count ≡ saturated (l.initial.steps.count + results_work (take l.definition-index l.definition-items));
}
