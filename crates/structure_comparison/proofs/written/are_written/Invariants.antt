use Rattle.structure_comparison.proofs.ListsInStep.{InStepBelow}
use Rattle.structure_comparison.specs.Types.{site_view}
use Rattle.structure_comparison.proofs.written.are_written.Given as goal

abbrev pub invariant-loop-place : goal.invariant-loop-place
invariant-loop-place g l = InStepBelow (g.T.WrittenAs.written (site_view l.site)) l.items l.read l.place
