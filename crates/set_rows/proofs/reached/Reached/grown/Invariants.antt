use Rattle.set_rows.specs.Marking.{unmarked}
use Rattle.set_rows.proofs.MarksOfReached.{IsGrowing}
use Rattle.set_rows.proofs.reached.Reached.grown.Given as goal

abbrev pub invariant-loop-reached : goal.invariant-loop-reached
invariant-loop-reached l = IsGrowing l.set l.initial.reached l.reached

abbrev pub decreases-loop-reached : goal.decreases-loop-reached
decreases-loop-reached l = unmarked l.reached
