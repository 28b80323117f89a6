use Rattle.std.proofs.Common.{take}
use Rattle.std.specs.List.{All}
use Rattle.witcall.specs.Steps.{IsStep}
use Rattle.witcall.proofs.steps.takes_steps.Given as goal

abbrev pub invariant-loop-step : goal.invariant-loop-step
invariant-loop-step l = All (IsStep l.«package».resolve) (take l.step-index l.steps)
