use Rattle.std.proofs.Common.{◌≡◌, []}
use Rattle.placement.specs.Waiting.{IsSettled}
use Rattle.placement.proofs.PlacedSoFar.{PlacedSoFar}
use Rattle.placement.proofs.order.placement.Given as goal

abbrev pub invariant-loop-left : goal.invariant-loop-left
invariant-loop-left l = record {
  so_far : PlacedSoFar l.uses l.queue.placed l.order.items l.left;
  settled : IsSettled l.queue [];
  uses : l.queue.uses ≡ l.uses;
}

abbrev pub decreases-loop-left : goal.decreases-loop-left
decreases-loop-left l = l.left
