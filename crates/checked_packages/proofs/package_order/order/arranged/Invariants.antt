use Rattle.std.proofs.Common.{◌≡◌, ◌+◌, length}
use Rattle.placement.proofs.PlacedSoFar.{PlacedSoFar}
use Rattle.checked_packages.proofs.package_order.order.arranged.Given as goal

abbrev pub invariant-loop-left : goal.invariant-loop-left
invariant-loop-left l = record {
  so_far : PlacedSoFar l.uses l.placed.items l.order.items l.left;
  count : length l.order.items + l.left ≡ length l.uses;
}

abbrev pub decreases-loop-left : goal.decreases-loop-left
decreases-loop-left l = l.left
