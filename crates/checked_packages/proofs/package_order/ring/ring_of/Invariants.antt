use Rattle.std.proofs.Common.{◌≡◌, ◌-◌, true, length}
use Rattle.checked_packages.specs.Arranged.{is_left}
use Rattle.checked_packages.proofs.package_order.WalksEndInRings.{IsTour}
use Rattle.checked_packages.proofs.package_order.ring.ring_of.Given as goal

abbrev pub invariant-loop-alloc : goal.invariant-loop-alloc
invariant-loop-alloc l = record {
  tour : IsTour l.uses l.path.items l.place;
  left : is_left l.placed l.place ≡ true;
}

abbrev pub decreases-loop-alloc : goal.decreases-loop-alloc
decreases-loop-alloc l = length l.uses - length l.path.items
