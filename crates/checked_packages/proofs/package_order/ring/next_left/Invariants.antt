use Rattle.std.proofs.Common.{◌≡◌, ◌<◌, ℕ, true, get_or}
use Rattle.checked_packages.specs.Arranged.{is_marked_package}
use Rattle.checked_packages.proofs.package_order.ring.next_left.Given as goal

abbrev pub invariant-loop-other : goal.invariant-loop-other
invariant-loop-other l = (k : ℕ) → k < l.other-index → is_marked_package l.placed (get_or l.used k 0) ≡ true
