use Rattle.std.proofs.Common.{◌≡◌, ◌<◌, ℕ, false}
use Rattle.checked_packages.specs.Arranged.{is_left}
use Rattle.checked_packages.proofs.package_order.ring.first_left.Given as goal

abbrev pub invariant-loop-place : goal.invariant-loop-place
invariant-loop-place l = (i : ℕ) → i < l.place → is_left l.placed i ≡ false
