use Rattle.std.proofs.Common.{◌≡◌, ◌<◌, ℕ, false}
use Rattle.placement.specs.Order.{is_ready}
use Rattle.checked_packages.specs.Arranged.{is_marked_package}
use Rattle.checked_packages.proofs.package_order.order.next_ready.Given as goal

abbrev pub invariant-loop-place : goal.invariant-loop-place
invariant-loop-place l = (i : ℕ) → i < l.place → is_ready l.uses (is_marked_package l.placed) i ≡ false
