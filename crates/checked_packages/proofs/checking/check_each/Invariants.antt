use Rattle.std.proofs.Common.{◌≡◌, length}
use Rattle.checked_packages.proofs.checking.check_each.Given as goal

abbrev pub invariant-loop-place : goal.invariant-loop-place
invariant-loop-place l = l.report.status ≡ 0 → length l.checker.checked.items ≡ l.place-index
