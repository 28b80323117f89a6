use Rattle.std.proofs.Common.{◌≡◌, ◌+◌, drop}
use Rattle.package_sets.specs.Joining.{before_own}
use Rattle.package_sets.proofs.joining.import_count.Given as goal

abbrev pub invariant-loop-place : goal.invariant-loop-place
invariant-loop-place l = l.place + before_own l.own (drop l.place l.interfaces) ≡ before_own l.own l.interfaces
