use Rattle.std.proofs.Common.{◌≡◌, drop}
use Rattle.package_form.specs.Closed.{are_apart}
use Rattle.package_form.proofs.closed.are_apart.Given as goal

abbrev pub invariant-loop-place : goal.invariant-loop-place
invariant-loop-place l = are_apart (drop l.place l.packages) ≡ are_apart l.packages
