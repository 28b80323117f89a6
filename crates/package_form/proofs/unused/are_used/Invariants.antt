use Rattle.std.proofs.Common.{◌≡◌, [], drop}
use Rattle.package_form.specs.Unused.{are_used}
use Rattle.package_form.proofs.unused.are_used.Given as goal

abbrev pub invariant-loop-place : goal.invariant-loop-place
invariant-loop-place l = are_used l.rows l.place l.unused.items (drop l.place l.rows) ≡ are_used l.rows 0 [] l.rows
