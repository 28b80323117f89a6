use Rattle.std.proofs.Common.{◌≡◌, ◌++◌, drop}
use Rattle.package_sets.specs.Joining.{row_places}
use Rattle.package_sets.proofs.joining.row_places.Given as goal

abbrev pub invariant-loop-place : goal.invariant-loop-place
invariant-loop-place l = l.rows.items ++ row_places l.set l.start (drop l.place l.imports) (drop l.place l.places) ≡ row_places l.set 0 l.imports l.places
