use Rattle.std.proofs.Common.{◌≡◌, ◌++◌, drop}
use Rattle.package_changes.specs.Judging.{places_of_interfaces}
use Rattle.package_changes.proofs.places.push_interfaces.Given as goal

abbrev pub invariant-loop-i : goal.invariant-loop-i
invariant-loop-i l = l.places.items ++ places_of_interfaces l.table l.i (drop l.i l.table.interfaces) ≡ l.initial.places.items ++ places_of_interfaces l.table 0 l.table.interfaces
