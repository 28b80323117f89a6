use Rattle.std.proofs.Common.{◌≡◌, ◌++◌, drop}
use Rattle.package_changes.specs.Judging.{places_of_worlds}
use Rattle.package_changes.proofs.places.push_worlds.Given as goal

abbrev pub invariant-loop-i : goal.invariant-loop-i
invariant-loop-i l = l.places.items ++ places_of_worlds l.table l.i (drop l.i l.table.worlds) ≡ l.initial.places.items ++ places_of_worlds l.table 0 l.table.worlds
