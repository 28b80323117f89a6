use Rattle.std.proofs.Common.{take}
use Rattle.package_names.specs.Indexed.{IsIndex}
use Rattle.package_names.proofs.indexed.places_of.Given as goal

abbrev pub invariant-loop-place : goal.invariant-loop-place
invariant-loop-place l = IsIndex l.packages (take l.place l.interfaces) l.names.items
