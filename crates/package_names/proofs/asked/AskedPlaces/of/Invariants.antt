use Rattle.std.proofs.Common.{take}
use Rattle.package_names.specs.Asked.{IsIndexOfAsked}
use Rattle.package_names.proofs.asked.AskedPlaces.of.Given as goal

abbrev pub invariant-loop-place : goal.invariant-loop-place
invariant-loop-place l = IsIndexOfAsked l.packages (take l.place l.interfaces) l.asked l.names.items
