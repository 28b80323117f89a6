use Rattle.std.proofs.Common.{◌≡◌, ◌++◌, drop}
use Rattle.package_changes.specs.Judging.{function_places}
use Rattle.package_changes.proofs.places.push_interface.Given as goal

abbrev pub invariant-loop-function : goal.invariant-loop-function
invariant-loop-function l = l.places.items ++ function_places l.place (drop l.function-index l.functions) ≡ l.initial.places.items ++ function_places l.place l.functions
