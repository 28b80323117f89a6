use Rattle.std.proofs.Common.{◌≡◌, [], replicate}
use Rattle.package_names.proofs.indexed.no_places.Given as goal

abbrev pub invariant-loop : goal.invariant-loop
invariant-loop l = l.names.items ≡ replicate l.counter []
