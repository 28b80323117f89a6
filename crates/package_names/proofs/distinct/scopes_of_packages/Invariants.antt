use Rattle.std.proofs.Common.{◌≡◌, [], replicate}
use Rattle.package_names.proofs.distinct.scopes_of_packages.Given as goal

abbrev pub invariant-loop : goal.invariant-loop
invariant-loop l = l.scopes.items ≡ replicate l.counter []
