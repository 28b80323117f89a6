use Rattle.std.proofs.Common.{◌≡◌, [], replicate}
use Rattle.package_names.proofs.asked.Asked.nothing.Given as goal

abbrev pub invariant-loop : goal.invariant-loop
invariant-loop l = l.lists.items ≡ replicate l.counter []
