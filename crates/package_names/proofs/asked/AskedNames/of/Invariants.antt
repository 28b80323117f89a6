use Rattle.std.proofs.Common.{◌≡◌}
use Rattle.package_names.proofs.asked.AskedNames.of.Given as goal

abbrev pub invariant-loop-list : goal.invariant-loop-list
invariant-loop-list l = l.sets.items ≡ l.yielded
