use Rattle.std.proofs.Common.{◌<◌, length, All}
use Rattle.checked_packages.proofs.graph.push_uses.Given as goal

abbrev pub invariant-loop-index : goal.invariant-loop-index
invariant-loop-index l = All (λ u. u < length l.members) l.used.items
