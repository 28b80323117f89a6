use Rattle.std.proofs.Common.{◌≡◌, ◌<◌, length, All}
use Rattle.checked_packages.proofs.graph.graph_of.Given as goal

abbrev pub invariant-loop-own : goal.invariant-loop-own
invariant-loop-own l = (length l.graph.items ≡ l.own) × All (λ used. All (λ u. u < length l.members) used) l.graph.items
