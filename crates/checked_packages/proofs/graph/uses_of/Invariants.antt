use Rattle.std.proofs.Common.{◌<◌, length, All}
use Rattle.checked_packages.proofs.graph.uses_of.Given as goal

abbrev pub invariant-loop-lexed : goal.invariant-loop-lexed
invariant-loop-lexed l = All (λ u. u < length l.members) l.used.items
