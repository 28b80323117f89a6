use Rattle.std.proofs.Common.{◌≡◌}
use Rattle.placement.specs.Straight.{upto}
use Rattle.placement.proofs.order.numbers.Given as goal

abbrev pub invariant-loop-number : goal.invariant-loop-number
invariant-loop-number l = l.numbers.items ≡ upto l.number
