use Rattle.value_text.proofs.OrdersSorted.{CountsUp}
use Rattle.value_text.proofs.orders.label_order.Given as goal

abbrev pub invariant-loop-index : goal.invariant-loop-index
invariant-loop-index l = CountsUp l.index l.order.items
