use Rattle.tree_names.proofs.NamesAsGraphNodes.{OrdersBelow}
use Rattle.tree_names.proofs.graphs.type_orders.Given as goal

abbrev pub invariant-loop-declared : goal.invariant-loop-declared
invariant-loop-declared l = OrdersBelow l.declared-index l.all l.orders.items
