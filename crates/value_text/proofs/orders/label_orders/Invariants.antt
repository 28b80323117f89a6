use Rattle.std.proofs.Common.{◌≡◌, length, take}
use Rattle.value_text.specs.Orders.{AreOrders}
use Rattle.value_text.proofs.orders.label_orders.Given as goal

abbrev pub invariant-loop-definition : goal.invariant-loop-definition
invariant-loop-definition l = (length l.orders.items ≡ l.definition-index) × AreOrders (take l.definition-index l.resolve.definitions) l.orders.items
