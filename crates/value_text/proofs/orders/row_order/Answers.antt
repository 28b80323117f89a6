use Rattle.std.proofs.Common.{IfOk, sym, subst}
use Rattle.value_text.specs.Orders.{IsLabelOrder, KindOrdered, RowOrdered}
use Rattle.value_text.proofs.orders.row_order.Goals as goal

pub returns-in-Record : goal.returns-in-Record
returns-in-Record c =
    let fields = subst (λ fs. IfOk c.label_order.result (λ order. IsLabelOrder fs order.items)) c.as_slice.ensures c.label_order.ensures in
    let kind = subst (λ k. IfOk c.label_order.result (λ order. KindOrdered k order.items)) (sym c.in-Record.is) fields in
    subst (λ row. IfOk c.label_order.result (λ order. RowOrdered row order.items)) (sym c.in-Type.is) kind
