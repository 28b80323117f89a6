use Rattle.std.proofs.Common.{sym, subst}
use Rattle.tables.specs.declared.tables.TypeDefKind.TheVariants as kind
use Rattle.value_text.specs.Orders.{IsLabelOrder}
use Rattle.value_text.proofs.RowsInOrder.{order-there, order-is}
use Rattle.value_text.proofs.rows.order_of.Goals as goal

pub bounds-orders-id : goal.bounds-orders-id
bounds-orders-id c = order-there c.args._resolve.now.definitions c.args.orders.now c.args.id.0 (kind.Record c.args._fields.now) c.requires.record c.requires.ordered

pub returns : goal.returns
returns c =
    subst (IsLabelOrder c.args._fields.now) (sym c.as_slice.ensures.value)
    (order-is c.args._resolve.now.definitions c.args.orders.now c.args.id.0 (kind.Record c.args._fields.now) c.index-orders-id.result c.requires.record c.requires.ordered c.index-orders-id.is)
