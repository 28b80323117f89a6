use Rattle.std.proofs.Common.{◌≡◌, length, arith, subst}
use Rattle.value_text.proofs.OrdersSorted.{CountsUp, sorted-order}
use Rattle.value_text.proofs.orders.label_order.Goals as goal

pub returns : goal.returns
returns c =
    let fs = c.args.fields.now in
    let whole : c.loop-index.index ≡ length fs = omega arith in
    let before = subst (λ n. CountsUp n c.loop-index.order.items) whole c.loop-index.invariant in
    sorted-order fs c.loop-index.order.items c.sort_by_label.new.order.items c.requires before c.sort_by_label.ensures.same c.sort_by_label.ensures.sorted
