use Rattle.std.proofs.Common.{◌≡◌, ◌+◌, ◌<◌, [], ◌∷◌, ◌++◌, length, take, get_or, sym, ap, ◌∙◌, arith, length-append}
use Rattle.std.proofs.lemmas.List.{take_more, length-take}
use Rattle.value_text.proofs.OrdersSorted.{orders-more}
use Rattle.value_text.proofs.orders.label_orders.Goals as goal

pub loop-definition-preserved : goal.loop-definition-preserved
loop-definition-preserved c =
    let ds = c.args.resolve.now.definitions in
    let i = c.loop-definition.definition-index in
    let os = c.loop-definition.orders.items in
    let d = c.definition-item.result in
    let (long, all) = c.loop-definition.invariant in
    let inside : i < length ds = omega (arith, ap length c.as_slice-definition-items.ensures) in
    let here : d ≡ get_or ds i d = rw c.as_slice-definition-items.ensures at c.definition-item.is in
    let more : take (i + 1) ds ≡ take i ds ++ d ∷ [] = take_more ds i d inside ∙ ap (λ e. take i ds ++ e ∷ []) (sym here) in
    let same : length os ≡ length (take i ds) = omega (arith, long, inside, length-take i ds) in
    let one = c.in_ok-row_order.ensures in
    let pushed : length c.push.new.self.items ≡ length os + 1 = ap length c.in_ok-push.ensures.items ∙ length-append os (c.in_ok-row_order.field-0 ∷ []) in
    (omega (arith, pushed, long), rw (c.in_ok-push.ensures.items, more) (orders-more (take i ds) os d c.in_ok-row_order.field-0 same all one))
