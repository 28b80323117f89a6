use Rattle.std.proofs.Common.{false, ap, ◌++◌, ◌∷◌, [], inl, inr, ◌∙◌, arith}
use Rattle.std.proofs.lemmas.List.{get_or_default}
use Rattle.set_rows.proofs.PlacesOfMarked.{placed-none, placed-more, place-le}
use Rattle.set_rows.proofs.places.Places.of.Goals as goal
use Rattle.set_rows.proofs.places.Places.of.Goals.{then-mark, else-mark}

pub loop-mark-init : goal.loop-mark-init
loop-mark-init c = placed-none c.deref-mark-items.result.now _ (c.in_ok-push.ensures.items ∙ ap (λ x. x ++ 0 ∷ []) c.in_ok-before.ensures.items)

pub loop-mark-preserved : goal.loop-mark-preserved
loop-mark-preserved c =
    placed-more _ _ c.loop-mark.count c.if-mark.count _ c.loop-mark.before.items c.push-in-loop-mark.new.self.items (omega arith) (get_or_default c.deref-mark-items.result.now c.loop-mark.mark-index _ false (omega arith)) c.loop-mark.invariant
    (elim c.if-mark.branch [ then-mark w ↦ inl (w.if-mark.true, w.count-is) | else-mark w ↦ inr (w.if-mark.false, w.count-is) ]) c.in_ok-push-2.ensures.items

pub overflow_add-count : goal.overflow_add-count
overflow_add-count c = omega (arith, c.loop-mark.invariant.now, place-le c.deref-mark-items.result.now c.loop-mark.mark-index)
