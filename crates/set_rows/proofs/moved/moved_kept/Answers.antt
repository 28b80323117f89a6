use Rattle.std.proofs.Common.{inl, inr, sym, ap, ◌∙◌, ◌++◌, ◌∷◌, [], arith, map}
use Rattle.set_rows.proofs.KeptElementsAndPlaces.{kept-none, kept-more}
use Rattle.set_rows.proofs.moved.moved_kept.Goals as goal
use Rattle.set_rows.proofs.moved.moved_kept.Goals.{then-has+in_ok-moved+in_ok-push, else-has}

pub loop-place-init : goal.loop-place-init
loop-place-init g c = c.new-moved.ensures.items ∙ ap (map (g.T.Movable.put (g.P.Placed.renaming c.args.to.now))) (sym (kept-none c.args.places.now))

pub loop-place-preserved : goal.loop-place-preserved
loop-place-preserved g c =
    kept-more (g.T.Movable.put (g.P.Placed.renaming c.args.to.now)) c.args.places.now c.as_slice-item-items.result.now c.loop-place.place c.item-item.result c.loop-place.moved.items c.if-has.moved.items (omega arith) c.item-item.is
    c.loop-place.invariant
    (elim c.if-has.branch [
      | then-has+in_ok-moved+in_ok-push w ↦ inl (
        sym c.has.ensures ∙ w.if-has.true,
        ap (λ v. v.items) w.moved-is ∙ (w.in_ok-push.ensures.items ∙ ap (λ y. c.loop-place.moved.items ++ y ∷ []) w.in_ok-moved.ensures),
      )
      | else-has w ↦ inr (sym c.has.ensures ∙ w.if-has.false, ap (λ v. v.items) w.moved-is)
    ])
