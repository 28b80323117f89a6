use Rattle.std.proofs.Common.{◌∙◌, refl, [], arith}
use Rattle.tree_rows.proofs.InterfacesBehindImports.{interfaces-more-in}
use Rattle.tree_rows.proofs.closed.empty_interfaces.Goals as goal

pub loop-place-preserved : goal.loop-place-preserved
loop-place-preserved c =
    let more = interfaces-more-in c.args.«package».0 [] c.args.first c.args.plan.now.labels.now c.loop-place.place c.name-item.result (omega arith) c.name-item.is in
    rw (
      c.in_ok-push.ensures.items,
      c.loop-place.invariant,
      more,
      c.in_ok-copy.ensures,
      c.new.ensures ∙ c.in_ok-with_capacity.ensures.items,
      c.new-in-loop-place.ensures ∙ c.in_ok-with_capacity-2.ensures.items,
      c.new-in-loop-place-2.ensures ∙ c.in_ok-with_capacity-3.ensures.items,
    ) refl
