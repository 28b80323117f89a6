use Rattle.std.proofs.Common.{◌+◌, ◌++◌, List, flat_map, take, ap, sym, subst, ◌∙◌}
use Rattle.tables.specs.declared.tables.WorldItem.{WorldItem}
use Rattle.package_form.specs.Reached.{reached_by_item}
use Rattle.package_form.specs.Marks.{AreMarked}
use Rattle.package_form.proofs.MarksOneByOne.{marked-one-at, marked-none-at}
use Rattle.package_form.proofs.NamesMetOneByOne.{all-taken}
use Rattle.package_form.proofs.closed.mark_items.Goals as goal
use Rattle.package_form.proofs.closed.mark_items.Goals.{in-Some, in_default}

pub loop-item-preserved : goal.loop-item-preserved
loop-item-preserved c = λ n places m.
    let before = c.loop-item.invariant n places m in
    elim c.match-reached_by_item.branch [
      | in-Some w ↦
          marked-one-at reached_by_item c.args.items.now c.loop-item.item-index _ c.loop-item-test.true n w.in-Some.id.0 places c.loop-item.marks.items c.match-reached_by_item.marks.items
          w.in-Some.ensures (ap (λ v. v.items) w.marks-is ∙ w.mark.ensures) before
      | in_default w ↦
          subst (λ ms. AreMarked n (places ++ flat_map reached_by_item (take (c.loop-item.item-index + 1) c.args.items.now)) ms) (sym (ap (λ v. v.items) w.marks-is))
          (marked-none-at reached_by_item c.args.items.now c.loop-item.item-index _ c.loop-item-test.true n places c.loop-item.marks.items w.in_default.ensures before)
    ]

pub returns : goal.returns
returns c = λ n places m.
    all-taken (λ (xs : List WorldItem). AreMarked n (places ++ flat_map reached_by_item xs) c.loop-item.marks.items) c.args.items.now c.loop-item.item-index c.loop-item-test.false
    (c.loop-item.invariant n places m)
