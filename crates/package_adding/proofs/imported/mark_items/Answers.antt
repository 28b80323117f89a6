use Rattle.std.proofs.Common.{◌+◌, ◌++◌, List, flat_map, take, ap, sym, subst, ◌∙◌}
use Rattle.tables.specs.declared.tables.WorldItem.{WorldItem}
use Rattle.package_form.specs.Reached.{reached_by_kind, reached_by_item}
use Rattle.package_form.specs.Marks.{AreMarked}
use Rattle.package_form.proofs.MarksOneByOne.{marked-one-at, marked-none-at}
use Rattle.package_form.proofs.NamesMetOneByOne.{all-taken}
use Rattle.package_adding.proofs.imported.mark_items.Goals as goal
use Rattle.package_adding.proofs.imported.mark_items.Goals.{in-Interface, in_default}

pub loop-item-preserved : goal.loop-item-preserved
loop-item-preserved c = λ n places m.
    let items = c.args.items.now in
    let k = c.loop-item.item-index in
    let before = c.loop-item.invariant n places m in
    elim c.match-item.branch [
      | in-Interface w ↦
          marked-one-at reached_by_item items k _ c.loop-item-test.true n w.in-Interface.id.0 places c.loop-item.marks.items c.match-item.marks.items
          (ap reached_by_kind w.in-Interface.is) (ap (λ v. v.items) w.marks-is ∙ w.mark.ensures) before
      | in_default w ↦
          subst (λ ms. AreMarked n (places ++ flat_map reached_by_item (take (k + 1) items)) ms) (sym (ap (λ v. v.items) w.marks-is))
          (marked-none-at reached_by_item items k _ c.loop-item-test.true n places c.loop-item.marks.items (ap reached_by_kind w.in_default.is) before)
    ]

pub returns : goal.returns
returns c = λ n places m.
    all-taken (λ (xs : List WorldItem). AreMarked n (places ++ flat_map reached_by_item xs) c.loop-item.marks.items) c.args.items.now c.loop-item.item-index c.loop-item-test.false
    (c.loop-item.invariant n places m)
