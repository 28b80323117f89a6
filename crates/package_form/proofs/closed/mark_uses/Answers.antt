use Rattle.std.proofs.Common.{◌+◌, ◌++◌, List, flat_map, take, ap, sym, subst, ◌∙◌}
use Rattle.tables.specs.declared.tables.Definition.{Definition}
use Rattle.package_form.specs.Reached.{reached_by_row}
use Rattle.package_form.specs.Marks.{AreMarked}
use Rattle.package_form.proofs.MarksOneByOne.{marked-one, marked-none}
use Rattle.package_form.proofs.NamesMetOneByOne.{all-taken}
use Rattle.package_form.proofs.closed.mark_uses.Goals as goal
use Rattle.package_form.proofs.closed.mark_uses.Goals.{in-Some, in_default}

pub loop-row-preserved : goal.loop-row-preserved
loop-row-preserved c = λ n places m.
    let rows = c.args.rows.now in
    let k = c.loop-row.row-index in
    let before = c.loop-row.invariant n places m in
    elim c.match-reached_by_row.branch [
      | in-Some w ↦
          marked-one (reached_by_row rows) rows k c.row-item.result c.loop-row-test.true c.row-item.is n w.in-Some.id.0 places c.loop-row.marks.items c.match-reached_by_row.marks.items
          w.in-Some.ensures (ap (λ v. v.items) w.marks-is ∙ w.mark.ensures) before
      | in_default w ↦
          subst (λ ms. AreMarked n (places ++ flat_map (reached_by_row rows) (take (k + 1) rows)) ms) (sym (ap (λ v. v.items) w.marks-is))
          (marked-none (reached_by_row rows) rows k c.row-item.result c.loop-row-test.true c.row-item.is n places c.loop-row.marks.items w.in_default.ensures before)
    ]

pub returns : goal.returns
returns c = λ n places m.
    let rows = c.args.rows.now in
    all-taken (λ (ds : List Definition). AreMarked n (places ++ flat_map (reached_by_row rows) ds) c.loop-row.marks.items) rows c.loop-row.row-index c.loop-row-test.false
    (c.loop-row.invariant n places m)
