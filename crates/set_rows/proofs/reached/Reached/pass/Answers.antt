use Rattle.std.proofs.Common.{◌-◌, inl, inr, refl, ap, ◌∙◌, length, get_or, arith, List}
use Rattle.tables.specs.declared.tables.Definition.{Definition}
use Rattle.set_rows.proofs.MarksOfReached.{passes-more, passes-none, passes-all}
use Rattle.set_rows.proofs.OwnersOfRows.{length-owners}
use Rattle.set_rows.proofs.reached.Reached.pass.Goals as goal
use Rattle.set_rows.proofs.reached.Reached.pass.Goals.{then-branch, else-branch}

pub bounds-owners-place : goal.bounds-owners-place
bounds-owners-place c = omega (arith, ap length c.as_slice-rows.ensures, ap length c.requires, length-owners c.args.set.now.definitions)

pub loop-behind-init : goal.loop-behind-init
loop-behind-init c = passes-none c.args.set.now _ _ (omega arith)

pub loop-behind-preserved : goal.loop-behind-preserved
loop-behind-preserved c =
    let count = ap length c.as_slice-rows.ensures in
    passes-more c.args.set.now _ _ (length c.as_slice-rows.result.now - 1 - c.loop-behind.behind) c.index-rows-place.result _ _ _ _ _ _ _ (omega (arith, count)) (omega (arith, count)) (omega (arith, count))
    (c.index-rows-place.is ∙ ap (λ (ds : List Definition). get_or ds (length c.as_slice-rows.result.now - 1 - c.loop-behind.behind) c.index-rows-place.result) c.as_slice-rows.ensures)
    refl
    c.loop-behind.invariant (rw c.requires at c.in_ok-add_row.ensures)
    (elim c.if-branch.branch [ then-branch w ↦ inl (w.if-branch.true, w.grew-is) | else-branch w ↦ inr (w.if-branch.false, w.grew-is) ])

pub returns : goal.returns
returns c = passes-all c.args.set.now (length c.args.set.now.definitions - c.loop-behind.behind) _ _ _ (omega (arith, ap length c.as_slice-rows.ensures)) c.loop-behind.invariant
