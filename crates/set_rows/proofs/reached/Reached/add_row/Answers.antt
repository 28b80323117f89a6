use Rattle.std.proofs.Common.{sym, ◌∙◌}
use Rattle.set_rows.proofs.MarksOfReached.{adds-row, adds-over}
use Rattle.set_rows.proofs.reached.Reached.add_row.Goals as goal

pub returns : goal.returns
returns c = adds-row _ _ _ _ _ _ (sym c.has.ensures ∙ c.if-not-has.false) c.in_ok-grew.ensures.adds c.in_ok-grew.ensures.tells

pub returns-then-not-has : goal.returns-then-not-has
returns-then-not-has c = adds-over _ _ _ _ (sym c.has.ensures ∙ c.if-not-has.true)
