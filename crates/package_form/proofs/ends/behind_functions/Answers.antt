use Rattle.package_form.proofs.RowEnds.{functions-more}
use Rattle.package_form.proofs.ends.behind_functions.Goals as goal

pub loop-id-preserved : goal.loop-id-preserved
loop-id-preserved c = functions-more c.args.start c.args.ids.now c.loop-id.id-index _ c.loop-id-test.true
