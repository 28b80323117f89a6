use Rattle.package_form.proofs.RowEnds.{types-more}
use Rattle.package_form.proofs.ends.behind_types.Goals as goal

pub loop-id-preserved : goal.loop-id-preserved
loop-id-preserved c = types-more c.args.start c.args.ids.now c.loop-id.id-index _ c.loop-id-test.true
