use Rattle.std.proofs.Common.{arith}
use Rattle.structure_comparison.specs.Types.{site_view}
use Rattle.structure_comparison.proofs.ListsInStep.{in_step_none, in_step_more, item_get}
use Rattle.structure_comparison.proofs.written.are_written.Goals as goal

pub loop-place-init : goal.loop-place-init
loop-place-init g c = in_step_none _ _ _

pub loop-place-preserved : goal.loop-place-preserved
loop-place-preserved g c =
    let n = c.loop-place.place in
    let items = c.args.items.now in
    let read = c.args.read.now in
    in_step_more (g.T.WrittenAs.written (site_view c.args.site.now)) items read n c.index-items-place.result c.index-read-place.result
    (item_get items n c.index-items-place.result (omega arith) c.index-items-place.is)
    (item_get read n c.index-read-place.result (omega arith) c.index-read-place.is)
    (c.is_written.ensures c.if-not-is_written.false)
    c.loop-place.invariant
