use Rattle.std.proofs.Common.{refl}
use Rattle.set_rows.proofs.PaddedMarks.{padded-more}
use Rattle.set_rows.proofs.reached.padded.Goals as goal

pub loop-place-preserved : goal.loop-place-preserved
loop-place-preserved c = padded-more c.loop-place.place _ c.mark_at.result c.args.given.now c.loop-place.marks.items _ refl c.mark_at.ensures c.loop-place.invariant c.in_ok-push.ensures.items
