use Rattle.std.proofs.Common.{arith, sym}
use Rattle.set_rows.proofs.OwnersOfRows.{owners-more}
use Rattle.set_rows.proofs.owners.owners.Goals as goal

pub loop-behind-preserved : goal.loop-behind-preserved
loop-behind-preserved c =
    owners-more c.args.rows.now _ _ _ c.index-rows-rows.result c.loop-behind.owners.items c.push.new.self.items c.loop-behind.last c.or-last.result (omega arith) (omega arith) (omega arith) (sym c.index-rows-rows.is)
    c.loop-behind.invariant (cc) c.in_ok-push.ensures.items
