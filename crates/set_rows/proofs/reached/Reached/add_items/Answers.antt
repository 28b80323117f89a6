use Rattle.std.proofs.Common.{refl, arith}
use Rattle.set_rows.specs.Reaches.{owners_in}
use Rattle.set_rows.proofs.MarksOfReached.{adds-more}
use Rattle.set_rows.proofs.reached.Reached.add_items.Goals as goal

pub loop-item-preserved : goal.loop-item-preserved
loop-item-preserved c = adds-more owners_in c.args.items.now c.loop-item.item-index _ _ _ _ _ (omega arith) refl c.loop-item.invariant c.add_item.ensures
