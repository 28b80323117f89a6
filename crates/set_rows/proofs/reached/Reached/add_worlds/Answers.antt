use Rattle.std.proofs.Common.{arith}
use Rattle.set_rows.specs.Reaches.{world_owners}
use Rattle.set_rows.proofs.MarksOfReached.{adds-more, adds-own, adds-other}
use Rattle.set_rows.proofs.reached.Reached.add_worlds.Goals as goal
use Rattle.set_rows.proofs.reached.Reached.add_worlds.Goals.{then-world-id, else-world-id}

pub loop-world-preserved : goal.loop-world-preserved
loop-world-preserved c =
    adds-more (world_owners c.args.id.0) c.args.worlds.now c.loop-world.world-index c.world-item.result c.world-item.result _ _ _ (omega arith) c.world-item.is c.loop-world.invariant
    (elim c.if-world-id.branch [
      | then-world-id w ↦ rw w.self-is (adds-own c.args.id.0 c.world-item.result _ _ _ w.if-world-id.true w.as_slice.ensures w.add_items.ensures)
      | else-world-id w ↦ rw w.self-is (adds-other c.args.id.0 c.world-item.result _ w.if-world-id.false)
    ])
