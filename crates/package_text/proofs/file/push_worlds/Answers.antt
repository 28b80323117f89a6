use Rattle.package_text.proofs.WrittenTrees.EntriesOfRows.{world-placed}
use Rattle.package_text.proofs.file.push_worlds.Goals as goal

pub world_tree-requires-clause-placed : goal.world_tree-requires-clause-placed
world_tree-requires-clause-placed c =
    world-placed c.args.resolve.now c.as_slice-world-items.result.now c.loop-world.world-index c.world-item.result c.as_slice-world-items.ensures c.loop-world-test.true c.world-item.is
