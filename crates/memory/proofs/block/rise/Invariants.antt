-- What is left rises behind the last block exactly where all of it rises.
use Rattle.std.proofs.Common.{◌≡◌, drop}
use Rattle.memory.specs.Blocks.{rise}
use Rattle.memory.proofs.block.rise.Given as goal

abbrev pub invariant-loop-block : goal.invariant-loop-block
invariant-loop-block l = rise 0 l.blocks ≡ rise l.end (drop l.block-index l.blocks)
