use Rattle.std.proofs.Common.{flat_map, take}
use Rattle.text_builder.specs.Growth.{Grows}
use Rattle.overview.specs.Contents.{world_shown}
use Rattle.overview.proofs.contents.push_worlds.Given as goal

abbrev pub invariant-loop-world : goal.invariant-loop-world
invariant-loop-world l = Grows (flat_map (world_shown l.own) (take l.world-index l.worlds)) l.fn.text l.text
