use Rattle.std.proofs.Common.{◌≡◌, ◌++◌, map, take}
use Rattle.wit_tokens.specs.View.{item_view}
use Rattle.package_text.specs.Tree.{world_written}
use Rattle.package_text.proofs.file.push_worlds.Given as goal

abbrev pub invariant-loop-world : goal.invariant-loop-world
invariant-loop-world l = map item_view l.items.items ≡ map item_view l.initial.items.items ++ map (world_written l.resolve) (take l.world-index l.resolve.worlds)
