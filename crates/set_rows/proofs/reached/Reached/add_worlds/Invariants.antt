use Rattle.std.proofs.Common.{take}
use Rattle.std.specs.Prelude.{flat_map}
use Rattle.set_rows.specs.Reaches.{world_owners}
use Rattle.set_rows.specs.Marking.{AddsMarks}
use Rattle.set_rows.proofs.reached.Reached.add_worlds.Given as goal

abbrev pub invariant-loop-world : goal.invariant-loop-world
invariant-loop-world l = AddsMarks (flat_map (world_owners l.id.0) (take l.world-index l.worlds)) l.initial.self l.self
