use Rattle.std.proofs.Common.{take}
use Rattle.std.specs.Prelude.{flat_map}
use Rattle.set_rows.specs.Reaches.{owners_in}
use Rattle.set_rows.specs.Marking.{AddsMarks}
use Rattle.set_rows.proofs.reached.Reached.add_items.Given as goal

abbrev pub invariant-loop-item : goal.invariant-loop-item
invariant-loop-item l = AddsMarks (flat_map owners_in (take l.item-index l.items)) l.initial.self l.self
