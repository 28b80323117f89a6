use Rattle.std.proofs.Common.{take, map}
use Rattle.set_rows.specs.Reaches.{owner_at}
use Rattle.set_rows.proofs.MarksOfReached.{Marked}
use Rattle.set_rows.proofs.reached.Reached.add_named.Given as goal

abbrev pub invariant-loop-id : goal.invariant-loop-id
invariant-loop-id l = Marked (map (owner_at l.owners) (take l.id-index l.id-items)) l.initial.self l.self l.grew
