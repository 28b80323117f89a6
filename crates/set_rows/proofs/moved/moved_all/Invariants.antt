use Rattle.std.proofs.Common.{◌≡◌, take, map}
use Rattle.set_rows.proofs.moved.moved_all.Given as goal

abbrev pub invariant-loop-item : goal.invariant-loop-item
invariant-loop-item g l = l.moved.items ≡ map (g.T.Movable.put (g.P.Placed.renaming l.to)) (take l.item-index l.item-items)
