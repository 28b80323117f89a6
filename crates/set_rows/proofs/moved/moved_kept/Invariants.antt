use Rattle.std.proofs.Common.{◌≡◌, take, map}
use Rattle.std.specs.List.{items_where_true}
use Rattle.set_rows.proofs.moved.moved_kept.Given as goal

abbrev pub invariant-loop-place : goal.invariant-loop-place
invariant-loop-place g l = l.moved.items ≡ map (g.T.Movable.put (g.P.Placed.renaming l.to)) (items_where_true l.places (take l.place l.item-items))
