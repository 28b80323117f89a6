use Rattle.std.proofs.Common.{◌≡◌, take, map}
use Rattle.std.specs.Prelude.{filter}
use Rattle.set_rows.specs.Moved.{put_id, has_type}
use Rattle.set_rows.proofs.moved.moved_types.Given as goal

abbrev pub invariant-loop-id : goal.invariant-loop-id
invariant-loop-id g l = l.moved.items ≡ map (put_id (g.P.Placed.renaming l.to)) (filter (has_type (g.P.Placed.renaming l.to)) (take l.id-index l.id-items))
