use Rattle.std.proofs.Common.{◌≡◌, take, map}
use Rattle.std.specs.Prelude.{filter}
use Rattle.set_rows.specs.Moved.{put_function_id, has_function}
use Rattle.set_rows.proofs.moved.moved_functions.Given as goal

abbrev pub invariant-loop-id : goal.invariant-loop-id
invariant-loop-id g l = l.moved.items ≡ map (put_function_id (g.P.Placed.renaming l.to)) (filter (has_function (g.P.Placed.renaming l.to)) (take l.id-index l.id-items))
