use Rattle.std.proofs.Common.{◌≡◌, map, take}
use Rattle.set_rows.specs.Reaches.{is_marked}
use Rattle.package_sets.proofs.part.reached_rows.Given as goal

abbrev pub invariant-loop-owner : goal.invariant-loop-owner
invariant-loop-owner l = l.marks.items ≡ map (is_marked l.reached) (take l.owner-index l.owners)
