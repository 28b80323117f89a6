use Rattle.std.proofs.Common.{◌≡◌, map, take}
use Rattle.package_form.specs.Closed.{is_world_of}
use Rattle.set_rows.proofs.reached.own_worlds.Given as goal

abbrev pub invariant-loop-world : goal.invariant-loop-world
invariant-loop-world l = l.marks.items ≡ map (is_world_of l.id.0) (take l.world-index l.worlds)
