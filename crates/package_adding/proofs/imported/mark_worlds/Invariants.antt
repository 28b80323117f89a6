use Rattle.std.proofs.Common.{ℕ, List, ◌++◌, flat_map, take}
use Rattle.package_form.specs.Reached.{reached_by_world}
use Rattle.package_form.specs.Marks.{AreMarked}
use Rattle.package_adding.proofs.imported.mark_worlds.Given as goal

abbrev pub invariant-loop-world : goal.invariant-loop-world
invariant-loop-world l = (n : ℕ) (places : List ℕ) → AreMarked n places l.initial.marks.items → AreMarked n (places ++ flat_map reached_by_world (take l.world-index l.worlds)) l.marks.items
