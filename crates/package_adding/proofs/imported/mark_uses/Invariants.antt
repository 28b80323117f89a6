use Rattle.std.proofs.Common.{ℕ, List, ◌++◌, flat_map, take}
use Rattle.package_form.specs.Reached.{reached_by_row}
use Rattle.package_form.specs.Marks.{AreMarked}
use Rattle.package_adding.proofs.imported.mark_uses.Given as goal

abbrev pub invariant-loop-row : goal.invariant-loop-row
invariant-loop-row l = (n : ℕ) (places : List ℕ) → AreMarked n places l.initial.marks.items → AreMarked n (places ++ flat_map (reached_by_row l.table) (take l.row-index l.rows)) l.marks.items
