use Rattle.std.proofs.Common.{ℕ, List, ◌++◌, flat_map, take}
use Rattle.package_form.specs.Reached.{reached_by_item}
use Rattle.package_form.specs.Marks.{AreMarked}
use Rattle.package_adding.proofs.imported.mark_items.Given as goal

abbrev pub invariant-loop-item : goal.invariant-loop-item
invariant-loop-item l = (n : ℕ) (places : List ℕ) → AreMarked n places l.initial.marks.items → AreMarked n (places ++ flat_map reached_by_item (take l.item-index l.items)) l.marks.items
