use Rattle.std.proofs.Common.{◌≡◌, take}
use Rattle.table_building.proofs.copy.copied_all.Given as goal

abbrev pub invariant-loop-item : goal.invariant-loop-item
invariant-loop-item g l = l.copy.items ≡ take l.item-index l.items
