use Rattle.structure_comparison.specs.Worlds.{AreIds, IsItem}
use Rattle.structure_comparison.proofs.listed.items_of.Given as goal

abbrev pub invariant-loop-item : goal.invariant-loop-item
invariant-loop-item l = AreIds (IsItem l.world l.way) l.set.keys
