use Rattle.std.specs.Prelude.{Contains}
use Rattle.structure_comparison.specs.Worlds.{AreIds}
use Rattle.structure_comparison.proofs.listed.set_of.Given as goal

abbrev pub invariant-loop-id : goal.invariant-loop-id
invariant-loop-id l = AreIds (Contains l.ids) l.set.keys
