use Rattle.std.proofs.Common.{◌⊎◌}
use Rattle.std.specs.Prelude.{Contains}
use Rattle.structure_comparison.specs.Worlds.{AreIds, Uses}
use Rattle.structure_comparison.proofs.listed.put_uses.Given as goal

abbrev pub invariant-loop-row : goal.invariant-loop-row
invariant-loop-row l = AreIds (λ id. Contains l.initial.set.keys id.0 ⊎ Uses l.resolve id l.interface) l.set.keys
