use Rattle.std.proofs.Common.{◌⊎◌}
use Rattle.std.specs.Prelude.{Contains}
use Rattle.structure_comparison.specs.Worlds.{AreIds, IsUsedByOne}
use Rattle.structure_comparison.proofs.listed.put_used.Given as goal

abbrev pub invariant-loop-user : goal.invariant-loop-user
invariant-loop-user l = AreIds (λ id. Contains l.initial.set.keys id.0 ⊎ IsUsedByOne l.resolve l.users id) l.set.keys
