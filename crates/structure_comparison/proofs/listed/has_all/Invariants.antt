use Rattle.std.proofs.Common.{take}
use Rattle.std.specs.Prelude.{All, Contains}
use Rattle.tables.specs.declared.tables.InterfaceId.{InterfaceId}
use Rattle.structure_comparison.proofs.listed.has_all.Given as goal

abbrev pub invariant-loop-id : goal.invariant-loop-id
invariant-loop-id l = All (λ (id : InterfaceId). Contains l.set.keys id.0) (take l.id-index l.ids)
