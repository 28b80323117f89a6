use Rattle.std.proofs.Common.{take}
use Rattle.std.specs.Prelude.{All, Contains}
use Rattle.tables.specs.declared.tables.WorldItem.{WorldItem}
use Rattle.structure_comparison.specs.Worlds.{IsListed}
use Rattle.structure_comparison.proofs.listed.are_listed.Given as goal

abbrev pub invariant-loop-item : goal.invariant-loop-item
invariant-loop-item l = All (λ (item : WorldItem). IsListed (λ id. Contains l.imports.keys id.0) (λ id. Contains l.exports.keys id.0) item.direction item.kind) (take l.item-index l.items)
