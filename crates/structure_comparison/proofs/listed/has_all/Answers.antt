use Rattle.std.proofs.Common.{arith}
use Rattle.std.specs.Prelude.{Contains}
use Rattle.tables.specs.declared.tables.InterfaceId.{InterfaceId}
use Rattle.std.proofs.lemmas.List.Elements.{All-more}
use Rattle.structure_comparison.proofs.Sets.{set_has, all_taken}
use Rattle.structure_comparison.proofs.listed.has_all.Goals as goal

pub loop-id-preserved : goal.loop-id-preserved
loop-id-preserved c =
    All-more (λ (id : InterfaceId). Contains c.args.set.now.keys id.0) c.args.ids.now c.loop-id.id-index _ (omega arith) c.loop-id.invariant
    (set_has c.args.set.now _ c.contains.result c.contains.ensures c.if-not-contains.false)

pub returns : goal.returns
returns c = λ t.
    all_taken (λ (id : InterfaceId). Contains c.args.set.now.keys id.0) c.args.ids.now c.loop-id.id-index (omega arith) c.loop-id.invariant
