use Rattle.std.proofs.Common.{arith}
use Rattle.std.specs.Prelude.{Contains}
use Rattle.std.proofs.lemmas.List.Elements.{All-more}
use Rattle.tables.specs.declared.tables.WorldItem.{WorldItem}
use Rattle.structure_comparison.specs.Worlds.{IsListed}
use Rattle.structure_comparison.proofs.Sets.{all_taken}
use Rattle.structure_comparison.proofs.listed.are_listed.Goals as goal

pub loop-item-preserved : goal.loop-item-preserved
loop-item-preserved c =
    All-more (λ (item : WorldItem). IsListed (λ id. Contains c.args.imports.now.keys id.0) (λ id. Contains c.args.exports.now.keys id.0) item.direction item.kind) c.args.items.now c.loop-item.item-index _ (omega arith) c.loop-item.invariant
    (c.is_listed.ensures c.if-not-is_listed.false)

pub returns : goal.returns
returns c = λ t.
    all_taken (λ (item : WorldItem). IsListed (λ id. Contains c.args.imports.now.keys id.0) (λ id. Contains c.args.exports.now.keys id.0) item.direction item.kind) c.args.items.now c.loop-item.item-index (omega arith) c.loop-item.invariant
