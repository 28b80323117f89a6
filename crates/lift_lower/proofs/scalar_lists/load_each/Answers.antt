use Rattle.std.proofs.Common.{arith}
use Rattle.std.proofs.lemmas.List.{map-append}
use Rattle.std.proofs.lemmas.Result.{err_from_is_err_and}
use Rattle.canonical_abi.specs.Reading.{reading}
use Rattle.canonical_abi.specs.Types.{prim_type}
use Rattle.tables.specs.Closed.{prim_of}
use Rattle.values.specs.Val.{value_of}
use Rattle.lift_lower.proofs.ListsAreLoaded.{fails-pass}
use Rattle.lift_lower.proofs.ReadingStepByStep.{each-more, each-fault}
use Rattle.lift_lower.proofs.scalar_lists.load_each.Goals as goal

pub returns-in_err-item : goal.returns-in_err-item
returns-in_err-item c =
    let f = reading (prim_type (prim_of c.args.primitive)) c.args.memory.now in
    let p = err_from_is_err_and c.from_residual-in_err-item.result c.from_residual-in_err-item.ensures.1 in
    rw (p.1, p.2, ← c.scalar_bytes-step.ensures.value) (fails-pass c.in_err-item.field-0.0 _ _ c.in_err-item.ensures.value (λ k e.
    each-fault f c.scalar_bytes-step.result c.args.start c.args.count c.loop-index.index _ _ (omega arith) c.loop-index.invariant.0 k e))

pub loop-index-preserved : goal.loop-index-preserved
loop-index-preserved c =
    let f = reading (prim_type (prim_of c.args.primitive)) c.args.memory.now in
    rw (c.push_reserved.ensures.items, map-append) (
      each-more f c.scalar_bytes-step.result c.args.start c.args.count c.loop-index.index _ _ (omega arith) c.loop-index.invariant.0 (value_of c.in_ok-item.item) c.in_ok-item.ensures.value,
      omega (arith, c.push_reserved.ensures.len, c.push_reserved.ensures.capacity, c.loop-index.invariant.1, c.loop-index-test.true),
    )
