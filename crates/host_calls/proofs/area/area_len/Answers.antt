-- The result's types are those of the function's type.
use Rattle.std.proofs.Common.{arith}
use Rattle.host_calls.proofs.ReturnAreaIsLive.{all-of-result, small-result}
use Rattle.host_calls.proofs.area.area_len.Goals as goal

pub kinds_within-requires-clause-inside : goal.kinds_within-requires-clause-inside
kinds_within-requires-clause-inside c =
    all-of-result c.args.types.now c.args.func c.requires.function c.signature.result.now (rw c.resolve.ensures at c.signature.ensures) _ c.as_slice-result.ensures

pub record_extent-requires-clause-inside : goal.record_extent-requires-clause-inside
record_extent-requires-clause-inside c =
    all-of-result c.args.types.now c.args.func c.requires.function c.signature.result.now (rw c.resolve.ensures at c.signature.ensures) _ c.as_slice-result.ensures

pub record_extent-requires-clause-small : goal.record_extent-requires-clause-small
record_extent-requires-clause-small c =
    small-result c.args.types.now c.args.func c.requires.function c.signature.result.now (rw c.resolve.ensures at c.signature.ensures) c.requires.within _ c.as_slice-result.ensures

pub overflow_cast-result : goal.overflow_cast-result
overflow_cast-result c =
    let small = small-result c.args.types.now c.args.func c.requires.function c.signature.result.now (rw c.resolve.ensures at c.signature.ensures) c.requires.within _ c.as_slice-result.ensures in
    omega (arith, c.record_extent.ensures.size, small)
