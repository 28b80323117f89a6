use Rattle.std.proofs.Common.{◌≡◌, length, arith}
use Rattle.adapter.proofs.PlainValuesCrossAsTheyAre.{parameter-inside, parameter-own}
use Rattle.adapter.proofs.plain.are_own.Goals as goal

pub is_own_of-requires : goal.is_own_of-requires
is_own_of-requires c =
    parameter-inside c.args.types.now c.args.params.now c.loop-i.i c.index-params-i.result c.loop-i-test.true c.index-params-i.is c.requires

pub loop-i-preserved : goal.loop-i-preserved
loop-i-preserved c =
    let same : length c.args.flats.now ≡ length c.args.params.now = omega arith in
    parameter-own c.args.types.now c.args.params.now c.args.flats.now c.loop-i.i c.index-params-i.result _ c.loop-i-test.true same c.index-params-i.is c.loop-i.invariant (c.is_own_of.ensures c.if-not-is_own_of.false)
