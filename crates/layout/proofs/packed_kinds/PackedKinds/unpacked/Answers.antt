use Rattle.std.proofs.Common.{arith}
use Rattle.layout.proofs.KindsOfBits.{next-kind, kinds-so-far}
use Rattle.layout.proofs.packed_kinds.PackedKinds.unpacked.Goals as goal

pub push-requires : goal.push-requires
push-requires c = omega (arith, kinds-so-far c.loop.kinds.items c.loop.counter c.self.inside.count c.loop.wide c.self.inside.wide c.loop.invariant)

pub loop-preserved : goal.loop-preserved
loop-preserved c =
    let next = next-kind c.loop.kinds.items _ c.loop.counter c.self.inside.count c.loop.wide c.loop-test.true c.loop.invariant in
    rw (c.push.ensures, c.lowest_kind.ensures) next
