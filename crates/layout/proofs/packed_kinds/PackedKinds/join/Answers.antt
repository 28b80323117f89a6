use Rattle.std.proofs.Common.{◌≡◌, max, arith, rules}
use Rattle.layout.proofs.KindsOfBits.{packed-joined, below-joined}
use Rattle.layout.proofs.packed_kinds.PackedKinds.join.Goals as goal

pub invariant_of-self : goal.invariant_of-self
invariant_of-self c =
    let k = c.self.inside in
    let more = c.more.inside in
    let count : c.max-self-inside.result ≡ max k.count more.count = search rules in
    (omega arith, rw count (below-joined k.count more.count k.wide more.wide c.self.invariant.1 c.more.invariant.1))

pub returns : goal.returns
returns c =
    let k = c.self.inside in
    let more = c.more.inside in
    let count : c.max-self-inside.result ≡ max k.count more.count = search rules in
    rw (← c.self.view_is, ← c.more.view_is) (packed-joined k.count more.count k.wide more.wide _ c.self.invariant.1 c.more.invariant.1 count)
