use Rattle.std.proofs.Common.{◌+◌, refl, arith, rules}
use Rattle.layout.proofs.KindsOfBits.{packed-behind, packed-too-many, put-behind, below-behind, below-more}
use Rattle.layout.proofs.packed_kinds.PackedKinds.append.Goals as goal

pub overflow_cast-self : goal.overflow_cast-self
overflow_cast-self c =
    let k = c.self.inside in
    let more = c.more.inside in
    let wide = put-behind k.count more.count k.wide more.wide _ _ c.self.invariant.1 c.more.invariant.1 (omega arith) c.from.ensures c.from-then-count-lt-SPILLED.ensures in
    let below = below-more _ (k.count + more.count) 16 (below-behind k.count more.count k.wide more.wide c.self.invariant.1 c.more.invariant.1) (omega arith) in
    rw wide (search rules)

pub invariant_of-self : goal.invariant_of-self
invariant_of-self c =
    let k = c.self.inside in
    let more = c.more.inside in
    let wide = put-behind k.count more.count k.wide more.wide _ _ c.self.invariant.1 c.more.invariant.1 (omega arith) c.from.ensures c.from-then-count-lt-SPILLED.ensures in
    (omega arith, rw wide (below-behind k.count more.count k.wide more.wide c.self.invariant.1 c.more.invariant.1))

pub returns-then-count-lt-SPILLED : goal.returns-then-count-lt-SPILLED
returns-then-count-lt-SPILLED c =
    let k = c.self.inside in
    let more = c.more.inside in
    let wide = put-behind k.count more.count k.wide more.wide _ _ c.self.invariant.1 c.more.invariant.1 (omega arith) c.from.ensures c.from-then-count-lt-SPILLED.ensures in
    rw (← c.self.view_is, ← c.more.view_is) (packed-behind k.count more.count k.wide more.wide _ _ c.self.invariant.1 refl (omega arith) wide)

pub returns-else-count-lt-SPILLED : goal.returns-else-count-lt-SPILLED
returns-else-count-lt-SPILLED c = rw (← c.self.view_is, ← c.more.view_is) (packed-too-many c.self.inside.count c.more.inside.count c.self.inside.wide c.more.inside.wide (omega arith))
