use Rattle.std.proofs.Common.{arith}
use Rattle.canonical_abi.specs.Types.{prim_type, boolean}
use Rattle.ranges.proofs.BoolsAndNumbersCross.{bool-caps}
use Rattle.ranges.proofs.OneNumberCrosses.{part-get}
use Rattle.ranges.proofs.bools.cross_part.Goals as goal

pub cross_plain-requires-clause-plain : goal.cross_plain-requires-clause-plain
cross_plain-requires-clause-plain g c = λ i h.
    let m = c.args.source.now in
    let low = c.largest_byte.ensures i in
    let e = part-get m c.args.elements.from c.args.elements.count i h in
    let at_most = rw e at low in
    omega (arith, at_most)

pub returns-clause-crosses : goal.returns-clause-crosses
returns-clause-crosses g c = c.cross_bytewise.ensures.crosses (prim_type boolean) tt bool-caps (λ i h. tt)
