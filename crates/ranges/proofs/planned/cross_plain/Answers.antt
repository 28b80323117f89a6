use Rattle.std.proofs.Common.{◌+◌, ◌*◌, ap, arith}
use Rattle.canonical_abi.specs.Layout.{size}
use Rattle.ranges.proofs.CrossedElementsAppend.{same-visited}
use Rattle.ranges.proofs.planned.cross_plain.Goals as goal

pub returns-clause-crosses : goal.returns-clause-crosses
returns-clause-crosses g c = λ t has. c.cross_capped.ensures.crosses t has.bytewise has.caps_are (λ i below. has.tested c.args.source.now (c.args.elements.from + i * size t))

pub returns-clause-visited : goal.returns-clause-visited
returns-clause-visited g c = λ t has.
    let seen = same-visited t c.args.source.now c.args.plain.now.nodes (has.nodes_are c.args.source.now) c.args.elements.count c.args.elements.from in
    let own = ap (λ k. c.args.elements.count * k) c.from.ensures in
    omega (arith, seen, own, c.saturating_add.ensures)
