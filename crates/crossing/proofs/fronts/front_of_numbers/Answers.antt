use Rattle.std.proofs.Common.{arith}
use Rattle.canonical_abi.specs.Types.{prim_type}
use Rattle.tables.specs.Closed.{prim_of}
use Rattle.ranges.proofs.CrossedElementsAppend.{prims-visited}
use Rattle.crossing.proofs.ElementsCrossedTogether.{crossed-done}
use Rattle.crossing.proofs.fronts.front_of_numbers.Goals as goal

pub returns-clause-crossed : goal.returns-clause-crossed
returns-clause-crossed g c =
    let n = c.args.elements.count in
    let p = prim_of c.args.primitive in
    crossed-done g.G.Guest.allocates (prim_type p) c.args.source.now c.args.elements.from c.args.elements.to n n (g.G.Guest.memory c.args.guest.now) (g.G.Guest.memory c.cross_numbers.new.guest)
    c.cross_numbers.ensures.same_length (c.cross_numbers.ensures.crosses p c.in-Some.ensures.0 c.in-Some.ensures.1) (prims-visited p c.args.source.now c.args.elements.from n) c.args.nodes.now c.saturating_add.result (omega (arith, c.saturating_add.ensures))
