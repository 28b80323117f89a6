use Rattle.std.proofs.Common.{arith}
use Rattle.canonical_abi.specs.Types.{prim_type, boolean}
use Rattle.ranges.proofs.CrossedElementsAppend.{prims-visited}
use Rattle.crossing.proofs.ElementsCrossedTogether.{crossed-done}
use Rattle.crossing.proofs.fronts.front_of_bools.Goals as goal

pub returns-clause-crossed : goal.returns-clause-crossed
returns-clause-crossed g c =
    let n = c.args.elements.count in
    crossed-done g.G.Guest.allocates (prim_type boolean) c.args.source.now c.args.elements.from c.args.elements.to n n (g.G.Guest.memory c.args.guest.now) (g.G.Guest.memory c.cross_bools.new.guest)
    c.cross_bools.ensures.same_length c.cross_bools.ensures.crosses (prims-visited boolean c.args.source.now c.args.elements.from n) c.args.nodes.now c.saturating_add.result (omega (arith, c.saturating_add.ensures))
