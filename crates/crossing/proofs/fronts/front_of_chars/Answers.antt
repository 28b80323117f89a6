use Rattle.std.proofs.Common.{arith}
use Rattle.canonical_abi.specs.Types.{prim_type, scalar_value}
use Rattle.ranges.proofs.CrossedElementsAppend.{prims-visited}
use Rattle.crossing.proofs.ElementsCrossedTogether.{crossed-done}
use Rattle.crossing.proofs.fronts.front_of_chars.Goals as goal

pub returns-clause-crossed : goal.returns-clause-crossed
returns-clause-crossed g c =
    let j = c.cross_chars-crossed.result in
    crossed-done g.G.Guest.allocates (prim_type scalar_value) c.args.source.now c.args.elements.from c.args.elements.to j j (g.G.Guest.memory c.args.guest.now) (g.G.Guest.memory c.cross_chars-crossed.new.guest)
    c.cross_chars-crossed.ensures.same_length c.cross_chars-crossed.ensures.crosses (prims-visited scalar_value c.args.source.now c.args.elements.from j) c.args.nodes.now c.saturating_add.result (omega (arith, c.saturating_add.ensures))
