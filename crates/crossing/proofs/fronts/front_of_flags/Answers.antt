use Rattle.std.proofs.Common.{arith}
use Rattle.canonical_abi.specs.Types.{flags_type}
use Rattle.ranges.proofs.CrossedElementsAppend.{flags-visited}
use Rattle.crossing.proofs.ElementsCrossedTogether.{crossed-done}
use Rattle.crossing.proofs.fronts.front_of_flags.Goals as goal

pub returns-clause-crossed : goal.returns-clause-crossed
returns-clause-crossed g c =
    let j = c.cross_flags-crossed.result in
    crossed-done g.G.Guest.allocates (flags_type c.args.labels) c.args.source.now c.args.elements.from c.args.elements.to j j (g.G.Guest.memory c.args.guest.now) (g.G.Guest.memory c.cross_flags-crossed.new.guest)
    c.cross_flags-crossed.ensures.same_length c.cross_flags-crossed.ensures.crosses (flags-visited c.args.labels c.args.source.now c.args.elements.from j) c.args.nodes.now c.saturating_add.result (omega (arith, c.saturating_add.ensures))
