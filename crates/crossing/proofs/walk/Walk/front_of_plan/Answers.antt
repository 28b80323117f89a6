use Rattle.std.proofs.Common.{refl}
use Rattle.tables.specs.Closed.{closed_type}
use Rattle.ranges.specs.Bytewise.{each_nodes}
use Rattle.crossing.proofs.ElementsCrossedTogether.{crossed-done}
use Rattle.crossing.proofs.walk.Walk.front_of_plan.Goals as goal

pub returns-clause-crossed : goal.returns-clause-crossed
returns-clause-crossed g c =
    let t = closed_type c.args.self.now.types.now c.args.element in
    let m = c.args.self.now.source.now in
    let from = c.args.elements.from in
    let j = c.cross_planned.result in
    let plan = c.in-Some.ensures in
    let done = c.cross_planned.ensures in
    crossed-done g.G.Guest.allocates t m from c.args.elements.to j (each_nodes t m from j) (g.G.Guest.memory c.args.guest.now) (g.G.Guest.memory c.cross_planned.new.guest)
    done.same_length (done.crosses t plan.planned) refl c.args.nodes.now c.cross_planned.new.nodes (done.visited t plan.planned)
