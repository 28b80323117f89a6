use Rattle.std.proofs.Common.{◌+◌, ◌-◌, ◌*◌}
use Rattle.canonical_abi.specs.Layout.{size}
use Rattle.tables.specs.Closed.{closed_type}
use Rattle.crossing.specs.Outcome.{EachWalks}
use Rattle.crossing.proofs.PartsOfWaysInOrder.{IsBegun}
use Rattle.crossing.proofs.walk.Walk.cross_each_pair.Given as goal

abbrev pub invariant-loop-index : goal.invariant-loop-index
invariant-loop-index g l =
    let t = closed_type l.self.types.now l.pair.ty in
    let m = l.self.source.now in
    IsBegun g.G.Guest.allocates (EachWalks t m l.elements.from l.elements.to l.elements.count) (EachWalks t m (l.elements.from + l.index * size t) (l.elements.to + l.index * size t) (l.elements.count - l.index))
    (g.G.Guest.memory l.initial.guest) l.initial.nodes (g.G.Guest.memory l.guest) l.nodes
