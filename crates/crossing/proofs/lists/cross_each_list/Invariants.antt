use Rattle.std.proofs.Common.{◌+◌, ◌-◌, ◌*◌}
use Rattle.canonical_abi.specs.Types.{prim_type, list_type}
use Rattle.tables.specs.Closed.{prim_of}
use Rattle.crossing.specs.Outcome.{EachWalks}
use Rattle.crossing.proofs.PartsOfWaysInOrder.{IsBegun}
use Rattle.crossing.proofs.lists.cross_each_list.Given as goal

abbrev pub invariant-loop-index : goal.invariant-loop-index
invariant-loop-index g l =
    let t = list_type (prim_type (prim_of l.primitive)) in
    IsBegun g.G.Guest.allocates (EachWalks t l.source l.elements.from l.elements.to l.elements.count) (EachWalks t l.source (l.elements.from + l.index * 8) (l.elements.to + l.index * 8) (l.elements.count - l.index))
    (g.G.Guest.memory l.initial.guest) l.initial.nodes (g.G.Guest.memory l.guest) l.nodes
