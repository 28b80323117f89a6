use Rattle.std.proofs.Common.{◌+◌, ◌-◌, ◌*◌}
use Rattle.canonical_abi.specs.Types.{string_type}
use Rattle.crossing.specs.Outcome.{EachWalks}
use Rattle.crossing.proofs.PartsOfWaysInOrder.{IsBegun}
use Rattle.crossing.proofs.texts.cross_each_text.Given as goal

abbrev pub invariant-loop-index : goal.invariant-loop-index
invariant-loop-index g l =
    IsBegun g.G.Guest.allocates (EachWalks string_type l.source l.elements.from l.elements.to l.elements.count) (EachWalks string_type l.source (l.elements.from + l.index * 8) (l.elements.to + l.index * 8) (l.elements.count - l.index))
    (g.G.Guest.memory l.initial.guest) l.initial.nodes (g.G.Guest.memory l.guest) l.nodes
