use Rattle.std.proofs.Common.{arith}
use Rattle.values.proofs.FieldsFromAPlace.{count-types}
use Rattle.crossing.proofs.OneFieldCrosses.{one-type-ends}
use Rattle.crossing.proofs.walk.Walk.cross_types.Goals as goal

pub returns-in-len1 : goal.returns-in-len1
returns-in-len1 g c =
    one-type-ends g.G.Guest.allocates c.args.self.now.types.now c.args.types.now _ c.args.self.now.source.now c.args.at.from c.args.at.to c.are_bytes.ensures c.requires.short c.reads_exactly.ensures
    (omega (arith, c.in-len1.len_at_least)) (omega (arith, c.in-len1.len_below))
    (g.G.Guest.memory c.args.guest.now) c.args.nodes.now c.cross_at.result (g.G.Guest.memory c.cross_at.new.guest) c.cross_at.new.nodes c.cross_at.ensures

pub cross_fields-requires-clause-counted : goal.cross_fields-requires-clause-counted
cross_fields-requires-clause-counted g c = count-types c.args.self.now.types.now c.args.types.now
