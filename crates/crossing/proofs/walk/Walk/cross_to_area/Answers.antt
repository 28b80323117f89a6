use Rattle.canonical_abi.specs.Types.{record_type}
use Rattle.canonical_abi.specs.Layout.{max_flat_results}
use Rattle.values.specs.Members.{fields_of_types}
use Rattle.values.proofs.TypesExtents.{align-pos}
use Rattle.crossing.proofs.ScriptsOfWholeWays.{area-ends}
use Rattle.crossing.proofs.walk.Walk.cross_to_area.Goals as goal

pub test_block-requires-clause-aligned : goal.test_block-requires-clause-aligned
test_block-requires-clause-aligned g c = rw c.extent_of-size.ensures.align (align-pos (record_type (fields_of_types c.args.self.now.types.now c.args.types.now)))

pub test_block-requires-2-clause-aligned : goal.test_block-requires-2-clause-aligned
test_block-requires-2-clause-aligned g c = rw c.extent_of-size.ensures.align (align-pos (record_type (fields_of_types c.args.self.now.types.now c.args.types.now)))

pub returns : goal.returns
returns g c =
    let ts = fields_of_types c.args.self.now.types.now c.args.types.now in
    let old = g.G.Guest.memory c.args.guest.now in
    let new = g.G.Guest.memory c.cross_types.new.guest in
    let stands = rw (c.extent_of-size.ensures.align, c.extent_of-size.ensures.size) at c.in_default.ensures.ok in
    let room = rw (c.extent_of-size.ensures.align, c.extent_of-size.ensures.size, c.len.ensures) at c.in_default-test_block.ensures.ok in
    area-ends g.G.Guest.allocates max_flat_results ts c.args.self.now.source.now c.args.returned.now.flats.now c.args.returned.now.area c.requires.kinds _ _ old c.args.nodes.now c.requires.spilled room c.low_word-from.result c.low_word-from.ensures stands
    c.cross_types.result new c.cross_types.new.nodes c.cross_types.ensures c.args.out.now.items c.requires.empty
