use Rattle.std.proofs.Common.{◌≡◌, ◌+◌, ◌-◌, ◌*◌}
use Rattle.canonical_abi.specs.Types.{depth, fields_depth}
use Rattle.canonical_abi.specs.Layout.{size}
use Rattle.tables.specs.Closed.{closed_type}
use Rattle.values.specs.Members.{members_fields}
use Rattle.values.proofs.FieldsFromAPlace.{fields_from, fields_end}
use Rattle.crossing.specs.Outcome.{EachWalks, FieldsWalk}
use Rattle.crossing.proofs.PartsOfWaysInOrder.{IsBegun}
use Rattle.crossing.proofs.walk.Walk.+cross.Given as goal

abbrev pub decreases-cross_at : goal.decreases-cross_at
decreases-cross_at g l = 3 * depth (closed_type l.self.now.types.now l.ty) + 1

abbrev pub decreases-cross_list : goal.decreases-cross_list
decreases-cross_list g l = 3 * depth (closed_type l.self.now.types.now l.element) + 3

abbrev pub decreases-cross_elements : goal.decreases-cross_elements
decreases-cross_elements g l = 3 * depth (closed_type l.self.now.types.now l.element) + 2

abbrev pub decreases-cross_fields : goal.decreases-cross_fields
decreases-cross_fields g l = 3 * fields_depth (members_fields l.self.now.types.now l.fields.now.members) + 2

abbrev pub decreases-cross_variant : goal.decreases-cross_variant
decreases-cross_variant g l = 3 * depth (closed_type l.self.now.types.now l.ty)

abbrev pub invariant-cross_elements-loop-index : goal.invariant-cross_elements-loop-index
invariant-cross_elements-loop-index g l =
    let t = closed_type l.self.types.now l.element in
    IsBegun g.G.Guest.allocates (EachWalks t l.self.source.now l.elements.from l.elements.to l.elements.count) (EachWalks t l.self.source.now (l.elements.from + l.index * size t) (l.elements.to + l.index * size t) (l.elements.count - l.index))
    (g.G.Guest.memory l.fn.guest) l.fn.nodes (g.G.Guest.memory l.guest) l.nodes

abbrev pub invariant-cross_fields-loop-index : goal.invariant-cross_fields-loop-index
invariant-cross_fields-loop-index g l =
    let fs = members_fields l.self.types.now l.fields.members in
    IsBegun g.G.Guest.allocates (FieldsWalk fs l.self.source.now l.at.from l.at.to 0) (FieldsWalk (fields_from l.index fs) l.self.source.now l.at.from l.at.to l.end)
    (g.G.Guest.memory l.initial.guest) l.initial.nodes (g.G.Guest.memory l.guest) l.nodes
    × (fields_end l.end (fields_from l.index fs) ≡ fields_end 0 fs)
