use Rattle.std.proofs.Common.{◌≡◌, ◌+◌, ◌*◌, ◌≤◌, map, length}
use Rattle.canonical_abi.specs.Types.{depth, fields_depth}
use Rattle.canonical_abi.specs.Layout.{field_kinds}
use Rattle.canonical_abi.specs.Reading.{number_of}
use Rattle.tables.specs.Closed.{closed_type}
use Rattle.values.specs.Members.{members_fields}
use Rattle.values.proofs.FieldsFromAPlace.{fields_from}
use Rattle.crossing.proofs.ScriptsOfFlatValues.{AreCarrying}
use Rattle.crossing.proofs.walk.Walk.+flat.Given as goal

abbrev pub decreases-cross_flat : goal.decreases-cross_flat
decreases-cross_flat g l = 3 * depth (closed_type l.self.now.types.now l.ty) + 1

abbrev pub decreases-carry_member : goal.decreases-carry_member
decreases-carry_member g l = 3 * depth (closed_type l.self.now.types.now l.ty) + 2

abbrev pub decreases-carry_fields : goal.decreases-carry_fields
decreases-carry_fields g l = 3 * fields_depth (members_fields l.self.now.types.now l.fields.now.members) + 3

abbrev pub decreases-carry_variant : goal.decreases-carry_variant
decreases-carry_variant g l = 3 * depth (closed_type l.self.now.types.now l.ty)

abbrev pub invariant-carry_fields-loop-index : goal.invariant-carry_fields-loop-index
invariant-carry_fields-loop-index g l =
    let fs = members_fields l.self.types.now l.fields.members in
    AreCarrying g.G.Guest.allocates fs l.self.source.now (map number_of l.flats) l.initial.out.items l.index l.used l.out.items (g.G.Guest.memory l.initial.guest) l.initial.nodes (g.G.Guest.memory l.guest) l.nodes
    × (l.used + length (field_kinds (fields_from l.index fs)) ≤ length l.flats)
    × (length l.out.items + length (field_kinds (fields_from l.index fs)) ≤ g.row.N)
    × (length l.out.items ≡ length l.initial.out.items + l.used)
