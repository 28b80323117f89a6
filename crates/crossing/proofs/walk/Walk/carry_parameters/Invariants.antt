use Rattle.std.proofs.Common.{◌+◌, ◌≤◌, [], map, length}
use Rattle.canonical_abi.specs.Layout.{field_kinds}
use Rattle.canonical_abi.specs.Reading.{number_of}
use Rattle.values.specs.Members.{fields_of_types}
use Rattle.values.proofs.FieldsFromAPlace.{fields_from}
use Rattle.crossing.proofs.ScriptsOfFlatValues.{AreCarrying}
use Rattle.crossing.proofs.walk.Walk.carry_parameters.Given as goal

abbrev pub invariant-loop-index : goal.invariant-loop-index
invariant-loop-index g l =
    let fs = fields_of_types l.self.types.now (map (λ p. p.ty) l.params) in
    AreCarrying g.G.Guest.allocates fs l.self.source.now (map number_of l.flats) [] l.index (length l.out.items) l.out.items (g.G.Guest.memory l.initial.guest) l.initial.nodes (g.G.Guest.memory l.guest) l.nodes
    × (length l.out.items + length (field_kinds (fields_from l.index fs)) ≤ length l.flats)
    × (length l.out.items + length (field_kinds (fields_from l.index fs)) ≤ g.row.N)
