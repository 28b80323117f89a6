use Rattle.std.proofs.Common.{map}
use Rattle.values.specs.Members.{fields_of_types}
use Rattle.adapter.proofs.NestedValuesCrossAsTheyAre.{AreBegun}
use Rattle.adapter.proofs.nested.Carried.end_of_parameters.Given as goal

abbrev pub invariant-loop-index : goal.invariant-loop-index
invariant-loop-index l =
    AreBegun (fields_of_types l.self.types.now (map (λ p. p.ty) l.params)) l.self.flats.now l.index 0 l.end l.initial.nodes l.nodes
