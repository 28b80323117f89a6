use Rattle.component_structure.specs.Parts.{structure_view, extern_part}
use Rattle.structure_comparison.proofs.ListsInStep.{InStepBelow}
use Rattle.structure_comparison.specs.Interfaces.{IsInterfaceExtern}
use Rattle.structure_comparison.proofs.interfaces.Comparison.are_interfaces.Given as goal

abbrev pub invariant-loop-place : goal.invariant-loop-place
invariant-loop-place l = InStepBelow (λ id e. IsInterfaceExtern l.self.resolve.now (structure_view l.self.structure.now) l.manner.way l.manner.whole id (extern_part e)) l.ids l.read l.place
