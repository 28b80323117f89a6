use Rattle.component_structure.specs.Parts.{structure_view}
use Rattle.structure_comparison.proofs.ListsInStep.{InStepBelow}
use Rattle.structure_comparison.specs.Packages.{IsWorldExportAt}
use Rattle.structure_comparison.proofs.interfaces.Comparison.are_world_exports.Given as goal

abbrev pub invariant-loop-index : goal.invariant-loop-index
invariant-loop-index l = InStepBelow (IsWorldExportAt l.self.resolve.now (structure_view l.self.structure.now)) l.places l.read l.index
