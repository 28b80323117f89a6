use Rattle.component_structure.specs.Parts.{structure_view, extern_part}
use Rattle.structure_comparison.specs.Types.{IsFunctionExtern}
use Rattle.structure_comparison.specs.Worlds.{world_site}
use Rattle.structure_comparison.proofs.ListsInStep.{in_step_map}
use Rattle.structure_comparison.proofs.interfaces.Comparison.are_functions.Goals as goal

pub returns : goal.returns
returns c = λ t.
    record {
      written = c.in_ok-written.field-0.entries;
      unnamed = c.are_unnamed.ensures c.if-not-are_unnamed.false;
      functions_are = in_step_map extern_part (IsFunctionExtern (world_site c.args.self.now.resolve.now (structure_view c.args.self.now.structure.now) c.args.border.way c.args.border.scope c.in_ok-written.field-0.entries)) c.args.functions.now c.args.read.now (c.are_written.ensures t);
    }
