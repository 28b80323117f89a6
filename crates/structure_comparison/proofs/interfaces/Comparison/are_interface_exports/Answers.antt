use Rattle.std.proofs.Common.{◌≡◌, ℕ, length, arith, subst}
use Rattle.std.proofs.lemmas.Option.{slice_get-get_or}
use Rattle.component_structure.specs.Parts.{structure_view}
use Rattle.structure_comparison.specs.Packages.{IsInterfaceExport}
use Rattle.structure_comparison.proofs.ListsInStep.{InStepBelow, in_step_more, in_step_all, item_get}
use Rattle.structure_comparison.proofs.interfaces.Comparison.are_interface_exports.Goals as goal

pub loop-index-preserved : goal.loop-index-preserved
loop-index-preserved c =
    let n = c.loop-index.index in
    in_step_more (IsInterfaceExport c.args.self.now.resolve.now (structure_view c.args.self.now.structure.now)) c.args.places.now c.args.read.now n _ c.index-read-index.result
    (slice_get-get_or c.args.places.now n _ (omega arith)) (item_get c.args.read.now n c.index-read-index.result (omega arith) c.index-read-index.is)
    (c.in_ok-is_interface_export.ensures c.if-not-branch.false) c.loop-index.invariant

pub returns : goal.returns
returns c = λ t.
    let n : c.loop-index.index ≡ length c.args.places.now = omega arith in
    in_step_all (IsInterfaceExport c.args.self.now.resolve.now (structure_view c.args.self.now.structure.now)) c.args.places.now c.args.read.now c.if-places-read.false
    (subst (λ (k : ℕ). InStepBelow (IsInterfaceExport c.args.self.now.resolve.now (structure_view c.args.self.now.structure.now)) c.args.places.now c.args.read.now k) n c.loop-index.invariant)
