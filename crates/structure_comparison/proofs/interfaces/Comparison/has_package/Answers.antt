use Rattle.std.proofs.Common.{◌∙◌, ℕ, List, Bool, sym, subst}
use Rattle.std.proofs.lemmas.Result.{IfOk-weaker}
use Rattle.component_structure.specs.Parts.{structure_view}
use Rattle.structure_comparison.specs.InStep.{InStep}
use Rattle.structure_comparison.specs.Packages.{IsInterfaceExport, IsWorldExportAt}
use Rattle.structure_comparison.proofs.ListsInStep.{split_parts}
use Rattle.structure_comparison.proofs.interfaces.Comparison.has_package.Goals as goal

pub returns : goal.returns
returns c =
    let r = c.args.self.now.resolve.now in
    let parts = structure_view c.args.self.now.structure.now in
    IfOk-weaker c.are_world_exports.result _ _
    (λ (b : Bool) h t. record {
      plain = c.if-self.false;
      interfaces = c.in-Some.first.now;
      worlds = c.in-Some.others.now;
      in_order = sym c.as_slice.ensures.value ∙ split_parts c.as_slice.result.now c.len.result c.in-Some.first.now c.in-Some.others.now c.in-Some.ensures.cases;
      interfaces_are = subst (λ (ns : List ℕ). InStep (IsInterfaceExport r parts) ns c.in-Some.first.now) (c.as_slice-else-self.ensures.value ∙ c.in_ok-interfaces.ensures) (c.in_ok-are_interface_exports.ensures c.if-not-branch.false);
      worlds_are = subst (λ (ns : List ℕ). InStep (IsWorldExportAt r parts) ns c.in-Some.others.now) (c.as_slice-2.ensures.value ∙ c.in_ok-worlds.ensures) (h t);
    })
    c.are_world_exports.ensures
