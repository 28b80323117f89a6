use Rattle.std.proofs.Common.{◌∙◌, List, Bool, true, map, ap, subst}
use Rattle.std.proofs.lemmas.Result.{IfOk-weaker}
use Rattle.tables.specs.declared.tables.FunctionId.{FunctionId}
use Rattle.tables.specs.declared.tables.InterfaceId.{InterfaceId}
use Rattle.tables.specs.declared.tables.Direction.TheVariants.{Import, Export}
use Rattle.component_structure.specs.Parts.{structure_view, extern_part}
use Rattle.structure_comparison.specs.InStep.{InStep}
use Rattle.structure_comparison.specs.Interfaces.{IsInterfaceExtern}
use Rattle.structure_comparison.specs.Worlds.{HasFunctions, functions_that}
use Rattle.structure_comparison.proofs.Items.{items_of_parts}
use Rattle.structure_comparison.proofs.interfaces.Comparison.has_items.Goals as goal

pub returns : goal.returns
returns c =
    let r = c.args.self.now.resolve.now in
    let parts = structure_view c.args.self.now.structure.now in
    let world = c.args.world.now in
    let imports = c.args.order.now.imports.items in
    let exports = c.args.order.now.exports.items in
    IfOk-weaker c.are_interfaces-2.result _ _
    (λ (b : Bool) h t. items_of_parts r parts world imports exports c.args.scope.now c.as_slice-read.result.now
    c.in-Some.imported.now c.in-Some.rest.now c.in-Some-split_at_checked.imported_functions.now c.in-Some-split_at_checked.rest.now
    c.in-Some-split_at_checked-2.exported_functions.now c.in-Some-split_at_checked-2.exported.now _ _ _
    c.as_slice-read.ensures.value c.in-Some.ensures.cases c.in-Some-split_at_checked.ensures.cases c.in-Some-split_at_checked-2.ensures.cases
    (subst (λ (ids : List InterfaceId). InStep (IsInterfaceExtern r parts Import true) ids (map extern_part c.in-Some.imported.now)) c.as_slice.ensures.value (c.in_ok-are_interfaces.ensures c.if-not-branch.false))
    (subst (λ (ids : List FunctionId). HasFunctions r parts Import c.args.scope.now.number ids (map extern_part c.in-Some-split_at_checked.imported_functions.now))
    (c.as_slice-2.ensures.value ∙ (c.in_ok-imports.ensures ∙ ap (functions_that Import) c.as_slice-items.ensures)) (c.in_ok-are_functions.ensures c.if-not-branch-2.false))
    (subst (λ (ids : List FunctionId). HasFunctions r parts Export c.args.scope.now.number ids (map extern_part c.in-Some-split_at_checked-2.exported_functions.now))
    (c.as_slice-3.ensures.value ∙ (c.in_ok-exports.ensures ∙ ap (functions_that Export) c.as_slice-items.ensures)) (c.in_ok-are_functions-2.ensures c.if-not-branch-3.false))
    (subst (λ (ids : List InterfaceId). InStep (IsInterfaceExtern r parts Export true) ids (map extern_part c.in-Some-split_at_checked-2.exported.now)) c.as_slice-4.ensures.value (h t)))
    c.are_interfaces-2.ensures
