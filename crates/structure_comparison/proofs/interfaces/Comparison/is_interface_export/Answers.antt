use Rattle.std.proofs.Common.{◌≡◌, ◌∙◌, ℕ, Bool, Option, sym, subst, arith}
use Rattle.std.proofs.lemmas.Result.{IfOk-weaker}
use Rattle.tables.specs.declared.tables.Interface.{Interface}
use Rattle.tables.specs.declared.tables.InterfaceId.{InterfaceId}
use Rattle.component_structure.specs.Parts.{structure_view, ScopePart}
use Rattle.structure_comparison.specs.InStep.{IsThere}
use Rattle.structure_comparison.specs.Packages.{IsInterfaceExport, HoldsInterface}
use Rattle.structure_comparison.proofs.ListsInStep.{texts_same}
use Rattle.structure_comparison.proofs.interfaces.Comparison.is_interface_export.Goals as goal

pub returns : goal.returns
returns c =
    let r = c.args.self.now.resolve.now in
    let parts = structure_view c.args.self.now.structure.now in
    let read = c.args.read.now in
    let id : InterfaceId = record { 0 = c.in-Ok.id } in
    let same : c.in-Ok.id ≡ c.args.place = omega arith in
    let named : read.name ≡ c.in-Some.interface.now.name = sym c.as_bytes.ensures.is ∙ (texts_same c.as_bytes.result.now c.as_bytes-2.result.now c.ne.result c.ne.ensures c.if-ne.false ∙ c.as_bytes-2.ensures.is) in
    IfOk-weaker c.holds_interface.result _ _
    (λ (b : Bool) h t. subst (λ (n : ℕ). IsInterfaceExport r parts n read) same (
      subst (λ (o : Option Interface). IsThere (λ (i : Interface). read.name ≡ i.name) o) (sym c.in-Some.ensures) named,
      subst (λ (o : Option ScopePart). IsThere (HoldsInterface r parts id) o) (sym c.in-Some-scope_at.ensures) (h t),
    ))
    c.holds_interface.ensures
