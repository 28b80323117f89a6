use Rattle.std.proofs.Common.{◌∙◌, List, ℕ, Option, ap, sym}
use Rattle.std.specs.Map.{lookup}
use Rattle.std.specs.Str.{bytes_eq}
use Rattle.tables.specs.declared.tables.FunctionId.{FunctionId}
use Rattle.function_index.specs.Index.{function_among}
use Rattle.function_index.proofs.FunctionsPutUnderNames.{looked-up}
use Rattle.function_index.proofs.index.FunctionIndex.look_up.Goals as goal

pub returns-in_err-get : goal.returns-in_err-get
returns-in_err-get c =
    let iface = c.args.iface.now in
    c.from_residual.ensures
    ∙ ap (λ (o : Option (List (List ℕ × FunctionId))). function_among o c.args.name.now)
    (c.in_err-get.ensures.value ∙ sym (looked-up iface c.self.inside.interfaces.entries) ∙ ap (lookup (bytes_eq iface)) c.self.view_is)

pub returns : goal.returns
returns c =
    let iface = c.args.iface.now in
    c.get-2.ensures
    ∙ ap (λ (o : Option (List (List ℕ × FunctionId))). function_among o c.args.name.now)
    (c.in_ok-get.ensures.value ∙ sym (looked-up iface c.self.inside.interfaces.entries) ∙ ap (lookup (bytes_eq iface)) c.self.view_is)
