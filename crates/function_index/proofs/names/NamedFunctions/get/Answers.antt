use Rattle.std.proofs.Common.{◌∙◌, ap, sym}
use Rattle.std.specs.Map.{lookup}
use Rattle.std.specs.Str.{bytes_eq}
use Rattle.function_index.proofs.FunctionsPutUnderNames.{looked-up}
use Rattle.function_index.proofs.names.NamedFunctions.get.Goals as goal

pub returns : goal.returns
returns c =
    let name = c.args.name.now in
    c.copied.ensures ∙ c.get.ensures.value ∙ sym (looked-up name c.self.inside.functions.entries) ∙ ap (lookup (bytes_eq name)) c.self.view_is
