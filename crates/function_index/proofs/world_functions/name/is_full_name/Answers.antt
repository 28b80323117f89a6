use Rattle.std.proofs.Common.{ap, sym, ◌∙◌}
use Rattle.tables.specs.PackageNames.{PackageParts}
use Rattle.tables.proofs.TextsComparedByParts.{tells-part}
use Rattle.function_index.proofs.world_functions.name.is_full_name.Goals as goal

pub returns-in-Some : goal.returns-in-Some
returns-in-Some c =
    let front = c.as_bytes-2.ensures.is ∙ ap (λ (p : PackageParts). p.namespace) c.package.view_is in
    tells-part _ (sym c.as_bytes.ensures.value ∙ c.in-Some.ensures) front c.is_in_namespace.ensures
