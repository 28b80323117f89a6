use Rattle.std.proofs.Common.{ap, ◌∙◌}
use Rattle.tables.specs.PackageNames.{PackageParts}
use Rattle.tables.proofs.TextsComparedByParts.{tells-part}
use Rattle.function_index.proofs.world_functions.name.is_in_namespace.Goals as goal

pub returns-in-Some : goal.returns-in-Some
returns-in-Some c = tells-part _ c.in-Some.ensures (c.as_bytes.ensures.is ∙ ap (λ (p : PackageParts). p.name) c.package.view_is) c.is_in_package.ensures
