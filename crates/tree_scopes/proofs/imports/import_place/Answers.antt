use Rattle.std.proofs.Common.{◌∙◌, ap}
use Rattle.package_names.specs.Indexed.{interface_place}
use Rattle.tables.specs.PackageNames.{PackageParts}
use Rattle.tree_meaning.specs.Finished.{header_name}
use Rattle.tree_scopes.proofs.ImportPlaces.{place-same}
use Rattle.tree_scopes.proofs.imports.import_place.Goals as goal

pub returns : goal.returns
returns c =
    let r = c.args.imports.now in
    let i = c.args.name.now in
    c.place.ensures ∙ ap (λ (q : PackageParts). interface_place r q i) c.package_key.ensures ∙ place-same r (header_name c.args.«package».now) i
