use Rattle.std.proofs.Math.Logic.{∥∥₁_map}
use Rattle.package_values.proofs.SetLabelsAreApart.{labels-apart}
use Rattle.package_values.proofs.laws.has_labels_apart.Goals as goal

pub returns : goal.returns
returns c =
    let p = c.args._package.now in
    let apart = labels-apart p.resolve (∥∥₁_map p.tower (λ t. t.form)) in
    record { records = apart.0; types = apart.1 }
