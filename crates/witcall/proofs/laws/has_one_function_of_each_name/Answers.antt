use Rattle.std.proofs.Common.{subst}
use Rattle.std.proofs.Math.Logic.{∥∥₁_map}
use Rattle.atoms.specs.Label.{IsLabel}
use Rattle.package_adding.proofs.BeginningsAreImports.{interfaces-labelled}
use Rattle.package_text.specs.Writable.{package_labels}
use Rattle.std.specs.Prelude.{All}
use Rattle.tables.specs.declared.tables.Resolve.{Resolve}
use Rattle.package_sets.proofs.DistinctNames.SetNamesStandForOne.{one-function}
use Rattle.witcall.proofs.laws.has_one_function_of_each_name.Goals as goal

pub returns : goal.returns
returns c =
    let p = c.args.«package».now in
    let labels = subst (λ (r : Resolve). All IsLabel (package_labels r)) c.resolve.ensures c.names_are_labels.ensures in
    ∥∥₁_map p.tower (λ t. one-function p.resolve t.form (interfaces-labelled p.resolve labels))
