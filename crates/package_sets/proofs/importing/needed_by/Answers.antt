use Rattle.std.proofs.Common.{ap, ◌∙◌}
use Rattle.set_rows.specs.Reaches.{padded}
use Rattle.package_sets.proofs.PackageTables.NeededPackages.{needed-by}
use Rattle.package_sets.proofs.importing.needed_by.Goals as goal

pub returns : goal.returns
returns c = needed-by c.args.set.now c.args.packages.now c.args.reached.now c.in_ok-marks.marks.items _ (c.in_ok-marks.ensures ∙ ap (λ n. padded n c.args.packages.now) c.len.ensures) c.add_needed.ensures
