use Rattle.std.proofs.Common.{ap, ◌∙◌, []}
use Rattle.set_rows.specs.Reaches.{padded}
use Rattle.package_sets.proofs.PackageTables.NeededPackages.{needed-own}
use Rattle.package_sets.proofs.restriction.needed.Goals as goal

pub returns : goal.returns
returns c = needed-own c.args.set.now c.args.id.0 c.args.reached.now c.in_ok-marks.marks.items _ _ (c.in_ok-marks.ensures ∙ ap (λ n. padded n []) c.len.ensures) c.mark.ensures.marked c.add_needed.ensures
