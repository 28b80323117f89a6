use Rattle.package_sets.proofs.ReachedParts.ReachedIsPart.{interfaces-part}
use Rattle.package_sets.proofs.importing.imports.Goals as goal

pub part_table-requires : goal.part_table-requires
part_table-requires c = interfaces-part c.args.set.now c.args.packages.now c.args.interfaces.now c.in_ok-to.to c.in_ok-to.ensures

pub returns : goal.returns
returns c = record { to = c.in_ok-to.to; kept = c.in_ok-to.ensures; table = c.in_ok-table.ensures }
