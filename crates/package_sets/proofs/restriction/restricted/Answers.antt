use Rattle.package_sets.proofs.ReachedParts.ReachedIsPart.{package-part}
use Rattle.package_sets.proofs.PackageTables.TableIsInForm.{table-form, table-distinct}
use Rattle.package_sets.proofs.restriction.restricted.Goals as goal

pub part_table-requires : goal.part_table-requires
part_table-requires c = package-part c.args.set.now c.args.id.0 c.in_ok-to.to c.in_ok-to.ensures

pub returns-clause-ok : goal.returns-clause-ok
returns-clause-ok c = record { to = c.in_ok-to.to; needed = c.in_ok-to.ensures; table = c.in_ok-table.ensures }

pub returns-clause-form : goal.returns-clause-form
returns-clause-form c = λ tower within. (
  table-form c.args.set.now c.args.id.0 c.in_ok-to.to c.in_ok-to.ensures tower within _ c.in_ok-table.ensures,
  table-distinct c.args.set.now c.args.id.0 c.in_ok-to.to c.in_ok-to.ensures tower within _ c.in_ok-table.ensures,
)
