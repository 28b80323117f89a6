use Rattle.package_form.proofs.PackageFormIsTested.{tested}
use Rattle.package_form.proofs.form.is_in_form.Goals as goal

pub returns : goal.returns
returns c = tested c.args.resolve.now c.passes_tests.result c.passes_tests.ensures
