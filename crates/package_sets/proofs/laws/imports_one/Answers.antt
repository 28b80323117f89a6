use Rattle.package_sets.proofs.AttachedAndImportedAreOne.{imports-one}
use Rattle.package_sets.proofs.laws.imports_one.Goals as goal

pub returns : goal.returns
returns c = imports-one
