use Rattle.package_sets.proofs.AttachedAndImportedAreOne.{attached-one}
use Rattle.package_sets.proofs.laws.attaches_one.Goals as goal

pub returns : goal.returns
returns c = attached-one
