use Rattle.package_sets.proofs.PackageTables.OfRestricted.{follows}
use Rattle.package_sets.proofs.laws.of_restricted.Goals as goal

pub returns : goal.returns
returns c = follows
