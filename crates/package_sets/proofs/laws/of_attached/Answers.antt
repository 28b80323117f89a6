use Rattle.package_sets.proofs.AttachedSets.KeepsTower.{follows}
use Rattle.package_sets.proofs.laws.of_attached.Goals as goal

pub returns : goal.returns
returns c = follows
