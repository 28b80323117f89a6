use Rattle.package_sets.proofs.AttachedSets.IsInTower.{none-in-tower}
use Rattle.package_sets.proofs.laws.is_set_of_none.Goals as goal

pub returns : goal.returns
returns c = none-in-tower c.args._resolve.now
