use Rattle.package_sets.proofs.AttachedSets.KeepsTower.{keeps-tower}
use Rattle.package_sets.proofs.laws.keeps_tower.Goals as goal

pub returns : goal.returns
returns c = keeps-tower
