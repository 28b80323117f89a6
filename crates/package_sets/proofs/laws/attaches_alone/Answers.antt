use Rattle.package_sets.proofs.AttachedSets.AttachesAlone.{attaches-alone}
use Rattle.package_sets.proofs.laws.attaches_alone.Goals as goal

pub returns : goal.returns
returns c = attaches-alone
