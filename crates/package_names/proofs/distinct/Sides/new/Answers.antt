use Rattle.package_names.proofs.WorldItemNamesAreMet.{sides-met-none}
use Rattle.package_names.proofs.distinct.Sides.new.Goals as goal

pub returns : goal.returns
returns c = sides-met-none _ c.new.ensures c.new-2.ensures
