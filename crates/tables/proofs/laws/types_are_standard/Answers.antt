use Rattle.tables.proofs.HasStandardTypes.{standard-types}
use Rattle.tables.proofs.laws.types_are_standard.Goals as goal

pub returns : goal.returns
returns c = standard-types c.args._resolve.now
