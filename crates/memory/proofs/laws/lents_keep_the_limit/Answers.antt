use Rattle.memory.specs.LentLaws.{LentKeepsLimit}
use Rattle.memory.proofs.laws.lents_keep_the_limit.Goals as goal

pub returns : goal.returns
returns c = LentKeepsLimit
