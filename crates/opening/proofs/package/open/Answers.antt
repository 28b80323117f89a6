-- A package that stands alone is the last of a set of one.
use Rattle.opening.proofs.WrittenOpensAgain.{alone}
use Rattle.opening.proofs.package.open.Goals as goal

pub returns-clause-alone : goal.returns-clause-alone
returns-clause-alone c = alone c.args.bytes.now c.open_set.result c.open_set.ensures.ok
