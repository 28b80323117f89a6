use Rattle.package_sets.proofs.FoundImports.OfImports.{follows}
use Rattle.package_sets.proofs.laws.of_imports.Goals as goal

pub returns : goal.returns
returns c = follows
