-- The imports are just those of the set, so that the package has its table.
use Rattle.std.proofs.Common.{rules}
use Rattle.package_adding.proofs.set.PackageSet.attach_component.Goals as goal

pub returns-clause-again : goal.returns-clause-again
returns-clause-again c = c.in_ok-put.ensures.again (c.in_ok-is_behind_imports.ensures.0 (search rules))
