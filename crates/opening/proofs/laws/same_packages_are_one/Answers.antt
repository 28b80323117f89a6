use Rattle.std.proofs.Common.{subst}
use Rattle.package_sets.proofs.SamePackagesAreOne.{same-tables}
use Rattle.opening.specs.Opening.{IsOpened, IsPrintedAs, IsWrittenAs}
use Rattle.opening.proofs.laws.same_packages_are_one.Goals as goal

pub returns-clause-one : goal.returns-clause-one
returns-clause-one c = λ a b h. same-tables a b h

pub returns-clause-opened : goal.returns-clause-opened
returns-clause-opened c = λ inputs a b h. subst (IsOpened inputs) (same-tables a b h)

pub returns-clause-binary : goal.returns-clause-binary
returns-clause-binary c = λ bytes a b h. subst (IsWrittenAs bytes) (same-tables a b h)

pub returns-clause-text : goal.returns-clause-text
returns-clause-text c = λ bytes a b h. subst (IsPrintedAs bytes) (same-tables a b h)
