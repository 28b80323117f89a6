use Rattle.package_sets.proofs.PackageTables.AloneIsWhole.{whole, whole-form}
use Rattle.package_sets.proofs.laws.alone_is_whole.Goals as goal

pub returns-clause-table : goal.returns-clause-table
returns-clause-table c = λ r tower alone. whole r alone tower

pub returns-clause-form : goal.returns-clause-form
returns-clause-form c = λ r tower alone. whole-form r alone tower
