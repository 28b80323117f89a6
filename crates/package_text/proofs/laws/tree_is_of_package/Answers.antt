use Rattle.package_text.proofs.TreeAndTextStandForPackage.{tree-of-package}
use Rattle.package_text.proofs.laws.tree_is_of_package.Goals as goal

pub returns : goal.returns
returns c = tree-of-package
