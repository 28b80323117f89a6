use Rattle.package_text.proofs.TreeAndTextStandForPackage.{text-of-package}
use Rattle.package_text.proofs.laws.text_is_of_package.Goals as goal

pub returns : goal.returns
returns c = text-of-package c.canonical_text_is_read_back.ensures
