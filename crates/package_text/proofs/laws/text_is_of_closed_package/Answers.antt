use Rattle.package_text.proofs.TreeAndTextStandForPackage.{text-of-closed}
use Rattle.package_text.proofs.laws.text_is_of_closed_package.Goals as goal

pub returns : goal.returns
returns c = text-of-closed c.canonical_text_is_read_back.ensures
