use Rattle.atoms.proofs.LabelsInOnePass.{label_is_utf8}
use Rattle.atoms.proofs.label.Label.as_str.Goals as goal

pub from_utf8_unchecked-requires : goal.from_utf8_unchecked-requires
from_utf8_unchecked-requires c = rw c.as_bytes.ensures.is (label_is_utf8 c.args.self.now c.as_bytes.ensures.label)
