use Rattle.std.proofs.Common.{refl}
use Rattle.atoms.proofs.LabelsInOnePass.{short_label, long_label}
use Rattle.atoms.proofs.label.is_label.Goals as goal

pub returns-then-text-le255 : goal.returns-then-text-le255
returns-then-text-le255 c = short_label c.args.text.now _ c.if-text-le255.true c.is_words.ensures

pub returns-else-text-le255 : goal.returns-else-text-le255
returns-else-text-le255 c = long_label c.args.text.now _ c.if-text-le255.false refl
