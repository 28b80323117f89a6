use Rattle.std.proofs.Common.{◌≡◌, length}
use Rattle.atoms.proofs.LabelsInOnePass.{label_from}
use Rattle.atoms.specs.declared.label.Place.TheVariants.{Start}
use Rattle.atoms.proofs.label.is_words.Given as goal

abbrev pub invariant-loop-rest : goal.invariant-loop-rest
invariant-loop-rest l = label_from l.place l.rest ≡ label_from Start l.text

abbrev pub decreases-loop-rest : goal.decreases-loop-rest
decreases-loop-rest l = length l.rest
