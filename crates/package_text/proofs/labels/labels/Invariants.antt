use Rattle.std.proofs.Common.{take, All}
use Rattle.atoms.specs.Label.{IsLabel}
use Rattle.package_text.proofs.labels.labels.Given as goal

abbrev pub invariant-loop-label : goal.invariant-loop-label
invariant-loop-label l = All IsLabel (take l.label-index l.labels)
