use Rattle.std.proofs.Common.{take}
use Rattle.package_form.specs.Distinct.{AreMet}
use Rattle.package_names.proofs.distinct.distinct_labels.Given as goal

abbrev pub invariant-loop-label : goal.invariant-loop-label
invariant-loop-label l = AreMet (take l.label-index l.labels) l.scope
