use Rattle.std.proofs.Common.{map, take, All}
use Rattle.atoms.specs.Label.{IsLabel}
use Rattle.package_form.specs.Naming.{parameter_name}
use Rattle.package_text.proofs.labels.parameters.Given as goal

abbrev pub invariant-loop-parameter : goal.invariant-loop-parameter
invariant-loop-parameter l = All IsLabel (map parameter_name (take l.parameter-index l.parameters))
