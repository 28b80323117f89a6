use Rattle.std.proofs.Common.{map, take, All}
use Rattle.atoms.specs.Label.{IsLabel}
use Rattle.package_form.specs.Naming.{case_name}
use Rattle.package_text.proofs.labels.cases.Given as goal

abbrev pub invariant-loop-case : goal.invariant-loop-case
invariant-loop-case l = All IsLabel (map case_name (take l.case-index l.cases))
