use Rattle.std.proofs.Common.{map, take}
use Rattle.package_form.specs.Distinct.{AreMet}
use Rattle.package_form.specs.Naming.{case_name}
use Rattle.package_names.proofs.distinct.distinct_cases.Given as goal

abbrev pub invariant-loop-case : goal.invariant-loop-case
invariant-loop-case l = AreMet (map case_name (take l.case-index l.cases)) l.scope
