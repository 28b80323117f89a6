use Rattle.std.proofs.Common.{map, take}
use Rattle.package_form.specs.Distinct.{AreMet}
use Rattle.package_form.specs.Naming.{parameter_name}
use Rattle.package_names.proofs.distinct.distinct_parameters.Given as goal

abbrev pub invariant-loop-param : goal.invariant-loop-param
invariant-loop-param l = AreMet (map parameter_name (take l.param-index l.params)) l.scope
