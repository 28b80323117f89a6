use Rattle.std.proofs.Common.{map, take, Contains}
use Rattle.package_form.specs.Scope.{lowered, lowered_name}
use Rattle.package_names.proofs.scope.is_among.Given as goal

abbrev pub invariant-loop-met : goal.invariant-loop-met
invariant-loop-met l = ¬ Contains (map lowered_name (take l.met-index l.names)) (lowered l.name)
