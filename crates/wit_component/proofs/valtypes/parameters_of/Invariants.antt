use Rattle.std.proofs.Common.{◌≡◌, map, take}
use Rattle.wit_component.specs.Rows.{parameter_of}
use Rattle.wit_component.proofs.valtypes.parameters_of.Given as goal

abbrev pub invariant-loop-param : goal.invariant-loop-param
invariant-loop-param l = l.raw.items ≡ map (parameter_of l.indices) (take l.param-index l.params)
