use Rattle.std.proofs.Common.{◌≡◌, Some, take}
use Rattle.component_reader.specs.Types.{all_found, parameter_read}
use Rattle.component_reader.proofs.types.parameters.Given as goal

abbrev pub invariant-loop-param : goal.invariant-loop-param
invariant-loop-param l = all_found (parameter_read l.rows) (take l.param-index l.raw) ≡ Some l.params.items
