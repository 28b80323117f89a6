use Rattle.std.proofs.Common.{◌≡◌, Some, take}
use Rattle.component_reader.specs.Types.{all_found, case_read}
use Rattle.component_reader.proofs.types.cases.Given as goal

abbrev pub invariant-loop-case : goal.invariant-loop-case
invariant-loop-case l = all_found (case_read l.rows) (take l.case-index l.raw) ≡ Some l.cases.items
