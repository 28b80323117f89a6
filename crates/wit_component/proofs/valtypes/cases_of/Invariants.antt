use Rattle.std.proofs.Common.{◌≡◌, map, take}
use Rattle.wit_component.specs.Rows.{case_of}
use Rattle.wit_component.proofs.valtypes.cases_of.Given as goal

abbrev pub invariant-loop-case : goal.invariant-loop-case
invariant-loop-case l = l.raw.items ≡ map (case_of l.indices) (take l.case-index l.cases)
