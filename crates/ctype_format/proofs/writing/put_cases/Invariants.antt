use Rattle.std.proofs.Common.{◌≡◌, ◌++◌, drop}
use Rattle.ctype_format.specs.Writing.{each, counted, case_bytes}
use Rattle.ctype_format.specs.Formed.{All, FormedCase}
use Rattle.ctype_format.proofs.writing.put_cases.Given as goal

abbrev pub invariant-loop-case : goal.invariant-loop-case
invariant-loop-case l = (l.out.items ++ each case_bytes (drop l.case-index l.cases) ≡ l.fn.out.items ++ counted case_bytes l.cases) × (All FormedCase (drop l.case-index l.cases) → All FormedCase l.cases)
