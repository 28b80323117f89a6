use Rattle.std.proofs.Common.{◌≡◌, ◌++◌, flat_map, take}
use Rattle.package_form.specs.References.{case_references}
use Rattle.package_form.proofs.references.push_cases.Given as goal

abbrev pub invariant-loop-case : goal.invariant-loop-case
invariant-loop-case l = l.ids.items ≡ l.initial.ids.items ++ flat_map case_references (take l.case-index l.cases)
