use Rattle.std.proofs.Common.{◌≡◌, true, map, take}
use Rattle.std.specs.List.{list_all}
use Rattle.wit_tokens.specs.View.{case_view}
use Rattle.tree_meaning.specs.Resolves.{case_fits}
use Rattle.tree_names.proofs.nested.are_cases_nested.Given as goal

abbrev pub invariant-loop-case : goal.invariant-loop-case
invariant-loop-case l = list_all case_fits (map case_view (take l.case-index l.cases)) ≡ true
