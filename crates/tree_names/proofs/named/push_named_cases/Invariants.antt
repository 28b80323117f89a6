use Rattle.std.proofs.Common.{◌≡◌, ◌++◌, map, flat_map, take}
use Rattle.wit_tokens.specs.View.{case_view}
use Rattle.tree_meaning.specs.Declarations.{named_case}
use Rattle.tree_scopes.specs.Lent.{lent_names}
use Rattle.tree_names.proofs.named.push_named_cases.Given as goal

abbrev pub invariant-loop-case : goal.invariant-loop-case
invariant-loop-case l = lent_names l.names.items ≡ lent_names l.initial.names.items ++ flat_map named_case (map case_view (take l.case-index l.cases))
