use Rattle.std.proofs.Common.{sym, ◌∙◌, arith}
use Rattle.wit_tokens.specs.View.{case_view}
use Rattle.tree_meaning.specs.Resolves.{case_fits}
use Rattle.tree_names.proofs.NestingDepths.{all_false-at}
use Rattle.tree_names.proofs.nested.are_cases_nested.Goals as goal

pub returns-then-not-is_optional_nested : goal.returns-then-not-is_optional_nested
returns-then-not-is_optional_nested c =
    sym (all_false-at case_fits case_view c.args.cases.now c.loop-case.case-index c.case-item.result (omega arith) c.case-item.is (sym c.is_optional_nested.ensures ∙ c.if-not-is_optional_nested.true))
