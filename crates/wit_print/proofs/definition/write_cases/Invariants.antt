use Rattle.std.proofs.Common.{drop, map}
use Rattle.wit_tokens.specs.View.{case_view}
use Rattle.wit_print.specs.Canonical.{lined_words, case_words}
use Rattle.wit_print.proofs.LeavesWords.{LeavesWords}
use Rattle.wit_print.proofs.definition.write_cases.Given as goal

abbrev pub invariant-loop-case : goal.invariant-loop-case
invariant-loop-case l = LeavesWords (lined_words case_words (map case_view l.cases)) (lined_words case_words (map case_view (drop l.case-index l.cases))) l.initial.out l.out
