use Rattle.std.proofs.Common.{List, map, arith}
use Rattle.wit_tokens.specs.declared.wit_syntax.ast.Case.{Case}
use Rattle.wit_tokens.specs.View.{case_view}
use Rattle.wit_print.specs.Canonical.{lined_words, case_words}
use Rattle.wit_print.proofs.TextsOfWords.{leaves_then}
use Rattle.wit_print.proofs.ListsStillToWrite.{left-next}
use Rattle.wit_print.proofs.definition.write_cases.Goals as goal

pub loop-case-preserved : goal.loop-case-preserved
loop-case-preserved c =
    let left = left-next (λ (xs : List Case). lined_words case_words (map case_view xs)) c.args.cases.now c.loop-case.case-index c.case-item.result (omega arith) c.case-item.is c.loop-case.invariant in
    leaves_then (leaves_then left c.in_ok-write_case.ensures) c.in_ok-write_mark.ensures
