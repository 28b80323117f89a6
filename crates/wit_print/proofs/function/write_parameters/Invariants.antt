use Rattle.std.proofs.Common.{[], drop, map}
use Rattle.wit_tokens.specs.View.{field_view}
use Rattle.wit_tokens.specs.declared.token.Punctuation.TheVariants as mark
use Rattle.wit_print.specs.Words.{mark_word}
use Rattle.wit_print.specs.Canonical.{listed_words, member_words}
use Rattle.wit_print.proofs.LeavesWords.{LeavesWords}
use Rattle.wit_print.proofs.ListsStillToWrite.{pending}
use Rattle.wit_print.proofs.function.write_parameters.Given as goal

abbrev pub invariant-loop-index : goal.invariant-loop-index
invariant-loop-index l =
    let end = mark_word [] mark.CloseParenthesis in
    LeavesWords (listed_words member_words end [] (map field_view l.params)) (pending member_words end l.index (map field_view (drop l.index l.params))) l.initial.out l.out
