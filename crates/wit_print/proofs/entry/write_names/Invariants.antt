use Rattle.std.proofs.Common.{[], drop, map}
use Rattle.wit_tokens.specs.View.{used_view}
use Rattle.wit_tokens.specs.declared.token.Punctuation.TheVariants as mark
use Rattle.wit_print.specs.Words.{mark_word}
use Rattle.wit_print.specs.Canonical.{listed_words, used_words}
use Rattle.wit_print.proofs.LeavesWords.{LeavesWords}
use Rattle.wit_print.proofs.ListsStillToWrite.{pending}
use Rattle.wit_print.proofs.entry.write_names.Given as goal

abbrev pub invariant-loop-index : goal.invariant-loop-index
invariant-loop-index l =
    let end = mark_word [] mark.CloseBrace in
    LeavesWords (listed_words used_words end [] (map used_view l.names)) (pending used_words end l.index (map used_view (drop l.index l.names))) l.initial.out l.out
