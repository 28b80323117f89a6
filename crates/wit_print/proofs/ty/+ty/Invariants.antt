use Rattle.std.proofs.Common.{[], drop, map}
use Rattle.wit_tokens.specs.View.{ty_view}
use Rattle.wit_tokens.specs.declared.token.Punctuation.TheVariants as mark
use Rattle.wit_print.specs.Words.{mark_word}
use Rattle.wit_print.specs.Canonical.{listed_words, ty_words}
use Rattle.wit_print.proofs.LeavesWords.{LeavesWords}
use Rattle.wit_print.proofs.ListsStillToWrite.{pending}
use Rattle.wit_print.proofs.ty.+ty.Given as goal

abbrev pub invariant-write_members-loop-index : goal.invariant-write_members-loop-index
invariant-write_members-loop-index l =
    let end = mark_word [] mark.Greater in
    LeavesWords (listed_words ty_words end [] (map ty_view l.member-items)) (pending ty_words end l.index (map ty_view (drop l.index l.member-items))) l.initial.out l.out
