use Rattle.std.proofs.Common.{[], arith}
use Rattle.wit_tokens.specs.View.{field_view}
use Rattle.wit_tokens.specs.declared.token.Punctuation.TheVariants as mark
use Rattle.wit_print.specs.Words.{mark_word}
use Rattle.wit_print.specs.Canonical.{member_words}
use Rattle.wit_print.proofs.ListsStillToWrite.{listed-next}
use Rattle.wit_print.proofs.function.write_parameters.Goals as goal

pub loop-index-preserved : goal.loop-index-preserved
loop-index-preserved c =
    listed-next member_words (mark_word [] mark.CloseParenthesis) field_view c.args.params.now c.loop-index.index c.index-params-index.result c.in_ok-space.space.now (omega arith) c.index-params-index.is c.in_ok-space.ensures.space
    c.loop-index.invariant c.in_ok-space.ensures.comma c.in_ok-write_member.ensures
