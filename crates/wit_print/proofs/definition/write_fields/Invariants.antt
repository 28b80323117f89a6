use Rattle.std.proofs.Common.{drop, map}
use Rattle.wit_tokens.specs.View.{field_view}
use Rattle.wit_print.specs.Canonical.{lined_words, field_words}
use Rattle.wit_print.proofs.LeavesWords.{LeavesWords}
use Rattle.wit_print.proofs.definition.write_fields.Given as goal

abbrev pub invariant-loop-field : goal.invariant-loop-field
invariant-loop-field l = LeavesWords (lined_words field_words (map field_view l.fields)) (lined_words field_words (map field_view (drop l.field-index l.fields))) l.initial.out l.out
