use Rattle.std.proofs.Common.{List, map, arith}
use Rattle.wit_tokens.specs.declared.wit_syntax.ast.Field.{Field}
use Rattle.wit_tokens.specs.View.{field_view}
use Rattle.wit_print.specs.Canonical.{lined_words, field_words}
use Rattle.wit_print.proofs.TextsOfWords.{leaves_then}
use Rattle.wit_print.proofs.ListsStillToWrite.{left-next}
use Rattle.wit_print.proofs.definition.write_fields.Goals as goal

pub loop-field-preserved : goal.loop-field-preserved
loop-field-preserved c =
    let left = left-next (λ (xs : List Field). lined_words field_words (map field_view xs)) c.args.fields.now c.loop-field.field-index c.field-item.result (omega arith) c.field-item.is c.loop-field.invariant in
    leaves_then (leaves_then left c.in_ok-write_member.ensures) c.in_ok-write_mark.ensures
