use Rattle.std.proofs.Common.{Option, ap}
use Rattle.std.proofs.lemmas.Result.{on_ok_weaker}
use Rattle.wit_tokens.specs.declared.wit_syntax.ast.TypeExpression.{TypeExpression}
use Rattle.wit_tokens.specs.View.{optional_view}
use Rattle.wit_print.specs.Canonical.{payload_words}
use Rattle.wit_print.proofs.TextsOfWords.{adds_then, adds_same}
use Rattle.wit_print.proofs.definition.write_payload.Goals as goal

pub returns : goal.returns
returns c =
    let words = ap (λ (t : Option TypeExpression). payload_words (optional_view t)) c.in-Some.is in
    on_ok_weaker c.write_mark-2.result (λ h. adds_same words (adds_then c.in_ok-write_mark.ensures (adds_then c.in_ok-write_type.ensures h))) c.write_mark-2.ensures
