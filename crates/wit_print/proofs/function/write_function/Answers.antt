use Rattle.std.proofs.Common.{List, [], ap, map, sym}
use Rattle.std.proofs.lemmas.Result.{on_ok_weaker}
use Rattle.wit_tokens.specs.declared.wit_syntax.ast.Field.{Field}
use Rattle.wit_tokens.specs.View.{field_view}
use Rattle.wit_print.specs.Canonical.{parameter_words}
use Rattle.wit_print.proofs.TextsOfWords.{adds_then, adds_same}
use Rattle.wit_print.proofs.function.write_function.Goals as goal

pub returns : goal.returns
returns c =
    let params = adds_same (ap (λ (xs : List Field). parameter_words [] (map field_view xs)) (sym c.as_slice.ensures.value)) c.in_ok-write_parameters.ensures in
    on_ok_weaker c.write_mark-3.result
    (λ h. adds_then c.in_ok-write_mark.ensures (adds_then c.in_ok-write_keyword.ensures (adds_then c.in_ok-write_mark-2.ensures (adds_then params (adds_then c.in_ok-write_outcome.ensures h)))))
    c.write_mark-3.ensures
