use Rattle.std.proofs.lemmas.Result.{on_ok_weaker}
use Rattle.wit_print.proofs.TextsOfWords.{adds_then}
use Rattle.wit_print.proofs.definition.write_alias.Goals as goal

pub returns : goal.returns
returns c =
    on_ok_weaker c.write_mark-2.result (λ h. adds_then c.in_ok-write_keyword.ensures (adds_then c.in_ok-write_name.ensures (adds_then c.in_ok-write_mark.ensures (adds_then c.in_ok-write_type.ensures h)))) c.write_mark-2.ensures
