use Rattle.std.proofs.Common.{List, [], ap, map, sym}
use Rattle.std.proofs.lemmas.Result.{on_ok_weaker}
use Rattle.wit_tokens.specs.declared.wit_syntax.ast.UsedName.{UsedName}
use Rattle.wit_tokens.specs.View.{used_view}
use Rattle.wit_print.specs.Canonical.{uses_words}
use Rattle.wit_print.proofs.TextsOfWords.{adds_then, adds_same}
use Rattle.wit_print.proofs.entry.write_use.Goals as goal

pub returns : goal.returns
returns c =
    let names = adds_same (ap (λ (xs : List UsedName). uses_words [] (map used_view xs)) (sym c.as_slice.ensures.value)) c.in_ok-write_names.ensures in
    on_ok_weaker c.write_mark-3.result
    (λ h. adds_then c.in_ok-write_keyword.ensures (adds_then c.in_ok-write_path.ensures (adds_then c.in_ok-write_mark.ensures (adds_then c.in_ok-write_mark-2.ensures (adds_then names h)))))
    c.write_mark-3.ensures
