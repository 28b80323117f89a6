use Rattle.std.proofs.lemmas.Str.{IsUtf8-string_bytes, is_utf8-from_IsUtf8}
use Rattle.std.proofs.Common.{string_bytes, sym, ap, ◌∙◌}
use Rattle.serde_json.specs.Data.{string}
use Rattle.values.proofs.ValueOfEachVariant.{value_of-String}
use Rattle.value_json.proofs.JsonAsData.{text-is}
use Rattle.value_json.proofs.reading.read_text.Goals as goal

pub returns-in_ok-from_str-in-Some-clause-ok : goal.returns-in_ok-from_str-in-Some-clause-ok
returns-in_ok-from_str-in-Some-clause-ok c =
    let s = c.in_ok-from_str-in-Some.field-0 in (
      string_bytes s,
      is_utf8-from_IsUtf8 _ (IsUtf8-string_bytes s),
      value_of-String s,
      text-is _ _ c.in-Some.ensures ∙ ap string (sym c.in_ok-from_str-in-Some.ensures.ok),
    )
