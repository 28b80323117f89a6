use Rattle.std.proofs.Common.{map, sym, ap, ◌∙◌, subst}
use Rattle.serde_json.specs.Data.{array}
use Rattle.serde_json.specs.View.{view, items_of}
use Rattle.value_json.specs.Json.{FlagsJson}
use Rattle.value_json.proofs.JsonAsData.{array-is, only_items}
use Rattle.value_json.proofs.reading.read_flags.Goals as goal

pub returns-in-None-clause-other : goal.returns-in-None-clause-other
returns-in-None-clause-other c = λ e v. λ (n, js, stand, is_v, is_j).
    let is_array = array-is _ _ c.in-Some.ensures ∙ ap (λ xs. array (items_of (map view xs))) (sym c.as_slice.ensures.value) in
    c.in-None.ensures.none n (subst (FlagsJson c.args.labels.now n) (only_items js (map view c.as_slice.result.now) (sym is_j ∙ is_array)) stand)
