use Rattle.std.proofs.Common.{◌≡◌, ◌-◌, ◌∷◌, map, length, take, drop, ap, ◌∙◌, subst}
use Rattle.serde_json.specs.Data.{string}
use Rattle.serde_json.specs.View.{view}
use Rattle.value_json.specs.Json.{FlagsJson}
use Rattle.value_json.proofs.FlagsAsSetLabels.{none-taken, split-list}
use Rattle.value_json.proofs.reading.+read_bits.Goals as goal

pub returns-in-None-clause-none : goal.returns-in-None-clause-none
returns-in-None-clause-none t c =
    let ls = c.args.labels.now in
    let xs = c.args.items.now in
    let l = c.label-item.result in
    let x = c.item-item.result in
    let text : view x ≡ string l = c.is_text.ensures.0 c.if-is_text.true ∙ ap string c.as_str.ensures.is in
    let labels = split-list ls l c.in-len1-up.len_at_least c.label-item.is in
    let items = split-list xs x c.in-len1-up-items.len_at_least c.item-item.is in
    λ n stand.
    let here : FlagsJson (l ∷ take (length ls - 1) (drop 1 ls)) n (view x ∷ map view (take (length xs - 1) (drop 1 xs))) =
    subst (λ js. FlagsJson (l ∷ take (length ls - 1) (drop 1 ls)) n js) (ap (map view) items) (subst (λ ks. FlagsJson ks n (map view xs)) labels stand) in
    none-taken l _ (view x) _ c.in-None.ensures.none n here
