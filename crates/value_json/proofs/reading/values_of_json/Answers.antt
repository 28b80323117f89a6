use Rattle.std.proofs.Common.{map, sym, ap, ◌∙◌, subst, rules}
use Rattle.values.proofs.PackageTypesAreStandard.{all-known-inside}
use Rattle.serde_json.specs.Data.{array}
use Rattle.serde_json.specs.View.{view, items_of}
use Rattle.tables.specs.Labelled.{labelled_types, labelled_members}
use Rattle.value_json.specs.Json.{MembersJson}
use Rattle.value_json.proofs.JsonAsData.{array-is, only_items}
use Rattle.value_json.proofs.JsonValuesAreTyped.{values-typed}
use Rattle.value_json.proofs.reading.values_of_json.Goals as goal

pub read_members-requires-clause-below : goal.read_members-requires-clause-below
read_members-requires-clause-below c = rw c.len-place.ensures (all-known-inside c.args.resolve.now c.args.types.now c.requires.known)

pub returns-in-Ok-clause-ok : goal.returns-in-Ok-clause-ok
returns-in-Ok-clause-ok c =
    let is_array = array-is _ _ c.in-Some.ensures ∙ ap (λ xs. array (items_of (map view xs))) (sym c.as_slice.ensures.value) in
    (map view c.as_slice.result.now, c.in-Ok.ensures.ok, is_array)

pub returns-in-Ok-clause-typed : goal.returns-in-Ok-clause-typed
returns-in-Ok-clause-typed c = values-typed c.args.resolve.now c.args.types.now _ _ c.in-Ok.ensures.ok

pub returns-in-Err-clause-other : goal.returns-in-Err-clause-other
returns-in-Err-clause-other c = λ e vs. λ (js, each, is_j).
    let is_array = array-is _ _ c.in-Some.ensures ∙ ap (λ xs. array (items_of (map view xs))) (sym c.as_slice.ensures.value) in
    let same = only_items js (map view c.as_slice.result.now) (sym is_j ∙ is_array) in
    c.in-Err.ensures.other (search (rules, e)) vs
    (subst (λ xs. MembersJson (labelled_members (labelled_types c.args.resolve.now) c.args.types.now) vs xs) same each)
