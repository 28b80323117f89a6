use Rattle.std.proofs.Common.{◌≡◌, Some, slice_get, length, refl, ap, ◌∙◌, subst, inl, arith}
use Rattle.std.proofs.lemmas.Option.{slice_get_read}
use Rattle.canonical_abi.specs.Labelled.{labelled_enum, no_payload}
use Rattle.serde_json.specs.Data.{string}
use Rattle.serde_json.specs.View.{view}
use Rattle.values.specs.Val.{value_of}
use Rattle.value_json.specs.Json.{Json}
use Rattle.value_json.proofs.WrittenStandsForValue.{label-found, one-case, ok-map}
use Rattle.value_json.proofs.writing.write_label.Goals as goal

pub case_of-number-requires : goal.case_of-number-requires
case_of-number-requires c =
    let (i, is) = c.requires.typed in
    (i, inl (label-found c.args.labels.now _ i i is).1)

pub bounds-labels-number : goal.bounds-labels-number
bounds-labels-number c =
    let (i, is) = c.requires.typed in
    let (less, plain) = label-found c.args.labels.now _ i i is in
    omega (arith, less, one-case no_payload _ c.case_of-number.result i c.case_of-number.ensures plain)

pub returns : goal.returns
returns c =
    let ls = c.args.labels.now in
    let (i, is) = c.requires.typed in
    let (less, plain) = label-found ls _ i i is in
    let number = c.case_of-number.result in
    let same : number ≡ i = one-case no_payload _ number i c.case_of-number.ensures plain in
    let l = c.index-labels-number.result in
    let at : slice_get ls number ≡ Some l = slice_get_read ls (length ls) number l refl (omega (arith, less, same)) c.index-labels-number.is in
    ok-map (λ j. view j ≡ string c.as_str.result.now) (λ j. Json (labelled_enum ls) (value_of c.args.value.now) (view j)) c.text_of.result
    (λ j e. (i, l, subst (λ n. slice_get ls n ≡ Some l) same at, plain, e ∙ ap string c.as_str.ensures.is)) c.text_of.ensures
