use Rattle.std.proofs.Common.{◌≡◌, [], ◌∷◌, ◌++◌, map, length, sym, ap, ◌∙◌, subst, append_assoc, append-nil}
use Rattle.std.proofs.lemmas.List.{map-append}
use Rattle.canonical_abi.specs.Values.{flags_value}
use Rattle.serde_json.specs.Data.{string}
use Rattle.serde_json.specs.View.{view}
use Rattle.serde_json.proofs.Views.{view-Array}
use Rattle.values.specs.Val.{value_of}
use Rattle.values.proofs.ValueOfEachVariant.{value_of-Flags}
use Rattle.value_json.specs.Json.{FlagsJson}
use Rattle.value_json.proofs.WrittenStandsForValue.{bits-below, flag-set, flag-unset, no-flag-left}
use Rattle.value_json.proofs.writing.write_flags.Goals as goal
use Rattle.value_json.proofs.writing.write_flags.Goals.{then-rest-eq1+in_ok-text_of+in_ok-push, else-rest-eq1}

pub loop-label-preserved : goal.loop-label-preserved
loop-label-preserved c = (
  bits-below c.loop-label.rest (length c.args.labels.now) c.loop-label.label-index c.loop-label-test.true c.loop-label.invariant.0,
  λ n is js stands.
      let ls = c.args.labels.now in
      let l = c.label-item.result in
      let olds = map view c.loop-label.items.items in
      elim c.if-rest-eq1.branch [
        | then-rest-eq1+in_ok-text_of+in_ok-push w ↦
            let item : view w.in_ok-text_of.field-0 ≡ string l = w.in_ok-text_of.ensures ∙ ap string w.as_str.ensures.is in
            let items : map view c.if-rest-eq1.items.items ≡ olds ++ string l ∷ [] =
            ap (λ v. map view v.items) w.items-is ∙ ap (map view) w.in_ok-push.ensures.items ∙ map-append view c.loop-label.items.items _ ∙ ap (λ d. olds ++ d ∷ []) item in
            let before = c.loop-label.invariant.1 n is (string l ∷ js)
            (flag-set ls c.loop-label.label-index l c.loop-label.rest js c.loop-label-test.true c.label-item.is w.if-rest-eq1.true stands) in
            subst (λ xs. FlagsJson ls n (xs ++ js)) (sym items) (subst (FlagsJson ls n) (sym (append_assoc olds (string l ∷ []) js)) before)
        | else-rest-eq1 w ↦
            let before = c.loop-label.invariant.1 n is js
            (flag-unset ls c.loop-label.label-index l c.loop-label.rest js c.loop-label-test.true c.label-item.is w.if-rest-eq1.false stands) in
            subst (λ v. FlagsJson ls n (map view v.items ++ js)) (sym w.items-is) before
      ],
)

pub returns : goal.returns
returns c =
    let bits = c.in-Flags.bits in
    let is : value_of c.args.value.now ≡ flags_value bits = ap value_of c.in-Flags.is ∙ value_of-Flags bits in
    let left = no-flag-left c.args.labels.now c.loop-label.label-index c.loop-label.rest c.loop-label-test.false c.loop-label.invariant.0 in (
      bits,
      map view c.loop-label.items.items,
      subst (FlagsJson c.args.labels.now bits) (append-nil _) (c.loop-label.invariant.1 bits is [] left),
      is,
      view-Array c.loop-label.items,
    )
