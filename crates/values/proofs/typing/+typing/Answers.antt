use Rattle.std.proofs.Common.{◌≡◌, ◌<◌, List, length, map, Some, None, option_map, refl, sym, ap, ◌∙◌, subst, arith}
use Rattle.std.proofs.lemmas.List.{length-map, get_or-map}
use Rattle.std.proofs.lemmas.Str.{IsUtf8-string_bytes}
use Rattle.std.specs.List.{AllByRecursion}
use Rattle.canonical_abi.specs.Types.{variant_cases, nth_case, record_fields}
use Rattle.canonical_abi.specs.Values.{Value, HasType, HaveTypes, values_of}
use Rattle.tables.specs.Closed.{closed_type, closed_types}
use Rattle.values.specs.Members.{members_fields}
use Rattle.values.specs.Val.{value_of}
use Rattle.values.proofs.FieldsFromAPlace.{nth_field-some}
use Rattle.values.proofs.ValuesOfTypesByShape.{not-string, not-list, not-record, not-flags, string-is, list-is, is-list, record-is, is-record, plain-is, payload-is, is-payload, no-payload, no-plain, no-case, all-step, all-at, typed-count, have-both, have-first, have-rest, have-none}
use Rattle.values.proofs.ValueOfEachVariant.{value_of-List, value_of-Record, value_of-String, value_of-Flags}
use Rattle.values.proofs.typing.+typing.Goals as goal

pub are_of-returns-then-not-is_of : goal.are_of-returns-then-not-is_of
are_of-returns-then-not-is_of t c =
    let P : Value → Type 0 = λ w. HasType w (closed_type c.args.table.now c.args.element) in
    let vs = map value_of c.args.items.now in
    let here = get_or-map value_of c.args.items.now c.loop-item.item-index c.item-item.result (value_of c.item-item.result) c.loop-item-test.true ∙ ap value_of (sym c.item-item.is) in
    let below : c.loop-item.item-index < length vs = omega (arith, length-map c.args.items.now value_of, c.loop-item-test.true) in
    (λ no. cc, λ all. c.if-not-is_of.ensures.1 (subst P here (all-at P vs c.loop-item.item-index (value_of c.item-item.result) below all)))

pub are_of-loop-item-preserved : goal.are_of-loop-item-preserved
are_of-loop-item-preserved t c =
    let P : Value → Type 0 = λ w. HasType w (closed_type c.args.table.now c.args.element) in
    let vs = map value_of c.args.items.now in
    let here = get_or-map value_of c.args.items.now c.loop-item.item-index c.item-item.result (value_of c.item-item.result) c.loop-item-test.true ∙ ap value_of (sym c.item-item.is) in
    let below : c.loop-item.item-index < length vs = omega (arith, length-map c.args.items.now value_of, c.loop-item-test.true) in
    all-step P vs c.loop-item.item-index (value_of c.item-item.result) below c.loop-item.invariant (subst P (sym here) (c.if-not-is_of.ensures.0 refl))

pub members_have_types-returns-then-values-count : goal.members_have_types-returns-then-values-count
members_have_types-returns-then-values-count t c =
    let fs = members_fields c.args.table.now c.args.members.now in
    (λ no. cc, λ have. absurd (c.if-values-count.true (sym (length-map c.args.values.now value_of) ∙ typed-count fs (map value_of c.args.values.now) have ∙ c.requires.counted)))

pub members_have_types-unreachable-requires : goal.members_have_types-unreachable-requires
members_have_types-unreachable-requires t c =
    nth_field-some (members_fields c.args.table.now c.args.members.now) c.loop-index.index (omega (arith, c.requires.counted)) (sym c.in_default.ensures.found)

pub members_have_types-returns-then-not-is_of : goal.members_have_types-returns-then-not-is_of
members_have_types-returns-then-not-is_of t c =
    let fs = members_fields c.args.table.now c.args.members.now in
    let vs = map value_of c.args.values.now in
    let u = closed_type c.args.table.now c.in-Some.member in
    let P : Value → Type 0 = λ w. HasType w u in
    let v = c.index-values-index.result in
    let at : c.loop-index.index < length c.args.values.now = omega (arith, c.if-values-count.false, c.loop-index-test.true) in
    let here = get_or-map value_of c.args.values.now c.loop-index.index v (value_of v) at ∙ ap value_of (sym c.index-values-index.is) in
    let below : c.loop-index.index < length vs = omega (arith, length-map c.args.values.now value_of, at) in
    (λ no. cc, λ have. c.if-not-is_of.ensures.1 (subst P here (have-first fs vs c.loop-index.index u (value_of v) (sym c.in-Some.ensures.found) below (c.loop-index.invariant.0 have))))

pub members_have_types-loop-index-preserved : goal.members_have_types-loop-index-preserved
members_have_types-loop-index-preserved t c =
    let fs = members_fields c.args.table.now c.args.members.now in
    let vs = map value_of c.args.values.now in
    let u = closed_type c.args.table.now c.in-Some.member in
    let P : Value → Type 0 = λ w. HasType w u in
    let v = c.index-values-index.result in
    let at : c.loop-index.index < length c.args.values.now = omega (arith, c.if-values-count.false, c.loop-index-test.true) in
    let here = get_or-map value_of c.args.values.now c.loop-index.index v (value_of v) at ∙ ap value_of (sym c.index-values-index.is) in
    let below : c.loop-index.index < length vs = omega (arith, length-map c.args.values.now value_of, at) in
    let next = sym c.in-Some.ensures.found in (
      λ have. have-rest fs vs c.loop-index.index u (value_of v) next below (c.loop-index.invariant.0 have),
      λ rest. c.loop-index.invariant.1 (have-both fs vs c.loop-index.index u (value_of v) next below (subst P (sym here) (c.if-not-is_of.ensures.0 refl)) rest),
    )

pub members_have_types-returns : goal.members_have_types-returns
members_have_types-returns t c =
    let fs = members_fields c.args.table.now c.args.members.now in
    let vs = map value_of c.args.values.now in
    let i : c.args.count ≡ c.loop-index.index = omega arith in
    (λ yes. c.loop-index.invariant.1 (have-none fs vs c.loop-index.index (c.requires.counted ∙ i) (length-map c.args.values.now value_of ∙ c.if-values-count.false ∙ i)), λ have. refl)

pub is_of-returns-in-String-matches : goal.is_of-returns-in-String-matches
is_of-returns-in-String-matches t c =
    let r = c.args.table.now in
    rw (c.in-String.is, value_of-String)
    (λ yes. string-is c.in-String.field-0.bytes.items (closed_type r c.args.ty) c.in-String-matches.ensures.shape.0 (IsUtf8-string_bytes c.in-String.field-0), λ typed. refl)

pub is_of-returns-in_default-matches : goal.is_of-returns-in_default-matches
is_of-returns-in_default-matches t c =
    let r = c.args.table.now in
    rw (c.in-String.is, value_of-String)
    (λ no. cc, λ typed. absurd (not-string (closed_types r) (closed_type r c.args.ty) c.shape_of-shape.result c.in-String.field-0.bytes.items c.shape_of-shape.ensures.shape.0 c.in_default-matches.not-String typed))

pub is_of-returns-in-List-shape : goal.is_of-returns-in-List-shape
is_of-returns-in-List-shape t c =
    let r = c.args.table.now in
    let vs = map value_of c.in-List.items.items in
    let u = closed_type r c.in-List-shape.element in
    let P : List Value → Type 0 = λ xs. AllByRecursion (λ w. HasType w u) xs in
    let same = ap (map value_of) c.as_slice.ensures.value in
    rw (c.in-List.is, value_of-List) (
      λ yes. list-is vs (closed_type r c.args.ty) u c.in-List-shape.ensures.shape.0 (subst P same (c.are_of.ensures.0 yes)),
      λ typed. c.are_of.ensures.1 (subst P (sym same) (is-list vs (closed_type r c.args.ty) u c.in-List-shape.ensures.shape.0 typed)),
    )

pub is_of-returns-in_default-shape : goal.is_of-returns-in_default-shape
is_of-returns-in_default-shape t c =
    let r = c.args.table.now in
    rw (c.in-List.is, value_of-List)
    (λ no. cc, λ typed. absurd (not-list (closed_types r) (closed_type r c.args.ty) c.shape_of-shape.result (values_of (map value_of c.in-List.items.items)) c.shape_of-shape.ensures.shape.0 c.in_default-shape.not-List typed))

pub is_of-returns-in-Record-shape : goal.is_of-returns-in-Record-shape
is_of-returns-in-Record-shape t c =
    let r = c.args.table.now in
    let vs = map value_of c.in-Record.fields.items in
    let T = closed_type r c.args.ty in
    let shaped = c.in-Record-shape.ensures.shape.0 in
    let P : List Value → Type 0 = λ xs. HaveTypes xs (record_fields T) in
    let same = ap (map value_of) c.as_slice-in-Record-shape.ensures.value in
    rw (c.in-Record.is, value_of-Record) (
      λ yes. record-is vs T shaped.0 shaped.1 (subst P same (c.members_have_types.ensures.0 yes)),
      λ typed. c.members_have_types.ensures.1 (subst P (sym same) (is-record vs T shaped.0 shaped.1 typed)),
    )

pub is_of-returns-in_default-shape-2 : goal.is_of-returns-in_default-shape-2
is_of-returns-in_default-shape-2 t c =
    let r = c.args.table.now in
    rw (c.in-Record.is, value_of-Record)
    (λ no. cc, λ typed. absurd (not-record (closed_types r) (closed_type r c.args.ty) c.shape_of-shape.result (values_of (map value_of c.in-Record.fields.items)) c.shape_of-shape.ensures.shape.0 c.in_default-shape-2.not-Record typed))

pub is_of-returns-in_default-shape-4 : goal.is_of-returns-in_default-shape-4
is_of-returns-in_default-shape-4 t c =
    let r = c.args.table.now in
    rw (c.in-Flags.is, value_of-Flags)
    (λ no. cc, λ typed. absurd (not-flags (closed_types r) (closed_type r c.args.ty) c.shape_of-shape.result c.in-Flags.bits c.shape_of-shape.ensures.shape.0 c.in_default-shape-4.not-Flags typed))

pub is_of-returns-in-Some : goal.is_of-returns-in-Some
is_of-returns-in-Some t c =
    let r = c.args.table.now in
    rw (← c.in-Some.ensures.value) (c.scalar_is_of.ensures (closed_types r) (closed_type r c.args.ty) c.shape_of-shape.ensures.shape.0)

pub is_of_case-returns-in_default : goal.is_of_case-returns-in_default
is_of_case-returns-in_default t c =
    let T = closed_type c.args.table.now c.args.ty in
    (λ no. cc, λ typed. absurd (no-case T c.args.case c.requires.variant c.args.payload.now (sym c.in_default.ensures.found) typed))

pub is_of_case-returns-in-None-known : goal.is_of_case-returns-in-None-known
is_of_case-returns-in-None-known t c =
    let T = closed_type c.args.table.now c.args.ty in
    let found : nth_case (variant_cases T) c.args.case ≡ Some None = sym c.in-Some.ensures.found ∙ ap (λ o. Some (option_map (closed_type c.args.table.now) o)) c.in-None-known.is in
    rw c.in-None.is (λ yes. plain-is T c.args.case c.requires.variant found, λ typed. refl)

pub is_of_case-returns-in-Some-known : goal.is_of_case-returns-in-Some-known
is_of_case-returns-in-Some-known t c =
    let T = closed_type c.args.table.now c.args.ty in
    let u = closed_type c.args.table.now c.in-Some-known.field-0 in
    let found : nth_case (variant_cases T) c.args.case ≡ Some (Some u) = sym c.in-Some.ensures.found ∙ ap (λ o. Some (option_map (closed_type c.args.table.now) o)) c.in-Some-known.is in
    rw c.in-None.is (λ no. cc, λ typed. absurd (no-plain T c.args.case c.requires.variant u found typed))

pub is_of_case-returns-in-Some-known-2 : goal.is_of_case-returns-in-Some-known-2
is_of_case-returns-in-Some-known-2 t c =
    let T = closed_type c.args.table.now c.args.ty in
    let u = closed_type c.args.table.now c.in-Some-known-2.member in
    let w = value_of c.in-Some-payload.value.value in
    let P : Value → Type 0 = λ x. HasType x u in
    let same = ap value_of c.deref.ensures in
    let found : nth_case (variant_cases T) c.args.case ≡ Some (Some u) = sym c.in-Some.ensures.found ∙ ap (λ o. Some (option_map (closed_type c.args.table.now) o)) c.in-Some-known-2.is in
    rw c.in-Some-payload.is (
      λ yes. payload-is T c.args.case c.requires.variant u w found (subst P same (c.is_of.ensures.0 yes)),
      λ typed. c.is_of.ensures.1 (subst P (sym same) (is-payload T c.args.case c.requires.variant u w found typed)),
    )

pub is_of_case-returns-in-None-known-2 : goal.is_of_case-returns-in-None-known-2
is_of_case-returns-in-None-known-2 t c =
    let T = closed_type c.args.table.now c.args.ty in
    let found : nth_case (variant_cases T) c.args.case ≡ Some None = sym c.in-Some.ensures.found ∙ ap (λ o. Some (option_map (closed_type c.args.table.now) o)) c.in-None-known-2.is in
    rw c.in-Some-payload.is (λ no. cc, λ typed. absurd (no-payload T c.args.case c.requires.variant (value_of c.in-Some-payload.value.value) found typed))
