use Rattle.std.proofs.Common.{◌≡◌, suc, ◌-◌, ◌<◌, List, [], length, map, take, drop, Some, None, option_map, refl, sym, ap, ◌∙◌, subst, arith}
use Rattle.std.proofs.lemmas.List.{length-map, get_or-map, drop_all}
use Rattle.std.proofs.lemmas.Result.{err_from_is_err_and}
use Rattle.std.specs.List.{AllByRecursion}
use Rattle.canonical_abi.specs.Types.{ClosedType, IsStandard, list_type, record_type, record_fields, variant_cases, nth_case, depth}
use Rattle.canonical_abi.specs.Values.{Value, HasType, HaveTypes, values_of, list_value, record_value}
use Rattle.canonical_abi.specs.Layout.{flat_kinds, payload_kinds}
use Rattle.canonical_abi.specs.declared.flat.CoreKind.TheVariants.{I32}
use Rattle.tables.specs.Closed.{closed_type, closed_types}
use Rattle.values.specs.Members.{members_fields}
use Rattle.values.specs.Scalar.{prim_in, value_in}
use Rattle.values.specs.Val.{value_of}
use Rattle.values.proofs.TypesExtents.{member-depth, case-depth}
use Rattle.lift_lower.proofs.LiftingStepByStep.{kinds-next, payload-kinds}
use Rattle.lift_lower.proofs.LoweredFromParts.{lowering-begun, lowering-next, lowering-ended, lowering-done, lowering-room, joined-told, behind-first, record-lowered, record-lowering-ended, case-lowered, plain-case-lowered, case-lowering-ended, scalar-lowered, flags-lowered}
use Rattle.values.proofs.WeakerAnswers.{if-err-as, on-ok-as}
use Rattle.values.proofs.FieldsFromAPlace.{nth_field-some}
use Rattle.values.proofs.ValuesOfTypesByShape.{not-list, is-list, is-record, type-of-scalar, type-of-text, type-of-record, type-of-flags, is-plain, is-payload, no-payload, no-case, typed-count, have-first, have-rest, field-standard, case-standard}
use Rattle.values.proofs.ValueOfEachVariant.{value_of-List, value_of-Record, value_of-String, value_of-Flags}
use Rattle.lift_lower.proofs.lower_flat.+lower.Goals as goal

pub lower_at-lower_text-requires : goal.lower_at-lower_text-requires
lower_at-lower_text-requires g t c =
    let T = closed_type c.args.table.now c.args.ty in
    let e : length (flat_kinds T) ≡ 2 = ap (λ x. length (flat_kinds x)) (type-of-text T _ (rw (c.in-String.is, value_of-String) at c.requires.typed)) in
    record { room = omega (arith, e, c.requires.room) }

pub lower_at-unreachable-requires : goal.lower_at-unreachable-requires
lower_at-unreachable-requires g t c =
    let r = c.args.table.now in
    let P : ClosedType → Type 0 = λ x. HasType (list_value (values_of (map value_of c.in-List.items.items))) x in
    let typed = (rw (c.in-List.is, value_of-List) at c.requires.typed) in
    not-list (closed_types r) (closed_type r c.args.ty) c.shape_of.result (values_of (map value_of c.in-List.items.items)) c.shape_of.ensures.shape.0 c.in_default-shape_of.not-List typed

pub lower_at-lower_list-requires-clause-typed : goal.lower_at-lower_list-requires-clause-typed
lower_at-lower_list-requires-clause-typed g t c =
    let r = c.args.table.now in
    let T = closed_type r c.args.ty in
    let u = closed_type r c.in-List-shape_of.element in
    let e : T ≡ list_type u = c.in-List-shape_of.ensures.shape.0 in
    let P : List Value → Type 0 = λ xs. AllByRecursion (λ w. HasType w u) xs in
    let typed = is-list (map value_of c.in-List.items.items) T u e (rw (c.in-List.is, value_of-List) at c.requires.typed) in
    subst P (sym (ap (map value_of) c.as_slice-items.ensures.value)) typed

pub lower_at-lower_fields-requires : goal.lower_at-lower_fields-requires
lower_at-lower_fields-requires g t c κs within =
    let r = c.args.table.now in
    let T = closed_type r c.args.ty in
    let F = closed_type r c.args.ty in
    let same : T ≡ F = refl in
    let vs = map value_of c.in-Record.fields.items in
    let P : ClosedType → Type 0 = λ x. HasType (record_value (values_of vs)) x in
    let typed : P F = subst P same (rw (c.in-Record.is, value_of-Record) at c.requires.typed) in
    let only = type-of-record F (values_of vs) typed in
    let fs = record_fields F in
    let deep : depth T ≡ depth (record_type fs) = ap depth (same ∙ only) in
    let wide : length (flat_kinds T) ≡ length (flat_kinds (record_type fs)) = ap (λ x. length (flat_kinds x)) (same ∙ only) in
    let standard = subst IsStandard (same ∙ only) c.requires.standard in
    let Q : List Value → Type 0 = λ xs. HaveTypes xs fs in
    let values = subst Q (sym (ap (map value_of) c.as_slice-fields.ensures.value)) (is-record vs F fs only typed) in
    (omega (arith, deep, c.decreases), (within, (c.requires.inside, (standard.1, (values, omega (arith, wide, c.requires.room))))))

pub lower_at-returns-in-String-clause-ok : goal.lower_at-returns-in-String-clause-ok
lower_at-returns-in-String-clause-ok g t c =
    let T = closed_type c.args.table.now c.args.ty in
    let e = type-of-text T _ (rw (c.in-String.is, value_of-String) at c.requires.typed) in
    rw (c.in-String.is, value_of-String, e, ← c.as_str.ensures.value) c.lower_text.ensures.ok

pub lower_at-returns-in-String-clause-fault : goal.lower_at-returns-in-String-clause-fault
lower_at-returns-in-String-clause-fault g t c =
    let T = closed_type c.args.table.now c.args.ty in
    let e = type-of-text T _ (rw (c.in-String.is, value_of-String) at c.requires.typed) in
    rw (c.in-String.is, value_of-String, e, ← c.as_str.ensures.value) c.lower_text.ensures.fault

pub lower_at-returns-in-Record-clause-ok : goal.lower_at-returns-in-Record-clause-ok
lower_at-returns-in-Record-clause-ok g t c =
    let r = c.args.table.now in
    let T = closed_type r c.args.ty in
    let F = closed_type r c.args.ty in
    let same : T ≡ F = refl in
    let vs = map value_of c.in-Record.fields.items in
    let P : ClosedType → Type 0 = λ x. HasType (record_value (values_of vs)) x in
    let typed : P F = subst P same (rw (c.in-Record.is, value_of-Record) at c.requires.typed) in
    let e : T ≡ record_type (record_fields F) = same ∙ type-of-record F (values_of vs) typed in
    let given = rw c.as_slice-fields.ensures.value at c.lower_fields.ensures.ok in
    rw (c.in-Record.is, value_of-Record, e) (on-ok-as c.lower_fields.result _ _ (record-lowered c.args.limit g.G.Guest.allocates c.args.flats.now.items c.lower_fields.new.flats.items (record_fields F) vs (g.G.Guest.memory c.args.guest.now) (g.G.Guest.memory c.lower_fields.new.guest)) given)

pub lower_at-returns-in-Record-clause-fault : goal.lower_at-returns-in-Record-clause-fault
lower_at-returns-in-Record-clause-fault g t c =
    let r = c.args.table.now in
    let T = closed_type r c.args.ty in
    let F = closed_type r c.args.ty in
    let same : T ≡ F = refl in
    let vs = map value_of c.in-Record.fields.items in
    let P : ClosedType → Type 0 = λ x. HasType (record_value (values_of vs)) x in
    let typed : P F = subst P same (rw (c.in-Record.is, value_of-Record) at c.requires.typed) in
    let e : T ≡ record_type (record_fields F) = same ∙ type-of-record F (values_of vs) typed in
    let given = rw c.as_slice-fields.ensures.value at c.lower_fields.ensures.fault in
    rw (c.in-Record.is, value_of-Record, e) (if-err-as c.lower_fields.result _ _ (λ k h. record-lowering-ended c.args.limit g.G.Guest.allocates (g.G.Guest.memory c.args.guest.now) k (g.G.Guest.memory c.lower_fields.new.guest) (record_fields F) vs h) given)

pub lower_at-returns-in-Flags-clause-ok : goal.lower_at-returns-in-Flags-clause-ok
lower_at-returns-in-Flags-clause-ok g t c =
    let T = closed_type c.args.table.now c.args.ty in
    let bits = c.in-Flags.bits in
    let only = type-of-flags T bits (rw (c.in-Flags.is, value_of-Flags) at c.requires.typed) in
    rw (c.in-Flags.is, value_of-Flags, only.1) (flags-lowered c.args.limit g.G.Guest.allocates c.args.flats.now.items c.push.new.self.items only.0 bits (g.G.Guest.memory c.args.guest.now) only.2 c.push.ensures.items)

pub lower_at-returns-in-Some : goal.lower_at-returns-in-Some
lower_at-returns-in-Some g t c =
    let T = closed_type c.args.table.now c.args.ty in
    let s = c.in-Some.scalar in
    let P : Value → Type 0 = λ v. HasType v T in
    let e = type-of-scalar T (value_in s) (prim_in s) c.in-Some.ensures.typed (subst P (sym c.in-Some.ensures.value) c.requires.typed) in
    let told = rw c.lower_scalar.ensures at c.push-in_default.ensures.items in
    let done = scalar-lowered c.args.limit g.G.Guest.allocates c.args.flats.now.items c.push-in_default.new.self.items (prim_in s) (value_in s) (g.G.Guest.memory c.args.guest.now) c.in-Some.ensures.typed told in
    record { ok = rw (e, ← c.in-Some.ensures.value) done; fault = tt }

-- ---- the members of a record

pub lower_fields-loop-index-init : goal.lower_fields-loop-index-init
lower_fields-loop-index-init g t c =
    (lowering-begun c.args.limit g.G.Guest.allocates (members_fields c.args.table.now c.args.members.now) (map value_of c.args.values.now) c.args.flats.now.items (g.G.Guest.memory c.args.guest.now), c.requires.typed, c.requires.room)

pub lower_fields-unreachable-requires : goal.lower_fields-unreachable-requires
lower_fields-unreachable-requires g t c =
    let fs = members_fields c.args.table.now c.args.members.now in
    let count = typed-count fs (map value_of c.args.values.now) c.requires.typed in
    let n = length-map c.args.values.now value_of in
    nth_field-some fs c.loop-index.index (omega (arith, count, n, c.loop-index-test.true)) (sym c.in_default.ensures.found)

pub lower_fields-lower_at-requires : goal.lower_fields-lower_at-requires
lower_fields-lower_at-requires g t c κs within =
    let fs = members_fields c.args.table.now c.args.members.now in
    let vs = map value_of c.args.values.now in
    let i = c.loop-index.index in
    let u = closed_type c.args.table.now c.in-Some.member in
    let found = sym c.in-Some.ensures.found in
    let v = c.index-values-index.result in
    let here = get_or-map value_of c.args.values.now i v (value_of v) c.loop-index-test.true ∙ ap value_of (sym c.index-values-index.is) in
    let below : i < length vs = omega (arith, length-map c.args.values.now value_of, c.loop-index-test.true) in
    let P : Value → Type 0 = λ w. HasType w u in
    let typed = subst P here (have-first fs vs i u (value_of v) found below c.loop-index.invariant.1) in
    (omega (arith, member-depth fs i u found, c.decreases), (within, (c.in-Some.ensures.inside, (field-standard fs i u found c.requires.standard, (typed, omega (arith, kinds-next fs i u found, c.loop-index.invariant.2))))))

pub lower_fields-returns-in_err-lower_at-clause-fault : goal.lower_fields-returns-in_err-lower_at-clause-fault
lower_fields-returns-in_err-lower_at-clause-fault g t c =
    let fs = members_fields c.args.table.now c.args.members.now in
    let vs = map value_of c.args.values.now in
    let i = c.loop-index.index in
    let u = closed_type c.args.table.now c.in-Some.member in
    let v = c.index-values-index.result in
    let here = get_or-map value_of c.args.values.now i v (value_of v) c.loop-index-test.true ∙ ap value_of (sym c.index-values-index.is) in
    let below : i < length vs = omega (arith, length-map c.args.values.now value_of, c.loop-index-test.true) in
    let p = err_from_is_err_and c.from_residual.result c.from_residual.ensures.1 in
    rw (p.1, p.2) (lowering-ended c.args.limit g.G.Guest.allocates fs vs c.args.flats.now.items i u (value_of v) (sym c.in-Some.ensures.found) below here c.loop-index.flats.items
    (g.G.Guest.memory c.args.guest.now) (g.G.Guest.memory c.loop-index.guest) c.in_err-lower_at.field-0.0 (g.G.Guest.memory c.lower_at.new.guest) c.loop-index.invariant.1 c.loop-index.invariant.0 c.in_err-lower_at.ensures.fault)

pub lower_fields-loop-index-preserved : goal.lower_fields-loop-index-preserved
lower_fields-loop-index-preserved g t c =
    let fs = members_fields c.args.table.now c.args.members.now in
    let vs = map value_of c.args.values.now in
    let i = c.loop-index.index in
    let u = closed_type c.args.table.now c.in-Some.member in
    let found = sym c.in-Some.ensures.found in
    let v = c.index-values-index.result in
    let here = get_or-map value_of c.args.values.now i v (value_of v) c.loop-index-test.true ∙ ap value_of (sym c.index-values-index.is) in
    let below : i < length vs = omega (arith, length-map c.args.values.now value_of, c.loop-index-test.true) in
    let limit = c.args.limit in
    let A = g.G.Guest.allocates in
    let old = g.G.Guest.memory c.args.guest.now in
    let mid = g.G.Guest.memory c.loop-index.guest in
    let new = g.G.Guest.memory c.lower_at.new.guest in
    let now = c.loop-index.flats.items in
    let more = c.lower_at.new.flats.items in (
      lowering-next limit A fs vs c.args.flats.now.items i u (value_of v) found below here now more old mid new c.loop-index.invariant.0 c.in_ok-lower_at.ensures.ok,
      have-rest fs vs i u (value_of v) found below c.loop-index.invariant.1,
      lowering-room limit A fs i u (value_of v) now more mid new found c.in_ok-lower_at.ensures.ok c.loop-index.invariant.2,
    )

pub lower_fields-returns-clause-ok : goal.lower_fields-returns-clause-ok
lower_fields-returns-clause-ok g t c =
    let fs = members_fields c.args.table.now c.args.members.now in
    let vs = map value_of c.args.values.now in
    let i = c.loop-index.index in
    let count = typed-count fs vs c.requires.typed in
    let n = length-map c.args.values.now value_of in
    lowering-done c.args.limit g.G.Guest.allocates fs vs c.args.flats.now.items i c.loop-index.flats.items (g.G.Guest.memory c.args.guest.now) (g.G.Guest.memory c.loop-index.guest)
    (omega (arith, count, n, c.loop-index-test.false)) (drop_all i vs (omega (arith, n, c.loop-index-test.false))) c.loop-index.invariant.0

-- ---- a variant

pub lower_variant-returns-in_default-clause-ok : goal.lower_variant-returns-in_default-clause-ok
lower_variant-returns-in_default-clause-ok g t c =
    let T = closed_type c.args.table.now c.args.ty in
    let cs = variant_cases T in
    let i = c.args.chosen.now.case in
    let found = is-plain T i c.requires.variant (rw c.in_default.is at c.requires.typed) in
    let kinds = behind-first c.as_slice.result.now I32 (payload_kinds cs) (c.as_slice.ensures.value ∙ c.kinds_of-kinds.ensures ∙ ap flat_kinds (sym c.requires.variant)) in
    let told = joined-told c.args.flats.now.items c.push.new.self.items c.push_joined.new.flats.items i (take (length c.as_slice.result.now - 1) (drop 1 c.as_slice.result.now)) (payload_kinds cs) [] c.push.ensures.items c.push_joined.ensures kinds in
    rw (c.in_default.is, ← c.requires.variant) (plain-case-lowered c.args.limit g.G.Guest.allocates c.args.flats.now.items c.push_joined.new.flats.items cs i (g.G.Guest.memory c.args.guest.now) found told)

pub lower_variant-unreachable-requires : goal.lower_variant-unreachable-requires
lower_variant-unreachable-requires g t c =
    let T = closed_type c.args.table.now c.args.ty in
    no-case T c.args.chosen.now.case c.requires.variant c.args.chosen.now.payload.now (sym c.in_default-case_payload.ensures.found) c.requires.typed

pub lower_variant-unreachable-requires-in_default-known : goal.lower_variant-unreachable-requires-in_default-known
lower_variant-unreachable-requires-in_default-known g t c =
    let r = c.args.table.now in
    let T = closed_type r c.args.ty in
    let found : nth_case (variant_cases T) c.args.chosen.now.case ≡ Some None = sym c.in-Some-case_payload.ensures.found ∙ ap (λ o. Some (option_map (closed_type r) o)) c.in_default-known.is in
    no-payload T c.args.chosen.now.case c.requires.variant (value_of c.in-Some.value.value) found (rw c.in-Some.is at c.requires.typed)

pub lower_variant-lower_at-requires : goal.lower_variant-lower_at-requires
lower_variant-lower_at-requires g t c κs within =
    let r = c.args.table.now in
    let T = closed_type r c.args.ty in
    let cs = variant_cases T in
    let i = c.args.chosen.now.case in
    let u = closed_type r c.in-Some-known.member in
    let found : nth_case cs i ≡ Some (Some u) = sym c.in-Some-case_payload.ensures.found ∙ ap (λ o. Some (option_map (closed_type r) o)) c.in-Some-known.is in
    let P : Value → Type 0 = λ x. HasType x u in
    let typed = is-payload T i c.requires.variant u (value_of c.in-Some.value.value) found (rw c.in-Some.is at c.requires.typed) in
    let here = subst P (sym (ap value_of c.deref.ensures)) typed in
    let inside = rw c.in-Some-known.is at c.in-Some-case_payload.ensures.inside in
    let standard = case-standard cs i u found (subst IsStandard (sym c.requires.variant) c.requires.standard) in
    let wide : length (flat_kinds T) ≡ suc (length (payload_kinds cs)) = ap (λ x. length (flat_kinds x)) (sym c.requires.variant) in
    let none : length c.new-carried.result.items ≡ 0 = ap length c.new-carried.ensures in
    (omega (arith, case-depth T i u found, c.decreases), (within, (inside, (standard, (here, omega (arith, none, wide, payload-kinds cs i u found, c.requires.room))))))

pub lower_variant-returns-in_err-lower_at-clause-fault : goal.lower_variant-returns-in_err-lower_at-clause-fault
lower_variant-returns-in_err-lower_at-clause-fault g t c =
    let r = c.args.table.now in
    let T = closed_type r c.args.ty in
    let cs = variant_cases T in
    let i = c.args.chosen.now.case in
    let u = closed_type r c.in-Some-known.member in
    let found : nth_case cs i ≡ Some (Some u) = sym c.in-Some-case_payload.ensures.found ∙ ap (λ o. Some (option_map (closed_type r) o)) c.in-Some-known.is in
    let ended = rw (ap value_of c.deref.ensures) at c.in_err-lower_at.ensures.fault in
    let p = err_from_is_err_and c.from_residual.result c.from_residual.ensures.1 in
    rw (p.1, p.2, c.in-Some.is, ← c.requires.variant) (case-lowering-ended c.args.limit g.G.Guest.allocates (g.G.Guest.memory c.args.guest.now) c.in_err-lower_at.field-0.0 (g.G.Guest.memory c.lower_at.new.guest) cs i u (value_of c.in-Some.value.value) found ended)

pub lower_variant-returns-clause-ok : goal.lower_variant-returns-clause-ok
lower_variant-returns-clause-ok g t c =
    let r = c.args.table.now in
    let T = closed_type r c.args.ty in
    let cs = variant_cases T in
    let i = c.args.chosen.now.case in
    let u = closed_type r c.in-Some-known.member in
    let found : nth_case cs i ≡ Some (Some u) = sym c.in-Some-case_payload.ensures.found ∙ ap (λ o. Some (option_map (closed_type r) o)) c.in-Some-known.is in
    let carried = c.lower_at.new.flats.items in
    let kinds = behind-first c.as_slice-2.result.now I32 (payload_kinds cs) (c.as_slice-2.ensures.value ∙ c.kinds_of-kinds.ensures ∙ ap flat_kinds (sym c.requires.variant)) in
    let joined = rw c.as_slice-3.ensures.value at c.push_joined-2.ensures in
    let told = joined-told c.args.flats.now.items c.push.new.self.items c.push_joined-2.new.flats.items i (take (length c.as_slice-2.result.now - 1) (drop 1 c.as_slice-2.result.now)) (payload_kinds cs) carried c.push.ensures.items joined kinds in
    let done = rw (c.new-carried.ensures, ap value_of c.deref.ensures) at c.in_ok-lower_at.ensures.ok in
    rw (c.in-Some.is, ← c.requires.variant) (case-lowered c.args.limit g.G.Guest.allocates c.args.flats.now.items c.push_joined-2.new.flats.items cs i u (value_of c.in-Some.value.value) carried (g.G.Guest.memory c.args.guest.now) (g.G.Guest.memory c.lower_at.new.guest) found told done)
