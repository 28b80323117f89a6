use Rattle.std.proofs.Common.{◌≡◌, ℕ, suc, ◌+◌, ◌*◌, ◌<◌, ◌≤◌, List, length, map, Some, None, option_map, refl, sym, ap, ◌∙◌, subst, arith}
use Rattle.std.proofs.lemmas.List.{length-map, get_or-map, drop_all}
use Rattle.std.proofs.lemmas.Result.{err_from_is_err_and}
use Rattle.std.specs.Int.{byte_len}
use Rattle.std.specs.List.{AllByRecursion}
use Rattle.canonical_abi.specs.Types.{ClosedType, IsStandard, list_type, record_type, variant_type, flags_type, record_fields, variant_cases, nth_case, case_count, depth}
use Rattle.canonical_abi.specs.Values.{Value, HasType, HaveTypes, values_of, list_value, record_value, plain_value, payload_value, flags_value}
use Rattle.canonical_abi.specs.Layout.{size, align, prim_width, discriminant_size, payload_place}
use Rattle.canonical_abi.specs.Storing.{EachStores, Stores, FieldsStore, CaseStores}
use Rattle.tables.specs.Closed.{closed_type, closed_types, prim_of}
use Rattle.values.specs.Scalar.{prim_in, value_in}
use Rattle.values.specs.Val.{value_of}
use Rattle.values.proofs.TypesExtents.{member-depth, case-depth, payload-place, payload-fits, fields-fit}
use Rattle.lift_lower.proofs.ScriptPartsInOrder.{begun, begun-as, begun-done, done-as, ended-as}
use Rattle.lift_lower.proofs.ScalarListBytes.{scalars-stored}
use Rattle.values.proofs.WeakerAnswers.{if-err-as, on-ok-as}
use Rattle.values.proofs.FieldsFromAPlace.{nth_field-some}
use Rattle.lift_lower.proofs.PlacesOfFields.{end_before, end-next, place-of-field, field-fits}
use Rattle.lift_lower.proofs.StoredFromParts.{ItemsFrom, items-first, items-none, item-inside, item-done, item-ended, FieldsFrom, stored-none, field-done, field-ended, list-done, list-ended, list-refused, record-done, record-ended, plain-stored, payload-stored, case-done, case-ended, plain-done, scalar-done, flags-done}
use Rattle.values.proofs.ValuesOfTypesByShape.{not-list, not-flags, is-list, is-record, type-of-scalar, type-of-text, type-of-record, typed-flags, is-plain, is-payload, no-payload, no-case, typed-count, all-at, have-first, have-rest, field-standard, case-standard}
use Rattle.values.proofs.ValueOfEachVariant.{value_of-List, value_of-Record, value_of-String, value_of-Flags}
use Rattle.lift_lower.proofs.storing.+store.Goals as goal

pub store_compound-store_text-requires-clause-room : goal.store_compound-store_text-requires-clause-room
store_compound-store_text-requires-clause-room g t c =
    let T = closed_type c.args.table.now c.args.ty in
    let e : size T ≡ 8 = ap size (type-of-text T _ (rw (c.in-String.is, value_of-String) at c.requires.typed)) in
    omega (arith, e, c.requires.room)

pub store_compound-store_text-requires-clause-small : goal.store_compound-store_text-requires-clause-small
store_compound-store_text-requires-clause-small g t c =
    let T = closed_type c.args.table.now c.args.ty in
    let e : size T ≡ 8 = ap size (type-of-text T _ (rw (c.in-String.is, value_of-String) at c.requires.typed)) in
    omega (arith, e, c.requires.small)

pub store_compound-unreachable-requires : goal.store_compound-unreachable-requires
store_compound-unreachable-requires g t c =
    let r = c.args.table.now in
    let P : ClosedType → Type 0 = λ x. HasType (list_value (values_of (map value_of c.in-List.items.items))) x in
    let typed = (rw (c.in-List.is, value_of-List) at c.requires.typed) in
    not-list (closed_types r) (closed_type r c.args.ty) c.shape_of.result (values_of (map value_of c.in-List.items.items)) c.shape_of.ensures.shape.0 c.in_default-shape_of.not-List typed

pub store_compound-store_list-requires : goal.store_compound-store_list-requires
store_compound-store_list-requires g t c κs within =
    let r = c.args.table.now in
    let T = closed_type r c.args.ty in
    let u = closed_type r c.in-List-shape_of.element in
    let e : T ≡ list_type u = c.in-List-shape_of.ensures.shape.0 in
    let deep : depth T ≡ suc (depth u) = ap depth e in
    let wide : size T ≡ 8 = ap size e in
    let P : List Value → Type 0 = λ xs. AllByRecursion (λ w. HasType w u) xs in
    let typed = is-list (map value_of c.in-List.items.items) T u e (rw (c.in-List.is, value_of-List) at c.requires.typed) in
    let items = subst P (sym (ap (map value_of) c.as_slice-items.ensures.value)) typed in
    (omega (arith, deep, c.decreases), (within, (c.in-List-shape_of.ensures.shape.1, (subst IsStandard e c.requires.standard, (items, (omega (arith, wide, c.requires.room), omega (arith, wide, c.requires.small)))))))

pub store_compound-store_record-requires : goal.store_compound-store_record-requires
store_compound-store_record-requires g t c κs within =
    let r = c.args.table.now in
    let T = closed_type r c.args.ty in
    let F = closed_type r c.args.ty in
    let same : T ≡ F = refl in
    let vs = map value_of c.in-Record.fields.items in
    let P : ClosedType → Type 0 = λ x. HasType (record_value (values_of vs)) x in
    let typed : P F = subst P same (rw (c.in-Record.is, value_of-Record) at c.requires.typed) in
    let only = type-of-record F (values_of vs) typed in
    let fs = record_fields F in
    let deep : depth T ≡ depth (record_type fs) = ap depth (same ∙ only) in
    let wide : size T ≡ size (record_type fs) = ap size (same ∙ only) in
    let standard = subst IsStandard (same ∙ only) c.requires.standard in
    let Q : List Value → Type 0 = λ xs. HaveTypes xs fs in
    let values = subst Q (sym (ap (map value_of) c.as_slice-fields.ensures.value)) (is-record vs F fs only typed) in
    (omega (arith, deep, c.decreases), (within, (c.requires.inside, (standard.1, (values, (omega (arith, wide, fields-fit fs, c.requires.room), omega (arith, wide, fields-fit fs, c.requires.small)))))))

pub store_compound-unreachable-requires-in_default-shape_of-2 : goal.store_compound-unreachable-requires-in_default-shape_of-2
store_compound-unreachable-requires-in_default-shape_of-2 g t c =
    let r = c.args.table.now in
    let P : ClosedType → Type 0 = λ x. HasType (flags_value c.in-Flags.bits) x in
    let typed = (rw (c.in-Flags.is, value_of-Flags) at c.requires.typed) in
    not-flags (closed_types r) (closed_type r c.args.ty) c.shape_of-in-Flags.result c.in-Flags.bits c.shape_of-in-Flags.ensures.shape.0 c.in_default-shape_of-2.not-Flags typed

pub store_at-put_scalar_at-requires : goal.store_at-put_scalar_at-requires
store_at-put_scalar_at-requires g t c =
    let T = closed_type c.args.table.now c.args.ty in
    let s = c.in-Some.scalar in
    let P : Value → Type 0 = λ v. HasType v T in
    let e : size T ≡ byte_len (prim_width (prim_in s)) = ap size (type-of-scalar T (value_in s) (prim_in s) c.in-Some.ensures.typed (subst P (sym c.in-Some.ensures.value) c.requires.typed)) in
    record { inside = omega (arith, e, c.requires.room); small = omega (arith, c.requires.small) }

pub store_compound-returns-in-String-clause-ok : goal.store_compound-returns-in-String-clause-ok
store_compound-returns-in-String-clause-ok g t c =
    let T = closed_type c.args.table.now c.args.ty in
    let e = type-of-text T _ (rw (c.in-String.is, value_of-String) at c.requires.typed) in
    rw (c.in-String.is, value_of-String, e, ← c.as_str.ensures.value) c.store_text.ensures.ok

pub store_compound-returns-in-String-clause-fault : goal.store_compound-returns-in-String-clause-fault
store_compound-returns-in-String-clause-fault g t c =
    let T = closed_type c.args.table.now c.args.ty in
    let e = type-of-text T _ (rw (c.in-String.is, value_of-String) at c.requires.typed) in
    rw (c.in-String.is, value_of-String, e, ← c.as_str.ensures.value) c.store_text.ensures.fault

pub store_compound-returns-in-Record-clause-ok : goal.store_compound-returns-in-Record-clause-ok
store_compound-returns-in-Record-clause-ok g t c =
    let r = c.args.table.now in
    let T = closed_type r c.args.ty in
    let F = closed_type r c.args.ty in
    let same : T ≡ F = refl in
    let vs = map value_of c.in-Record.fields.items in
    let P : ClosedType → Type 0 = λ x. HasType (record_value (values_of vs)) x in
    let typed : P F = subst P same (rw (c.in-Record.is, value_of-Record) at c.requires.typed) in
    let e : T ≡ record_type (record_fields F) = same ∙ type-of-record F (values_of vs) typed in
    let old = g.G.Guest.memory c.args.guest.now in
    let new = g.G.Guest.memory c.store_record.new.guest in
    let given = rw c.as_slice-fields.ensures.value at c.store_record.ensures.ok in
    rw (c.in-Record.is, value_of-Record, e) (on-ok-as c.store_record.result _ _ (record-done c.args.limit g.G.Guest.allocates (record_fields F) c.args.at vs old new) given)

pub store_compound-returns-in-Record-clause-fault : goal.store_compound-returns-in-Record-clause-fault
store_compound-returns-in-Record-clause-fault g t c =
    let r = c.args.table.now in
    let T = closed_type r c.args.ty in
    let F = closed_type r c.args.ty in
    let same : T ≡ F = refl in
    let vs = map value_of c.in-Record.fields.items in
    let P : ClosedType → Type 0 = λ x. HasType (record_value (values_of vs)) x in
    let typed : P F = subst P same (rw (c.in-Record.is, value_of-Record) at c.requires.typed) in
    let e : T ≡ record_type (record_fields F) = same ∙ type-of-record F (values_of vs) typed in
    let old = g.G.Guest.memory c.args.guest.now in
    let new = g.G.Guest.memory c.store_record.new.guest in
    let given = rw c.as_slice-fields.ensures.value at c.store_record.ensures.fault in
    rw (c.in-Record.is, value_of-Record, e) (if-err-as c.store_record.result _ _ (λ k h. record-ended c.args.limit g.G.Guest.allocates (record_fields F) c.args.at vs old k new h) given)

pub store_compound-returns-in-Flags-shape_of-clause-ok : goal.store_compound-returns-in-Flags-shape_of-clause-ok
store_compound-returns-in-Flags-shape_of-clause-ok g t c =
    let r = c.args.table.now in
    let n = c.in-Flags-shape_of.labels in
    let bits = c.in-Flags.bits in
    let e : closed_type r c.args.ty ≡ flags_type n = c.in-Flags-shape_of.ensures.shape.0 in
    let P : ClosedType → Type 0 = λ x. HasType (flags_value bits) x in
    let few = typed-flags n bits (subst P e (rw (c.in-Flags.is, value_of-Flags) at c.requires.typed)) in
    let old = g.G.Guest.memory c.args.guest.now in
    let new = g.G.Guest.memory c.write_number.new.guest in
    rw (c.in-Flags.is, value_of-Flags, e) (flags-done c.args.limit g.G.Guest.allocates n c.args.at bits old new few (rw c.flags_bytes.ensures.value at c.write_number.ensures.led) c.write_number.ensures.same_length)

pub store_at-returns-in-Some : goal.store_at-returns-in-Some
store_at-returns-in-Some g t c =
    let T = closed_type c.args.table.now c.args.ty in
    let s = c.in-Some.scalar in
    let P : Value → Type 0 = λ v. HasType v T in
    let e = type-of-scalar T (value_in s) (prim_in s) c.in-Some.ensures.typed (subst P (sym c.in-Some.ensures.value) c.requires.typed) in
    let done = scalar-done c.args.limit g.G.Guest.allocates (prim_in s) c.args.at (value_in s) (g.G.Guest.memory c.args.guest.now) (g.G.Guest.memory c.put_scalar_at.new.guest) c.in-Some.ensures.typed c.put_scalar_at.ensures.led c.put_scalar_at.ensures.same_length in
    record { ok = rw (e, ← c.in-Some.ensures.value) done; fault = tt }

-- ---- the fields of a record

pub store_record-loop-index-init : goal.store_record-loop-index-init
store_record-loop-index-init g t c =
    let fs = record_fields (closed_type c.args.table.now c.args.ty) in
    let m = g.G.Guest.memory c.args.guest.now in
    (begun c.args.limit g.G.Guest.allocates (FieldsStore fs c.args.at 0 (map value_of c.args.values.now)) m, c.requires.typed)

pub store_record-unreachable-requires : goal.store_record-unreachable-requires
store_record-unreachable-requires g t c =
    let fs = record_fields (closed_type c.args.table.now c.args.ty) in
    let count = typed-count fs (map value_of c.args.values.now) c.requires.typed in
    let n = length-map c.args.values.now value_of in
    nth_field-some fs c.loop-index.index (omega (arith, count, n, c.loop-index-test.true)) (sym c.in_default.ensures.found)

pub store_record-overflow_add-place : goal.store_record-overflow_add-place
store_record-overflow_add-place g t c =
    let fs = record_fields (closed_type c.args.table.now c.args.ty) in
    let h = field-fits fs c.loop-index.index (closed_type c.args.table.now c.in-Some.field.ty) c.in-Some.field.offset (sym c.in-Some.ensures.found) c.in-Some.ensures.place in
    omega (arith, h, c.requires.small)

pub store_record-store_at-requires : goal.store_record-store_at-requires
store_record-store_at-requires g t c κs within =
    let fs = record_fields (closed_type c.args.table.now c.args.ty) in
    let vs = map value_of c.args.values.now in
    let i = c.loop-index.index in
    let u = closed_type c.args.table.now c.in-Some.field.ty in
    let found = sym c.in-Some.ensures.found in
    let v = c.index-values-index.result in
    let h = field-fits fs i u c.in-Some.field.offset found c.in-Some.ensures.place in
    let here = get_or-map value_of c.args.values.now i v (value_of v) c.loop-index-test.true ∙ ap value_of (sym c.index-values-index.is) in
    let below : i < length vs = omega (arith, length-map c.args.values.now value_of, c.loop-index-test.true) in
    let P : Value → Type 0 = λ w. HasType w u in
    let typed = subst P here (have-first fs vs i u (value_of v) found below c.loop-index.invariant.1) in
    (omega (arith, member-depth fs i u found, c.decreases), (within, (c.in-Some.ensures.inside, (field-standard fs i u found c.requires.standard, (typed, (omega (arith, h, c.requires.room, c.loop-index.invariant.0.no_shorter), omega (arith, h, c.requires.small)))))))

pub store_record-returns-in_err-store_at-clause-fault : goal.store_record-returns-in_err-store_at-clause-fault
store_record-returns-in_err-store_at-clause-fault g t c =
    let fs = record_fields (closed_type c.args.table.now c.args.ty) in
    let vs = map value_of c.args.values.now in
    let i = c.loop-index.index in
    let u = closed_type c.args.table.now c.in-Some.field.ty in
    let found = sym c.in-Some.ensures.found in
    let v = c.index-values-index.result in
    let here = get_or-map value_of c.args.values.now i v (value_of v) c.loop-index-test.true ∙ ap value_of (sym c.index-values-index.is) in
    let below : i < length vs = omega (arith, length-map c.args.values.now value_of, c.loop-index-test.true) in
    let place = place-of-field fs i u c.in-Some.field.offset found c.in-Some.ensures.place in
    let p = err_from_is_err_and c.from_residual.result c.from_residual.ensures.1 in
    rw (p.1, p.2) (field-ended c.args.limit g.G.Guest.allocates fs c.args.at vs i (end_before 0 i fs) u (value_of v) c.in-Some.field.offset (size u) found below here place refl
    (g.G.Guest.memory c.args.guest.now) (g.G.Guest.memory c.loop-index.guest) c.in_err-store_at.field-0.0 (g.G.Guest.memory c.store_at.new.guest) c.loop-index.invariant.1 c.loop-index.invariant.0 c.in_err-store_at.ensures.fault)

pub store_record-loop-index-preserved : goal.store_record-loop-index-preserved
store_record-loop-index-preserved g t c =
    let fs = record_fields (closed_type c.args.table.now c.args.ty) in
    let vs = map value_of c.args.values.now in
    let i = c.loop-index.index in
    let u = closed_type c.args.table.now c.in-Some.field.ty in
    let found = sym c.in-Some.ensures.found in
    let v = c.index-values-index.result in
    let here = get_or-map value_of c.args.values.now i v (value_of v) c.loop-index-test.true ∙ ap value_of (sym c.index-values-index.is) in
    let below : i < length vs = omega (arith, length-map c.args.values.now value_of, c.loop-index-test.true) in
    let place = place-of-field fs i u c.in-Some.field.offset found c.in-Some.ensures.place in
    let done = field-done c.args.limit g.G.Guest.allocates fs c.args.at vs i (end_before 0 i fs) u (value_of v) c.in-Some.field.offset (size u) found below here place refl
    (g.G.Guest.memory c.args.guest.now) (g.G.Guest.memory c.loop-index.guest) (g.G.Guest.memory c.store_at.new.guest) c.loop-index.invariant.0 c.in_ok-store_at.ensures.ok in
    (rw (end-next 0 i fs u found, ← place) done, have-rest fs vs i u (value_of v) found below c.loop-index.invariant.1)

pub store_record-returns-clause-ok : goal.store_record-returns-clause-ok
store_record-returns-clause-ok g t c =
    let fs = record_fields (closed_type c.args.table.now c.args.ty) in
    let vs = map value_of c.args.values.now in
    let i = c.loop-index.index in
    let count = typed-count fs vs c.requires.typed in
    let n = length-map c.args.values.now value_of in
    begun-done c.args.limit g.G.Guest.allocates (FieldsStore fs c.args.at 0 vs) (FieldsFrom fs c.args.at vs i (end_before 0 i fs)) (g.G.Guest.memory c.args.guest.now) (g.G.Guest.memory c.loop-index.guest) c.loop-index.invariant.0
    (stored-none fs c.args.at vs (end_before 0 i fs) i (omega (arith, count, n, c.loop-index-test.false)) (drop_all i vs (omega (arith, n, c.loop-index-test.false))))

-- ---- the elements of a list

pub store_items-loop-index-init : goal.store_items-loop-index-init
store_items-loop-index-init g t c =
    let u = closed_type c.args.table.now c.args.element in
    let vs = map value_of c.args.items.now in
    let m = g.G.Guest.memory c.args.guest.now in
    let S = EachStores (Stores u) (size u) c.args.start vs in
    begun-as c.args.limit g.G.Guest.allocates S S (ItemsFrom u c.args.start vs 0) m m (items-first u c.args.start vs) (begun c.args.limit g.G.Guest.allocates S m)

pub store_items-store_at-requires : goal.store_items-store_at-requires
store_items-store_at-requires g t c κs within =
    let u = closed_type c.args.table.now c.args.element in
    let vs = map value_of c.args.items.now in
    let i = c.loop-index.index in
    let v = c.index-items-index.result in
    let P : Value → Type 0 = λ w. HasType w u in
    let here = get_or-map value_of c.args.items.now i v (value_of v) c.loop-index-test.true ∙ ap value_of (sym c.index-items-index.is) in
    let below : i < length vs = omega (arith, length-map c.args.items.now value_of, c.loop-index-test.true) in
    let typed = subst P here (all-at P vs i (value_of v) below c.requires.typed) in
    let room : c.args.start + i * size u + size u ≤ length (g.G.Guest.memory c.args.guest.now).bytes = item-inside c.args.start (length c.args.items.now) i (size u) _ c.loop-index-test.true c.requires.room in
    let small : suc (c.args.start + i * size u + size u) ≤ 4294967296 = omega (arith, item-inside c.args.start (length c.args.items.now) i (size u) 4294967295 c.loop-index-test.true (omega (arith, c.requires.small))) in
    let Q : ℕ → Type 0 = λ s. c.args.start + i * s + size u ≤ length (g.G.Guest.memory c.loop-index.guest).bytes in
    let R : ℕ → Type 0 = λ s. c.args.start + i * s + size u < 4294967296 in
    let step = sym c.size_of-step.ensures.value in
    (omega (arith, c.decreases), (within, (c.requires.inside, (c.requires.standard, (typed, (subst Q step (omega (arith, room, c.loop-index.invariant.no_shorter)), subst R step (omega (arith, small))))))))

pub store_items-store_scalars-requires-clause-typed : goal.store_items-store_scalars-requires-clause-typed
store_items-store_scalars-requires-clause-typed g t c = rw c.in-Primitive.is at c.requires.typed

pub store_items-returns-in-Primitive-clause-ok : goal.store_items-returns-in-Primitive-clause-ok
store_items-returns-in-Primitive-clause-ok g t c =
    rw c.in-Primitive.is (scalars-stored c.args.limit g.G.Guest.allocates (prim_of c.in-Primitive.primitive) (map value_of c.args.items.now) c.args.start (g.G.Guest.memory c.args.guest.now) (g.G.Guest.memory c.store_scalars.new.guest)
    (rw c.in-Primitive.is at c.requires.typed) c.store_scalars.ensures.led)

pub store_items-returns-in_err-store_at-clause-fault : goal.store_items-returns-in_err-store_at-clause-fault
store_items-returns-in_err-store_at-clause-fault g t c =
    let u = closed_type c.args.table.now c.args.element in
    let vs = map value_of c.args.items.now in
    let i = c.loop-index.index in
    let v = c.index-items-index.result in
    let here = get_or-map value_of c.args.items.now i v (value_of v) c.loop-index-test.true ∙ ap value_of (sym c.index-items-index.is) in
    let below : i < length vs = omega (arith, length-map c.args.items.now value_of, c.loop-index-test.true) in
    let p = err_from_is_err_and c.from_residual.result c.from_residual.ensures.1 in
    rw (p.1, p.2) (item-ended c.args.limit g.G.Guest.allocates u c.args.start vs i (value_of v) c.size_of-step.result below here c.size_of-step.ensures.value
    (g.G.Guest.memory c.args.guest.now) (g.G.Guest.memory c.loop-index.guest) c.in_err-store_at.field-0.0 (g.G.Guest.memory c.store_at.new.guest) c.requires.typed c.loop-index.invariant c.in_err-store_at.ensures.fault)

pub store_items-loop-index-preserved : goal.store_items-loop-index-preserved
store_items-loop-index-preserved g t c =
    let u = closed_type c.args.table.now c.args.element in
    let vs = map value_of c.args.items.now in
    let i = c.loop-index.index in
    let v = c.index-items-index.result in
    let here = get_or-map value_of c.args.items.now i v (value_of v) c.loop-index-test.true ∙ ap value_of (sym c.index-items-index.is) in
    let below : i < length vs = omega (arith, length-map c.args.items.now value_of, c.loop-index-test.true) in
    item-done c.args.limit g.G.Guest.allocates u c.args.start vs i (value_of v) c.size_of-step.result below here c.size_of-step.ensures.value
    (g.G.Guest.memory c.args.guest.now) (g.G.Guest.memory c.loop-index.guest) (g.G.Guest.memory c.store_at.new.guest) c.loop-index.invariant c.in_ok-store_at.ensures.ok

pub store_items-returns-clause-ok : goal.store_items-returns-clause-ok
store_items-returns-clause-ok g t c =
    let u = closed_type c.args.table.now c.args.element in
    let vs = map value_of c.args.items.now in
    let i = c.loop-index.index in
    let n = length-map c.args.items.now value_of in
    begun-done c.args.limit g.G.Guest.allocates (EachStores (Stores u) (size u) c.args.start vs) (ItemsFrom u c.args.start vs i) (g.G.Guest.memory c.args.guest.now) (g.G.Guest.memory c.loop-index.guest) c.loop-index.invariant
    (items-none u c.args.start vs i (drop_all i vs (omega (arith, n, c.loop-index-test.false))))

pub store_list-returns-in_err-start-clause-fault : goal.store_list-returns-in_err-start-clause-fault
store_list-returns-in_err-start-clause-fault g t c =
    let u = closed_type c.args.table.now c.args.element in
    let vs = map value_of c.args.items.now in
    let ended = rw (← length-map c.args.items.now value_of) at c.in_err-start.ensures.fault in
    let p = err_from_is_err_and c.from_residual.result c.from_residual.ensures.1 in
    rw (p.1, p.2) (list-refused c.args.limit g.G.Guest.allocates u c.args.at vs (g.G.Guest.memory c.args.guest.now) c.in_err-start.field-0.0 (g.G.Guest.memory c.ask_elements.new.guest) c.requires.typed ended)

pub store_list-returns-clause-ok : goal.store_list-returns-clause-ok
store_list-returns-clause-ok g t c =
    let u = closed_type c.args.table.now c.args.element in
    let vs = map value_of c.args.items.now in
    let granted = rw (← length-map c.args.items.now value_of) at c.in_ok-start.ensures.ok in
    let led = rw (← length-map c.args.items.now value_of) at c.write_header.ensures.led in
    on-ok-as c.store_items.result _ _ (list-done c.args.limit g.G.Guest.allocates u c.args.at vs c.in_ok-start.start (g.G.Guest.memory c.args.guest.now) (g.G.Guest.memory c.ask_elements.new.guest) (g.G.Guest.memory c.write_header.new.guest) (g.G.Guest.memory c.store_items.new.guest) granted led c.write_header.ensures.same_length) c.store_items.ensures.ok

pub store_list-returns-clause-fault : goal.store_list-returns-clause-fault
store_list-returns-clause-fault g t c =
    let u = closed_type c.args.table.now c.args.element in
    let vs = map value_of c.args.items.now in
    let granted = rw (← length-map c.args.items.now value_of) at c.in_ok-start.ensures.ok in
    let led = rw (← length-map c.args.items.now value_of) at c.write_header.ensures.led in
    if-err-as c.store_items.result _ _ (λ k h. list-ended c.args.limit g.G.Guest.allocates u c.args.at vs c.in_ok-start.start (g.G.Guest.memory c.args.guest.now) (g.G.Guest.memory c.ask_elements.new.guest) (g.G.Guest.memory c.write_header.new.guest) k (g.G.Guest.memory c.store_items.new.guest) granted led c.write_header.ensures.same_length h) c.store_items.ensures.fault

-- ---- a variant

pub store_variant-returns-in_default-payload-clause-ok : goal.store_variant-returns-in_default-payload-clause-ok
store_variant-returns-in_default-payload-clause-ok g t c =
    let T = closed_type c.args.table.now c.args.ty in
    let cs = variant_cases T in
    let shaped = c.in-Variant.ensures.shape.0 in
    let variant : variant_type cs ≡ T = ap (λ x. variant_type (variant_cases x)) shaped.1 ∙ sym shaped.1 in
    let count : c.discriminant_bytes.result ≡ discriminant_size (case_count cs) = c.discriminant_bytes.ensures.value ∙ ap discriminant_size (sym shaped.2 ∙ ap case_count (ap variant_cases (sym shaped.1))) in
    let led = rw count at c.write_number.ensures.led in
    let found = is-plain T c.args.chosen.now.case variant (rw c.in_default-payload.is at c.requires.typed) in
    rw (c.in_default-payload.is, ← variant) (plain-done c.args.limit g.G.Guest.allocates cs c.args.at c.args.chosen.now.case (plain_value c.args.chosen.now.case) (g.G.Guest.memory c.args.guest.now) (g.G.Guest.memory c.write_number.new.guest) led c.write_number.ensures.same_length
    (plain-stored cs (c.args.at + payload_place cs) c.args.chosen.now.case c.args.chosen.now.case found))

pub store_variant-unreachable-requires-in_default-case_payload : goal.store_variant-unreachable-requires-in_default-case_payload
store_variant-unreachable-requires-in_default-case_payload g t c =
    let T = closed_type c.args.table.now c.args.ty in
    let shaped = c.in-Variant.ensures.shape.0 in
    let variant : variant_type (variant_cases T) ≡ T = ap (λ x. variant_type (variant_cases x)) shaped.1 ∙ sym shaped.1 in
    no-case T c.args.chosen.now.case variant c.args.chosen.now.payload.now (sym c.in_default-case_payload.ensures.found) c.requires.typed

pub store_variant-unreachable-requires-in_default-known : goal.store_variant-unreachable-requires-in_default-known
store_variant-unreachable-requires-in_default-known g t c =
    let r = c.args.table.now in
    let T = closed_type r c.args.ty in
    let cs = variant_cases T in
    let i = c.args.chosen.now.case in
    let shaped = c.in-Variant.ensures.shape.0 in
    let variant : variant_type cs ≡ T = ap (λ x. variant_type (variant_cases x)) shaped.1 ∙ sym shaped.1 in
    let found : nth_case cs i ≡ Some None = sym c.in-Some-case_payload.ensures.found ∙ ap (λ o. Some (option_map (closed_type r) o)) c.in_default-known.is in
    no-payload T i variant (value_of c.in-Some.value.value) found (rw c.in-Some.is at c.requires.typed)

pub store_variant-store_at-requires : goal.store_variant-store_at-requires
store_variant-store_at-requires g t c κs within =
    let r = c.args.table.now in
    let T = closed_type r c.args.ty in
    let cs = variant_cases T in
    let i = c.args.chosen.now.case in
    let shaped = c.in-Variant.ensures.shape.0 in
    let variant : variant_type cs ≡ T = ap (λ x. variant_type (variant_cases x)) shaped.1 ∙ sym shaped.1 in
    let u = closed_type r c.in-Some-known.member in
    let found : nth_case cs i ≡ Some (Some u) = sym c.in-Some-case_payload.ensures.found ∙ ap (λ o. Some (option_map (closed_type r) o)) c.in-Some-known.is in
    let place : c.align_of.result ≡ payload_place cs = c.align_of.ensures.value ∙ ap align (sym variant) ∙ sym (payload-place cs) in
    let whole = ap size variant in
    let fits = payload-fits cs i u found in
    let P : Value → Type 0 = λ x. HasType x u in
    let typed = is-payload T i variant u (value_of c.in-Some.value.value) found (rw c.in-Some.is at c.requires.typed) in
    let here = subst P (sym (ap value_of c.deref.ensures)) typed in
    let inside = rw c.in-Some-known.is at c.in-Some-case_payload.ensures.inside in
    let standard = case-standard cs i u found (subst IsStandard (sym variant) c.requires.standard) in
    (omega (arith, case-depth T i u found, c.decreases), (within, (inside, (standard, (here, (omega (arith, place, whole, fits, c.requires.room, c.write_number.ensures.same_length), omega (arith, place, whole, fits, c.requires.small)))))))

pub store_variant-returns-clause-ok : goal.store_variant-returns-clause-ok
store_variant-returns-clause-ok g t c =
    let r = c.args.table.now in
    let T = closed_type r c.args.ty in
    let cs = variant_cases T in
    let i = c.args.chosen.now.case in
    let shaped = c.in-Variant.ensures.shape.0 in
    let variant : variant_type cs ≡ T = ap (λ x. variant_type (variant_cases x)) shaped.1 ∙ sym shaped.1 in
    let u = closed_type r c.in-Some-known.member in
    let found : nth_case cs i ≡ Some (Some u) = sym c.in-Some-case_payload.ensures.found ∙ ap (λ o. Some (option_map (closed_type r) o)) c.in-Some-known.is in
    let place : c.align_of.result ≡ payload_place cs = c.align_of.ensures.value ∙ ap align (sym variant) ∙ sym (payload-place cs) in
    let count : c.discriminant_bytes.result ≡ discriminant_size (case_count cs) = c.discriminant_bytes.ensures.value ∙ ap discriminant_size (sym shaped.2 ∙ ap case_count (ap variant_cases (sym shaped.1))) in
    let led = rw count at c.write_number.ensures.led in
    let w = value_of c.in-Some.value.value in
    let a = c.args.at + payload_place cs in
    let limit = c.args.limit in
    let A = g.G.Guest.allocates in
    let old = g.G.Guest.memory c.args.guest.now in
    let mid = g.G.Guest.memory c.write_number.new.guest in
    let new = g.G.Guest.memory c.store_at.new.guest in
    let given = rw (place, ap value_of c.deref.ensures) at c.store_at.ensures.ok in
    rw (c.in-Some.is, ← variant) (on-ok-as c.store_at.result _ _ (λ d. case-done limit A cs c.args.at i (payload_value i w) old mid new led c.write_number.ensures.same_length
    (done-as limit A (Stores u a w) (CaseStores cs a i i (payload_value i w)) mid new (λ es h. payload-stored cs a i i u w es found h) d)) given)

pub store_variant-returns-clause-fault : goal.store_variant-returns-clause-fault
store_variant-returns-clause-fault g t c =
    let r = c.args.table.now in
    let T = closed_type r c.args.ty in
    let cs = variant_cases T in
    let i = c.args.chosen.now.case in
    let shaped = c.in-Variant.ensures.shape.0 in
    let variant : variant_type cs ≡ T = ap (λ x. variant_type (variant_cases x)) shaped.1 ∙ sym shaped.1 in
    let u = closed_type r c.in-Some-known.member in
    let found : nth_case cs i ≡ Some (Some u) = sym c.in-Some-case_payload.ensures.found ∙ ap (λ o. Some (option_map (closed_type r) o)) c.in-Some-known.is in
    let place : c.align_of.result ≡ payload_place cs = c.align_of.ensures.value ∙ ap align (sym variant) ∙ sym (payload-place cs) in
    let count : c.discriminant_bytes.result ≡ discriminant_size (case_count cs) = c.discriminant_bytes.ensures.value ∙ ap discriminant_size (sym shaped.2 ∙ ap case_count (ap variant_cases (sym shaped.1))) in
    let led = rw count at c.write_number.ensures.led in
    let w = value_of c.in-Some.value.value in
    let a = c.args.at + payload_place cs in
    let limit = c.args.limit in
    let A = g.G.Guest.allocates in
    let old = g.G.Guest.memory c.args.guest.now in
    let mid = g.G.Guest.memory c.write_number.new.guest in
    let new = g.G.Guest.memory c.store_at.new.guest in
    let given = rw (place, ap value_of c.deref.ensures) at c.store_at.ensures.fault in
    rw (c.in-Some.is, ← variant) (if-err-as c.store_at.result _ _ (λ k e. case-ended limit A cs c.args.at i (payload_value i w) old mid k new led c.write_number.ensures.same_length
    (ended-as limit A (Stores u a w) (CaseStores cs a i i (payload_value i w)) mid k new (λ es h. payload-stored cs a i i u w es found h) e)) given)

pub store_items-store_texts-requires-clause-typed : goal.store_items-store_texts-requires-clause-typed
store_items-store_texts-requires-clause-typed g t c = rw c.in-String.is at c.requires.typed
