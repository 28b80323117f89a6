use Rattle.std.proofs.Common.{◌≡◌, ◌+◌, map, Some, None, Ok, option_map, ap, sym, ◌∙◌, subst, arith}
use Rattle.std.proofs.lemmas.Result.{err_from_is_err_and}
use Rattle.std.proofs.lemmas.List.{map-append}
use Rattle.canonical_abi.specs.Types.{ClosedType, prim_type, boolean, record_fields, variant_cases, nth_case}
use Rattle.canonical_abi.specs.Values.{payload_value, values_of, list_value}
use Rattle.canonical_abi.specs.Layout.{size, align, discriminant_size, payload_place}
use Rattle.canonical_abi.specs.Reading.{reading, each_at, number_at, byte_width, case_number, ◌>>=◌}
use Rattle.tables.specs.Closed.{closed_type, prim_of}
use Rattle.values.specs.Val.{value_of}
use Rattle.lift_lower.specs.NoValue.{AnswersAs}
use Rattle.values.proofs.TypesExtents.{member-depth, case-depth, payload-place, payload-fits}
use Rattle.lift_lower.proofs.ListsAreLoaded.{fails-pass, listed, list-opened, read-list, as-listed}
use Rattle.lift_lower.proofs.ReadingStepByStep.{each-more, each-fault, fields-more, fields-fault, fields-done, case-none, case-plain, case-payload, plain-none}
use Rattle.values.proofs.FieldsFromAPlace.{nth_field-some}
use Rattle.lift_lower.proofs.PlacesOfFields.{end_before, end-next, place-of-field, field-fits}
use Rattle.values.proofs.ValueOfEachVariant.{value_of-List, value_of-None, value_of-Some}
use Rattle.lift_lower.proofs.loading.+load.Goals as goal

pub load_at-returns-in-Primitive-clause-value : goal.load_at-returns-in-Primitive-clause-value
load_at-returns-in-Primitive-clause-value t c = rw c.in-Primitive.is c.load_primitive.ensures.value

pub load_compound-returns-in_err-items-in-List-clause-value : goal.load_compound-returns-in_err-items-in-List-clause-value
load_compound-returns-in_err-items-in-List-clause-value t c =
    let r = c.args.table.now in
    let opened = read-list (closed_type r c.args.ty) (closed_type r c.in-List.element) c.args.memory.now c.args.at c.u32_at-start-in-List.result c.u32_at-count.result c.in-List.ensures.shape.0 c.u32_at-start-in-List.ensures c.u32_at-count.ensures in
    let p = err_from_is_err_and c.from_residual.result c.from_residual.ensures.1 in
    rw (p.1, p.2) (fails-pass c.in_err-items-in-List.field-0.0 _ _ c.in_err-items-in-List.ensures (λ k e. opened ∙ e))

pub load_compound-returns-in_ok-items-in-List-clause-value : goal.load_compound-returns-in_ok-items-in-List-clause-value
load_compound-returns-in_ok-items-in-List-clause-value t c =
    let r = c.args.table.now in
    let opened = read-list (closed_type r c.args.ty) (closed_type r c.in-List.element) c.args.memory.now c.args.at c.u32_at-start-in-List.result c.u32_at-count.result c.in-List.ensures.shape.0 c.u32_at-start-in-List.ensures c.u32_at-count.ensures in
    rw value_of-List (opened ∙ c.in_ok-items-in-List.ensures)

pub load_list-returns-in_err-item : goal.load_list-returns-in_err-item
load_list-returns-in_err-item t c =
    let f = reading (closed_type c.args.table.now c.args.element) c.args.memory.now in
    let step = c.size_of-step.result in
    let opened = list-opened f c.args.memory.now c.args.start c.args.count c.align_of-align.result step _ _ c.align_of-align.ensures.value c.size_of-step.ensures.value c.in_ok-check_block.ensures.value in
    let p = err_from_is_err_and c.from_residual-in_err-item.result c.from_residual-in_err-item.ensures.1 in
    rw (p.1, p.2) (fails-pass c.in_err-item.field-0.0 _ _ c.in_err-item.ensures.value (λ k e.
    opened ∙ ap listed (each-fault f step c.args.start c.args.count c.loop-index.index _ _ (omega arith) c.loop-index.invariant k e)))

pub load_list-returns-in-Primitive : goal.load_list-returns-in-Primitive
load_list-returns-in-Primitive t c =
    let u = closed_type c.args.table.now c.args.element in
    let q = prim_of c.in-Primitive.primitive in
    let m = c.args.memory.now in
    let same : u ≡ prim_type q = ap (closed_type c.args.table.now) c.in-Primitive.is in
    let opened = list-opened (reading u m) m c.args.start c.args.count c.align_of-align.result c.size_of-step.result _ _ c.align_of-align.ensures.value c.size_of-step.ensures.value c.in_ok-check_block.ensures.value in
    let P : ClosedType → Type 0 = λ x. AnswersAs (λ v. list_value (values_of (map value_of v.items))) c.load_scalars.result (listed (each_at (reading x m) (size x) c.args.start c.args.count)) in
    let here : P u = subst P (sym same) (as-listed c.load_scalars.result _ c.load_scalars.ensures) in
    subst (λ x. AnswersAs (λ v. list_value (values_of (map value_of v.items))) c.load_scalars.result x)
    (sym (opened ∙ ap (λ s. listed (each_at (reading u m) s c.args.start c.args.count)) c.size_of-step.ensures.value)) here

pub load_list-loop-index-preserved : goal.load_list-loop-index-preserved
load_list-loop-index-preserved t c =
    let f = reading (closed_type c.args.table.now c.args.element) c.args.memory.now in
    rw (c.in_ok-push.ensures.items, map-append) (each-more f c.size_of-step.result c.args.start c.args.count c.loop-index.index _ _ (omega arith) c.loop-index.invariant (value_of c.in_ok-item.item) c.in_ok-item.ensures.value)

pub load_record-unreachable-requires : goal.load_record-unreachable-requires
load_record-unreachable-requires t c =
    nth_field-some (record_fields (closed_type c.args.table.now c.args.ty)) c.loop-index.index (omega (arith, c.requires.counted)) (sym c.in_default.ensures.found)

pub load_record-overflow_add-place : goal.load_record-overflow_add-place
load_record-overflow_add-place t c =
    let fs = record_fields (closed_type c.args.table.now c.args.ty) in
    let h = field-fits fs c.loop-index.index (closed_type c.args.table.now c.in-Some.field.ty) c.in-Some.field.offset (sym c.in-Some.ensures.found) c.in-Some.ensures.place in
    omega arith

pub load_record-load_at-requires : goal.load_record-load_at-requires
load_record-load_at-requires t c =
    let fs = record_fields (closed_type c.args.table.now c.args.ty) in
    let u = closed_type c.args.table.now c.in-Some.field.ty in
    let found = sym c.in-Some.ensures.found in
    let h = field-fits fs c.loop-index.index u c.in-Some.field.offset found c.in-Some.ensures.place in
    (omega (arith, member-depth fs c.loop-index.index u found, c.decreases), (c.in-Some.ensures.inside, omega arith))

pub load_record-returns-in_err-value : goal.load_record-returns-in_err-value
load_record-returns-in_err-value t c =
    let fs = record_fields (closed_type c.args.table.now c.args.ty) in
    let i = c.loop-index.index in
    let u = closed_type c.args.table.now c.in-Some.field.ty in
    let found = sym c.in-Some.ensures.found in
    let place = place-of-field fs i u c.in-Some.field.offset found c.in-Some.ensures.place in
    let p = err_from_is_err_and c.from_residual-in_err-value.result c.from_residual-in_err-value.ensures.1 in
    rw (p.1, p.2) (fails-pass c.in_err-value.field-0.0 _ _ c.in_err-value.ensures.value (λ k e.
    fields-fault fs c.args.memory.now c.args.at (end_before 0 i fs) i u _ _ found c.loop-index.invariant k (ap (λ x. reading u c.args.memory.now (c.args.at + x)) (sym place) ∙ e)))

pub load_record-loop-index-preserved : goal.load_record-loop-index-preserved
load_record-loop-index-preserved t c =
    let fs = record_fields (closed_type c.args.table.now c.args.ty) in
    let i = c.loop-index.index in
    let u = closed_type c.args.table.now c.in-Some.field.ty in
    let found = sym c.in-Some.ensures.found in
    let place = place-of-field fs i u c.in-Some.field.offset found c.in-Some.ensures.place in
    rw (end-next 0 i fs u found, c.in_ok-push.ensures.items, map-append)
    (fields-more fs c.args.memory.now c.args.at (end_before 0 i fs) i u _ _ found c.loop-index.invariant (value_of c.in_ok-value.value) (ap (λ x. reading u c.args.memory.now (c.args.at + x)) (sym place) ∙ c.in_ok-value.ensures.value))

pub load_record-returns : goal.load_record-returns
load_record-returns t c =
    let fs = record_fields (closed_type c.args.table.now c.args.ty) in
    let i : c.args.count ≡ c.loop-index.index = omega arith in
    fields-done fs c.args.memory.now c.args.at (end_before 0 c.loop-index.index fs) c.loop-index.index (prim_type boolean) _ _ (c.requires.counted ∙ i) c.loop-index.invariant

pub load_variant-returns-in_default-clause-value : goal.load_variant-returns-in_default-clause-value
load_variant-returns-in_default-clause-value t c =
    let cs = variant_cases (closed_type c.args.table.now c.args.ty) in
    let m = c.args.memory.now in
    let i = c.number_of_size-case.result in
    let num : i ≡ case_number cs m c.args.at =
    c.number_of_size-case.ensures ∙ ap (λ w. number_at m c.args.at (byte_width w)) (c.discriminant_bytes.ensures.value ∙ ap discriminant_size (sym c.requires.counted)) in
    rw (← num) (case-none m _ i cs i (sym c.in_default.ensures.found))

pub load_variant-returns-in_default-payload-clause-value : goal.load_variant-returns-in_default-payload-clause-value
load_variant-returns-in_default-payload-clause-value t c =
    let cs = variant_cases (closed_type c.args.table.now c.args.ty) in
    let m = c.args.memory.now in
    let i = c.number_of_size-case.result in
    let num : i ≡ case_number cs m c.args.at =
    c.number_of_size-case.ensures ∙ ap (λ w. number_at m c.args.at (byte_width w)) (c.discriminant_bytes.ensures.value ∙ ap discriminant_size (sym c.requires.counted)) in
    let found : nth_case cs i ≡ Some None = sym c.in-Some.ensures.found ∙ ap (λ o. Some (option_map (closed_type c.args.table.now) o)) c.in_default-payload.is in
    rw (← num, value_of-None) (case-plain m _ i cs i found)

pub load_variant-load_at-requires : goal.load_variant-load_at-requires
load_variant-load_at-requires t c =
    let v = closed_type c.args.table.now c.args.ty in
    let cs = variant_cases v in
    let u = closed_type c.args.table.now c.in-Some-payload.member in
    let found : nth_case cs c.number_of_size-case.result ≡ Some (Some u) = sym c.in-Some.ensures.found ∙ ap (λ o. Some (option_map (closed_type c.args.table.now) o)) c.in-Some-payload.is in
    let inside = rw c.in-Some-payload.is at c.in-Some.ensures.inside in
    let place : c.align_of-place.result ≡ payload_place cs = c.align_of-place.ensures.value ∙ ap align (sym c.requires.variant) ∙ sym (payload-place cs) in
    let whole = ap size c.requires.variant in
    (omega (arith, case-depth v c.number_of_size-case.result u found, c.decreases), (inside, omega (arith, payload-fits cs c.number_of_size-case.result u found)))

pub load_variant-returns-in_err-value-clause-value : goal.load_variant-returns-in_err-value-clause-value
load_variant-returns-in_err-value-clause-value t c =
    let cs = variant_cases (closed_type c.args.table.now c.args.ty) in
    let m = c.args.memory.now in
    let i = c.number_of_size-case.result in
    let num : i ≡ case_number cs m c.args.at =
    c.number_of_size-case.ensures ∙ ap (λ w. number_at m c.args.at (byte_width w)) (c.discriminant_bytes.ensures.value ∙ ap discriminant_size (sym c.requires.counted)) in
    let u = closed_type c.args.table.now c.in-Some-payload.member in
    let found : nth_case cs i ≡ Some (Some u) = sym c.in-Some.ensures.found ∙ ap (λ o. Some (option_map (closed_type c.args.table.now) o)) c.in-Some-payload.is in
    let place : c.align_of-place.result ≡ payload_place cs = c.align_of-place.ensures.value ∙ ap align (sym c.requires.variant) ∙ sym (payload-place cs) in
    let p = err_from_is_err_and c.from_residual.result c.from_residual.ensures.1 in
    rw (p.1, p.2, ← num, ← place) (fails-pass c.in_err-value.field-0.0 _ _ c.in_err-value.ensures.value (λ k e.
    case-payload m _ i cs i u found ∙ ap (λ r. r >>= λ v. Ok (payload_value i v)) e))

pub load_variant-returns-clause-value : goal.load_variant-returns-clause-value
load_variant-returns-clause-value t c =
    let cs = variant_cases (closed_type c.args.table.now c.args.ty) in
    let m = c.args.memory.now in
    let i = c.number_of_size-case.result in
    let num : i ≡ case_number cs m c.args.at =
    c.number_of_size-case.ensures ∙ ap (λ w. number_at m c.args.at (byte_width w)) (c.discriminant_bytes.ensures.value ∙ ap discriminant_size (sym c.requires.counted)) in
    let u = closed_type c.args.table.now c.in-Some-payload.member in
    let found : nth_case cs i ≡ Some (Some u) = sym c.in-Some.ensures.found ∙ ap (λ o. Some (option_map (closed_type c.args.table.now) o)) c.in-Some-payload.is in
    let place : c.align_of-place.result ≡ payload_place cs = c.align_of-place.ensures.value ∙ ap align (sym c.requires.variant) ∙ sym (payload-place cs) in
    let boxed : c.in_ok-new.field-0.value ≡ c.in_ok-value.value = c.in_ok-new.ensures.ok in
    rw (← num, ← place, value_of-Some, boxed) (case-payload m _ i cs i u found ∙ ap (λ r. r >>= λ v. Ok (payload_value i v)) c.in_ok-value.ensures.value)

pub load_variant-returns-in_err-value-clause-plain : goal.load_variant-returns-in_err-value-clause-plain
load_variant-returns-in_err-value-clause-plain t c =
    let cs = variant_cases (closed_type c.args.table.now c.args.ty) in
    let u = closed_type c.args.table.now c.in-Some-payload.member in
    let found : nth_case cs c.number_of_size-case.result ≡ Some (Some u) = sym c.in-Some.ensures.found ∙ ap (λ o. Some (option_map (closed_type c.args.table.now) o)) c.in-Some-payload.is in
    λ plain none. plain-none cs c.number_of_size-case.result u plain found

pub load_variant-returns-in_err-new-clause-plain : goal.load_variant-returns-in_err-new-clause-plain
load_variant-returns-in_err-new-clause-plain t c =
    let cs = variant_cases (closed_type c.args.table.now c.args.ty) in
    let u = closed_type c.args.table.now c.in-Some-payload.member in
    let found : nth_case cs c.number_of_size-case.result ≡ Some (Some u) = sym c.in-Some.ensures.found ∙ ap (λ o. Some (option_map (closed_type c.args.table.now) o)) c.in-Some-payload.is in
    λ plain none. plain-none cs c.number_of_size-case.result u plain found
