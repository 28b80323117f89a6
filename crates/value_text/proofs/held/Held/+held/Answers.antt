use Rattle.std.proofs.Common.{◌≡◌, ◌+◌, ◌*◌, ◌<◌, ◌≤◌, IsTrue, [], ◌∷◌, ◌++◌, Ok, Err, Some, map, length, get_or, slice_get, refl, sym, ap, ◌∙◌, subst, arith, rules}
use Rattle.std.proofs.lemmas.List.{length-map}
use Rattle.canonical_abi.specs.Labelled.{closed, closed_members, closed_fields, closed_cases, closed_payload, labelled_tuple, labelled_record, labelled_variant, labelled_option, labelled_result, payload, some_label, ok_label, error_label}
use Rattle.canonical_abi.specs.Layout.{size, field_places, payload_place}
use Rattle.canonical_abi.specs.Memory.{Holds}
use Rattle.canonical_abi.specs.Types.{no_case, plain_case, case_with, record_fields, field_count}
use Rattle.serde_json.specs.Data.{array}
use Rattle.serde_json.specs.View.{items_of}
use Rattle.serde_json.specs.Written.{compact_text}
use Rattle.tables.proofs.ErasesToClosed.{erases}
use Rattle.tables.specs.Closed.{closed_type}
use Rattle.tables.specs.Labelled.{labelled_type, labelled_types, labelled_members, labelled_fields, labelled_cases, labelled_payload}
use Rattle.tables.specs.Tables.{is_below, is_type, option_all}
use Rattle.tables.specs.declared.tables.ValType.TheVariants as val
use Rattle.tables.specs.declared.tables.Primitive.TheVariants as primitive
use Rattle.values.proofs.PackageTypesAreStandard.{known-inside}
use Rattle.value_json.specs.Json.{one_member}
use Rattle.value_json.proofs.RanksOfTypes.{rank-below}
use Rattle.value_text.specs.Function.{json_of, payload_json, members_json, inner}
use Rattle.value_text.specs.Held.{IsHeld}
use Rattle.value_text.specs.Puts.{Puts, PutsWithin}
use Rattle.value_text.specs.Texts.{comma_at, key_at}
use Rattle.value_text.proofs.Elements.{is-at, at-or, at-some, at-all, at-true, at-map}
use Rattle.value_text.proofs.FieldsInOrder.{field-next, member-long, member-end}
use Rattle.value_text.proofs.ItemsInTurn.{item-next, item-long, item-end, member-parts}
use Rattle.value_text.proofs.PutsInTurn.{puts-then, within-then}
use Rattle.value_text.proofs.Ranks.{payload-below}
use Rattle.value_text.proofs.HeldInTurn.{step-inside, each-many, each-at, list-parts, list-data, fields-of-row, fields-at, field-inside, fields-many, count-fields, count-members, type-of-field, type-of-member, member-data, members-many, tuple-data, record-data, first-is, later-is, case-is, payload-inside, count-cases, count-two, discriminant-fits, place-is, variant-parts, case-inside, case-held, variant-data, option-held, some-data, result-held, ok-data, error-data}
use Rattle.value_text.proofs.held.Held.+held.Goals as goal

-- ---- items, fields and payloads

pub write_item-returns : goal.write_item-returns
write_item-returns t c = λ v h.
    within-then c.args.self.now.limit c.args.room.now c.args.at (comma_at c.args.index) c.put_comma.new.room c.in_ok-begun.begun (compact_text (json_of (labelled_type c.args.self.now.types.now c.args.ty) v))
    c.write_at.new.room c.write_at.result c.in_ok-begun.ensures.0 (c.write_at.ensures v h)

pub write_field-returns : goal.write_field-returns
write_field-returns t c = λ v h.
    let key = key_at c.args.index c.args.field.now.name in
    let front = subst (λ q. Puts (key_at c.args.index q) c.args.room.now c.args.at c.put_key.new.room c.in_ok-named.named) c.as_str.ensures.is c.in_ok-named.ensures.0 in
    within-then c.args.self.now.limit c.args.room.now c.args.at key c.put_key.new.room c.in_ok-named.named (compact_text (json_of (labelled_type c.args.self.now.types.now c.args.field.now.ty) v))
    c.write_at.new.room c.write_at.result front (c.write_at.ensures v h)

pub write_payload-returns : goal.write_payload-returns
write_payload-returns t c = λ v h.
    let room = c.args.room.now in
    let at = c.args.at in
    let l = c.args.label.now in
    let d = json_of (labelled_type c.args.self.now.types.now c.args.ty) v in
    let key = key_at 0 l in
    let one = puts-then room at (123 ∷ []) c.put.new.room c.in_ok-open.open key c.put_key.new.room c.in_ok-named.named c.in_ok-open.ensures.0 c.in_ok-named.ensures.0 in
    let two = puts-then room at ((123 ∷ []) ++ key) c.put_key.new.room c.in_ok-named.named (compact_text d) c.write_at.new.room c.in_ok-end.end one (c.in_ok-end.ensures v h).0 in
    let whole = within-then c.args.self.now.limit room at (((123 ∷ []) ++ key) ++ compact_text d) c.write_at.new.room c.in_ok-end.end (125 ∷ []) c.put-2.new.room c.put-2.result two c.put-2.ensures in
    subst (λ xs. PutsWithin c.args.self.now.limit xs room at c.put-2.result c.put-2.new.room) (sym (member-parts l d)) whole

-- ---- lists

pub write_list-write_elements-requires : goal.write_list-write_elements-requires
write_list-write_elements-requires t c =
    let u = closed (labelled_type c.args.self.now.types.now c.args.element) in
    let (v, h) = c.requires.holds in
    let (vs, each, is, inside) = list-parts u c.args.self.now.memory.now c.args.from c.u32_at-start.result c.u32_at-count.result v c.u32_at-start.ensures c.u32_at-count.ensures h in
    (search rules, (c.requires.inside, (c.requires.labels, (c.requires.ordered, (c.requires.short, (inside, ((vs, each), c.requires.few)))))))

pub write_list-returns : goal.write_list-returns
write_list-returns t c = λ v h.
    let l = labelled_type c.args.self.now.types.now c.args.element in
    let (vs, each, is, inside) = list-parts (closed l) c.args.self.now.memory.now c.args.from c.u32_at-start.result c.u32_at-count.result v c.u32_at-start.ensures c.u32_at-count.ensures h in
    subst (λ d. PutsWithin c.args.self.now.limit (compact_text d) c.args.room.now c.args.at c.write_elements.result c.write_elements.new.room) (sym (list-data l vs v is)) (c.write_elements.ensures vs each)

pub write_elements-write_item-requires : goal.write_elements-write_item-requires
write_elements-write_item-requires t c =
    let r = c.args.self.now.types.now in
    let u = closed (labelled_type r c.args.element) in
    let m = c.args.self.now.memory.now in
    let start = c.args.start in
    let count = c.args.count in
    let step = c.size_of-step.result in
    let i = c.loop-index.index in
    let same : step ≡ size u = c.size_of-step.ensures.value ∙ ap size (sym (erases r c.args.element)) in
    let (vs, each) = c.requires.holds in
    let (w, at_w, held) = each-at (Holds u m) (size u) start count vs i c.loop-index-test.true each in
    let holds = subst (λ s. IsHeld (labelled_type r c.args.element) m (start + i * s)) (sym same) (w, held) in
    let less = step-inside i count step c.loop-index-test.true in
    let whole = subst (λ s. start + count * s ≤ length m) (sym same) c.requires.fits in
    let fits : start + i * step + size u ≤ length m = omega (arith, less, whole, same) in
    (search rules, (c.requires.inside, (c.requires.labels, (c.requires.ordered, (c.requires.short, (fits, (holds, c.loop-index.invariant.1)))))))

pub write_elements-overflow_mul-index : goal.write_elements-overflow_mul-index
write_elements-overflow_mul-index t c =
    let same = c.size_of-step.ensures.value ∙ ap size (sym (erases c.args.self.now.types.now c.args.element)) in
    let less = step-inside c.loop-index.index c.args.count c.size_of-step.result c.loop-index-test.true in
    let fits = subst (λ s. c.args.start + c.args.count * s ≤ length c.args.self.now.memory.now) (sym same) c.requires.fits in
    omega (arith, less, fits, c.requires.short)

pub write_elements-overflow_add-start : goal.write_elements-overflow_add-start
write_elements-overflow_add-start t c =
    let same = c.size_of-step.ensures.value ∙ ap size (sym (erases c.args.self.now.types.now c.args.element)) in
    let less = step-inside c.loop-index.index c.args.count c.size_of-step.result c.loop-index-test.true in
    let fits = subst (λ s. c.args.start + c.args.count * s ≤ length c.args.self.now.memory.now) (sym same) c.requires.fits in
    omega (arith, less, fits, c.requires.short)

pub write_elements-returns-in_err-end-2 : goal.write_elements-returns-in_err-end-2
write_elements-returns-in_err-end-2 t c = λ vs each.
    let r = c.args.self.now.types.now in
    let l = labelled_type r c.args.element in
    let u = closed l in
    let m = c.args.self.now.memory.now in
    let limit = c.args.self.now.limit in
    let i = c.loop-index.index in
    let same : c.size_of-step.result ≡ size u = c.size_of-step.ensures.value ∙ ap size (sym (erases r c.args.element)) in
    let (w, at_w, held) = each-at (Holds u m) (size u) c.args.start c.args.count vs i c.loop-index-test.true each in
    let long = c.in_err-end-2.ensures w (subst (λ s. Holds u m (c.args.start + i * s) w) (sym same) held) in
    let js = map (json_of l) vs in
    let more = item-next limit c.args.room.now c.args.at js {E = Unit {0}} i (json_of l w) c.loop-index.room c.loop-index.end c.loop-index.room (Err tt) (at-map (json_of l) vs i w at_w) (c.loop-index.invariant.0 vs each) long in
    let whole : limit < c.args.at + length (compact_text (array (items_of js))) = item-long limit c.args.room.now c.args.at js (i + 1) more in
    search (rules, whole)

pub write_elements-loop-index-preserved : goal.write_elements-loop-index-preserved
write_elements-loop-index-preserved t c =
    let r = c.args.self.now.types.now in
    let l = labelled_type r c.args.element in
    let u = closed l in
    let m = c.args.self.now.memory.now in
    let start = c.args.start in
    let i = c.loop-index.index in
    let same : c.size_of-step.result ≡ size u = c.size_of-step.ensures.value ∙ ap size (sym (erases r c.args.element)) in
    let (vs0, each0) = c.requires.holds in
    let (w0, at_w0, held0) = each-at (Holds u m) (size u) start c.args.count vs0 i c.loop-index-test.true each0 in (
      λ vs each.
          let (w, at_w, held) = each-at (Holds u m) (size u) start c.args.count vs i c.loop-index-test.true each in
          let step = c.in_ok-end-2.ensures w (subst (λ s. Holds u m (start + i * s) w) (sym same) held) in
          (item-next c.args.self.now.limit c.args.room.now c.args.at (map (json_of l) vs) {E = Unit {0}} i (json_of l w) c.loop-index.room c.loop-index.end c.write_item.new.room (Ok c.in_ok-end-2.end)
          (at-map (json_of l) vs i w at_w) (c.loop-index.invariant.0 vs each) step).0,
      (c.in_ok-end-2.ensures w0 (subst (λ s. Holds u m (start + i * s) w0) (sym same) held0)).1,
    )

pub write_elements-returns : goal.write_elements-returns
write_elements-returns t c = λ vs each.
    let l = labelled_type c.args.self.now.types.now c.args.element in
    let u = closed l in
    let js = map (json_of l) vs in
    let many : length js ≡ c.args.count = length-map vs (json_of l) ∙ each-many (Holds u c.args.self.now.memory.now) (size u) c.args.start c.args.count vs each in
    let all : length js ≤ c.loop-index.index = omega (arith, many, c.loop-index-test.false) in
    item-end c.args.self.now.limit c.args.room.now c.args.at js c.loop-index.index c.loop-index.room c.loop-index.end c.put-2.new.room c.put-2.result all (c.loop-index.invariant.0 vs each) c.put-2.ensures

-- ---- tuples

pub write_tuple-place_of-requires-clause-field : goal.write_tuple-place_of-requires-clause-field
write_tuple-place_of-requires-clause-field t c =
    let r = c.args.self.now.types.now in
    let rows = labelled_types r in
    let ts = c.args.types.now in
    let same = fields-of-row r c.args.id (labelled_tuple (labelled_members rows ts)) (closed_members (labelled_members rows ts)) c.requires.is refl in
    let many : field_count (record_fields (closed_type r (val.Id c.args.id))) ≡ length ts = ap field_count same ∙ count-members rows ts in
    omega (arith, many, c.loop-index-test.true)

pub write_tuple-overflow_add-place : goal.write_tuple-overflow_add-place
write_tuple-overflow_add-place t c =
    let r = c.args.self.now.types.now in
    let rows = labelled_types r in
    let ts = c.args.types.now in
    let fs = closed_members (labelled_members rows ts) in
    let i = c.loop-index.index in
    let p = c.place_of.result in
    let ty = get_or ts i (val.Primitive primitive.Bool) in
    let place : slice_get (field_places fs) i ≡ Some p = subst (λ f. slice_get (field_places f) i ≡ Some p) (fields-of-row r c.args.id (labelled_tuple (labelled_members rows ts)) fs c.requires.is refl) c.place_of.ensures in
    let inside = field-inside fs i (closed (labelled_type r ty)) c.args.from p (length c.args.self.now.memory.now) (type-of-member rows ts i ty (at-or ts i (val.Primitive primitive.Bool) c.loop-index-test.true)) place c.requires.fits in
    omega (arith, inside, c.requires.short)

pub write_tuple-write_item-requires : goal.write_tuple-write_item-requires
write_tuple-write_item-requires t c =
    let r = c.args.self.now.types.now in
    let rows = labelled_types r in
    let m = c.args.self.now.memory.now in
    let ts = c.args.types.now in
    let fs = closed_members (labelled_members rows ts) in
    let i = c.loop-index.index in
    let p = c.place_of.result in
    let ty = get_or ts i (val.Primitive primitive.Bool) in
    let at_t = at-or ts i (val.Primitive primitive.Bool) c.loop-index-test.true in
    let typed = type-of-member rows ts i ty at_t in
    let place : slice_get (field_places fs) i ≡ Some p = subst (λ f. slice_get (field_places f) i ≡ Some p) (fields-of-row r c.args.id (labelled_tuple (labelled_members rows ts)) fs c.requires.is refl) c.place_of.ensures in
    let inside = field-inside fs i (closed (labelled_type r ty)) c.args.from p (length m) typed place c.requires.fits in
    let (v, h) = c.requires.holds in
    let (vs, held, is) = h in
    let (w, at_w, here) = fields-at fs m c.args.from 0 i (closed (labelled_type r ty)) p vs typed place held in
    let below : IsTrue (is_below c.args.id.0 ty) = at-true (is_below c.args.id.0) ts i ty at_t c.requires.below in
    let known : IsTrue (is_type r.definitions ty) = at-true (is_type r.definitions) ts i ty at_t c.requires.types in
    let low = rank-below c.args.id.0 ty below in
    (search rules, (known, (c.requires.labels, (c.requires.ordered, (c.requires.short, (inside, ((w, here), c.loop-index.invariant.1)))))))

pub write_tuple-returns-in_err-end-2 : goal.write_tuple-returns-in_err-end-2
write_tuple-returns-in_err-end-2 t c = λ v h.
    let r = c.args.self.now.types.now in
    let rows = labelled_types r in
    let m = c.args.self.now.memory.now in
    let limit = c.args.self.now.limit in
    let ts = c.args.types.now in
    let fs = closed_members (labelled_members rows ts) in
    let i = c.loop-index.index in
    let p = c.place_of.result in
    let ty = get_or ts i (val.Primitive primitive.Bool) in
    let at_t = at-or ts i (val.Primitive primitive.Bool) c.loop-index-test.true in
    let place : slice_get (field_places fs) i ≡ Some p = subst (λ f. slice_get (field_places f) i ≡ Some p) (fields-of-row r c.args.id (labelled_tuple (labelled_members rows ts)) fs c.requires.is refl) c.place_of.ensures in
    let (vs, held, is) = h in
    let (w, at_w, here) = fields-at fs m c.args.from 0 i (closed (labelled_type r ty)) p vs (type-of-member rows ts i ty at_t) place held in
    let js = members_json (labelled_members rows ts) vs in
    let more = item-next limit c.args.room.now c.args.at js {E = Unit {0}} i (json_of (labelled_type r ty) w) c.loop-index.room c.loop-index.end c.loop-index.room (Err tt) (member-data rows ts vs i ty w at_t at_w) (c.loop-index.invariant.0 vs held)
    (c.in_err-end-2.ensures w here) in
    let passed = item-long limit c.args.room.now c.args.at js (i + 1) more in
    let whole : limit < c.args.at + length (compact_text (json_of (labelled_tuple (labelled_members rows ts)) v)) =
    subst (λ d. limit < c.args.at + length (compact_text d)) (sym (tuple-data rows ts vs v is)) passed in
    search (rules, whole)

pub write_tuple-loop-index-preserved : goal.write_tuple-loop-index-preserved
write_tuple-loop-index-preserved t c =
    let r = c.args.self.now.types.now in
    let rows = labelled_types r in
    let m = c.args.self.now.memory.now in
    let ts = c.args.types.now in
    let fs = closed_members (labelled_members rows ts) in
    let i = c.loop-index.index in
    let p = c.place_of.result in
    let ty = get_or ts i (val.Primitive primitive.Bool) in
    let at_t = at-or ts i (val.Primitive primitive.Bool) c.loop-index-test.true in
    let place : slice_get (field_places fs) i ≡ Some p = subst (λ f. slice_get (field_places f) i ≡ Some p) (fields-of-row r c.args.id (labelled_tuple (labelled_members rows ts)) fs c.requires.is refl) c.place_of.ensures in
    let typed = type-of-member rows ts i ty at_t in
    let (v, h) = c.requires.holds in
    let (vs0, held0, is0) = h in
    let (w0, at_w0, here0) = fields-at fs m c.args.from 0 i (closed (labelled_type r ty)) p vs0 typed place held0 in (
      λ vs held.
          let (w, at_w, here) = fields-at fs m c.args.from 0 i (closed (labelled_type r ty)) p vs typed place held in
          (item-next c.args.self.now.limit c.args.room.now c.args.at (members_json (labelled_members rows ts) vs) {E = Unit {0}} i (json_of (labelled_type r ty) w) c.loop-index.room c.loop-index.end c.write_item.new.room (Ok c.in_ok-end-2.end)
          (member-data rows ts vs i ty w at_t at_w) (c.loop-index.invariant.0 vs held) (c.in_ok-end-2.ensures w here)).0,
      (c.in_ok-end-2.ensures w0 here0).1,
    )

pub write_tuple-returns : goal.write_tuple-returns
write_tuple-returns t c = λ v h.
    let r = c.args.self.now.types.now in
    let rows = labelled_types r in
    let ts = c.args.types.now in
    let fs = closed_members (labelled_members rows ts) in
    let i = c.loop-index.index in
    let (vs, held, is) = h in
    let js = members_json (labelled_members rows ts) vs in
    let many_vs : length vs ≡ length ts = fields-many fs c.args.self.now.memory.now c.args.from 0 vs held ∙ count-members rows ts in
    let many = members-many rows ts vs many_vs in
    let all : length js ≤ i = omega (arith, many, c.loop-index-test.false) in
    let whole = item-end c.args.self.now.limit c.args.room.now c.args.at js i c.loop-index.room c.loop-index.end c.put-2.new.room c.put-2.result all (c.loop-index.invariant.0 vs held) c.put-2.ensures in
    subst (λ d. PutsWithin c.args.self.now.limit (compact_text d) c.args.room.now c.args.at c.put-2.result c.put-2.new.room) (sym (tuple-data rows ts vs v is)) whole

-- ---- records

pub write_record-place_of-requires-clause-field : goal.write_record-place_of-requires-clause-field
write_record-place_of-requires-clause-field t c =
    let r = c.args.self.now.types.now in
    let rows = labelled_types r in
    let fs = c.args.fields.now in
    let order = c.order_of-order.result.now in
    let i = get_or order c.loop-index.index 0 in
    let same = fields-of-row r c.args.id (labelled_record (labelled_fields rows fs)) (closed_fields (labelled_fields rows fs)) c.requires.is refl in
    let many : field_count (record_fields (closed_type r (val.Id c.args.id))) ≡ length fs = ap field_count same ∙ count-fields rows fs in
    let less : i < length fs = at-all (λ k. k < length fs) order c.loop-index.index i (at-or order c.loop-index.index 0 c.loop-index-test.true) c.order_of-order.ensures.1 in
    omega (arith, many, less)

pub write_record-overflow_add-place : goal.write_record-overflow_add-place
write_record-overflow_add-place t c =
    let r = c.args.self.now.types.now in
    let rows = labelled_types r in
    let fs = c.args.fields.now in
    let cs = closed_fields (labelled_fields rows fs) in
    let order = c.order_of-order.result.now in
    let i = get_or order c.loop-index.index 0 in
    let p = c.place_of.result in
    let less : i < length fs = at-all (λ k. k < length fs) order c.loop-index.index i (at-or order c.loop-index.index 0 c.loop-index-test.true) c.order_of-order.ensures.1 in
    let place : slice_get (field_places cs) i ≡ Some p = subst (λ f. slice_get (field_places f) i ≡ Some p) (fields-of-row r c.args.id (labelled_record (labelled_fields rows fs)) cs c.requires.is refl) c.place_of.ensures in
    let (f, at_f) = at-some fs i less in
    let inside = field-inside cs i (closed (labelled_type r f.ty)) c.args.from p (length c.args.self.now.memory.now) (type-of-field rows fs i f at_f) place c.requires.fits in
    omega (arith, inside, c.requires.short)

pub write_record-write_field-requires : goal.write_record-write_field-requires
write_record-write_field-requires t c =
    let r = c.args.self.now.types.now in
    let rows = labelled_types r in
    let m = c.args.self.now.memory.now in
    let fs = c.args.fields.now in
    let cs = closed_fields (labelled_fields rows fs) in
    let order = c.order_of-order.result.now in
    let i = get_or order c.loop-index.index 0 in
    let p = c.place_of.result in
    let f = c.index-fields-i.result in
    let less : i < length fs = at-all (λ k. k < length fs) order c.loop-index.index i (at-or order c.loop-index.index 0 c.loop-index-test.true) c.order_of-order.ensures.1 in
    let at_f = is-at fs i f less c.index-fields-i.is in
    let typed = type-of-field rows fs i f at_f in
    let place : slice_get (field_places cs) i ≡ Some p = subst (λ g. slice_get (field_places g) i ≡ Some p) (fields-of-row r c.args.id (labelled_record (labelled_fields rows fs)) cs c.requires.is refl) c.place_of.ensures in
    let inside = field-inside cs i (closed (labelled_type r f.ty)) c.args.from p (length m) typed place c.requires.fits in
    let (v, h) = c.requires.holds in
    let (vs, held, is) = h in
    let (w, at_w, here) = fields-at cs m c.args.from 0 i (closed (labelled_type r f.ty)) p vs typed place held in
    let below : IsTrue (is_below c.args.id.0 f.ty) = at-true (λ g. is_below c.args.id.0 g.ty) fs i f at_f c.requires.below in
    let known : IsTrue (is_type r.definitions f.ty) = at-true (λ g. is_type r.definitions g.ty) fs i f at_f c.requires.types in
    let low = rank-below c.args.id.0 f.ty below in
    (search rules, (known, (c.requires.labels, (c.requires.ordered, (c.requires.short, (inside, ((w, here), c.loop-index.invariant.1)))))))

pub write_record-returns-in_err-end-2 : goal.write_record-returns-in_err-end-2
write_record-returns-in_err-end-2 t c = λ v h.
    let r = c.args.self.now.types.now in
    let rows = labelled_types r in
    let m = c.args.self.now.memory.now in
    let limit = c.args.self.now.limit in
    let fs = c.args.fields.now in
    let cs = closed_fields (labelled_fields rows fs) in
    let order = c.order_of-order.result.now in
    let k = c.loop-index.index in
    let i = get_or order k 0 in
    let p = c.place_of.result in
    let f = c.index-fields-i.result in
    let at_k = at-or order k 0 c.loop-index-test.true in
    let less : i < length fs = at-all (λ n. n < length fs) order k i at_k c.order_of-order.ensures.1 in
    let at_f = is-at fs i f less c.index-fields-i.is in
    let place : slice_get (field_places cs) i ≡ Some p = subst (λ g. slice_get (field_places g) i ≡ Some p) (fields-of-row r c.args.id (labelled_record (labelled_fields rows fs)) cs c.requires.is refl) c.place_of.ensures in
    let (vs, held, is) = h in
    let (w, at_w, here) = fields-at cs m c.args.from 0 i (closed (labelled_type r f.ty)) p vs (type-of-field rows fs i f at_f) place held in
    let more = field-next rows fs vs order limit c.args.room.now c.args.at {E = Unit {0}} k i f w c.loop-index.room c.loop-index.end c.loop-index.room (Err tt) at_k at_f at_w (c.loop-index.invariant.0 vs held) (c.in_err-end-2.ensures w here) in
    let passed = member-long rows fs vs order limit c.args.room.now c.args.at (k + 1) more in
    let many : length vs ≡ length fs = fields-many cs m c.args.from 0 vs held ∙ count-fields rows fs in
    let whole : limit < c.args.at + length (compact_text (json_of (labelled_record (labelled_fields rows fs)) v)) =
    subst (λ d. limit < c.args.at + length (compact_text d)) (sym (record-data rows fs vs order v is c.requires.apart many c.order_of-order.ensures)) passed in
    search (rules, whole)

pub write_record-loop-index-preserved : goal.write_record-loop-index-preserved
write_record-loop-index-preserved t c =
    let r = c.args.self.now.types.now in
    let rows = labelled_types r in
    let m = c.args.self.now.memory.now in
    let fs = c.args.fields.now in
    let cs = closed_fields (labelled_fields rows fs) in
    let order = c.order_of-order.result.now in
    let k = c.loop-index.index in
    let i = get_or order k 0 in
    let p = c.place_of.result in
    let f = c.index-fields-i.result in
    let at_k = at-or order k 0 c.loop-index-test.true in
    let less : i < length fs = at-all (λ n. n < length fs) order k i at_k c.order_of-order.ensures.1 in
    let at_f = is-at fs i f less c.index-fields-i.is in
    let place : slice_get (field_places cs) i ≡ Some p = subst (λ g. slice_get (field_places g) i ≡ Some p) (fields-of-row r c.args.id (labelled_record (labelled_fields rows fs)) cs c.requires.is refl) c.place_of.ensures in
    let typed = type-of-field rows fs i f at_f in
    let (v, h) = c.requires.holds in
    let (vs0, held0, is0) = h in
    let (w0, at_w0, here0) = fields-at cs m c.args.from 0 i (closed (labelled_type r f.ty)) p vs0 typed place held0 in (
      λ vs held.
          let (w, at_w, here) = fields-at cs m c.args.from 0 i (closed (labelled_type r f.ty)) p vs typed place held in
          (field-next rows fs vs order c.args.self.now.limit c.args.room.now c.args.at {E = Unit {0}} k i f w c.loop-index.room c.loop-index.end c.write_field.new.room (Ok c.in_ok-end-2.end) at_k at_f at_w (c.loop-index.invariant.0 vs held)
          (c.in_ok-end-2.ensures w here)).0,
      (c.in_ok-end-2.ensures w0 here0).1,
    )

pub write_record-returns : goal.write_record-returns
write_record-returns t c = λ v h.
    let r = c.args.self.now.types.now in
    let rows = labelled_types r in
    let fs = c.args.fields.now in
    let cs = closed_fields (labelled_fields rows fs) in
    let order = c.order_of-order.result.now in
    let (vs, held, is) = h in
    let many : length vs ≡ length fs = fields-many cs c.args.self.now.memory.now c.args.from 0 vs held ∙ count-fields rows fs in
    let whole = member-end rows fs vs order c.args.self.now.limit c.args.room.now c.args.at c.loop-index.index c.loop-index.room c.loop-index.end c.put-2.new.room c.put-2.result c.loop-index-test.false (c.loop-index.invariant.0 vs held) c.put-2.ensures in
    subst (λ d. PutsWithin c.args.self.now.limit (compact_text d) c.args.room.now c.args.at c.put-2.result c.put-2.new.room) (sym (record-data rows fs vs order v is c.requires.apart many c.order_of-order.ensures)) whole

-- ---- options

pub write_option-write_payload-requires : goal.write_option-write_payload-requires
write_option-write_payload-requires t c =
    let r = c.args.self.now.types.now in
    let l = labelled_type r c.args.ty in
    let m = c.args.self.now.memory.now in
    let cs = plain_case (case_with (closed l) no_case) in
    let place = c.align_of.result in
    let same = place-is r c.args.id (labelled_option l) cs place c.align_of.ensures.value c.requires.is refl in
    let (v, h) = c.requires.holds in
    let parts = variant-parts cs 2 m c.args.from c.case_at.result place v refl c.case_at.ensures same h in
    let (one, some) = (option-held l m (c.args.from + place) c.case_at.result v parts).1 (λ e. omega (arith, e, c.if-case_at-eq0.false)) in
    let (w, held, is) = some in
    let fits = payload-inside (payload l) cs 1 m c.args.from place refl same c.requires.fits in
    let low = rank-below c.args.id.0 c.args.ty c.requires.below in
    (search rules, (c.requires.inside, (c.requires.labels, (c.requires.ordered, (c.requires.short, (fits, ((w, held), c.requires.few)))))))

pub write_option-returns : goal.write_option-returns
write_option-returns t c = λ v h.
    let r = c.args.self.now.types.now in
    let l = labelled_type r c.args.ty in
    let m = c.args.self.now.memory.now in
    let cs = plain_case (case_with (closed l) no_case) in
    let place = c.align_of.result in
    let same = place-is r c.args.id (labelled_option l) cs place c.align_of.ensures.value c.requires.is refl in
    let parts = variant-parts cs 2 m c.args.from c.case_at.result place v refl c.case_at.ensures same h in
    let (one, some) = (option-held l m (c.args.from + place) c.case_at.result v parts).1 (λ e. omega (arith, e, c.if-case_at-eq0.false)) in
    let (w, held, is) = some in
    let same_data : json_of (labelled_option l) v ≡ one_member some_label (json_of l w) = some-data l m (c.args.from + place) v some ∙ ap (λ x. one_member some_label (json_of l (inner x))) is in
    subst (λ d. PutsWithin c.args.self.now.limit (compact_text d) c.args.room.now c.args.at c.write_payload.result c.write_payload.new.room) (sym same_data) (c.write_payload.ensures w held)

-- ---- results

pub write_result-write_case-requires : goal.write_result-write_case-requires
write_result-write_case-requires t c =
    let r = c.args.self.now.types.now in
    let rows = labelled_types r in
    let m = c.args.self.now.memory.now in
    let ok = labelled_payload rows c.args.ok in
    let error = labelled_payload rows c.args.error in
    let cs = closed_payload ok (closed_payload error no_case) in
    let place = c.align_of.result in
    let same = place-is r c.args.id (labelled_result ok error) cs place c.align_of.ensures.value c.requires.is refl in
    let (v, h) = c.requires.holds in
    let shaped = subst (λ l. Holds (closed l) m c.args.from v) c.requires.is h in
    let sized = subst (λ l. c.args.from + size (closed l) ≤ length m) c.requires.is c.requires.fits in
    let parts = variant-parts cs 2 m c.args.from c.case_at.result place v (count-two ok error) c.case_at.ensures same shaped in
    let held = (result-held ok error m (c.args.from + place) c.case_at.result v parts).0 (omega (arith, c.if-case_at-eq0.true)) in
    let fits = payload-inside ok cs 0 m c.args.from place (first-is ok (closed_payload error no_case)) same sized in
    let low = payload-below c.args.id.0 c.args.ok c.requires.below in
    (search rules, (c.requires.types, (c.requires.labels, (c.requires.ordered, (c.requires.short, (fits, ((0, v, held), c.requires.few)))))))

pub write_result-write_case-requires-else-case_at-eq0 : goal.write_result-write_case-requires-else-case_at-eq0
write_result-write_case-requires-else-case_at-eq0 t c =
    let r = c.args.self.now.types.now in
    let rows = labelled_types r in
    let m = c.args.self.now.memory.now in
    let ok = labelled_payload rows c.args.ok in
    let error = labelled_payload rows c.args.error in
    let cs = closed_payload ok (closed_payload error no_case) in
    let place = c.align_of.result in
    let same = place-is r c.args.id (labelled_result ok error) cs place c.align_of.ensures.value c.requires.is refl in
    let (v, h) = c.requires.holds in
    let shaped = subst (λ l. Holds (closed l) m c.args.from v) c.requires.is h in
    let sized = subst (λ l. c.args.from + size (closed l) ≤ length m) c.requires.is c.requires.fits in
    let parts = variant-parts cs 2 m c.args.from c.case_at.result place v (count-two ok error) c.case_at.ensures same shaped in
    let (one, held) = (result-held ok error m (c.args.from + place) c.case_at.result v parts).1 (λ e. omega (arith, e, c.if-case_at-eq0.false)) in
    let second = later-is ok error (closed_payload error no_case) 0 (first-is error no_case) in
    let fits = payload-inside error cs 1 m c.args.from place second same sized in
    let low = payload-below c.args.id.0 c.args.error c.requires.below_too in
    (search rules, (c.requires.types_too, (c.requires.labels, (c.requires.ordered, (c.requires.short, (fits, ((1, v, held), c.requires.few)))))))

pub write_result-returns-then-case_at-eq0 : goal.write_result-returns-then-case_at-eq0
write_result-returns-then-case_at-eq0 t c = λ v h.
    let r = c.args.self.now.types.now in
    let rows = labelled_types r in
    let m = c.args.self.now.memory.now in
    let ok = labelled_payload rows c.args.ok in
    let error = labelled_payload rows c.args.error in
    let cs = closed_payload ok (closed_payload error no_case) in
    let place = c.align_of.result in
    let same = place-is r c.args.id (labelled_result ok error) cs place c.align_of.ensures.value c.requires.is refl in
    let shaped = subst (λ l. Holds (closed l) m c.args.from v) c.requires.is h in
    let parts = variant-parts cs 2 m c.args.from c.case_at.result place v (count-two ok error) c.case_at.ensures same shaped in
    let held = (result-held ok error m (c.args.from + place) c.case_at.result v parts).0 (omega (arith, c.if-case_at-eq0.true)) in
    let same_data : json_of (labelled_type r (val.Id c.args.id)) v ≡ payload_json ok ok_label v = ap (λ l. json_of l v) c.requires.is ∙ ok-data ok error m (c.args.from + place) v held in
    subst (λ d. PutsWithin c.args.self.now.limit (compact_text d) c.args.room.now c.args.at c.write_case.result c.write_case.new.room) (sym same_data) (c.write_case.ensures 0 v held)

pub write_result-returns-else-case_at-eq0 : goal.write_result-returns-else-case_at-eq0
write_result-returns-else-case_at-eq0 t c = λ v h.
    let r = c.args.self.now.types.now in
    let rows = labelled_types r in
    let m = c.args.self.now.memory.now in
    let ok = labelled_payload rows c.args.ok in
    let error = labelled_payload rows c.args.error in
    let cs = closed_payload ok (closed_payload error no_case) in
    let place = c.align_of.result in
    let same = place-is r c.args.id (labelled_result ok error) cs place c.align_of.ensures.value c.requires.is refl in
    let shaped = subst (λ l. Holds (closed l) m c.args.from v) c.requires.is h in
    let parts = variant-parts cs 2 m c.args.from c.case_at.result place v (count-two ok error) c.case_at.ensures same shaped in
    let (one, held) = (result-held ok error m (c.args.from + place) c.case_at.result v parts).1 (λ e. omega (arith, e, c.if-case_at-eq0.false)) in
    let same_data : json_of (labelled_type r (val.Id c.args.id)) v ≡ payload_json error error_label v = ap (λ l. json_of l v) c.requires.is ∙ error-data ok error m (c.args.from + place) v held in
    subst (λ d. PutsWithin c.args.self.now.limit (compact_text d) c.args.room.now c.args.at c.write_case-else-case_at-eq0.result c.write_case-else-case_at-eq0.new.room) (sym same_data) (c.write_case-else-case_at-eq0.ensures 1 v held)

-- ---- variants

pub write_variant-case_at-requires : goal.write_variant-case_at-requires
write_variant-case_at-requires t c =
    let rows = labelled_types c.args.self.now.types.now in
    let xs = c.args.cases.now in
    discriminant-fits (closed_cases (labelled_cases rows xs)) (length xs) c.args.from (length c.args.self.now.memory.now) (count-cases rows xs) c.requires.fits

pub write_variant-bounds-cases-case_at : goal.write_variant-bounds-cases-case_at
write_variant-bounds-cases-case_at t c =
    let rows = labelled_types c.args.self.now.types.now in
    let xs = c.args.cases.now in
    let m = c.args.self.now.memory.now in
    let cs = closed_cases (labelled_cases rows xs) in
    let n = c.case_at.result in
    let (v, h) = c.requires.holds in
    let parts = variant-parts cs (length xs) m c.args.from n (payload_place cs) v (count-cases rows xs) c.case_at.ensures refl h in
    case-inside rows m (c.args.from + payload_place cs) xs n n v parts

pub write_variant-align_of-requires : goal.write_variant-align_of-requires
write_variant-align_of-requires t c = known-inside c.args.self.now.types.now (val.Id c.args.id) c.requires.itself

pub write_variant-write_case-requires : goal.write_variant-write_case-requires
write_variant-write_case-requires t c =
    let r = c.args.self.now.types.now in
    let rows = labelled_types r in
    let m = c.args.self.now.memory.now in
    let xs = c.args.cases.now in
    let cs = closed_cases (labelled_cases rows xs) in
    let n = c.case_at.result in
    let x = c.index-cases-case_at.result in
    let place = c.align_of.result in
    let same = place-is r c.args.id (labelled_variant (labelled_cases rows xs)) cs place c.align_of.ensures.value c.requires.is refl in
    let (v, h) = c.requires.holds in
    let parts = variant-parts cs (length xs) m c.args.from n place v (count-cases rows xs) c.case_at.ensures same h in
    let less = case-inside rows m (c.args.from + place) xs n n v parts in
    let at_x = is-at xs n x less c.index-cases-case_at.is in
    let held = case-held rows m (c.args.from + place) xs n n x v at_x parts in
    let fits = payload-inside (labelled_payload rows x.ty) cs n m c.args.from place (case-is rows xs n x at_x) same c.requires.fits in
    let below : IsTrue (option_all (is_below c.args.id.0) x.ty) = at-true (λ y. option_all (is_below c.args.id.0) y.ty) xs n x at_x c.requires.below in
    let known : IsTrue (option_all (is_type r.definitions) x.ty) = at-true (λ y. option_all (is_type r.definitions) y.ty) xs n x at_x c.requires.types in
    let low = payload-below c.args.id.0 x.ty below in
    (search rules, (known, (c.requires.labels, (c.requires.ordered, (c.requires.short, (fits, ((n, v, held), c.requires.few)))))))

pub write_variant-returns : goal.write_variant-returns
write_variant-returns t c = λ v h.
    let r = c.args.self.now.types.now in
    let rows = labelled_types r in
    let m = c.args.self.now.memory.now in
    let xs = c.args.cases.now in
    let cs = closed_cases (labelled_cases rows xs) in
    let n = c.case_at.result in
    let x = c.index-cases-case_at.result in
    let p = labelled_payload rows x.ty in
    let place = c.align_of.result in
    let same = place-is r c.args.id (labelled_variant (labelled_cases rows xs)) cs place c.align_of.ensures.value c.requires.is refl in
    let parts = variant-parts cs (length xs) m c.args.from n place v (count-cases rows xs) c.case_at.ensures same h in
    let less = case-inside rows m (c.args.from + place) xs n n v parts in
    let at_x = is-at xs n x less c.index-cases-case_at.is in
    let held = case-held rows m (c.args.from + place) xs n n x v at_x parts in
    let named = subst (λ q. PutsWithin c.args.self.now.limit (compact_text (payload_json p q v)) c.args.room.now c.args.at c.write_case.result c.write_case.new.room) c.as_str.ensures.is (c.write_case.ensures n v held) in
    subst (λ d. PutsWithin c.args.self.now.limit (compact_text d) c.args.room.now c.args.at c.write_case.result c.write_case.new.room) (sym (variant-data rows xs m (c.args.from + place) n x v at_x held)) named
