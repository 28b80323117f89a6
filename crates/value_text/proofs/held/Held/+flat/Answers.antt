use Rattle.std.proofs.Common.{◌≡◌, ◌+◌, ◌<◌, ◌≤◌, ℕ, suc, IsTrue, List, [], ◌∷◌, ◌++◌, map, length, drop, get_or, Some, Ok, Err, sym, ap, ◌∙◌, subst, length-append, arith, rules}
use Rattle.std.specs.List.{list_all}
use Rattle.canonical_abi.specs.Flat.{Lifts}
use Rattle.canonical_abi.specs.Labelled.{labelled_tuple, labelled_record, closed}
use Rattle.canonical_abi.specs.Layout.{flat_kinds, field_kinds}
use Rattle.canonical_abi.specs.Reading.{number_of}
use Rattle.lift_lower.proofs.LiftingStepByStep.{rest-numbers, rest-length}
use Rattle.serde_json.specs.Data.{Data, object}
use Rattle.serde_json.specs.Written.{compact_text}
use Rattle.tables.proofs.ErasesToClosed.{erases}
use Rattle.tables.specs.Labelled.{labelled_type, labelled_types, labelled_val, labelled_kind, labelled_members, labelled_fields}
use Rattle.tables.specs.Tables.{is_below, is_type, kind_all}
use Rattle.tables.specs.declared.tables.Field.{Field}
use Rattle.tables.specs.declared.tables.Primitive.TheVariants as primitive
use Rattle.tables.specs.declared.tables.ValType.TheVariants as val
use Rattle.value_json.proofs.LabelledTypesRowByRow.{all-at as every}
use Rattle.value_json.proofs.RanksOfTypes.{rank, rank-below}
use Rattle.value_text.specs.Cases.{cases_of_kind, IsCase}
use Rattle.value_text.specs.Flats.{IsCarried, PutsCarried}
use Rattle.value_text.specs.Function.{json_of, members_json}
use Rattle.value_text.specs.Puts.{Puts, PutsWithin}
use Rattle.value_text.specs.Texts.{comma_at, key_at}
use Rattle.value_text.proofs.Carried.{most-below, rank-among, known-below, at-or, index-below, as-members, field-lifts, fields-say, before-none, before-next, before-room, member-lifts, member-json, members-many, named, plain-text, payload-text, case-all, case-kinds, kind-closed, tuple-put, record-put}
use Rattle.value_text.proofs.Elements.{is-at, at-map}
use Rattle.value_text.proofs.FieldsInOrder.{at-label, at-data, member-next, member-long, member-end}
use Rattle.value_text.proofs.ItemsInTurn.{item-next, item-long, item-end}
use Rattle.value_text.specs.Orders.{label_at}
use Rattle.value_text.proofs.PutsInTurn.{puts-then, within-then}
use Rattle.value_text.proofs.held.Held.+flat.Goals as goal

-- ---- types by their rows

pub write_flat-write_flat_members-requires : goal.write_flat-write_flat_members-requires
write_flat-write_flat_members-requires t c =
    let r = c.args.self.now.types.now in
    let rows = labelled_types r in
    let ts = c.as_slice.result.now in
    let rowed = subst (λ x. labelled_val (labelled_types x) (val.Id c.in-Id.id) ≡ labelled_kind (labelled_types x) c.kind_of-kind.result.now) c.resolve.ensures c.kind_of-kind.ensures.is in
    let whole : labelled_type r c.args.ty ≡ labelled_tuple (labelled_members rows ts) =
    ap (labelled_val rows) c.in-Id.is ∙ rowed ∙ ap (labelled_kind rows) c.in-Tuple.is ∙ ap (λ xs. labelled_tuple (labelled_members rows xs)) (sym c.as_slice.ensures) in
    let flat = subst (λ x. length (flat_kinds (closed x)) ≤ length c.args.flats.now) whole c.requires.flat in
    let (v, (vs, each, is)) = subst (λ x. IsCarried x c.args.self.now.memory.now (map number_of c.args.flats.now)) whole c.requires.carried in
    let types = subst (λ xs. IsTrue (list_all (is_type r.definitions) xs)) (sym c.as_slice.ensures) (subst (λ k. IsTrue (kind_all (is_type r.definitions) k)) c.in-Tuple.is (subst (λ x. IsTrue (kind_all (is_type x.definitions) c.kind_of-kind.result.now)) c.resolve.ensures c.kind_of-kind.ensures.typed)) in
    let below = subst (λ xs. IsTrue (list_all (is_below c.in-Id.id.0) xs)) (sym c.as_slice.ensures) (subst (λ k. IsTrue (kind_all (is_below c.in-Id.id.0) k)) c.in-Tuple.is c.kind_of-kind.ensures.below) in
    let low = most-below c.in-Id.id.0 ts below in
    let here : rank c.args.ty ≡ suc c.in-Id.id.0 = ap rank c.in-Id.is in
    (omega (arith, low, here, c.decreases), (types, (c.requires.labels, (c.requires.ordered, (c.requires.short, (flat, (c.requires.few_flats, ((vs, each), c.requires.few))))))))

pub write_flat-returns-in-Tuple : goal.write_flat-returns-in-Tuple
write_flat-returns-in-Tuple t c =
    let r = c.args.self.now.types.now in
    let rows = labelled_types r in
    let ts = c.as_slice.result.now in
    let rowed = subst (λ x. labelled_val (labelled_types x) (val.Id c.in-Id.id) ≡ labelled_kind (labelled_types x) c.kind_of-kind.result.now) c.resolve.ensures c.kind_of-kind.ensures.is in
    let whole : labelled_type r c.args.ty ≡ labelled_tuple (labelled_members rows ts) =
    ap (labelled_val rows) c.in-Id.is ∙ rowed ∙ ap (labelled_kind rows) c.in-Tuple.is ∙ ap (λ xs. labelled_tuple (labelled_members rows xs)) (sym c.as_slice.ensures) in
    subst (λ x. PutsCarried c.args.self.now.limit x c.args.self.now.memory.now (map number_of c.args.flats.now) c.args.room.now c.args.at c.write_flat_members.result c.write_flat_members.new.room) (sym whole)
    (tuple-put c.args.self.now.limit c.args.self.now.memory.now (map number_of c.args.flats.now) c.args.room.now c.args.at c.write_flat_members.result c.write_flat_members.new.room (labelled_members rows ts) c.write_flat_members.ensures)

pub write_flat-returns-in-Record : goal.write_flat-returns-in-Record
write_flat-returns-in-Record t c =
    let r = c.args.self.now.types.now in
    let rows = labelled_types r in
    let fs = c.as_slice-fields.result.now in
    let rowed = subst (λ x. labelled_val (labelled_types x) (val.Id c.in-Id.id) ≡ labelled_kind (labelled_types x) c.kind_of-kind.result.now) c.resolve.ensures c.kind_of-kind.ensures.is in
    let whole : labelled_type r c.args.ty ≡ labelled_record (labelled_fields rows fs) =
    ap (labelled_val rows) c.in-Id.is ∙ rowed ∙ ap (labelled_kind rows) c.in-Record.is ∙ ap (λ xs. labelled_record (labelled_fields rows xs)) (sym c.as_slice-fields.ensures) in
    subst (λ x. PutsCarried c.args.self.now.limit x c.args.self.now.memory.now (map number_of c.args.flats.now) c.args.room.now c.args.at c.write_flat_fields.result c.write_flat_fields.new.room) (sym whole)
    (record-put c.args.self.now.limit c.args.self.now.memory.now (map number_of c.args.flats.now) c.args.room.now c.args.at c.write_flat_fields.result c.write_flat_fields.new.room (labelled_fields rows fs) c.write_flat_fields.ensures)

-- ---- cases

pub write_flat_case-named_case-payload-requires : goal.write_flat_case-named_case-payload-requires
write_flat_case-named_case-payload-requires t c =
    let (v, lifts) = c.requires.carried in
    named (labelled_types c.args.self.now.types.now) c.args.kind.now c.args.self.now.memory.now (map number_of c.args.flats.now) c.low_word-number.result v c.requires.cases c.low_word-number.ensures lifts

pub write_flat_case-returns-in_default : goal.write_flat_case-returns-in_default
write_flat_case-returns-in_default t c = λ v lifts.
    let k = c.args.kind.now in
    let n = c.low_word-number.result in
    let l = c.named_case-payload.result.0.now in
    let one = subst (IsCase (cases_of_kind k) n l) c.in_default.is c.named_case-payload.ensures in
    let text = plain-text (labelled_types c.args.self.now.types.now) k c.args.self.now.memory.now (map number_of c.args.flats.now) n v l c.requires.cases c.low_word-number.ensures one lifts in
    subst (λ xs. PutsWithin c.args.self.now.limit xs c.args.room.now c.args.at c.put_quoted.result c.put_quoted.new.room) (sym text) c.put_quoted.ensures

pub write_flat_case-returns-in_err-open : goal.write_flat_case-returns-in_err-open
write_flat_case-returns-in_err-open t c = λ v lifts.
    let k = c.args.kind.now in
    let n = c.low_word-number.result in
    let l = c.named_case-payload.result.0.now in
    let ty = c.in-Some.ty in
    let rows = labelled_types c.args.self.now.types.now in
    let one = subst (IsCase (cases_of_kind k) n l) c.in-Some.is c.named_case-payload.ensures in
    let (w, held, text) = payload-text rows k c.args.self.now.memory.now (map number_of c.args.flats.now) n v l ty c.requires.cases c.low_word-number.ensures one lifts in
    let t = compact_text (json_of (labelled_val rows ty) w) in
    let long : c.args.self.now.limit < c.args.at + length (compact_text (json_of (labelled_kind rows k) v)) =
    omega (arith, ap length text, c.in_err-open.ensures, length-append ((123 ∷ key_at 0 l) ++ t) (125 ∷ []), length-append (123 ∷ key_at 0 l) t) in
    search (rules, long)

pub write_flat_case-returns-in_err-named : goal.write_flat_case-returns-in_err-named
write_flat_case-returns-in_err-named t c = λ v lifts.
    let k = c.args.kind.now in
    let n = c.low_word-number.result in
    let l = c.named_case-payload.result.0.now in
    let ty = c.in-Some.ty in
    let rows = labelled_types c.args.self.now.types.now in
    let one = subst (IsCase (cases_of_kind k) n l) c.in-Some.is c.named_case-payload.ensures in
    let (w, held, text) = payload-text rows k c.args.self.now.memory.now (map number_of c.args.flats.now) n v l ty c.requires.cases c.low_word-number.ensures one lifts in
    let t = compact_text (json_of (labelled_val rows ty) w) in
    let (is_open, _, _) = c.in_ok-open.ensures.0 in
    let long : c.args.self.now.limit < c.args.at + length (compact_text (json_of (labelled_kind rows k) v)) =
    omega (arith, ap length text, c.in_err-named.ensures, is_open, length-append ((123 ∷ key_at 0 l) ++ t) (125 ∷ []), length-append (123 ∷ key_at 0 l) t) in
    search (rules, long)

pub write_flat_case-write_flat-requires : goal.write_flat_case-write_flat-requires
write_flat_case-write_flat-requires t c =
    let k = c.args.kind.now in
    let n = c.low_word-number.result in
    let l = c.named_case-payload.result.0.now in
    let ty = c.in-Some.ty in
    let r = c.args.self.now.types.now in
    let rows = labelled_types r in
    let flats = c.args.flats.now in
    let one = subst (IsCase (cases_of_kind k) n l) c.in-Some.is c.named_case-payload.ensures in
    let (v, lifts) = c.requires.carried in
    let (w, held, text) = payload-text rows k c.args.self.now.memory.now (map number_of flats) n v l ty c.requires.cases c.low_word-number.ensures one lifts in
    let low = rank-below c.args.place ty (case-all (is_below c.args.place) k n l (Some ty) one c.requires.below) in
    let inside = case-all (is_type r.definitions) k n l (Some ty) one c.requires.types in
    let kinds = case-kinds rows (cases_of_kind k) n l ty one in
    let whole = ap (λ x. length (flat_kinds x)) (kind-closed rows k c.requires.cases) in
    let rest = rest-length flats 1 in
    let carried = subst (λ xs. Lifts (closed (labelled_val rows ty)) c.args.self.now.memory.now xs w) (sym (rest-numbers flats 1)) held in (
      omega (arith, low, c.decreases),
      (inside, (c.requires.labels, (c.requires.ordered, (c.requires.short, (omega (arith, kinds, whole, rest, c.requires.flat), (omega (arith, rest, c.requires.few_flats), ((w, carried), c.in_ok-named.ensures.1))))))),
    )

pub write_flat_case-returns-in_err-ended : goal.write_flat_case-returns-in_err-ended
write_flat_case-returns-in_err-ended t c = λ v lifts.
    let k = c.args.kind.now in
    let n = c.low_word-number.result in
    let l = c.named_case-payload.result.0.now in
    let ty = c.in-Some.ty in
    let rows = labelled_types c.args.self.now.types.now in
    let flats = c.args.flats.now in
    let one = subst (IsCase (cases_of_kind k) n l) c.in-Some.is c.named_case-payload.ensures in
    let (w, held, text) = payload-text rows k c.args.self.now.memory.now (map number_of flats) n v l ty c.requires.cases c.low_word-number.ensures one lifts in
    let carried = subst (λ xs. Lifts (closed (labelled_val rows ty)) c.args.self.now.memory.now xs w) (sym (rest-numbers flats 1)) held in
    let t = compact_text (json_of (labelled_val rows ty) w) in
    let (is_open, _, _) = c.in_ok-open.ensures.0 in
    let (is_named, _, _) = c.in_ok-named.ensures.0 in
    let passed = c.in_err-ended.ensures w carried in
    let long : c.args.self.now.limit < c.args.at + length (compact_text (json_of (labelled_kind rows k) v)) =
    omega (arith, ap length text, passed, is_open, is_named, length-append ((123 ∷ key_at 0 l) ++ t) (125 ∷ []), length-append (123 ∷ key_at 0 l) t) in
    search (rules, long)

pub write_flat_case-put-requires-2 : goal.write_flat_case-put-requires-2
write_flat_case-put-requires-2 t c =
    let k = c.args.kind.now in
    let n = c.low_word-number.result in
    let l = c.named_case-payload.result.0.now in
    let ty = c.in-Some.ty in
    let rows = labelled_types c.args.self.now.types.now in
    let flats = c.args.flats.now in
    let one = subst (IsCase (cases_of_kind k) n l) c.in-Some.is c.named_case-payload.ensures in
    let (v, lifts) = c.requires.carried in
    let (w, held, text) = payload-text rows k c.args.self.now.memory.now (map number_of flats) n v l ty c.requires.cases c.low_word-number.ensures one lifts in
    let carried = subst (λ xs. Lifts (closed (labelled_val rows ty)) c.args.self.now.memory.now xs w) (sym (rest-numbers flats 1)) held in
    (c.in_ok-ended.ensures w carried).1

pub write_flat_case-returns : goal.write_flat_case-returns
write_flat_case-returns t c = λ v lifts.
    let k = c.args.kind.now in
    let n = c.low_word-number.result in
    let l = c.named_case-payload.result.0.now in
    let ty = c.in-Some.ty in
    let rows = labelled_types c.args.self.now.types.now in
    let flats = c.args.flats.now in
    let room = c.args.room.now in
    let at = c.args.at in
    let one = subst (IsCase (cases_of_kind k) n l) c.in-Some.is c.named_case-payload.ensures in
    let (w, held, text) = payload-text rows k c.args.self.now.memory.now (map number_of flats) n v l ty c.requires.cases c.low_word-number.ensures one lifts in
    let carried = subst (λ xs. Lifts (closed (labelled_val rows ty)) c.args.self.now.memory.now xs w) (sym (rest-numbers flats 1)) held in
    let t = compact_text (json_of (labelled_val rows ty) w) in
    let key = puts-then room at (123 ∷ []) c.put.new.room c.in_ok-open.open (key_at 0 l) c.put_key.new.room c.in_ok-named.named c.in_ok-open.ensures.0 c.in_ok-named.ensures.0 in
    let inner = puts-then room at (123 ∷ key_at 0 l) c.put_key.new.room c.in_ok-named.named t c.write_flat.new.room c.in_ok-ended.ended key (c.in_ok-ended.ensures w carried).0 in
    let all = within-then c.args.self.now.limit room at ((123 ∷ key_at 0 l) ++ t) c.write_flat.new.room c.in_ok-ended.ended (125 ∷ []) c.put-2.new.room c.put-2.result inner c.put-2.ensures in
    subst (λ xs. PutsWithin c.args.self.now.limit xs room at c.put-2.result c.put-2.new.room) (sym text) all

-- ---- one of several

pub write_flat_item-returns : goal.write_flat_item-returns
write_flat_item-returns t c = λ v lifts.
    let text = compact_text (json_of (labelled_type c.args.self.now.types.now c.args.ty) v) in
    within-then c.args.self.now.limit c.args.room.now c.args.at (comma_at c.args.index) c.put_comma.new.room c.in_ok-begun.begun text c.write_flat.new.room c.write_flat.result c.in_ok-begun.ensures.0 (c.write_flat.ensures v lifts)

pub write_flat_field-returns : goal.write_flat_field-returns
write_flat_field-returns t c = λ v lifts.
    let f = c.args.field.now in
    let text = compact_text (json_of (labelled_type c.args.self.now.types.now f.ty) v) in
    let key = subst (λ l. Puts (key_at c.args.index l) c.args.room.now c.args.at c.put_key.new.room c.in_ok-named.named) c.as_str.ensures.is c.in_ok-named.ensures.0 in
    within-then c.args.self.now.limit c.args.room.now c.args.at (key_at c.args.index f.name) c.put_key.new.room c.in_ok-named.named text c.write_flat.new.room c.write_flat.result key (c.write_flat.ensures v lifts)

-- ---- members

pub write_flat_members-loop-index-init : goal.write_flat_members-loop-index-init
write_flat_members-loop-index-init t c = record {
  placed = sym (before-none (labelled_types c.args.self.now.types.now) c.args.types.now);
  front = λ vs h. c.in_ok-end.ensures.0;
  few = c.in_ok-end.ensures.1;
}

pub write_flat_members-slice_bounds-write_flat_item-count : goal.write_flat_members-slice_bounds-write_flat_item-count
write_flat_members-slice_bounds-write_flat_item-count t c =
    let r = c.args.self.now.types.now in
    let rows = labelled_types r in
    let ts = c.args.types.now in
    let flats = c.args.flats.now in
    let i = c.loop-index.index in
    let ty = get_or ts i (val.Primitive primitive.Bool) in
    let at = at-or ts i (val.Primitive primitive.Bool) c.loop-index-test.true in
    let room = before-room rows ts i ty at in
    omega (arith, room, c.loop-index.invariant.placed, c.requires.flat, c.requires.few_flats, rest-length flats c.loop-index.used)

pub write_flat_members-slice_bounds-write_flat_item-start : goal.write_flat_members-slice_bounds-write_flat_item-start
write_flat_members-slice_bounds-write_flat_item-start t c =
    let r = c.args.self.now.types.now in
    let rows = labelled_types r in
    let ts = c.args.types.now in
    let flats = c.args.flats.now in
    let i = c.loop-index.index in
    let ty = get_or ts i (val.Primitive primitive.Bool) in
    let at = at-or ts i (val.Primitive primitive.Bool) c.loop-index-test.true in
    let room = before-room rows ts i ty at in
    omega (arith, room, c.loop-index.invariant.placed, c.requires.flat, c.requires.few_flats, rest-length flats c.loop-index.used)

pub write_flat_members-offset_bounds-flats-used : goal.write_flat_members-offset_bounds-flats-used
write_flat_members-offset_bounds-flats-used t c =
    let r = c.args.self.now.types.now in
    let rows = labelled_types r in
    let ts = c.args.types.now in
    let flats = c.args.flats.now in
    let i = c.loop-index.index in
    let ty = get_or ts i (val.Primitive primitive.Bool) in
    let at = at-or ts i (val.Primitive primitive.Bool) c.loop-index-test.true in
    let room = before-room rows ts i ty at in
    omega (arith, room, c.loop-index.invariant.placed, c.requires.flat, c.requires.few_flats, rest-length flats c.loop-index.used)

pub write_flat_members-write_flat_item-requires : goal.write_flat_members-write_flat_item-requires
write_flat_members-write_flat_item-requires t c =
    let r = c.args.self.now.types.now in
    let rows = labelled_types r in
    let ts = c.args.types.now in
    let flats = c.args.flats.now in
    let i = c.loop-index.index in
    let ty = get_or ts i (val.Primitive primitive.Bool) in
    let at = at-or ts i (val.Primitive primitive.Bool) c.loop-index-test.true in
    let room = before-room rows ts i ty at in
    let ns = map number_of flats in
    let m = c.args.self.now.memory.now in
    let placed = c.loop-index.invariant.placed in
    let same = ap (λ n. drop n ns) (sym placed) ∙ sym (rest-numbers flats c.loop-index.used) in
    let (vs, each) = c.requires.carried in
    let (v, lifts, at_v) = member-lifts rows ts m ns vs i ty at each in
    let carried = subst (λ xs. Lifts (closed (labelled_val rows ty)) m xs v) same lifts in
    let low = rank-among ts i ty at in
    let rest = rest-length flats c.loop-index.used in
    let inside = every (is_type r.definitions) ts i (val.Primitive primitive.Bool) c.loop-index-test.true c.requires.types in (
      omega (arith, low, c.decreases),
      (
        inside,
        (
          c.requires.labels,
          (
            c.requires.ordered,
            (c.requires.short, (omega (arith, room, placed, rest, c.requires.flat), (omega (arith, rest, c.requires.few_flats), ((v, carried), c.loop-index.invariant.few)))),
          ),
        ),
      ),
    )

pub write_flat_members-returns-in_err-end-2 : goal.write_flat_members-returns-in_err-end-2
write_flat_members-returns-in_err-end-2 t c = λ vs each.
    let r = c.args.self.now.types.now in
    let rows = labelled_types r in
    let ts = c.args.types.now in
    let flats = c.args.flats.now in
    let i = c.loop-index.index in
    let ty = get_or ts i (val.Primitive primitive.Bool) in
    let at = at-or ts i (val.Primitive primitive.Bool) c.loop-index-test.true in
    let room = before-room rows ts i ty at in
    let ns = map number_of flats in
    let m = c.args.self.now.memory.now in
    let placed = c.loop-index.invariant.placed in
    let same = ap (λ n. drop n ns) (sym placed) ∙ sym (rest-numbers flats c.loop-index.used) in
    let js = members_json (labelled_members rows ts) vs in
    let (v, lifts, at_v) = member-lifts rows ts m ns vs i ty at each in
    let carried = subst (λ xs. Lifts (closed (labelled_val rows ty)) m xs v) same lifts in
    let is = member-json rows ts vs i ty v at at_v in
    let passed = item-next c.args.self.now.limit c.args.room.now c.args.at js {E = Unit {0}} i (json_of (labelled_val rows ty) v) c.loop-index.room c.loop-index.end [] (Err tt) is (c.loop-index.invariant.front vs each) (c.in_err-end-2.ensures v carried) in
    let long = item-long c.args.self.now.limit c.args.room.now c.args.at js (i + 1) passed in
    search (rules, long)

pub write_flat_members-kind_count-used-requires-clause-inside : goal.write_flat_members-kind_count-used-requires-clause-inside
write_flat_members-kind_count-used-requires-clause-inside t c =
    let ds = c.args.self.now.types.now.definitions in
    let ts = c.args.types.now in
    known-below ds (get_or ts c.loop-index.index (val.Primitive primitive.Bool)) (every (is_type ds) ts c.loop-index.index (val.Primitive primitive.Bool) c.loop-index-test.true c.requires.types)

pub write_flat_members-kind_count-used-requires-clause-flat : goal.write_flat_members-kind_count-used-requires-clause-flat
write_flat_members-kind_count-used-requires-clause-flat t c =
    let r = c.args.self.now.types.now in
    let rows = labelled_types r in
    let ts = c.args.types.now in
    let flats = c.args.flats.now in
    let i = c.loop-index.index in
    let ty = get_or ts i (val.Primitive primitive.Bool) in
    let at = at-or ts i (val.Primitive primitive.Bool) c.loop-index-test.true in
    let room = before-room rows ts i ty at in
    omega (arith, room, ap (λ x. length (flat_kinds x)) (erases r ty), c.requires.flat, c.requires.few_flats)

pub write_flat_members-overflow_add-used : goal.write_flat_members-overflow_add-used
write_flat_members-overflow_add-used t c =
    let r = c.args.self.now.types.now in
    let rows = labelled_types r in
    let ts = c.args.types.now in
    let flats = c.args.flats.now in
    let i = c.loop-index.index in
    let ty = get_or ts i (val.Primitive primitive.Bool) in
    let at = at-or ts i (val.Primitive primitive.Bool) c.loop-index-test.true in
    let room = before-room rows ts i ty at in
    omega (arith, room, ap (λ x. length (flat_kinds x)) (erases r ty), c.loop-index.invariant.placed, c.kind_count-used.ensures, c.requires.flat, c.requires.few_flats)

pub write_flat_members-loop-index-preserved : goal.write_flat_members-loop-index-preserved
write_flat_members-loop-index-preserved t c =
    let r = c.args.self.now.types.now in
    let rows = labelled_types r in
    let ts = c.args.types.now in
    let flats = c.args.flats.now in
    let i = c.loop-index.index in
    let ty = get_or ts i (val.Primitive primitive.Bool) in
    let at = at-or ts i (val.Primitive primitive.Bool) c.loop-index-test.true in
    let room = before-room rows ts i ty at in
    let ns = map number_of flats in
    let m = c.args.self.now.memory.now in
    let placed = c.loop-index.invariant.placed in
    let same = ap (λ n. drop n ns) (sym placed) ∙ sym (rest-numbers flats c.loop-index.used) in
    let (vs0, each0) = c.requires.carried in
    let (v0, lifts0, _) = member-lifts rows ts m ns vs0 i ty at each0 in
    let carried0 = subst (λ xs. Lifts (closed (labelled_val rows ty)) m xs v0) same lifts0 in
    let next = before-next rows ts i ty at in
    let kinds = ap (λ x. length (flat_kinds x)) (erases r ty) in record {
      placed = omega (arith, next, placed, kinds, c.kind_count-used.ensures);
      front = λ vs each.
          let js = members_json (labelled_members rows ts) vs in
          let (v, lifts, at_v) = member-lifts rows ts m ns vs i ty at each in
          let carried = subst (λ xs. Lifts (closed (labelled_val rows ty)) m xs v) same lifts in
          let is = member-json rows ts vs i ty v at at_v in
          (item-next c.args.self.now.limit c.args.room.now c.args.at js {E = Unit {0}} i (json_of (labelled_val rows ty) v) c.loop-index.room c.loop-index.end c.write_flat_item.new.room (Ok c.in_ok-end-2.end) is (c.loop-index.invariant.front vs each)
          (c.in_ok-end-2.ensures v carried)).0;
      few = (c.in_ok-end-2.ensures v0 carried0).1;
    }

pub write_flat_members-returns : goal.write_flat_members-returns
write_flat_members-returns t c = λ vs each.
    let rows = labelled_types c.args.self.now.types.now in
    let ts = c.args.types.now in
    let js = members_json (labelled_members rows ts) vs in
    let many = members-many rows ts c.args.self.now.memory.now (map number_of c.args.flats.now) vs each in
    let all : length js ≤ c.loop-index.index = omega (arith, many, c.loop-index-test.false) in
    item-end c.args.self.now.limit c.args.room.now c.args.at js c.loop-index.index c.loop-index.room c.loop-index.end c.put-2.new.room c.put-2.result all (c.loop-index.invariant.front vs each) c.put-2.ensures

-- ---- fields

pub write_flat_fields-slice_bounds-write_flat_field-count : goal.write_flat_fields-slice_bounds-write_flat_field-count
write_flat_fields-slice_bounds-write_flat_field-count t c =
    let r = c.args.self.now.types.now in
    let rows = labelled_types r in
    let fs = c.args.fields.now in
    let order = c.args.order.now in
    let flats = c.args.flats.now in
    let k = c.loop-k.k in
    let i = get_or order k 0 in
    let f = c.index-fields-i.result in
    let lt = index-below (length fs) order k 0 c.loop-k-test.true c.requires.sorted.1 in
    let at_f = is-at fs i f lt c.index-fields-i.is in
    let room = before-room rows (map (λ x. x.ty) fs) i f.ty (at-map (λ x. x.ty) fs i f at_f) in
    let all = ap (λ x. length (field_kinds x)) (as-members rows fs) in
    omega (arith, room, all, c.flats_before-used.ensures, c.requires.flat, c.requires.few_flats, rest-length flats c.flats_before-used.result)

pub write_flat_fields-slice_bounds-write_flat_field-start : goal.write_flat_fields-slice_bounds-write_flat_field-start
write_flat_fields-slice_bounds-write_flat_field-start t c =
    let r = c.args.self.now.types.now in
    let rows = labelled_types r in
    let fs = c.args.fields.now in
    let order = c.args.order.now in
    let flats = c.args.flats.now in
    let k = c.loop-k.k in
    let i = get_or order k 0 in
    let f = c.index-fields-i.result in
    let lt = index-below (length fs) order k 0 c.loop-k-test.true c.requires.sorted.1 in
    let at_f = is-at fs i f lt c.index-fields-i.is in
    let room = before-room rows (map (λ x. x.ty) fs) i f.ty (at-map (λ x. x.ty) fs i f at_f) in
    let all = ap (λ x. length (field_kinds x)) (as-members rows fs) in
    omega (arith, room, all, c.flats_before-used.ensures, c.requires.flat, c.requires.few_flats, rest-length flats c.flats_before-used.result)

pub write_flat_fields-offset_bounds-flats-used : goal.write_flat_fields-offset_bounds-flats-used
write_flat_fields-offset_bounds-flats-used t c =
    let r = c.args.self.now.types.now in
    let rows = labelled_types r in
    let fs = c.args.fields.now in
    let order = c.args.order.now in
    let flats = c.args.flats.now in
    let k = c.loop-k.k in
    let i = get_or order k 0 in
    let f = c.index-fields-i.result in
    let lt = index-below (length fs) order k 0 c.loop-k-test.true c.requires.sorted.1 in
    let at_f = is-at fs i f lt c.index-fields-i.is in
    let room = before-room rows (map (λ x. x.ty) fs) i f.ty (at-map (λ x. x.ty) fs i f at_f) in
    let all = ap (λ x. length (field_kinds x)) (as-members rows fs) in
    omega (arith, room, all, c.flats_before-used.ensures, c.requires.flat, c.requires.few_flats, rest-length flats c.flats_before-used.result)

pub write_flat_fields-write_flat_field-requires : goal.write_flat_fields-write_flat_field-requires
write_flat_fields-write_flat_field-requires t c =
    let r = c.args.self.now.types.now in
    let rows = labelled_types r in
    let fs = c.args.fields.now in
    let order = c.args.order.now in
    let flats = c.args.flats.now in
    let k = c.loop-k.k in
    let i = get_or order k 0 in
    let f = c.index-fields-i.result in
    let lt = index-below (length fs) order k 0 c.loop-k-test.true c.requires.sorted.1 in
    let at_f = is-at fs i f lt c.index-fields-i.is in
    let room = before-room rows (map (λ x. x.ty) fs) i f.ty (at-map (λ x. x.ty) fs i f at_f) in
    let all = ap (λ x. length (field_kinds x)) (as-members rows fs) in
    let ns = map number_of flats in
    let m = c.args.self.now.memory.now in
    let placed = c.flats_before-used.ensures in
    let used = c.flats_before-used.result in
    let same = ap (λ n. drop n ns) (sym placed) ∙ sym (rest-numbers flats used) in
    let (vs, each) = c.requires.carried in
    let (v, lifts, at_v) = field-lifts rows fs m ns vs i f at_f each in
    let carried = subst (λ xs. Lifts (closed (labelled_val rows f.ty)) m xs v) same lifts in
    let below = subst (λ (x : Field). IsTrue (is_below c.args._place x.ty)) (sym c.index-fields-i.is) (every (λ (x : Field). is_below c.args._place x.ty) fs i f lt c.requires.below) in
    let inside = subst (λ (x : Field). IsTrue (is_type r.definitions x.ty)) (sym c.index-fields-i.is) (every (λ (x : Field). is_type r.definitions x.ty) fs i f lt c.requires.types) in
    let low = rank-below c.args._place f.ty below in
    let rest = rest-length flats used in (
      omega (arith, low, c.decreases),
      (
        inside,
        (
          c.requires.labels,
          (
            c.requires.ordered,
            (c.requires.short, (omega (arith, room, all, placed, rest, c.requires.flat), (omega (arith, rest, c.requires.few_flats), ((v, carried), c.loop-k.invariant.few)))),
          ),
        ),
      ),
    )

pub write_flat_fields-returns-in_err-end-2 : goal.write_flat_fields-returns-in_err-end-2
write_flat_fields-returns-in_err-end-2 t c = λ vs each.
    let r = c.args.self.now.types.now in
    let rows = labelled_types r in
    let fs = c.args.fields.now in
    let order = c.args.order.now in
    let flats = c.args.flats.now in
    let k = c.loop-k.k in
    let i = get_or order k 0 in
    let f = c.index-fields-i.result in
    let lt = index-below (length fs) order k 0 c.loop-k-test.true c.requires.sorted.1 in
    let at_f = is-at fs i f lt c.index-fields-i.is in
    let room = before-room rows (map (λ x. x.ty) fs) i f.ty (at-map (λ x. x.ty) fs i f at_f) in
    let all = ap (λ x. length (field_kinds x)) (as-members rows fs) in
    let ns = map number_of flats in
    let m = c.args.self.now.memory.now in
    let placed = c.flats_before-used.ensures in
    let used = c.flats_before-used.result in
    let same = ap (λ n. drop n ns) (sym placed) ∙ sym (rest-numbers flats used) in
    let limit = c.args.self.now.limit in
    let (v, lifts, at_v) = field-lifts rows fs m ns vs i f at_f each in
    let carried = subst (λ xs. Lifts (closed (labelled_val rows f.ty)) m xs v) same lifts in
    let end = c.loop-k.end in
    let keyed = subst (λ l. limit < end + length (key_at k l ++ compact_text (json_of (labelled_val rows f.ty) v))) (sym (at-label fs i f at_f)) (c.in_err-end-2.ensures v carried) in
    let step = subst (λ d. limit < end + length (key_at k (label_at fs i) ++ compact_text d)) (at-data rows fs vs i f v at_f at_v) keyed in
    let passed = member-next rows fs vs order limit c.args.room.now c.args.at {E = Unit {0}} k i c.loop-k.room end [] (Err tt) (at-or order k 0 c.loop-k-test.true) (c.loop-k.invariant.front vs each) step in
    let whole = member-long rows fs vs order limit c.args.room.now c.args.at (k + 1) passed in
    let long = subst (λ ms. limit < c.args.at + length (compact_text (object ms))) (sym (fields-say rows fs m ns vs order c.requires.apart c.requires.sorted each)) whole in
    search (rules, long)

pub write_flat_fields-loop-k-preserved : goal.write_flat_fields-loop-k-preserved
write_flat_fields-loop-k-preserved t c =
    let r = c.args.self.now.types.now in
    let rows = labelled_types r in
    let fs = c.args.fields.now in
    let order = c.args.order.now in
    let flats = c.args.flats.now in
    let k = c.loop-k.k in
    let i = get_or order k 0 in
    let f = c.index-fields-i.result in
    let lt = index-below (length fs) order k 0 c.loop-k-test.true c.requires.sorted.1 in
    let at_f = is-at fs i f lt c.index-fields-i.is in
    let room = before-room rows (map (λ x. x.ty) fs) i f.ty (at-map (λ x. x.ty) fs i f at_f) in
    let all = ap (λ x. length (field_kinds x)) (as-members rows fs) in
    let ns = map number_of flats in
    let m = c.args.self.now.memory.now in
    let placed = c.flats_before-used.ensures in
    let used = c.flats_before-used.result in
    let same = ap (λ n. drop n ns) (sym placed) ∙ sym (rest-numbers flats used) in
    let limit = c.args.self.now.limit in
    let (vs0, each0) = c.requires.carried in
    let (v0, lifts0, _) = field-lifts rows fs m ns vs0 i f at_f each0 in
    let carried0 = subst (λ xs. Lifts (closed (labelled_val rows f.ty)) m xs v0) same lifts0 in record {
      front = λ vs each.
          let (v, lifts, at_v) = field-lifts rows fs m ns vs i f at_f each in
          let carried = subst (λ xs. Lifts (closed (labelled_val rows f.ty)) m xs v) same lifts in
          let P : List ℕ → Data → Type 0 = λ l d. PutsWithin limit (key_at k l ++ compact_text d) c.loop-k.room c.loop-k.end {E = Unit {0}} (Ok c.in_ok-end-2.end) c.write_flat_field.new.room in
          let step = subst (P (label_at fs i)) (at-data rows fs vs i f v at_f at_v) (subst (λ l. P l (json_of (labelled_val rows f.ty) v)) (sym (at-label fs i f at_f)) (c.in_ok-end-2.ensures v carried)) in
          (member-next rows fs vs order limit c.args.room.now c.args.at {E = Unit {0}} k i c.loop-k.room c.loop-k.end c.write_flat_field.new.room (Ok c.in_ok-end-2.end) (at-or order k 0 c.loop-k-test.true) (c.loop-k.invariant.front vs each) step).0;
      few = (c.in_ok-end-2.ensures v0 carried0).1;
    }

pub write_flat_fields-returns : goal.write_flat_fields-returns
write_flat_fields-returns t c = λ vs each.
    let rows = labelled_types c.args.self.now.types.now in
    let fs = c.args.fields.now in
    let order = c.args.order.now in
    let whole = member-end rows fs vs order c.args.self.now.limit c.args.room.now c.args.at c.loop-k.k c.loop-k.room c.loop-k.end c.put-2.new.room c.put-2.result c.loop-k-test.false (c.loop-k.invariant.front vs each) c.put-2.ensures in
    subst (λ ms. PutsWithin c.args.self.now.limit (compact_text (object ms)) c.args.room.now c.args.at c.put-2.result c.put-2.new.room)
    (sym (fields-say rows fs c.args.self.now.memory.now (map number_of c.args.flats.now) vs order c.requires.apart c.requires.sorted each)) whole
