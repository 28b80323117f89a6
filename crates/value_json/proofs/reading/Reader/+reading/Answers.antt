use Rattle.std.proofs.Common.{◌≡◌, ℕ, ◌+◌, ◌<◌, List, [], ◌∷◌, ◌++◌, map, length, get_or, refl, sym, ap, ◌∙◌, subst, inl, inr, ◌⊎◌, arith, rules, slice_get, Some, None, Err, option_map}
use Rattle.canonical_abi.specs.Labelled.{labelled_enum, labelled_flags}
use Rattle.std.proofs.lemmas.Option.{slice_get-map, slice_get_read, same_Some}
use Rattle.serde_json.specs.declared.value.Value.{Value as JsonValue}
use Rattle.std.proofs.lemmas.List.{length-map, map-append}
use Rattle.canonical_abi.specs.Values.{payload_value}
use Rattle.serde_json.specs.Data.{array}
use Rattle.serde_json.specs.View.{view, items_of, members_view}
use Rattle.values.specs.Val.{value_of}
use Rattle.values.proofs.ValueOfEachVariant.{value_of-List, value_of-Some}
use Rattle.tables.specs.Labelled.{labelled_type, labelled_types, labelled_val, labelled_payload, labelled_members, labelled_fields}
use Rattle.value_json.specs.Json.{Json, HasNone, EachJson, MembersJson, PayloadJson, HasFields}
use Rattle.value_json.proofs.ValuesMadeOneByOne.{Continues, ItemStands, MemberStands, starts, more, ends, refuted, more-at, refuted-at, each-of, of-each, members-of, of-members}
use Rattle.value_json.proofs.JsonAsData.{array-is, object-is, only_items, same-members}
use Rattle.value_json.proofs.MembersBesideFields.{FieldStands, fields-of, of-fields, sorted-view}
use Rattle.serde_json.specs.Events.{members_len}
use Rattle.serde_json.specs.Find.{get, get_member}
use Rattle.serde_json.proofs.Views.{members_len-members_view}
use Rattle.value_json.proofs.CasesTriedOneByOne.{found}
use Rattle.value_json.proofs.reading.Reader.+reading.Goals as goal

either-none : {A B : Type 0} → (A → ⊥) → (B → ⊥) → A ⊎ B → ⊥
either-none f g (inl a) = f a
either-none f g (inr b) = g b

none-some : {A : Type 0} (a : A) → None ≡ Some a → ⊥
none-some a e = absurd (cc)

pub read_case-returns-in_ok-new-in-Ok-clause-ok : goal.read_case-returns-in_ok-new-in-Ok-clause-ok
read_case-returns-in_ok-new-in-Ok-clause-ok t c =
    let held : c.in_ok-new-in-Ok.field-0.value ≡ c.in-Ok.value = c.in_ok-new-in-Ok.ensures.ok in
    rw (c.in-Some.is, value_of-Some)
    (value_of c.in-Ok.value, view c.in-Some-only_member.member.now, c.in-Ok.ensures.ok, ap (λ x. payload_value c.args.case (value_of x)) held, c.in-Some-only_member.ensures.some)

pub read_cases-returns-in-Ok-clause-ok : goal.read_cases-returns-in-Ok-clause-ok
read_cases-returns-in-Ok-clause-ok t c =
    let rows = labelled_types c.args.self.now.resolve.now in
    let x = c.index-cases-i.result in
    let here : PayloadJson (labelled_payload rows x.ty) x.name c.loop-i.i (value_of c.in-Ok.value) (view c.args.json.now) =
    subst (λ n. PayloadJson (labelled_payload rows x.ty) n c.loop-i.i (value_of c.in-Ok.value) (view c.args.json.now)) c.as_str.ensures.is c.in-Ok.ensures.ok in
    found rows c.args.cases.now c.loop-i.i x _ _ c.loop-i-test.true c.index-cases-i.is here

pub read_items-returns-in-Err-clause-other : goal.read_items-returns-in-Err-clause-other
read_items-returns-in-Err-clause-other t c = λ e vs each.
    let P = Json (labelled_type c.args.self.now.resolve.now c.args.element) in
    refuted (ItemStands P) c.args.items.now vs c.loop-i.i c.index-items-i.result c.loop-i-test.true c.index-items-i.is
    (c.in-Err.ensures.other (search (rules, e))) (of-each P c.args.items.now vs each)

pub read_items-loop-i-preserved : goal.read_items-loop-i-preserved
read_items-loop-i-preserved t c =
    let P = ItemStands (Json (labelled_type c.args.self.now.resolve.now c.args.element)) in
    let pushed : map value_of c.push.new.self.items ≡ map value_of c.loop-i.values.items ++ value_of c.in-Ok.value ∷ [] =
    ap (map value_of) c.in_ok-push-in-Ok.ensures.items ∙ map-append value_of c.loop-i.values.items (c.in-Ok.value ∷ []) in
    subst (Continues P c.args.items.now (c.loop-i.i + 1)) (sym pushed)
    (more P c.args.items.now c.loop-i.i _ c.index-items-i.result _ c.loop-i-test.true c.index-items-i.is c.in-Ok.ensures.ok c.loop-i.invariant)

pub read_items-returns-clause-ok : goal.read_items-returns-clause-ok
read_items-returns-clause-ok t c =
    let P = Json (labelled_type c.args.self.now.resolve.now c.args.element) in
    each-of P c.args.items.now _ (ends (ItemStands P) c.args.items.now c.loop-i.i _ (omega (arith, c.loop-i-test.false)) c.loop-i.invariant)

pub read_kind-returns-in-Ok-clause-ok : goal.read_kind-returns-in-Ok-clause-ok
read_kind-returns-in-Ok-clause-ok t c =
    rw (c.in-List.is, value_of-List) (
      map value_of c.in-Ok.values.items,
      map view c.as_slice.result.now,
      c.in-Ok.ensures.ok,
      refl,
      array-is _ _ c.in-Some.ensures ∙ ap (λ xs. array (items_of (map view xs))) (sym c.as_slice.ensures.value),
    )

pub read_kind-returns-in-Err-clause-other : goal.read_kind-returns-in-Err-clause-other
read_kind-returns-in-Err-clause-other t c = λ e.
    let P = Json (labelled_type c.args.self.now.resolve.now c.in-List.element) in
    let is_array = array-is _ _ c.in-Some.ensures ∙ ap (λ xs. array (items_of (map view xs))) (sym c.as_slice.ensures.value) in
    rw c.in-List.is (λ v. λ (vs, js, each, is_v, is_j).
    c.in-Err.ensures.other (search (rules, e)) vs (subst (EachJson P vs) (only_items js (map view c.as_slice.result.now) (sym is_j ∙ is_array)) each))

pub read_kind-returns-in-Err-NotThisType-clause-other : goal.read_kind-returns-in-Err-NotThisType-clause-other
read_kind-returns-in-Err-NotThisType-clause-other t c = λ e.
    rw c.in-Option.is (λ v. either-none (c.in-Err-NotThisType.ensures.other (ap Err c.in-Err-NotThisType.field-0-is) v) (c.read_case-in-Err-NotThisType.ensures.other e v))

pub read_kind-returns-in-Err-read_members-clause-other : goal.read_kind-returns-in-Err-read_members-clause-other
read_kind-returns-in-Err-read_members-clause-other t c = λ e.
    let rows = labelled_types c.args.self.now.resolve.now in
    let js1 = map view c.as_slice-in-Tuple-2.result.now in
    let is_array = array-is _ _ c.in-Some-as_array.ensures ∙ ap (λ xs. array (items_of (map view xs))) (sym c.as_slice-in-Tuple-2.ensures.value) in
    rw c.in-Tuple.is (λ v. λ (vs, js, each, is_v, is_j).
    c.in-Err-read_members.ensures.other (search (rules, e)) vs
    (subst (λ xs. MembersJson (labelled_members rows c.as_slice-in-Tuple.result.now) vs xs) (only_items js js1 (sym is_j ∙ is_array))
    (subst (λ ts. MembersJson (labelled_members rows ts) vs js) (sym c.as_slice-in-Tuple.ensures) each)))

pub read_kind-returns-in-Enum-clause-other : goal.read_kind-returns-in-Enum-clause-other
read_kind-returns-in-Enum-clause-other t c = λ e.
    rw c.in-Enum.is (subst (λ ls. HasNone (labelled_enum ls) (view c.args.json.now)) c.as_slice-in-Enum.ensures (c.read_label.ensures.other e))

pub read_members-returns-then-items-types-clause-other : goal.read_members-returns-then-items-types-clause-other
read_members-returns-then-items-types-clause-other t c = λ e vs each.
    c.if-items-types.true (sym (length-map c.args.items.now view) ∙ (of-members _ c.args.types.now _ vs each).0)

pub read_members-loop-i-init : goal.read_members-loop-i-init
read_members-loop-i-init t c =
    let P = MemberStands (labelled_types c.args.self.now.resolve.now) (map view c.args.items.now) in
    subst (λ xs. Continues P c.args.types.now 0 (map value_of xs)) (sym c.new-values.ensures.items) (starts P c.args.types.now)

item-at : (xs : List _) (i : ℕ) (x : JsonValue) → i < length xs → x ≡ get_or xs i x → slice_get (map view xs) i ≡ Some (view x)
item-at xs i x h is = slice_get-map view xs i ∙ ap (option_map view) (slice_get_read xs (length xs) i x refl h is)

pub read_members-returns-in-Err-clause-other : goal.read_members-returns-in-Err-clause-other
read_members-returns-in-Err-clause-other t c = λ e vs each.
    let rows = labelled_types c.args.self.now.resolve.now in
    let js = map view c.args.items.now in
    let x = c.index-items-i.result in
    let in_items : c.loop-i.i < length c.args.items.now = c.loop-i-test.true in
    let in_types : c.loop-i.i < length c.args.types.now = omega (arith, c.if-items-types.false, in_items) in
    let here = item-at c.args.items.now c.loop-i.i x in_items c.index-items-i.is in
    refuted-at (MemberStands rows js) c.args.types.now vs c.loop-i.i _ in_types
    (λ v. λ (d, at, stands). c.in-Err.ensures.other (search (rules, e)) v (subst (λ y. Json (labelled_val rows _) v y) (same_Some d (view x) (sym at ∙ here)) stands))
    (of-members rows c.args.types.now js vs each).1

pub read_members-loop-i-preserved : goal.read_members-loop-i-preserved
read_members-loop-i-preserved t c =
    let P = MemberStands (labelled_types c.args.self.now.resolve.now) (map view c.args.items.now) in
    let in_items : c.loop-i.i < length c.args.items.now = c.loop-i-test.true in
    let in_types : c.loop-i.i < length c.args.types.now = omega (arith, c.if-items-types.false, in_items) in
    let here = item-at c.args.items.now c.loop-i.i c.index-items-i.result in_items c.index-items-i.is in
    let pushed : map value_of c.push.new.self.items ≡ map value_of c.loop-i.values.items ++ value_of c.in-Ok.value ∷ [] =
    ap (map value_of) c.in_ok-push-in-Ok.ensures.items ∙ map-append value_of c.loop-i.values.items (c.in-Ok.value ∷ []) in
    subst (Continues P c.args.types.now (c.loop-i.i + 1)) (sym pushed)
    (more-at P c.args.types.now c.loop-i.i _ _ _ in_types (view c.index-items-i.result, here, c.in-Ok.ensures.ok) c.loop-i.invariant)

pub read_members-returns-clause-ok : goal.read_members-returns-clause-ok
read_members-returns-clause-ok t c =
    let rows = labelled_types c.args.self.now.resolve.now in
    let js = map view c.args.items.now in
    members-of rows c.args.types.now js _ (length-map c.args.items.now view ∙ c.if-items-types.false)
    (ends (MemberStands rows js) c.args.types.now c.loop-i.i _ (omega (arith, c.if-items-types.false, c.loop-i-test.false)) c.loop-i.invariant)

pub read_value-returns-in-String-clause-other : goal.read_value-returns-in-String-clause-other
read_value-returns-in-String-clause-other t c = λ e. rw c.in-String.is (c.read_text.ensures.other e)

pub read_fields-returns-then-len-fields-clause-other : goal.read_fields-returns-then-len-fields-clause-other
read_fields-returns-then-len-fields-clause-other t c = λ e vs. λ (ms, each, is_obj).
    let es = c.in-Some.object.now.entries in
    let same : members_view es ≡ ms = same-members _ _ (sym (object-is _ _ c.in-Some.ensures) ∙ is_obj) in
    c.if-len-fields.true
    (c.len.ensures.len ∙ sym (members_len-members_view es) ∙ ap members_len same ∙ (of-fields (labelled_types c.args.self.now.resolve.now) c.args.fields.now ms vs each).0)

pub read_fields-returns-in_default-get-clause-other : goal.read_fields-returns-in_default-get-clause-other
read_fields-returns-in_default-get-clause-other t c = λ e vs. λ (ms, each, is_obj).
    let rows = labelled_types c.args.self.now.resolve.now in
    let f = c.index-fields-i.result in
    let missing : None ≡ get_member f.name ms = c.in_default-get.ensures ∙ ap (get _) is_obj ∙ ap (λ q. get_member q ms) c.as_str.ensures.is in
    refuted (FieldStands rows ms) c.args.fields.now vs c.loop-i.i f c.loop-i-test.true c.index-fields-i.is
    (λ v. λ (d, at, stands). none-some d (missing ∙ at)) (of-fields rows c.args.fields.now ms vs each).1

pub read_fields-returns-in-Err-clause-other : goal.read_fields-returns-in-Err-clause-other
read_fields-returns-in-Err-clause-other t c = λ e vs. λ (ms, each, is_obj).
    let rows = labelled_types c.args.self.now.resolve.now in
    let f = c.index-fields-i.result in
    let x = view c.in-Some-get.member.now in
    let here : Some x ≡ get_member f.name ms = c.in-Some-get.ensures ∙ ap (get _) is_obj ∙ ap (λ q. get_member q ms) c.as_str.ensures.is in
    refuted (FieldStands rows ms) c.args.fields.now vs c.loop-i.i f c.loop-i-test.true c.index-fields-i.is
    (λ v. λ (d, at, stands). c.in-Err.ensures.other (search (rules, e)) v (subst (λ y. Json (labelled_val rows f.ty) v y) (same_Some d x (sym at ∙ sym here)) stands))
    (of-fields rows c.args.fields.now ms vs each).1

pub read_fields-loop-i-preserved : goal.read_fields-loop-i-preserved
read_fields-loop-i-preserved t c = λ ms is_obj.
    let P = FieldStands (labelled_types c.args.self.now.resolve.now) ms in
    let f = c.index-fields-i.result in
    let x = view c.in-Some-get.member.now in
    let here : Some x ≡ get_member f.name ms = c.in-Some-get.ensures ∙ ap (get _) is_obj ∙ ap (λ q. get_member q ms) c.as_str.ensures.is in
    let pushed : map value_of c.push.new.self.items ≡ map value_of c.loop-i.values.items ++ value_of c.in-Ok.value ∷ [] =
    ap (map value_of) c.in_ok-push-in-Ok.ensures.items ∙ map-append value_of c.loop-i.values.items (c.in-Ok.value ∷ []) in
    subst (Continues P c.args.fields.now (c.loop-i.i + 1)) (sym pushed)
    (more P c.args.fields.now c.loop-i.i _ f _ c.loop-i-test.true c.index-fields-i.is (x, sym here, c.in-Ok.ensures.ok) (c.loop-i.invariant ms is_obj))

pub read_fields-returns-clause-ok : goal.read_fields-returns-clause-ok
read_fields-returns-clause-ok t c =
    let rows = labelled_types c.args.self.now.resolve.now in
    let es = c.in-Some.object.now.entries in
    let is_obj = object-is _ _ c.in-Some.ensures in
    let len : members_len (members_view es) ≡ length c.args.fields.now = members_len-members_view es ∙ sym c.len.ensures.len ∙ c.if-len-fields.false in (
      members_view es,
      fields-of rows c.args.fields.now (members_view es) _ c.requires.apart (sorted-view es c.len.ensures.ordered) len
          (ends (FieldStands rows (members_view es)) c.args.fields.now c.loop-i.i _ (omega (arith, c.loop-i-test.false)) (c.loop-i.invariant (members_view es) is_obj)),
      is_obj,
    )

pub read_kind-returns-in-Err-read_fields-clause-other : goal.read_kind-returns-in-Err-read_fields-clause-other
read_kind-returns-in-Err-read_fields-clause-other t c = λ e.
    let rows = labelled_types c.args.self.now.resolve.now in
    rw c.in-Record.is (λ v. λ (vs, ms, each, is_v, is_j).
    c.in-Err-read_fields.ensures.other (search (rules, e)) vs
    (subst (λ fs. HasFields (labelled_fields rows fs) vs (view c.args.json.now)) (sym c.as_slice-in-Record.ensures) (ms, each, is_j)))

pub read_kind-returns-in-Flags-clause-other : goal.read_kind-returns-in-Flags-clause-other
read_kind-returns-in-Flags-clause-other t c = λ e.
    rw c.in-Flags.is (subst (λ ls. HasNone (labelled_flags ls) (view c.args.json.now)) c.as_slice-in-Flags.ensures (c.read_flags.ensures.other e))
