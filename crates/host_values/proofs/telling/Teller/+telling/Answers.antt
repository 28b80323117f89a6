use Rattle.std.proofs.Common.{◌≡◌, ℕ, suc, ◌+◌, ◌*◌, ◌<◌, ◌≤◌, List, [], ◌∷◌, ◌++◌, length, map, drop, Some, None, Ok, option_map, refl, sym, ap, ◌∙◌, subst, arith, append-nil}
use Rattle.std.specs.Prelude.{min, ◌^◌, ◌-◌}
use Rattle.std.proofs.lemmas.List.{length-map, get_or-map, drop_all}
use Rattle.std.proofs.lemmas.Result.{err_from_is_err_and}
use Rattle.std.specs.List.{AllByRecursion}
use Rattle.canonical_abi.specs.Types.{ClosedType, list_type, record_type, variant_type, record_fields, variant_cases, nth_case, depth}
use Rattle.canonical_abi.specs.Values.{Value, HasType, HaveTypes, values_of, list_value, record_value, plain_value, payload_value, string_value}
use Rattle.canonical_abi.specs.Layout.{size, align}
use Rattle.canonical_abi.specs.Requests.{request, requests, each_request, fields_requests}
use Rattle.tables.specs.Closed.{closed_type, closed_types}
use Rattle.values.specs.Members.{members_fields}
use Rattle.values.specs.Scalar.{prim_in, value_in}
use Rattle.values.specs.Val.{value_of}
use Rattle.values.proofs.TypesExtents.{member-depth, case-depth}
use Rattle.values.proofs.FieldsFromAPlace.{fields_from, nth_field-some}
use Rattle.values.proofs.ValuesOfTypesByShape.{not-list, is-list, is-record, type-of-scalar, type-of-text, type-of-flags, type-of-record, is-plain, is-payload, no-payload, no-case, typed-count, all-at, have-first, have-rest}
use Rattle.values.proofs.ValueOfEachVariant.{value_of-List, value_of-Record, value_of-String, value_of-Flags}
use Rattle.host_values.specs.Requests.{AreToldBehind, Tells}
use Rattle.adapter.proofs.asking.RequestsOfParts.{payload-asks}
use Rattle.host_values.proofs.RequestsOfValues.{told-none, told-both, stops-whole, told-saturated, not-saturated, list-asks, each-next, done-next, done-all, fields-next-asks, no-value-asks, record-asks, plain-none}
use Rattle.host_values.proofs.telling.Teller.+telling.Goals as goal

-- ---- the members of a record

pub tell_fields-unreachable-requires : goal.tell_fields-unreachable-requires
tell_fields-unreachable-requires t c =
    let fs = members_fields c.args.self.now.types.now c.args.members.now in
    let count = typed-count fs (map value_of c.args.values.now) c.requires.typed in
    let n = length-map c.args.values.now value_of in
    nth_field-some fs c.loop-index.index (omega (arith, count, n, c.loop-index-test.true)) (sym c.in_default.ensures.found)

pub tell_fields-tell_value-requires : goal.tell_fields-tell_value-requires
tell_fields-tell_value-requires t c =
    let fs = members_fields c.args.self.now.types.now c.args.members.now in
    let vs = map value_of c.args.values.now in
    let i = c.loop-index.index in
    let u = closed_type c.args.self.now.types.now c.in-Some.member in
    let found = sym c.in-Some.ensures.found in
    let v = c.index-values-index.result in
    let here = get_or-map value_of c.args.values.now i v (value_of v) c.loop-index-test.true ∙ ap value_of (sym c.index-values-index.is) in
    let below : i < length vs = omega (arith, length-map c.args.values.now value_of, c.loop-index-test.true) in
    let P : Value → Type 0 = λ w. HasType w u in
    let typed = subst P here (have-first fs vs i u (value_of v) found below c.loop-index.invariant.3) in
    (omega (arith, member-depth fs i u found, c.decreases), (c.in-Some.ensures.inside, typed))

pub tell_fields-returns-in_err-tell_value : goal.tell_fields-returns-in_err-tell_value
tell_fields-returns-in_err-tell_value t c =
    let fs = members_fields c.args.self.now.types.now c.args.members.now in
    let vs = map value_of c.args.values.now in
    let i = c.loop-index.index in
    let u = closed_type c.args.self.now.types.now c.in-Some.member in
    let v = c.index-values-index.result in
    let here = get_or-map value_of c.args.values.now i v (value_of v) c.loop-index-test.true ∙ ap value_of (sym c.index-values-index.is) in
    let below : i < length vs = omega (arith, length-map c.args.values.now value_of, c.loop-index-test.true) in
    let next = fields-next-asks fs vs i u (value_of v) (sym c.in-Some.ensures.found) below here in
    let p = err_from_is_err_and c.from_residual.result c.from_residual.ensures.1 in
    let (done, whole, told, typed) = c.loop-index.invariant in
    rw (p.1, p.2) (stops-whole (fields_requests fs vs) done (requests u (value_of v)) (fields_requests (fields_from (i + 1) fs) (drop (i + 1) vs)) c.in_err-tell_value.field-0.0 (whole ∙ ap (λ l. done ++ l) next) c.in_err-tell_value.ensures)

pub tell_fields-loop-index-preserved : goal.tell_fields-loop-index-preserved
tell_fields-loop-index-preserved t c =
    let fs = members_fields c.args.self.now.types.now c.args.members.now in
    let vs = map value_of c.args.values.now in
    let i = c.loop-index.index in
    let u = closed_type c.args.self.now.types.now c.in-Some.member in
    let found = sym c.in-Some.ensures.found in
    let v = c.index-values-index.result in
    let here = get_or-map value_of c.args.values.now i v (value_of v) c.loop-index-test.true ∙ ap value_of (sym c.index-values-index.is) in
    let below : i < length vs = omega (arith, length-map c.args.values.now value_of, c.loop-index-test.true) in
    let next = fields-next-asks fs vs i u (value_of v) found below here in
    let (done, whole, told, typed) = c.loop-index.invariant in (
      done ++ requests u (value_of v),
      done-next _ done (requests u (value_of v)) _ _ whole next,
      told-both done (requests u (value_of v)) c.args.told.now.items c.loop-index.told.items c.tell_value.new.told.items told c.in_ok-tell_value.ensures,
      have-rest fs vs i u (value_of v) found below typed,
    )

pub tell_fields-loop-index-init : goal.tell_fields-loop-index-init
tell_fields-loop-index-init t c = ([], refl, told-none c.args.told.now.items, c.requires.typed)

pub tell_fields-returns : goal.tell_fields-returns
tell_fields-returns t c =
    let fs = members_fields c.args.self.now.types.now c.args.members.now in
    let vs = map value_of c.args.values.now in
    let i = c.loop-index.index in
    let n = length-map c.args.values.now value_of in
    let (done, whole, told, typed) = c.loop-index.invariant in
    let none = ap (fields_requests (fields_from i fs)) (drop_all i vs (omega (arith, n, c.loop-index-test.false))) ∙ no-value-asks (fields_from i fs) in
    subst (λ rs. AreToldBehind c.args.told.now.items rs c.loop-index.told.items) (done-all (fields_requests fs vs) done _ whole none) told

-- ---- the elements of a list

pub tell_list-returns-in_err-tell : goal.tell_list-returns-in_err-tell
tell_list-returns-in_err-tell t c =
    let u = closed_type c.args.self.now.types.now c.args.element in
    let vs = map value_of c.args.items.now in
    let n = length-map c.args.items.now value_of in
    let p = err_from_is_err_and c.from_residual.result c.from_residual.ensures.1 in
    let counted = c.saturating_mul.ensures ∙ ap (λ s. min (length c.args.items.now * s) (2 ^ 64 - 1)) c.size_of-step.ensures.value ∙ ap (λ k. min (k * size u) (2 ^ 64 - 1)) (sym n) in
    let stopped = not-saturated c.align_of-align.result (length vs * size u) c.saturating_mul.result c.in_err-tell.field-0.0 counted c.in_err-tell.ensures in
    rw (p.1, p.2) (stops-whole _ [] (request (align u) (length vs * size u) ∷ []) (each_request (requests u) vs) c.in_err-tell.field-0.0 (list-asks u vs) (rw c.align_of-align.ensures.value at stopped))

pub tell_list-loop-index-init : goal.tell_list-loop-index-init
tell_list-loop-index-init t c =
    let u = closed_type c.args.self.now.types.now c.args.element in
    let vs = map value_of c.args.items.now in
    let n = length-map c.args.items.now value_of in
    let counted = c.saturating_mul.ensures ∙ ap (λ s. min (length c.args.items.now * s) (2 ^ 64 - 1)) c.size_of-step.ensures.value ∙ ap (λ k. min (k * size u) (2 ^ 64 - 1)) (sym n) in
    let told = told-saturated c.align_of-align.result (length vs * size u) c.saturating_mul.result c.args.told.now.items c.tell.new.told.items counted c.in_ok-tell.ensures in
    (request (align u) (length vs * size u) ∷ [], list-asks u vs, rw c.align_of-align.ensures.value at told)

pub tell_list-tell_value-requires : goal.tell_list-tell_value-requires
tell_list-tell_value-requires t c =
    let u = closed_type c.args.self.now.types.now c.args.element in
    let vs = map value_of c.args.items.now in
    let i = c.loop-index.index in
    let v = c.index-items-index.result in
    let P : Value → Type 0 = λ w. HasType w u in
    let here = get_or-map value_of c.args.items.now i v (value_of v) c.loop-index-test.true ∙ ap value_of (sym c.index-items-index.is) in
    let below : i < length vs = omega (arith, length-map c.args.items.now value_of, c.loop-index-test.true) in
    let typed = subst P here (all-at P vs i (value_of v) below c.requires.typed) in
    (omega (arith, c.decreases), (c.requires.inside, typed))

pub tell_list-returns-in_err-tell_value : goal.tell_list-returns-in_err-tell_value
tell_list-returns-in_err-tell_value t c =
    let u = closed_type c.args.self.now.types.now c.args.element in
    let vs = map value_of c.args.items.now in
    let i = c.loop-index.index in
    let v = c.index-items-index.result in
    let here = get_or-map value_of c.args.items.now i v (value_of v) c.loop-index-test.true ∙ ap value_of (sym c.index-items-index.is) in
    let below : i < length vs = omega (arith, length-map c.args.items.now value_of, c.loop-index-test.true) in
    let next = each-next (requests u) vs i (value_of v) below here in
    let p = err_from_is_err_and c.from_residual-in_err-tell_value.result c.from_residual-in_err-tell_value.ensures.1 in
    let (done, whole, told) = c.loop-index.invariant in
    rw (p.1, p.2) (stops-whole _ done (requests u (value_of v)) (each_request (requests u) (drop (i + 1) vs)) c.in_err-tell_value.field-0.0 (whole ∙ ap (λ l. done ++ l) next) c.in_err-tell_value.ensures)

pub tell_list-loop-index-preserved : goal.tell_list-loop-index-preserved
tell_list-loop-index-preserved t c =
    let u = closed_type c.args.self.now.types.now c.args.element in
    let vs = map value_of c.args.items.now in
    let i = c.loop-index.index in
    let v = c.index-items-index.result in
    let here = get_or-map value_of c.args.items.now i v (value_of v) c.loop-index-test.true ∙ ap value_of (sym c.index-items-index.is) in
    let below : i < length vs = omega (arith, length-map c.args.items.now value_of, c.loop-index-test.true) in
    let next = each-next (requests u) vs i (value_of v) below here in
    let (done, whole, told) = c.loop-index.invariant in (
      done ++ requests u (value_of v),
      done-next _ done (requests u (value_of v)) _ _ whole next,
      told-both done (requests u (value_of v)) c.args.told.now.items c.loop-index.told.items c.tell_value.new.told.items told c.in_ok-tell_value.ensures,
    )

pub tell_list-returns : goal.tell_list-returns
tell_list-returns t c =
    let u = closed_type c.args.self.now.types.now c.args.element in
    let vs = map value_of c.args.items.now in
    let i = c.loop-index.index in
    let n = length-map c.args.items.now value_of in
    let (done, whole, told) = c.loop-index.invariant in
    let none = ap (each_request (requests u)) (drop_all i vs (omega (arith, n, c.loop-index-test.false))) in
    subst (λ rs. AreToldBehind c.args.told.now.items rs c.loop-index.told.items) (done-all (requests (list_type u) (list_value (values_of vs))) done _ whole none) told

-- ---- the payload of a variant

pub tell_payload-returns-in_default-payload : goal.tell_payload-returns-in_default-payload
tell_payload-returns-in_default-payload t c =
    let T = closed_type c.args.self.now.types.now c.args.ty in
    let shaped = c.in-Variant.ensures.shape.0 in
    let variant : variant_type (variant_cases T) ≡ T = ap (λ x. variant_type (variant_cases x)) shaped.1 ∙ sym shaped.1 in
    let found = is-plain T c.args.case variant (rw c.in_default-payload.is at c.requires.typed) in
    rw c.in_default-payload.is (subst (λ rs. AreToldBehind c.args.told.now.items rs c.args.told.now.items) (sym (plain-none T c.args.case variant found)) (told-none c.args.told.now.items))

pub tell_payload-unreachable-requires-in_default-case_payload : goal.tell_payload-unreachable-requires-in_default-case_payload
tell_payload-unreachable-requires-in_default-case_payload t c =
    let T = closed_type c.args.self.now.types.now c.args.ty in
    let shaped = c.in-Variant.ensures.shape.0 in
    let variant : variant_type (variant_cases T) ≡ T = ap (λ x. variant_type (variant_cases x)) shaped.1 ∙ sym shaped.1 in
    no-case T c.args.case variant c.args.payload.now (sym c.in_default-case_payload.ensures.found) c.requires.typed

pub tell_payload-unreachable-requires-in_default-known : goal.tell_payload-unreachable-requires-in_default-known
tell_payload-unreachable-requires-in_default-known t c =
    let r = c.args.self.now.types.now in
    let T = closed_type r c.args.ty in
    let cs = variant_cases T in
    let i = c.args.case in
    let shaped = c.in-Variant.ensures.shape.0 in
    let variant : variant_type cs ≡ T = ap (λ x. variant_type (variant_cases x)) shaped.1 ∙ sym shaped.1 in
    let found : nth_case cs i ≡ Some None = sym c.in-Some-case_payload.ensures.found ∙ ap (λ o. Some (option_map (closed_type r) o)) c.in_default-known.is in
    no-payload T i variant (value_of c.in-Some.value.value) found (rw c.in-Some.is at c.requires.typed)

pub tell_payload-tell_value-requires : goal.tell_payload-tell_value-requires
tell_payload-tell_value-requires t c =
    let r = c.args.self.now.types.now in
    let T = closed_type r c.args.ty in
    let cs = variant_cases T in
    let i = c.args.case in
    let shaped = c.in-Variant.ensures.shape.0 in
    let variant : variant_type cs ≡ T = ap (λ x. variant_type (variant_cases x)) shaped.1 ∙ sym shaped.1 in
    let u = closed_type r c.in-Some-known.member in
    let found : nth_case cs i ≡ Some (Some u) = sym c.in-Some-case_payload.ensures.found ∙ ap (λ o. Some (option_map (closed_type r) o)) c.in-Some-known.is in
    let P : Value → Type 0 = λ x. HasType x u in
    let typed = is-payload T i variant u (value_of c.in-Some.value.value) found (rw c.in-Some.is at c.requires.typed) in
    let here = subst P (sym (ap value_of c.deref.ensures)) typed in
    let inside = rw c.in-Some-known.is at c.in-Some-case_payload.ensures.inside in
    (omega (arith, case-depth T i u found, c.decreases), (inside, here))

pub tell_payload-returns : goal.tell_payload-returns
tell_payload-returns t c =
    let r = c.args.self.now.types.now in
    let T = closed_type r c.args.ty in
    let i = c.args.case in
    let shaped = c.in-Variant.ensures.shape.0 in
    let variant : variant_type (variant_cases T) ≡ T = ap (λ x. variant_type (variant_cases x)) shaped.1 ∙ sym shaped.1 in
    let u = closed_type r c.in-Some-known.member in
    let found : nth_case (variant_cases T) i ≡ Some (Some u) = sym c.in-Some-case_payload.ensures.found ∙ ap (λ o. Some (option_map (closed_type r) o)) c.in-Some-known.is in
    let w = value_of c.in-Some.value.value in
    let given = rw (ap value_of c.deref.ensures) at c.tell_value.ensures in
    rw c.in-Some.is (subst (λ rs. Tells rs c.args.told.now.items c.tell_value.result c.tell_value.new.told.items) (payload-asks (variant_cases T) i u w found ∙ ap (λ x. requests x (payload_value i w)) variant) given)

-- ---- a value

pub tell_value-unreachable-requires : goal.tell_value-unreachable-requires
tell_value-unreachable-requires t c =
    let r = c.args.self.now.types.now in
    let typed = rw (c.in-List.is, value_of-List) at c.requires.typed in
    not-list (closed_types r) (closed_type r c.args.ty) c.shape_of.result (values_of (map value_of c.in-List.items.items)) c.shape_of.ensures.shape.0 c.in_default-shape_of.not-List typed

pub tell_value-tell_list-requires : goal.tell_value-tell_list-requires
tell_value-tell_list-requires t c =
    let r = c.args.self.now.types.now in
    let T = closed_type r c.args.ty in
    let u = closed_type r c.in-List-shape_of.element in
    let e : T ≡ list_type u = c.in-List-shape_of.ensures.shape.0 in
    let deep : depth T ≡ suc (depth u) = ap depth e in
    let P : List Value → Type 0 = λ xs. AllByRecursion (λ w. HasType w u) xs in
    let typed = is-list (map value_of c.in-List.items.items) T u e (rw (c.in-List.is, value_of-List) at c.requires.typed) in
    let items = subst P (sym (ap (map value_of) c.as_slice.ensures.value)) typed in
    (omega (arith, deep, c.decreases), (c.in-List-shape_of.ensures.shape.1, items))

pub tell_value-tell_fields-requires : goal.tell_value-tell_fields-requires
tell_value-tell_fields-requires t c =
    let T = closed_type c.args.self.now.types.now c.args.ty in
    let vs = map value_of c.in-Record.fields.items in
    let typed = rw (c.in-Record.is, value_of-Record) at c.requires.typed in
    let only = type-of-record T (values_of vs) typed in
    let fs = record_fields T in
    let deep : depth T ≡ depth (record_type fs) = ap depth only in
    let Q : List Value → Type 0 = λ xs. HaveTypes xs fs in
    let values = subst Q (sym (ap (map value_of) c.as_slice-in-Record.ensures.value)) (is-record vs T fs only typed) in
    (omega (arith, deep, c.decreases), (c.requires.inside, values))

pub tell_value-returns-in-String : goal.tell_value-returns-in-String
tell_value-returns-in-String t c =
    let T = closed_type c.args.self.now.types.now c.args.ty in
    let e = type-of-text T _ (rw (c.in-String.is, value_of-String) at c.requires.typed) in
    let told = subst (λ (n : ℕ). Tells (request 1 n ∷ []) c.args.told.now.items c.tell.result c.tell.new.told.items) (c.len.ensures ∙ c.in-String.text.bytes.ok.0) c.tell.ensures in
    rw (c.in-String.is, value_of-String, e) told

pub tell_value-returns-in-Record : goal.tell_value-returns-in-Record
tell_value-returns-in-Record t c =
    let T = closed_type c.args.self.now.types.now c.args.ty in
    let vs = map value_of c.in-Record.fields.items in
    let typed = rw (c.in-Record.is, value_of-Record) at c.requires.typed in
    let only = type-of-record T (values_of vs) typed in
    let given = rw c.as_slice-in-Record.ensures.value at c.tell_fields.ensures in
    rw (c.in-Record.is, value_of-Record, only) (subst (λ rs. Tells rs c.args.told.now.items c.tell_fields.result c.tell_fields.new.told.items) (sym (record-asks (record_fields T) vs)) given)

pub tell_value-returns-in-Flags : goal.tell_value-returns-in-Flags
tell_value-returns-in-Flags t c =
    let T = closed_type c.args.self.now.types.now c.args.ty in
    let (n, is, few) = type-of-flags T _ (rw (c.in-Flags.is, value_of-Flags) at c.requires.typed) in
    rw (c.in-Flags.is, value_of-Flags, is) (told-none c.args.told.now.items)

pub tell_value-returns-in-Some : goal.tell_value-returns-in-Some
tell_value-returns-in-Some t c =
    let T = closed_type c.args.self.now.types.now c.args.ty in
    let s = c.in-Some.field-0 in
    let P : Value → Type 0 = λ v. HasType v T in
    let e = type-of-scalar T (value_in s) (prim_in s) c.in-Some.ensures.typed (subst P (sym c.in-Some.ensures.value) c.requires.typed) in
    rw e (told-none c.args.told.now.items)
