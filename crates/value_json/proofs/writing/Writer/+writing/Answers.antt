use Rattle.std.proofs.Common.{◌≡◌, ℕ, suc, ◌+◌, ◌-◌, ◌<◌, IsTrue, List, [], ◌∷◌, ◌++◌, map, length, take, drop, get_or, refl, sym, ap, ◌∙◌, subst, arith, rules}
use Rattle.std.proofs.lemmas.List.{length-map, map-append, drop_all, take_all}
use Rattle.canonical_abi.specs.Labelled.{closed, closed_members, closed_fields}
use Rattle.canonical_abi.specs.Values.{HasType, HaveTypes}
use Rattle.serde_json.specs.Data.{no_members, put}
use Rattle.std.specs.List.{AllByRecursion}
use Rattle.tables.specs.declared.tables.TypeDefKind.TheVariants as kind
use Rattle.serde_json.specs.View.{view, members_view}
use Rattle.serde_json.proofs.Views.{view-Array}
use Rattle.values.specs.Val.{value_of}
use Rattle.values.specs.declared.val.Val.{Val}
use Rattle.tables.specs.declared.tables.ValType.{ValType}
use Rattle.tables.specs.declared.tables.Field.{Field}
use Rattle.values.proofs.ValueOfEachVariant.{value_of-List, value_of-Record}
use Rattle.values.proofs.ValuesOfTypesByShape.{typed-list, typed-record}
use Rattle.tables.specs.Labelled.{labelled_type, labelled_types, labelled_val, labelled_kind, labelled_payload, labelled_members, labelled_fields, labelled_cases}
use Rattle.value_json.specs.Json.{Json, EachJson, MembersJson, FieldsJson, PayloadJson, CasesJson}
use Rattle.value_json.specs.Writing.{HasPayload}
use Rattle.tables.specs.Tables.{is_below, is_type, option_all}
use Rattle.tables.specs.declared.tables.Case.{Case}
use Rattle.value_json.proofs.RanksOfTypes.{rank-below}
use Rattle.value_json.proofs.LabelledTypesRowByRow.{all-at as every}
use Rattle.tables.specs.declared.tables.ValType.TheVariants as val
use Rattle.tables.specs.declared.tables.Primitive.TheVariants as primitive
use Rattle.value_json.proofs.ValuesMadeOneByOne.{get-same}
use Rattle.value_json.proofs.CasesTriedOneByOne.{found}
use Rattle.value_json.proofs.WrittenStandsForValue.{item-typed, items-next, member-count, member-at, members-next, field-count, field-at, fields-next, case-found, case-known, same-case, one-case, result-case, result-second, ok-map}
use Rattle.value_json.proofs.writing.Writer.+writing.Goals as goal

-- ---- records

pub write_fields-loop-i-init : goal.write_fields-loop-i-init
write_fields-loop-i-init t c =
    let rows = labelled_types c.args.self.now.resolve.now in
    let fs = c.args.fields.now in
    let vs = c.args.values.now in
    let many : length vs ≡ length fs = sym (length-map vs value_of) ∙ field-count rows fs (map value_of vs) c.requires.typed in
    let none : members_view c.new-members.result.entries ≡ no_members = ap members_view c.new-members.ensures.empty in
    let P : List Field → List Val → Type 0 = λ xs ys. FieldsJson (labelled_fields rows xs) (map value_of ys) (members_view c.new-members.result.entries) in
    subst (λ xs. P xs (drop (length fs) vs)) (sym (drop_all (length fs) fs (omega arith)))
    (subst (P []) (sym (drop_all (length fs) vs (omega (arith, many)))) (refl, none))

pub write_fields-bounds-values-i : goal.write_fields-bounds-values-i
write_fields-bounds-values-i t c =
    let vs = c.args.values.now in
    let many : length vs ≡ length c.args.fields.now = sym (length-map vs value_of) ∙ field-count (labelled_types c.args.self.now.resolve.now) c.args.fields.now (map value_of vs) c.requires.typed in
    omega (arith, many, c.loop-i-test.true, c.loop-i.auto.i)

pub write_fields-write_value-requires : goal.write_fields-write_value-requires
write_fields-write_value-requires t c =
    let typed = field-at (labelled_types c.args.self.now.resolve.now) c.args.fields.now c.args.values.now (c.loop-i.i - 1) c.index-fields-i.result c.index-values-i.result
    (omega (arith, c.loop-i-test.true, c.loop-i.auto.i)) c.index-fields-i.is c.index-values-i.is c.requires.typed in
    let k = c.loop-i.i - 1 in
    let f = c.index-fields-i.result in
    let lt : k < length c.args.fields.now = omega (arith, c.loop-i-test.true, c.loop-i.auto.i) in
    let below : IsTrue (is_below c.args._place f.ty) =
    subst (λ (g : Field). IsTrue (is_below c.args._place g.ty)) (sym c.index-fields-i.is) (every (λ g. is_below c.args._place g.ty) c.args.fields.now k f lt c.requires.below) in
    let known : IsTrue (is_type c.args.self.now.resolve.now.definitions f.ty) =
    subst (λ (g : Field). IsTrue (is_type c.args.self.now.resolve.now.definitions g.ty)) (sym c.index-fields-i.is) (every (λ g. is_type c.args.self.now.resolve.now.definitions g.ty) c.args.fields.now k f lt c.requires.types) in
    let low = rank-below c.args._place f.ty below in
    (search rules, (known, (c.requires.labels, typed)))

pub write_fields-loop-i-preserved : goal.write_fields-loop-i-preserved
write_fields-loop-i-preserved t c =
    let rows = labelled_types c.args.self.now.resolve.now in
    let fs = c.args.fields.now in
    let vs = c.args.values.now in
    let k = c.loop-i.i - 1 in
    let f = c.index-fields-i.result in
    let v = c.index-values-i.result in
    let many : length vs ≡ length fs = sym (length-map vs value_of) ∙ field-count rows fs (map value_of vs) c.requires.typed in
    let next : suc k ≡ c.loop-i.i = omega (arith, c.loop-i-test.true) in
    let is_put = c.in_ok-put_member.ensures ∙ ap (λ l. put l (view c.in_ok-member.member) (members_view c.loop-i.members.entries)) c.as_str.ensures.is in
    let each = subst (λ n. FieldsJson (labelled_fields rows (drop n fs)) (map value_of (drop n vs)) (members_view c.loop-i.members.entries)) (sym next) c.loop-i.invariant in
    fields-next rows fs vs k f v (view c.in_ok-member.member) (members_view c.loop-i.members.entries) (members_view c.put_member.new.members.entries)
    (omega (arith, c.loop-i-test.true, c.loop-i.auto.i)) (omega (arith, c.loop-i-test.true, c.loop-i.auto.i, many)) c.index-fields-i.is c.index-values-i.is
    c.requires.apart is_put c.in_ok-member.ensures each

-- ---- lists

pub write_items-write_value-requires : goal.write_items-write_value-requires
write_items-write_value-requires t c =
    let typed = item-typed (λ v. HasType v (closed (labelled_type c.args.self.now.resolve.now c.args.element))) c.args.values.now c.loop-value.value-index c.value-item.result
    c.loop-value-test.true c.value-item.is c.requires.typed in
    (search rules, (c.requires.inside, (c.requires.labels, typed)))

pub write_items-loop-value-preserved : goal.write_items-loop-value-preserved
write_items-loop-value-preserved t c =
    let P = Json (labelled_type c.args.self.now.resolve.now c.args.element) in
    let i = c.loop-value.value-index in
    let olds = map view c.loop-value.items.items in
    let pushed : map view c.push.new.self.items ≡ olds ++ view c.in_ok-write_value.field-0 ∷ [] =
    ap (map view) c.in_ok-push.ensures.items ∙ map-append view c.loop-value.items.items _ in
    subst (EachJson P (map value_of (take (i + 1) c.args.values.now))) (sym pushed)
    (items-next P c.args.values.now i c.value-item.result olds (view c.in_ok-write_value.field-0) c.loop-value-test.true c.value-item.is c.loop-value.invariant c.in_ok-write_value.ensures)

pub write_kind-write_items-requires : goal.write_kind-write_items-requires
write_kind-write_items-requires t c =
    let rows = labelled_types c.args.self.now.resolve.now in
    let kinded = subst (λ k. HasType (value_of c.args.value.now) (closed (labelled_kind rows k))) c.in-List.is c.requires.typed in
    let listed = subst (λ v. HasType v (closed (labelled_kind rows (kind.List c.in-List.element)))) (ap value_of c.in-List-value.is ∙ value_of-List c.in-List-value.values) kinded in
    let all = typed-list (closed (labelled_val rows c.in-List.element)) (map value_of c.in-List-value.values.items) listed in
    let Q : List Val → Type 0 = λ xs. AllByRecursion (λ v. HasType v (closed (labelled_val rows c.in-List.element))) (map value_of xs) in
    (search rules, (search rules, (c.requires.labels, subst Q (sym c.as_slice.ensures.value) all)))

pub write_kind-case_of-requires-in-Result : goal.write_kind-case_of-requires-in-Result
write_kind-case_of-requires-in-Result t c =
    let rows = labelled_types c.args.self.now.resolve.now in
    let kinded = subst (λ k. HasType (value_of c.args.value.now) (closed (labelled_kind rows k))) c.in-Result.is c.requires.typed in
    result-case (labelled_payload rows c.in-Result.ok) (labelled_payload rows c.in-Result.error) (value_of c.args.value.now) kinded

pub write_kind-write_case-requires-else-case_of-eq0-2 :
    goal.write_kind-write_case-requires-else-case_of-eq0-2
write_kind-write_case-requires-else-case_of-eq0-2 t c =
    let rows = labelled_types c.args.self.now.resolve.now in
    let kinded = subst (λ k. HasType (value_of c.args.value.now) (closed (labelled_kind rows k))) c.in-Result.is c.requires.typed in
    let second = result-second (labelled_payload rows c.in-Result.ok) (labelled_payload rows c.in-Result.error) (value_of c.args.value.now) c.case_of-in-Result.result
    kinded c.case_of-in-Result.ensures c.if-case_of-eq0-2.false in
    (search rules, (search rules, (search rules, (c.requires.labels, second))))

pub write_kind-write_members-requires : goal.write_kind-write_members-requires
write_kind-write_members-requires t c =
    let rows = labelled_types c.args.self.now.resolve.now in
    let kinded = subst (λ k. HasType (value_of c.args.value.now) (closed (labelled_kind rows k))) c.in-Tuple.is c.requires.typed in
    let recorded = subst (λ v. HasType v (closed (labelled_kind rows (kind.Tuple c.in-Tuple.types)))) (ap value_of c.in-Record-value.is ∙ value_of-Record c.in-Record-value.values) kinded in
    let all = typed-record (closed_members (labelled_members rows c.in-Tuple.types)) (map value_of c.in-Record-value.values.items) recorded in
    let P : List ValType → List Val → Type 0 = λ ts vs. HaveTypes (map value_of vs) (closed_members (labelled_members rows ts)) in (
      search rules,
      (
        search rules,
        (
          search rules,
          (
            c.requires.labels,
            subst (λ ts. P ts c.as_slice-in-Tuple-2.result.now) (sym c.as_slice-in-Tuple.ensures) (subst (P c.in-Tuple.types) (sym c.as_slice-in-Tuple-2.ensures.value) all),
          ),
        ),
      ),
    )

pub write_kind-write_fields-requires : goal.write_kind-write_fields-requires
write_kind-write_fields-requires t c =
    let rows = labelled_types c.args.self.now.resolve.now in
    let kinded = subst (λ k. HasType (value_of c.args.value.now) (closed (labelled_kind rows k))) c.in-Record.is c.requires.typed in
    let recorded = subst (λ v. HasType v (closed (labelled_kind rows (kind.Record c.in-Record.fields)))) (ap value_of c.in-Record-value-2.is ∙ value_of-Record c.in-Record-value-2.values) kinded in
    let all = typed-record (closed_fields (labelled_fields rows c.in-Record.fields)) (map value_of c.in-Record-value-2.values.items) recorded in
    let P : List Field → List Val → Type 0 = λ fs vs. HaveTypes (map value_of vs) (closed_fields (labelled_fields rows fs)) in (
      search rules,
      (
        search rules,
        (
          search rules,
          (
            c.requires.labels,
            (
              search rules,
              subst (λ fs. P fs c.as_slice-in-Record-2.result.now) (sym c.as_slice-in-Record.ensures) (subst (P c.in-Record.fields) (sym c.as_slice-in-Record-2.ensures.value) all),
            ),
          ),
        ),
      ),
    )

pub write_kind-returns-in_ok-write_items-in-List :
    goal.write_kind-returns-in_ok-write_items-in-List
write_kind-returns-in_ok-write_items-in-List t c =
    let rows = labelled_types c.args.self.now.resolve.now in
    let items = c.in_ok-write_items-in-List.field-0 in
    let each = subst (λ xs. EachJson (Json (labelled_val rows c.in-List.element)) (map value_of xs) (map view items.items)) c.as_slice.ensures.value c.in_ok-write_items-in-List.ensures in
    rw c.in-List.is (map value_of c.in-List-value.values.items, map view items.items, each, ap value_of c.in-List-value.is ∙ value_of-List c.in-List-value.values, view-Array items)

-- ---- tuples

pub write_members-bounds-types-i : goal.write_members-bounds-types-i
write_members-bounds-types-i t c =
    let vs = c.args.values.now in
    let many : length vs ≡ length c.args.types.now = sym (length-map vs value_of) ∙ member-count (labelled_types c.args.self.now.resolve.now) c.args.types.now (map value_of vs) c.requires.typed in
    omega (arith, many, c.loop-i-test.true)

pub write_members-write_value-requires : goal.write_members-write_value-requires
write_members-write_value-requires t c =
    let rows = labelled_types c.args.self.now.resolve.now in
    let vs = c.args.values.now in
    let ts = c.args.types.now in
    let i = c.loop-i.i in
    let many : length vs ≡ length ts = sym (length-map vs value_of) ∙ member-count rows ts (map value_of vs) c.requires.typed in
    let lt : i < length ts = omega (arith, many, c.loop-i-test.true) in
    let ty = get_or ts i (val.Primitive primitive.Bool) in
    let typed = member-at rows ts vs i ty c.index-values-i.result lt (get-same ts i (val.Primitive primitive.Bool) ty lt) c.index-values-i.is c.requires.typed in
    let below : IsTrue (is_below c.args._place ty) = every (is_below c.args._place) ts i (val.Primitive primitive.Bool) lt c.requires.below in
    let known : IsTrue (is_type c.args.self.now.resolve.now.definitions ty) = every (is_type c.args.self.now.resolve.now.definitions) ts i (val.Primitive primitive.Bool) lt c.requires.types in
    let low = rank-below c.args._place ty below in
    (search rules, (known, (c.requires.labels, typed)))

pub write_members-loop-i-preserved : goal.write_members-loop-i-preserved
write_members-loop-i-preserved t c =
    let rows = labelled_types c.args.self.now.resolve.now in
    let vs = c.args.values.now in
    let ts = c.args.types.now in
    let i = c.loop-i.i in
    let many : length vs ≡ length ts = sym (length-map vs value_of) ∙ member-count rows ts (map value_of vs) c.requires.typed in
    let lt : i < length ts = omega (arith, many, c.loop-i-test.true) in
    let ty = get_or ts i (val.Primitive primitive.Bool) in
    let olds = map view c.loop-i.items.items in
    let pushed : map view c.push.new.self.items ≡ olds ++ view c.in_ok-write_value.field-0 ∷ [] =
    ap (map view) c.in_ok-push.ensures.items ∙ map-append view c.loop-i.items.items _ in
    subst (MembersJson (labelled_members rows (take (i + 1) ts)) (map value_of (take (i + 1) vs))) (sym pushed)
    (members-next rows ts vs i ty c.index-values-i.result olds (view c.in_ok-write_value.field-0) lt c.loop-i-test.true (get-same ts i (val.Primitive primitive.Bool) ty lt) c.index-values-i.is
    c.loop-i.invariant c.in_ok-write_value.ensures)

pub write_members-returns : goal.write_members-returns
write_members-returns t c =
    let vs = c.args.values.now in
    let ts = c.args.types.now in
    let rows = labelled_types c.args.self.now.resolve.now in
    let many : length vs ≡ length ts = sym (length-map vs value_of) ∙ member-count rows ts (map value_of vs) c.requires.typed in
    let P : List ValType → List Val → Type 0 = λ xs ys. MembersJson (labelled_members rows xs) (map value_of ys) (map view c.loop-i.items.items) in
    subst (λ xs. P xs vs) (take_all c.loop-i.i ts (omega (arith, many, c.loop-i-test.false)))
    (subst (P (take c.loop-i.i ts)) (take_all c.loop-i.i vs c.loop-i-test.false) c.loop-i.invariant)

-- ---- variants

pub write_variant-case_of-number-requires : goal.write_variant-case_of-number-requires
write_variant-case_of-number-requires t c =
    let (i, is) = c.requires.typed in
    (i, (case-known (labelled_types c.args.self.now.resolve.now) c.args.cases.now _ i i is).1)

pub write_variant-bounds-cases-number : goal.write_variant-bounds-cases-number
write_variant-bounds-cases-number t c =
    let (i, is) = c.requires.typed in
    let (less, has) = case-known (labelled_types c.args.self.now.resolve.now) c.args.cases.now _ i i is in
    omega (arith, less, same-case _ c.case_of-number.result i c.case_of-number.ensures has)

pub write_variant-write_case-requires : goal.write_variant-write_case-requires
write_variant-write_case-requires t c =
    let rows = labelled_types c.args.self.now.resolve.now in
    let (i, is) = c.requires.typed in
    let x = c.index-cases-number.result in
    let (less, p) = case-found rows c.args.cases.now _ i i x is in
    let number = c.case_of-number.result in
    let same : number ≡ i = one-case _ _ number i c.case_of-number.ensures p in
    let P : ℕ → Type 0 = λ n. HasPayload (labelled_payload rows (get_or c.args.cases.now n x).ty) n (value_of c.args.value.now) in
    let lt : number < length c.args.cases.now = omega (arith, less, same) in
    let below : IsTrue (option_all (is_below c.args.place) x.ty) =
    subst (λ (y : Case). IsTrue (option_all (is_below c.args.place) y.ty)) (sym c.index-cases-number.is) (every (λ y. option_all (is_below c.args.place) y.ty) c.args.cases.now number x lt c.requires.below) in
    let known : IsTrue (option_all (is_type c.args.self.now.resolve.now.definitions) x.ty) =
    subst (λ (y : Case). IsTrue (option_all (is_type c.args.self.now.resolve.now.definitions) y.ty)) (sym c.index-cases-number.is) (every (λ y. option_all (is_type c.args.self.now.resolve.now.definitions) y.ty) c.args.cases.now number x lt c.requires.types) in (
      search rules,
      (
        below,
        (
          known,
          (
            c.requires.labels,
            subst (λ y. HasPayload (labelled_payload rows y.ty) number (value_of c.args.value.now)) (sym c.index-cases-number.is) (subst P (sym same) p),
          ),
        ),
      ),
    )

pub write_variant-returns : goal.write_variant-returns
write_variant-returns t c =
    let rows = labelled_types c.args.self.now.resolve.now in
    let x = c.index-cases-number.result in
    let number = c.case_of-number.result in
    let (i, is) = c.requires.typed in
    let (less, p) = case-found rows c.args.cases.now _ i i x is in
    let same : number ≡ i = one-case _ _ number i c.case_of-number.ensures p in
    let v = value_of c.args.value.now in
    ok-map (λ j. PayloadJson (labelled_payload rows x.ty) c.as_str.result.now number v (view j)) (λ j. CasesJson (labelled_cases rows c.args.cases.now) 0 v (view j)) c.write_case.result
    (λ j h. found rows c.args.cases.now number x v (view j) (omega (arith, less, same)) c.index-cases-number.is
    (subst (λ l. PayloadJson (labelled_payload rows x.ty) l number v (view j)) c.as_str.ensures.is h)) c.write_case.ensures
