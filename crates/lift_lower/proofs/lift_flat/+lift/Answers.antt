use Rattle.std.proofs.Common.{◌≡◌, Some, None, Ok, map, drop, option_map, ap, sym, ◌∙◌, arith}
use Rattle.std.proofs.lemmas.Result.{err_from_is_err_and}
use Rattle.std.proofs.lemmas.List.{map-append}
use Rattle.canonical_abi.specs.Types.{prim_type, boolean, variant_cases, nth_case}
use Rattle.canonical_abi.specs.Values.{payload_value}
use Rattle.canonical_abi.specs.Reading.{number_of, lifting, lifting_fields, ◌>>=◌}
use Rattle.tables.specs.Closed.{closed_type}
use Rattle.values.specs.Members.{members_fields}
use Rattle.values.specs.Val.{value_of}
use Rattle.values.proofs.TypesExtents.{member-depth, case-depth}
use Rattle.lift_lower.proofs.LiftingStepByStep.{lifting-more, lifting-fault, lifting-done, kinds-next, lifts-none, lifts-plain, lifts-payload, payload-kinds, rest-numbers, rest-length}
use Rattle.lift_lower.proofs.ListsAreLoaded.{fails-pass}
use Rattle.values.proofs.FieldsFromAPlace.{nth_field-some}
use Rattle.lift_lower.proofs.ReadingStepByStep.{plain-none}
use Rattle.values.proofs.ValueOfEachVariant.{value_of-None, value_of-Some}
use Rattle.lift_lower.proofs.lift_flat.+lift.Goals as goal

pub lift_at-returns-in-Primitive-clause-value : goal.lift_at-returns-in-Primitive-clause-value
lift_at-returns-in-Primitive-clause-value t c =
    rw (c.in-Primitive.ensures.shape.0) (c.lift_primitive.ensures.value c.args.memory.now)

pub lift_fields-unreachable-requires : goal.lift_fields-unreachable-requires
lift_fields-unreachable-requires t c =
    nth_field-some (members_fields c.args.table.now c.args.members.now) c.loop-index.index (omega (arith, c.requires.counted)) (sym c.in_default.ensures.found)

pub lift_fields-lift_at-requires : goal.lift_fields-lift_at-requires
lift_fields-lift_at-requires t c =
    let fs = members_fields c.args.table.now c.args.members.now in
    let u = closed_type c.args.table.now c.in-Some.member in
    let kinds = kinds-next fs c.loop-index.index u (sym c.in-Some.ensures.found) in
    let rest = rest-length c.args.flats.now c.loop-index.used in
    (omega (arith, member-depth fs c.loop-index.index u (sym c.in-Some.ensures.found), c.decreases), (c.in-Some.ensures.inside, (omega (arith, kinds, rest, c.loop-index.invariant.1), omega (arith, rest, c.requires.few))))

pub lift_fields-returns-in_err-field : goal.lift_fields-returns-in_err-field
lift_fields-returns-in_err-field t c =
    let fs = members_fields c.args.table.now c.args.members.now in
    let u = closed_type c.args.table.now c.in-Some.member in
    let ns = map number_of c.args.flats.now in
    let p = err_from_is_err_and c.from_residual.result c.from_residual.ensures.1 in
    rw (p.1, p.2) (fails-pass c.in_err-field.field-0.0 _ _ c.in_err-field.ensures.value (λ k e.
    lifting-fault fs c.args.memory.now ns c.loop-index.index c.loop-index.used u (map value_of c.loop-index.fields.items) (lifting_fields fs c.args.memory.now ns) (sym c.in-Some.ensures.found) c.loop-index.invariant.0 k (ap (lifting u c.args.memory.now) (sym (rest-numbers c.args.flats.now c.loop-index.used)) ∙ e)))

pub lift_fields-kind_count-used-requires-clause-flat : goal.lift_fields-kind_count-used-requires-clause-flat
lift_fields-kind_count-used-requires-clause-flat t c =
    let fs = members_fields c.args.table.now c.args.members.now in
    let u = closed_type c.args.table.now c.in-Some.member in
    omega (arith, kinds-next fs c.loop-index.index u (sym c.in-Some.ensures.found), c.loop-index.invariant.1, c.requires.few)

pub lift_fields-overflow_add-used : goal.lift_fields-overflow_add-used
lift_fields-overflow_add-used t c =
    let fs = members_fields c.args.table.now c.args.members.now in
    let u = closed_type c.args.table.now c.in-Some.member in
    omega (arith, kinds-next fs c.loop-index.index u (sym c.in-Some.ensures.found), c.loop-index.invariant.1, c.requires.few, c.kind_count-used.ensures)

pub lift_fields-loop-index-preserved : goal.lift_fields-loop-index-preserved
lift_fields-loop-index-preserved t c =
    let fs = members_fields c.args.table.now c.args.members.now in
    let u = closed_type c.args.table.now c.in-Some.member in
    let ns = map number_of c.args.flats.now in
    rw (c.kind_count-used.ensures, c.in_ok-push.ensures.items, map-append) (
      lifting-more fs c.args.memory.now ns c.loop-index.index c.loop-index.used u (map value_of c.loop-index.fields.items) (lifting_fields fs c.args.memory.now ns) (sym c.in-Some.ensures.found) c.loop-index.invariant.0 (value_of c.in_ok-field.field) (ap (lifting u c.args.memory.now) (sym (rest-numbers c.args.flats.now c.loop-index.used)) ∙ c.in_ok-field.ensures.value),
      omega (arith, kinds-next fs c.loop-index.index u (sym c.in-Some.ensures.found), c.loop-index.invariant.1),
    )

pub lift_fields-returns : goal.lift_fields-returns
lift_fields-returns t c =
    let fs = members_fields c.args.table.now c.args.members.now in
    let ns = map number_of c.args.flats.now in
    let i : c.args.count ≡ c.loop-index.index = omega arith in
    lifting-done fs c.args.memory.now ns c.loop-index.index c.loop-index.used (prim_type boolean) (map value_of c.loop-index.fields.items) (lifting_fields fs c.args.memory.now ns) (c.requires.counted ∙ i) c.loop-index.invariant.0

pub lift_variant-returns-in_default-clause-value : goal.lift_variant-returns-in_default-clause-value
lift_variant-returns-in_default-clause-value t c =
    let cs = variant_cases (closed_type c.args.table.now c.args.ty) in
    rw (← c.low_word-case.ensures) (lifts-none c.args.memory.now (drop 1 (map number_of c.args.flats.now)) c.low_word-case.result cs c.low_word-case.result (sym c.in_default.ensures.found))

pub lift_variant-returns-in_default-payload-clause-value : goal.lift_variant-returns-in_default-payload-clause-value
lift_variant-returns-in_default-payload-clause-value t c =
    let cs = variant_cases (closed_type c.args.table.now c.args.ty) in
    let i = c.low_word-case.result in
    let found : nth_case cs i ≡ Some None = sym c.in-Some.ensures.found ∙ ap (λ o. Some (option_map (closed_type c.args.table.now) o)) c.in_default-payload.is in
    rw (← c.low_word-case.ensures, value_of-None) (lifts-plain c.args.memory.now (drop 1 (map number_of c.args.flats.now)) i cs i found)

pub lift_variant-lift_at-requires : goal.lift_variant-lift_at-requires
lift_variant-lift_at-requires t c =
    let v = closed_type c.args.table.now c.args.ty in
    let cs = variant_cases v in
    let u = closed_type c.args.table.now c.in-Some-payload.member in
    let found : nth_case cs c.low_word-case.result ≡ Some (Some u) = sym c.in-Some.ensures.found ∙ ap (λ o. Some (option_map (closed_type c.args.table.now) o)) c.in-Some-payload.is in
    let inside = rw c.in-Some-payload.is at c.in-Some.ensures.inside in
    let rest = rest-length c.args.flats.now 1 in
    (omega (arith, case-depth v c.low_word-case.result u found, c.decreases), (inside, (omega (arith, rest, payload-kinds cs c.low_word-case.result u found, c.requires.carried), omega (arith, rest, c.requires.few))))

pub lift_variant-returns-in_err-value-clause-value : goal.lift_variant-returns-in_err-value-clause-value
lift_variant-returns-in_err-value-clause-value t c =
    let cs = variant_cases (closed_type c.args.table.now c.args.ty) in
    let i = c.low_word-case.result in
    let u = closed_type c.args.table.now c.in-Some-payload.member in
    let found : nth_case cs i ≡ Some (Some u) = sym c.in-Some.ensures.found ∙ ap (λ o. Some (option_map (closed_type c.args.table.now) o)) c.in-Some-payload.is in
    let p = err_from_is_err_and c.from_residual.result c.from_residual.ensures.1 in
    rw (p.1, p.2, ← c.low_word-case.ensures) (fails-pass c.in_err-value.field-0.0 _ _ c.in_err-value.ensures.value (λ k e.
    lifts-payload c.args.memory.now (drop 1 (map number_of c.args.flats.now)) i cs i u found ∙ ap (λ r. r >>= λ v. Ok (payload_value i v)) (ap (lifting u c.args.memory.now) (sym (rest-numbers c.args.flats.now 1)) ∙ e)))

pub lift_variant-returns-clause-value : goal.lift_variant-returns-clause-value
lift_variant-returns-clause-value t c =
    let cs = variant_cases (closed_type c.args.table.now c.args.ty) in
    let i = c.low_word-case.result in
    let u = closed_type c.args.table.now c.in-Some-payload.member in
    let found : nth_case cs i ≡ Some (Some u) = sym c.in-Some.ensures.found ∙ ap (λ o. Some (option_map (closed_type c.args.table.now) o)) c.in-Some-payload.is in
    let boxed : c.in_ok-new.field-0.value ≡ c.in_ok-value.value = c.in_ok-new.ensures.ok in
    rw (← c.low_word-case.ensures, value_of-Some, boxed) (lifts-payload c.args.memory.now (drop 1 (map number_of c.args.flats.now)) i cs i u found ∙ ap (λ r. r >>= λ v. Ok (payload_value i v)) (ap (lifting u c.args.memory.now) (sym (rest-numbers c.args.flats.now 1)) ∙ c.in_ok-value.ensures.value))

pub lift_variant-returns-in_err-value-clause-plain : goal.lift_variant-returns-in_err-value-clause-plain
lift_variant-returns-in_err-value-clause-plain t c =
    let cs = variant_cases (closed_type c.args.table.now c.args.ty) in
    let u = closed_type c.args.table.now c.in-Some-payload.member in
    let found : nth_case cs c.low_word-case.result ≡ Some (Some u) = sym c.in-Some.ensures.found ∙ ap (λ o. Some (option_map (closed_type c.args.table.now) o)) c.in-Some-payload.is in
    λ plain none. plain-none cs c.low_word-case.result u plain found

pub lift_variant-returns-in_err-new-clause-plain : goal.lift_variant-returns-in_err-new-clause-plain
lift_variant-returns-in_err-new-clause-plain t c =
    let cs = variant_cases (closed_type c.args.table.now c.args.ty) in
    let u = closed_type c.args.table.now c.in-Some-payload.member in
    let found : nth_case cs c.low_word-case.result ≡ Some (Some u) = sym c.in-Some.ensures.found ∙ ap (λ o. Some (option_map (closed_type c.args.table.now) o)) c.in-Some-payload.is in
    λ plain none. plain-none cs c.low_word-case.result u plain found
