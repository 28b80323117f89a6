use Rattle.std.proofs.Common.{◌≡◌, ◌+◌, length, [], ◌∷◌, ◌++◌, Some, None, Ok, map, drop, option_map, length-append, refl, subst, ap, sym, ◌∙◌, arith}
use Rattle.std.proofs.lemmas.Result.{err_from_is_err_and}
use Rattle.canonical_abi.specs.Types.{prim_type, boolean, record_type, record_fields, variant_type, variant_cases, nth_case}
use Rattle.canonical_abi.specs.Values.{values_of, record_value, plain_value, payload_value}
use Rattle.canonical_abi.specs.Layout.{flat_kinds, field_kinds, payload_kinds}
use Rattle.canonical_abi.specs.Reading.{number_of, lifting, lifting_fields, lifting_case}
use Rattle.canonical_abi.specs.Requests.{requests, fields_requests, case_requests}
use Rattle.tables.specs.Closed.{closed_type}
use Rattle.values.specs.Members.{members_fields}
use Rattle.values.proofs.TypesExtents.{member-depth, case-depth}
use Rattle.lift_lower.proofs.LiftingStepByStep.{lifting-more, lifting-done, kinds-next, lifts-none, lifts-plain, lifts-payload, payload-kinds, rest-numbers, rest-length}
use Rattle.values.proofs.FieldsFromAPlace.{fields-last, nth_field-some}
use Rattle.adapter.specs.Ahead.{asked_in, flat_fields_asked, flat_case_asked, MeetsLimit}
use Rattle.adapter.specs.Asking.{total}
use Rattle.adapter.proofs.asking.AskedAhead.{asks-in, flat-asked-next, flat-case-none, flat-case-plain, flat-case-payload, limit-goes-on, limit-stops, limit-as}
use Rattle.adapter.proofs.asking.VisitedNodesAreFew.{few-none, few-both, few-more, list-flat-few, record-flat-few, variant-flat-few, member-standard, case-standard}
use Rattle.adapter.proofs.asking.RequestsOfParts.{told-none, told-both, told-as, fields-ask, fields-ask-none, plain-asks, payload-asks, asks-made, record-told, front-none, lifting-stops}
use Rattle.adapter.proofs.asking.walk.Walk.+flat.Goals as goal

pub ask_flat-returns-in-Primitive-clause-asks : goal.ask_flat-returns-in-Primitive-clause-asks
ask_flat-returns-in-Primitive-clause-asks t c = rw c.in-Primitive.ensures.shape.0 (c.ask_flat_primitive.ensures.asks c.args.self.now.source.now)

pub ask_flat-returns-in-Record-clause-asks : goal.ask_flat-returns-in-Record-clause-asks
ask_flat-returns-in-Record-clause-asks t c =
    let m = c.args.self.now.source.now in
    let ns = map number_of c.args.flats.now in
    let s = c.in-Record.ensures.shape.0 in
    let own : record_fields (closed_type c.args.self.now.types.now c.args.ty) ≡ s.0 = ap record_fields s.1 in
    rw s.1 (asks-made (λ vs. record_value (values_of vs)) (lifting_fields s.0 m ns) (lifting (record_type s.0) m ns) (fields_requests s.0) (requests (record_type s.0)) refl (record-told s.0)
    c.args.slots.now c.args.count.now c.args.left.now c.ask_flat_fields.result c.ask_flat_fields.new.slots c.ask_flat_fields.new.count c.ask_flat_fields.new.left (rw own at c.ask_flat_fields.ensures.asks))

pub ask_flat-returns-in-Flags-clause-asks : goal.ask_flat-returns-in-Flags-clause-asks
ask_flat-returns-in-Flags-clause-asks t c = rw c.in-Flags.ensures.shape.0 (_, refl, told-none c.args.slots.now c.args.count.now c.args.left.now)

pub ask_flat_fields-loop-index-init : goal.ask_flat_fields-loop-index-init
ask_flat_fields-loop-index-init t c =
    let fs = members_fields c.args.self.now.types.now c.args.members.now in (
      (
        [],
        front-none (lifting_fields fs c.args.self.now.source.now (map number_of c.args.flats.now)),
        refl,
        told-as _ _ _ [] (fields_requests fs []) _ _ _ (sym (fields-ask-none fs)) (told-none c.args.slots.now c.args.count.now c.args.left.now),
        omega (arith, c.requires.carried),
      ),
      (λ d h deep. (0, omega arith, few-none d 0 c.args.left.now c.args.nodes.now c.args.nodes.now (omega arith))),
      (λ e covers. covers),
      refl,
    )

pub ask_flat_fields-unreachable-requires : goal.ask_flat_fields-unreachable-requires
ask_flat_fields-unreachable-requires t c =
    nth_field-some (members_fields c.args.self.now.types.now c.args.members.now) c.loop-index.index (omega (arith, c.requires.counted)) (sym c.in_default.ensures.found)

pub ask_flat_fields-ask_flat-requires : goal.ask_flat_fields-ask_flat-requires
ask_flat_fields-ask_flat-requires t c =
    let fs = members_fields c.args.self.now.types.now c.args.members.now in
    let u = closed_type c.args.self.now.types.now c.in-Some.member in
    let kinds = kinds-next fs c.loop-index.index u (sym c.in-Some.ensures.found) in
    let rest = rest-length c.args.flats.now c.loop-index.used in
    (omega (arith, member-depth fs c.loop-index.index u (sym c.in-Some.ensures.found), c.decreases), (c.in-Some.ensures.inside, (c.requires.short, (omega (arith, kinds, rest, c.loop-index.invariant.0.4), omega (arith, rest, c.requires.few)))))

pub ask_flat_fields-returns-in_err-ask_flat-clause-asks : goal.ask_flat_fields-returns-in_err-ask_flat-clause-asks
ask_flat_fields-returns-in_err-ask_flat-clause-asks t c =
    let fs = members_fields c.args.self.now.types.now c.args.members.now in
    let u = closed_type c.args.self.now.types.now c.in-Some.member in
    let ns = map number_of c.args.flats.now in
    let p = err_from_is_err_and c.from_residual.result c.from_residual.ensures.1 in
    let (vs, w, l, told, kinds) = c.loop-index.invariant.0 in
    rw (p.1, p.2) (lifting-stops fs c.args.self.now.source.now ns c.loop-index.index c.loop-index.used u vs _ _ _ (sym c.in-Some.ensures.found) l w told.spent c.in_err-ask_flat.field-0.0
    (rw (rest-numbers c.args.flats.now c.loop-index.used) at c.in_err-ask_flat.ensures.asks))

pub ask_flat_fields-kind_count-used-requires-clause-flat : goal.ask_flat_fields-kind_count-used-requires-clause-flat
ask_flat_fields-kind_count-used-requires-clause-flat t c =
    let fs = members_fields c.args.self.now.types.now c.args.members.now in
    let u = closed_type c.args.self.now.types.now c.in-Some.member in
    omega (arith, kinds-next fs c.loop-index.index u (sym c.in-Some.ensures.found), c.loop-index.invariant.0.4, c.requires.few)

pub ask_flat_fields-overflow_add-used : goal.ask_flat_fields-overflow_add-used
ask_flat_fields-overflow_add-used t c =
    let fs = members_fields c.args.self.now.types.now c.args.members.now in
    let u = closed_type c.args.self.now.types.now c.in-Some.member in
    omega (arith, kinds-next fs c.loop-index.index u (sym c.in-Some.ensures.found), c.loop-index.invariant.0.4, c.requires.few, c.kind_count-used.ensures)

pub ask_flat_fields-loop-index-preserved : goal.ask_flat_fields-loop-index-preserved
ask_flat_fields-loop-index-preserved t c =
    let fs = members_fields c.args.self.now.types.now c.args.members.now in
    let u = closed_type c.args.self.now.types.now c.in-Some.member in
    let ns = map number_of c.args.flats.now in
    let found = sym c.in-Some.ensures.found in
    let (vs, w, l, told, left) = c.loop-index.invariant.0 in
    let (v, e, more) = c.in_ok-ask_flat.ensures.asks in
    rw c.kind_count-used.ensures (
      (
        vs ++ v ∷ [],
        lifting-more fs c.args.self.now.source.now ns c.loop-index.index c.loop-index.used u vs (lifting_fields fs c.args.self.now.source.now ns) found w v (ap (lifting u c.args.self.now.source.now) (sym (rest-numbers c.args.flats.now c.loop-index.used)) ∙ e),
        omega (arith, length-append vs (v ∷ [])),
        told-as _ _ _ _ _ _ _ _ (fields-ask fs vs v c.loop-index.index u found l) (told-both _ _ _ (fields_requests fs vs) (requests u v) _ _ _ _ _ _ (omega arith) told more),
        omega (arith, kinds-next fs c.loop-index.index u found, left),
      ),
      (λ d h deep.
          let (s, is, few) = c.loop-index.invariant.1 d h deep in
          let one = c.ask_flat.ensures.few d (member-standard fs c.loop-index.index u h found) (omega (arith, deep, member-depth fs c.loop-index.index u found)) in
          (s + length (flat_kinds u), omega (arith, is, kinds-next fs c.loop-index.index u found), few-both d s (length (flat_kinds u)) _ _ _ _ _ _ few one)),
      (λ e covers. c.ask_flat.ensures.each e (c.loop-index.invariant.2 e covers)),
      (let m = c.args.self.now.source.now in
          let here = drop c.loop-index.used ns in
          let read : lifting u m here ≡ Ok v = ap (lifting u m) (sym (rest-numbers c.args.flats.now c.loop-index.used)) ∙ e in
          limit-goes-on (lifting u m here) v (requests u) _ (asked_in u m here) _ _ _ _ _ (flat-asked-next fs m ns c.loop-index.index c.loop-index.used u found) read (asks-in u m here v read) more.spent c.loop-index.invariant.3),
    )

pub ask_flat_fields-returns-clause-asks : goal.ask_flat_fields-returns-clause-asks
ask_flat_fields-returns-clause-asks t c =
    let fs = members_fields c.args.self.now.types.now c.args.members.now in
    let ns = map number_of c.args.flats.now in
    let i : c.args.fields ≡ c.loop-index.index = omega arith in
    let (vs, w, l, told, left) = c.loop-index.invariant.0 in
    (vs, lifting-done fs c.args.self.now.source.now ns c.loop-index.index c.loop-index.used (prim_type boolean) vs (lifting_fields fs c.args.self.now.source.now ns) (c.requires.counted ∙ i) w, told)

pub ask_flat_variant-returns-in_default-clause-asks : goal.ask_flat_variant-returns-in_default-clause-asks
ask_flat_variant-returns-in_default-clause-asks t c =
    let cs = variant_cases (closed_type c.args.self.now.types.now c.args.ty) in
    rw (← c.low_word-case.ensures) (lifts-none c.args.self.now.source.now (drop 1 (map number_of c.args.flats.now)) c.low_word-case.result cs c.low_word-case.result (sym c.in_default.ensures.found))

pub ask_flat_variant-returns-in_default-payload-clause-asks : goal.ask_flat_variant-returns-in_default-payload-clause-asks
ask_flat_variant-returns-in_default-payload-clause-asks t c =
    let cs = variant_cases (closed_type c.args.self.now.types.now c.args.ty) in
    let i = c.low_word-case.result in
    let found : nth_case cs i ≡ Some None = sym c.in-Some.ensures.found ∙ ap (λ o. Some (option_map (closed_type c.args.self.now.types.now) o)) c.in_default-payload.is in
    rw (← c.low_word-case.ensures) (
      plain_value i,
      lifts-plain c.args.self.now.source.now (drop 1 (map number_of c.args.flats.now)) i cs i found,
      told-as _ _ _ [] (case_requests cs i None) _ _ _ (sym (plain-asks cs i found)) (told-none c.args.slots.now c.args.count.now c.args.left.now),
    )

pub ask_flat_variant-ask_flat-requires : goal.ask_flat_variant-ask_flat-requires
ask_flat_variant-ask_flat-requires t c =
    let v = closed_type c.args.self.now.types.now c.args.ty in
    let cs = variant_cases v in
    let u = closed_type c.args.self.now.types.now c.in-Some-payload.member in
    let found : nth_case cs c.low_word-case.result ≡ Some (Some u) = sym c.in-Some.ensures.found ∙ ap (λ o. Some (option_map (closed_type c.args.self.now.types.now) o)) c.in-Some-payload.is in
    let inside = rw c.in-Some-payload.is at c.in-Some.ensures.inside in
    let rest = rest-length c.args.flats.now 1 in
    (omega (arith, case-depth v c.low_word-case.result u found, c.decreases), (inside, (c.requires.short, (omega (arith, rest, payload-kinds cs c.low_word-case.result u found, c.requires.carried), omega (arith, rest, c.requires.few)))))

pub ask_flat_variant-returns-clause-asks : goal.ask_flat_variant-returns-clause-asks
ask_flat_variant-returns-clause-asks t c =
    let m = c.args.self.now.source.now in
    let cs = variant_cases (closed_type c.args.self.now.types.now c.args.ty) in
    let i = c.low_word-case.result in
    let ns = drop 1 (map number_of c.args.flats.now) in
    let u = closed_type c.args.self.now.types.now c.in-Some-payload.member in
    let found : nth_case cs i ≡ Some (Some u) = sym c.in-Some.ensures.found ∙ ap (λ o. Some (option_map (closed_type c.args.self.now.types.now) o)) c.in-Some-payload.is in
    let asked = rw (rest-numbers c.args.flats.now 1) at c.ask_flat.ensures.asks in
    rw (← c.low_word-case.ensures) (asks-made (payload_value i) (lifting u m ns) (lifting_case cs m ns i i) (requests u) (requests (variant_type cs))
    (lifts-payload m ns i cs i u found) (λ w. payload-asks cs i u w found) c.args.slots.now c.args.count.now c.args.left.now c.ask_flat.result c.ask_flat.new.slots c.ask_flat.new.count c.ask_flat.new.left asked)

pub ask_flat-returns-in-List-clause-few : goal.ask_flat-returns-in-List-clause-few
ask_flat-returns-in-List-clause-few t c = λ d h deep.
    list-flat-few _ (closed_type c.args.self.now.types.now c.in-List.element) _ _ _ _ _ c.in-List.ensures.shape.0 h d deep (omega (arith, c.visit.ensures.counted)) c.ask_list.ensures.few

pub ask_flat-returns-in-Record-clause-few : goal.ask_flat-returns-in-Record-clause-few
ask_flat-returns-in-Record-clause-few t c = λ d h deep.
    let s = c.in-Record.ensures.shape.0 in
    let own : record_fields (closed_type c.args.self.now.types.now c.args.ty) ≡ s.0 = ap record_fields s.1 in
    record-flat-few _ s.0 _ _ _ _ _ s.1 h d deep (omega (arith, c.visit.ensures.counted)) (rw own at c.ask_flat_fields.ensures.few)

pub ask_flat-returns-in-Variant-clause-few : goal.ask_flat-returns-in-Variant-clause-few
ask_flat-returns-in-Variant-clause-few t c = λ d h deep.
    let s = c.in-Variant.ensures.shape.0 in
    let own : variant_cases (closed_type c.args.self.now.types.now c.args.ty) ≡ s.0 = ap variant_cases s.1 in
    variant-flat-few _ s.0 _ _ _ _ _ s.1 h d deep (omega (arith, c.visit.ensures.counted)) (rw own at c.ask_flat_variant.ensures.few)

pub ask_flat_fields-returns-in_err-ask_flat-clause-few : goal.ask_flat_fields-returns-in_err-ask_flat-clause-few
ask_flat_fields-returns-in_err-ask_flat-clause-few t c = λ d h deep.
    let fs = members_fields c.args.self.now.types.now c.args.members.now in
    let u = closed_type c.args.self.now.types.now c.in-Some.member in
    let found = sym c.in-Some.ensures.found in
    let (s, is, few) = c.loop-index.invariant.1 d h deep in
    let one = c.ask_flat.ensures.few d (member-standard fs c.loop-index.index u h found) (omega (arith, deep, member-depth fs c.loop-index.index u found)) in
    few-more d (s + length (flat_kinds u)) (length (field_kinds fs)) _ _ _ _ (omega (arith, is, kinds-next fs c.loop-index.index u found)) (few-both d s (length (flat_kinds u)) _ _ _ _ _ _ few one)

pub ask_flat_fields-returns-clause-few : goal.ask_flat_fields-returns-clause-few
ask_flat_fields-returns-clause-few t c = λ d h deep.
    let fs = members_fields c.args.self.now.types.now c.args.members.now in
    let (s, is, few) = c.loop-index.invariant.1 d h deep in
    few-more d s (length (field_kinds fs)) _ _ _ _ (omega (arith, is)) few

pub ask_flat_variant-returns-clause-few : goal.ask_flat_variant-returns-clause-few
ask_flat_variant-returns-clause-few t c = λ d h deep.
    let cs = variant_cases (closed_type c.args.self.now.types.now c.args.ty) in
    let i = c.low_word-case.result in
    let u = closed_type c.args.self.now.types.now c.in-Some-payload.member in
    let found : nth_case cs i ≡ Some (Some u) = sym c.in-Some.ensures.found ∙ ap (λ o. Some (option_map (closed_type c.args.self.now.types.now) o)) c.in-Some-payload.is in
    few-more d (length (flat_kinds u)) (length (payload_kinds cs)) _ _ _ _ (payload-kinds cs i u found) (c.ask_flat.ensures.few d (case-standard cs i u h found) (omega (arith, deep, case-depth (variant_type cs) i u found)))

pub ask_flat-returns-in-List-clause-each : goal.ask_flat-returns-in-List-clause-each
ask_flat-returns-in-List-clause-each t c = λ e covers. c.ask_list.ensures.each e (omega (arith, covers, c.visit.ensures.counted, c.visit.ensures.fits)) (omega (arith, covers, c.visit.ensures.counted, c.visit.ensures.fits))

pub ask_flat-returns-in-Record-clause-each : goal.ask_flat-returns-in-Record-clause-each
ask_flat-returns-in-Record-clause-each t c = λ e covers. c.ask_flat_fields.ensures.each e (omega (arith, covers, c.visit.ensures.counted, c.visit.ensures.fits))

pub ask_flat-returns-in-Variant-clause-each : goal.ask_flat-returns-in-Variant-clause-each
ask_flat-returns-in-Variant-clause-each t c = λ e covers. c.ask_flat_variant.ensures.each e (omega (arith, covers, c.visit.ensures.counted, c.visit.ensures.fits))

pub ask_flat_fields-returns-in_err-ask_flat-clause-each : goal.ask_flat_fields-returns-in_err-ask_flat-clause-each
ask_flat_fields-returns-in_err-ask_flat-clause-each t c = λ e covers. c.ask_flat.ensures.each e (c.loop-index.invariant.2 e covers)

-- ---- the limit

pub ask_flat-returns-in-Record-clause-limit : goal.ask_flat-returns-in-Record-clause-limit
ask_flat-returns-in-Record-clause-limit t c =
    let s = c.in-Record.ensures.shape.0 in
    let own : record_fields (closed_type c.args.self.now.types.now c.args.ty) ≡ s.0 = ap record_fields s.1 in
    rw s.1 (rw own at c.ask_flat_fields.ensures.limit)

pub ask_flat-returns-in-Flags-clause-limit : goal.ask_flat-returns-in-Flags-clause-limit
ask_flat-returns-in-Flags-clause-limit t c = rw c.in-Flags.ensures.shape.0 (omega arith)

pub ask_flat_fields-returns-in_err-ask_flat-clause-limit : goal.ask_flat_fields-returns-in_err-ask_flat-clause-limit
ask_flat_fields-returns-in_err-ask_flat-clause-limit t c =
    let fs = members_fields c.args.self.now.types.now c.args.members.now in
    let u = closed_type c.args.self.now.types.now c.in-Some.member in
    let m = c.args.self.now.source.now in
    let ns = map number_of c.args.flats.now in
    let here = drop c.loop-index.used ns in
    let p = err_from_is_err_and c.from_residual.result c.from_residual.ensures.1 in
    rw (p.1, p.2) (limit-stops (lifting u m here) (requests u) (flat_fields_asked fs m ns) _ (asked_in u m here) _ _ _ (flat-asked-next fs m ns c.loop-index.index c.loop-index.used u (sym c.in-Some.ensures.found)) c.loop-index.invariant.3
    c.in_err-ask_flat.field-0.0 (rw (rest-numbers c.args.flats.now c.loop-index.used) at c.in_err-ask_flat.ensures.asks) (subst (λ fs. MeetsLimit (asked_in u m fs) c.loop-index.left c.in_err-ask_flat.field-0.0) (rest-numbers c.args.flats.now c.loop-index.used) c.in_err-ask_flat.ensures.limit))

pub ask_flat_fields-returns-clause-limit : goal.ask_flat_fields-returns-clause-limit
ask_flat_fields-returns-clause-limit t c =
    let fs = members_fields c.args.self.now.types.now c.args.members.now in
    let ns = map number_of c.args.flats.now in
    let i : c.args.fields ≡ c.loop-index.index = omega arith in
    let none = fields-last fs c.loop-index.index (c.requires.counted ∙ i) in
    omega (arith, c.loop-index.invariant.3, ap (λ us. total (flat_fields_asked us c.args.self.now.source.now (drop c.loop-index.used ns))) none)

pub ask_flat_variant-returns-in_default-clause-limit : goal.ask_flat_variant-returns-in_default-clause-limit
ask_flat_variant-returns-in_default-clause-limit t c =
    let cs = variant_cases (closed_type c.args.self.now.types.now c.args.ty) in
    let i = c.low_word-case.result in
    rw (← c.low_word-case.ensures) (omega (arith, ap total (flat-case-none cs c.args.self.now.source.now (drop 1 (map number_of c.args.flats.now)) i (sym c.in_default.ensures.found))))

pub ask_flat_variant-returns-in_default-payload-clause-limit : goal.ask_flat_variant-returns-in_default-payload-clause-limit
ask_flat_variant-returns-in_default-payload-clause-limit t c =
    let cs = variant_cases (closed_type c.args.self.now.types.now c.args.ty) in
    let i = c.low_word-case.result in
    let found : nth_case cs i ≡ Some None = sym c.in-Some.ensures.found ∙ ap (λ o. Some (option_map (closed_type c.args.self.now.types.now) o)) c.in_default-payload.is in
    rw (← c.low_word-case.ensures) (omega (arith, ap total (flat-case-plain cs c.args.self.now.source.now (drop 1 (map number_of c.args.flats.now)) i found)))

pub ask_flat_variant-returns-clause-limit : goal.ask_flat_variant-returns-clause-limit
ask_flat_variant-returns-clause-limit t c =
    let m = c.args.self.now.source.now in
    let cs = variant_cases (closed_type c.args.self.now.types.now c.args.ty) in
    let i = c.low_word-case.result in
    let ns = drop 1 (map number_of c.args.flats.now) in
    let u = closed_type c.args.self.now.types.now c.in-Some-payload.member in
    let found : nth_case cs i ≡ Some (Some u) = sym c.in-Some.ensures.found ∙ ap (λ o. Some (option_map (closed_type c.args.self.now.types.now) o)) c.in-Some-payload.is in
    let kept = rw (rest-numbers c.args.flats.now 1) at c.ask_flat.ensures.limit in
    rw (← c.low_word-case.ensures) (limit-as (asked_in u m ns) (flat_case_asked cs m ns i) c.args.left.now (sym (flat-case-payload cs m ns i u found)) c.ask_flat.result kept)
