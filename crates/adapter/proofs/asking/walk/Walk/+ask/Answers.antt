use Rattle.std.proofs.Common.{◌≡◌, ◌+◌, ◌-◌, ◌*◌, ◌≤◌, ℕ, [], ◌∷◌, ◌++◌, Some, None, Ok, option_map, length-append, refl, ap, sym, ◌∙◌, subst, arith}
use Rattle.std.proofs.lemmas.Result.{err_from_is_err_and}
use Rattle.std.proofs.lemmas.Nat.{mul-le}
use Rattle.std.specs.Int.{next_multiple_of}
use Rattle.canonical_abi.specs.Types.{prim_type, boolean, record_type, record_fields, variant_type, variant_cases, nth_case}
use Rattle.canonical_abi.specs.Values.{values_of, list_value, record_value, plain_value, payload_value}
use Rattle.canonical_abi.specs.Layout.{size, align, discriminant_size, payload_place, fields_size}
use Rattle.canonical_abi.specs.Reading.{reading, number_at, byte_width, case_number, each_at, reading_fields, reading_case}
use Rattle.canonical_abi.specs.Requests.{request, requests, each_request, fields_requests, case_requests}
use Rattle.tables.specs.Closed.{closed_type}
use Rattle.values.specs.Members.{members_fields}
use Rattle.values.proofs.TypesExtents.{member-depth, case-depth, payload-place, payload-fits}
use Rattle.lift_lower.proofs.ListsAreLoaded.{listed, list-opened}
use Rattle.lift_lower.proofs.TextsAndBlocksStand.{block-stands, block-fault}
use Rattle.lift_lower.proofs.ReadingStepByStep.{with_front, each-more, each-done, fields-more, fields-done, case-none, case-plain, case-payload}
use Rattle.values.proofs.FieldsFromAPlace.{fields-end, fields-inside, fields-last, nth_field-some}
use Rattle.adapter.specs.Ahead.{each_asked, list_asked, asked_at, fields_asked, case_asked}
use Rattle.adapter.specs.Asking.{IsFew, total}
use Rattle.adapter.proofs.asking.AskedAhead.{asks-at, each-asks-as, each-asked-first, each-asked-next, each-asked-last, fields-asked-next, case-asked-none, case-asked-plain, case-asked-payload, list-asked-open, list-asked-shut, limit-goes-on, limit-stops, limit-as}
use Rattle.adapter.proofs.asking.VisitedNodesAreFew.{few-none, few-both, few-more, few-block, list-few, record-few, variant-few, member-standard, case-standard, sizes-next}
use Rattle.adapter.proofs.asking.RequestsOfParts.{told-none, told-both, told-as, each-asks, fields-ask, fields-ask-none, plain-asks, payload-asks, asks-made, list-told, record-told, front-none, each-start, nothing-asked, fields-stop, list-stops, each-stops, block-stops}
use Rattle.adapter.proofs.asking.walk.Walk.+ask.Goals as goal

pub ask_at-returns-in-Record-clause-asks : goal.ask_at-returns-in-Record-clause-asks
ask_at-returns-in-Record-clause-asks t c =
    let m = c.args.self.now.source.now in
    let s = c.in-Record.ensures.shape.0 in
    let own : record_fields (closed_type c.args.self.now.types.now c.args.ty) ≡ s.0 = ap record_fields s.1 in
    rw s.1 (asks-made (λ vs. record_value (values_of vs)) (reading_fields s.0 m c.args.at 0) (reading (record_type s.0) m c.args.at) (fields_requests s.0) (requests (record_type s.0)) refl (record-told s.0)
    c.args.slots.now c.args.count.now c.args.left.now c.ask_fields.result c.ask_fields.new.slots c.ask_fields.new.count c.ask_fields.new.left (rw own at c.ask_fields.ensures.asks))

pub ask_at-returns-in-Flags-clause-asks : goal.ask_at-returns-in-Flags-clause-asks
ask_at-returns-in-Flags-clause-asks t c = rw c.in-Flags.ensures.shape.0 (_, refl, told-none c.args.slots.now c.args.count.now c.args.left.now)

pub ask_fields-loop-index-init : goal.ask_fields-loop-index-init
ask_fields-loop-index-init t c =
    let fs = members_fields c.args.self.now.types.now c.args.members.now in (
      ([], front-none (reading_fields fs c.args.self.now.source.now c.args.at 0), refl, told-as _ _ _ [] (fields_requests fs []) _ _ _ (sym (fields-ask-none fs)) (told-none c.args.slots.now c.args.count.now c.args.left.now), refl),
      (λ d h deep. (0, omega arith, few-none d 0 c.args.left.now c.args.nodes.now c.args.nodes.now (omega arith))),
      (λ e covers. covers),
      refl,
    )

pub ask_fields-unreachable-requires : goal.ask_fields-unreachable-requires
ask_fields-unreachable-requires t c =
    nth_field-some (members_fields c.args.self.now.types.now c.args.members.now) c.loop-index.index (omega (arith, c.requires.counted)) (sym c.in_default.ensures.found)

pub ask_fields-next_multiple_of-place-requires-clause-fits : goal.ask_fields-next_multiple_of-place-requires-clause-fits
ask_fields-next_multiple_of-place-requires-clause-fits t c =
    let fs = members_fields c.args.self.now.types.now c.args.members.now in
    let h = fields-inside fs c.loop-index.index (closed_type c.args.self.now.types.now c.in-Some.member) c.loop-index.end _ (sym c.in-Some.ensures.found) c.loop-index.invariant.0.4 in
    rw c.align_of.ensures.value (omega arith)

pub ask_fields-overflow_add-at : goal.ask_fields-overflow_add-at
ask_fields-overflow_add-at t c =
    let fs = members_fields c.args.self.now.types.now c.args.members.now in
    let h = fields-inside fs c.loop-index.index (closed_type c.args.self.now.types.now c.in-Some.member) c.loop-index.end _ (sym c.in-Some.ensures.found) c.loop-index.invariant.0.4 in
    let g = rw (← c.align_of.ensures.value, ← c.next_multiple_of-place.ensures.value) at h in
    omega arith

pub ask_fields-ask_at-requires : goal.ask_fields-ask_at-requires
ask_fields-ask_at-requires t c =
    let fs = members_fields c.args.self.now.types.now c.args.members.now in
    let u = closed_type c.args.self.now.types.now c.in-Some.member in
    let h = fields-inside fs c.loop-index.index u c.loop-index.end _ (sym c.in-Some.ensures.found) c.loop-index.invariant.0.4 in
    let g = rw (← c.align_of.ensures.value, ← c.next_multiple_of-place.ensures.value) at h in
    (omega (arith, member-depth fs c.loop-index.index u (sym c.in-Some.ensures.found), c.decreases), (c.in-Some.ensures.inside, (c.requires.short, omega arith)))

pub ask_fields-returns-in_err-ask_at-clause-asks : goal.ask_fields-returns-in_err-ask_at-clause-asks
ask_fields-returns-in_err-ask_at-clause-asks t c =
    let fs = members_fields c.args.self.now.types.now c.args.members.now in
    let u = closed_type c.args.self.now.types.now c.in-Some.member in
    let place : c.next_multiple_of-place.result ≡ next_multiple_of c.loop-index.end (align u) = c.next_multiple_of-place.ensures.value ∙ ap (next_multiple_of c.loop-index.end) c.align_of.ensures.value in
    let p = err_from_is_err_and c.from_residual.result c.from_residual.ensures.1 in
    let (vs, w, l, told, ends) = c.loop-index.invariant.0 in
    rw (p.1, p.2) (fields-stop fs c.args.self.now.source.now c.args.at c.loop-index.end c.loop-index.index u vs _ _ _ (sym c.in-Some.ensures.found) l w told.spent c.in_err-ask_at.field-0.0
    (rw (← place) c.in_err-ask_at.ensures.asks))

pub ask_fields-overflow_add-end : goal.ask_fields-overflow_add-end
ask_fields-overflow_add-end t c =
    let fs = members_fields c.args.self.now.types.now c.args.members.now in
    let h = fields-inside fs c.loop-index.index (closed_type c.args.self.now.types.now c.in-Some.member) c.loop-index.end _ (sym c.in-Some.ensures.found) c.loop-index.invariant.0.4 in
    let g = rw (← c.align_of.ensures.value, ← c.next_multiple_of-place.ensures.value) at h in
    omega (arith, c.size_of.ensures.value)

pub ask_fields-loop-index-preserved : goal.ask_fields-loop-index-preserved
ask_fields-loop-index-preserved t c =
    let fs = members_fields c.args.self.now.types.now c.args.members.now in
    let u = closed_type c.args.self.now.types.now c.in-Some.member in
    let (vs, w, l, told, ends) = c.loop-index.invariant.0 in
    let (v, e, more) = c.in_ok-ask_at.ensures.asks in
    let found = sym c.in-Some.ensures.found in
    let place : c.next_multiple_of-place.result ≡ next_multiple_of c.loop-index.end (align u) = c.next_multiple_of-place.ensures.value ∙ ap (next_multiple_of c.loop-index.end) c.align_of.ensures.value in
    rw (place, c.size_of.ensures.value) (
      (
        vs ++ v ∷ [],
        fields-more fs c.args.self.now.source.now c.args.at c.loop-index.end c.loop-index.index u vs _ found w v (ap (λ x. reading u c.args.self.now.source.now (c.args.at + x)) (sym place) ∙ e),
        omega (arith, length-append vs (v ∷ [])),
        told-as _ _ _ _ _ _ _ _ (fields-ask fs vs v c.loop-index.index u found l) (told-both _ _ _ (fields_requests fs vs) (requests u v) _ _ _ _ _ _ (omega arith) told more),
        sym (fields-end fs c.loop-index.end c.loop-index.index u found) ∙ ends,
      ),
      (λ d h deep.
          let (s, is, few) = c.loop-index.invariant.1 d h deep in
          let one = c.ask_at.ensures.few d (member-standard fs c.loop-index.index u h found) (omega (arith, deep, member-depth fs c.loop-index.index u found)) in
          (s + size u, omega (arith, is, sizes-next fs c.loop-index.index u found), few-both d s (size u) _ _ _ _ _ _ few one)),
      (λ e covers. c.ask_at.ensures.each e (c.loop-index.invariant.2 e covers)),
      (let m = c.args.self.now.source.now in
          let here = c.args.at + next_multiple_of c.loop-index.end (align u) in
          let read : reading u m here ≡ Ok v = ap (λ x. reading u m (c.args.at + x)) (sym place) ∙ e in
          limit-goes-on (reading u m here) v (requests u) _ (asked_at u m here) _ _ _ _ _ (fields-asked-next fs m c.args.at c.loop-index.end c.loop-index.index u found) read (asks-at u m here v read) more.spent c.loop-index.invariant.3),
    )

pub ask_fields-returns-clause-asks : goal.ask_fields-returns-clause-asks
ask_fields-returns-clause-asks t c =
    let fs = members_fields c.args.self.now.types.now c.args.members.now in
    let i : c.args.fields ≡ c.loop-index.index = omega arith in
    let (vs, w, l, told, ends) = c.loop-index.invariant.0 in
    (vs, fields-done fs c.args.self.now.source.now c.args.at c.loop-index.end c.loop-index.index (prim_type boolean) vs _ (c.requires.counted ∙ i) w, told)

pub ask_list-returns-then-asks_nothing-clause-asks : goal.ask_list-returns-then-asks_nothing-clause-asks
ask_list-returns-then-asks_nothing-clause-asks t c =
    let m = c.args.self.now.source.now in
    let u = closed_type c.args.self.now.types.now c.args.element in
    let step = c.size_of-step.result in
    let al = c.align_of-align.result in
    let stands = block-stands m c.args.start al (c.args.len * step) c.in-Ok.ensures.ok.0 (omega (arith, c.in-Ok.ensures.ok)) in
    let opened = list-opened (reading u m) m c.args.start c.args.len al step _ _ c.align_of-align.ensures.value c.size_of-step.ensures.value stands in
    let (vs, e, l, none) = nothing-asked u m (c.asks_nothing.ensures c.if-asks_nothing.true) step c.args.start c.args.len in (
      list_value (values_of vs),
      opened ∙ ap listed e,
      told-as _ _ _ _ _ _ _ _ (ap (λ rs. (request al (c.args.len * step) ∷ []) ++ rs) (sym none) ∙ list-told u vs c.args.len al step c.align_of-align.ensures.value c.size_of-step.ensures.value l) c.tell.ensures.told,
    )

pub ask_list-returns-then-left-size-clause-asks : goal.ask_list-returns-then-left-size-clause-asks
ask_list-returns-then-left-size-clause-asks t c =
    let m = c.args.self.now.source.now in
    let u = closed_type c.args.self.now.types.now c.args.element in
    let step = c.size_of-step.result in
    let al = c.align_of-align.result in
    let stands = block-stands m c.args.start al (c.args.len * step) c.in-Ok.ensures.ok.0 (omega (arith, c.in-Ok.ensures.ok)) in
    let opened = list-opened (reading u m) m c.args.start c.args.len al step _ _ c.align_of-align.ensures.value c.size_of-step.ensures.value stands in
    block-stops u (reading u m) c.args.start c.args.len al step c.args.left.now _ c.align_of-align.ensures.value c.size_of-step.ensures.value opened (omega arith)

pub ask_list-loop-index-init : goal.ask_list-loop-index-init
ask_list-loop-index-init t c =
    let f = reading (closed_type c.args.self.now.types.now c.args.element) c.args.self.now.source.now in (
      ([], each-start f c.size_of-step.result c.args.start c.args.len, refl, told-none c.tell.new.slots c.tell.new.count c.tell.new.left),
      (λ d h deep. few-none d (0 * c.size_of-step.result) c.tell.new.left c.args.nodes.now c.args.nodes.now (omega arith)),
      (λ e covers. covers),
      ap (λ rs. c.tell.new.left + total rs) (sym (each-asked-first f (asked_at (closed_type c.args.self.now.types.now c.args.element) c.args.self.now.source.now) c.size_of-step.result c.args.start c.args.len)),
    )

pub ask_list-returns-in_err-ask_at-clause-asks : goal.ask_list-returns-in_err-ask_at-clause-asks
ask_list-returns-in_err-ask_at-clause-asks t c =
    let m = c.args.self.now.source.now in
    let f = reading (closed_type c.args.self.now.types.now c.args.element) m in
    let step = c.size_of-step.result in
    let al = c.align_of-align.result in
    let stands = block-stands m c.args.start al (c.args.len * step) c.in-Ok.ensures.ok.0 (omega (arith, c.in-Ok.ensures.ok)) in
    let opened = list-opened f m c.args.start c.args.len al step _ _ c.align_of-align.ensures.value c.size_of-step.ensures.value stands in
    let p = err_from_is_err_and c.from_residual.result c.from_residual.ensures.1 in
    let (vs, w, l, told) = c.loop-index.invariant.0 in
    let u = closed_type c.args.self.now.types.now c.args.element in
    rw (p.1, p.2) (list-stops u f c.args.start c.args.len al step _ _ _ c.align_of-align.ensures.value c.size_of-step.ensures.value opened (omega (arith, c.tell.ensures.told.spent)) c.in_err-ask_at.field-0.0
    (each-stops f (requests u) step c.args.start c.args.len c.loop-index.index vs _ _ _ (omega arith) w told.spent c.in_err-ask_at.field-0.0 c.in_err-ask_at.ensures.asks))

pub ask_list-loop-index-preserved : goal.ask_list-loop-index-preserved
ask_list-loop-index-preserved t c =
    let u = closed_type c.args.self.now.types.now c.args.element in
    let f = reading u c.args.self.now.source.now in
    let (vs, w, l, told) = c.loop-index.invariant.0 in
    let (v, e, more) = c.in_ok-ask_at.ensures.asks in (
      (
        vs ++ v ∷ [],
        each-more f c.size_of-step.result c.args.start c.args.len c.loop-index.index vs _ (omega arith) w v e,
        omega (arith, length-append vs (v ∷ [])),
        told-as _ _ _ _ _ _ _ _ (each-asks (requests u) vs v) (told-both _ _ _ (each_request (requests u) vs) (requests u v) _ _ _ _ _ _ (omega arith) told more),
      ),
      (λ d h deep.
          let one = c.ask_at.ensures.few d h deep in
          let same : c.loop-index.index * c.size_of-step.result + size u ≡ (c.loop-index.index + 1) * c.size_of-step.result = omega (arith, c.size_of-step.ensures.value) in
          subst (λ (s : ℕ). IsFew d s c.tell.new.left c.ask_at.new.left c.args.nodes.now c.ask_at.new.nodes) same (few-both d (c.loop-index.index * c.size_of-step.result) (size u) _ _ _ _ _ _ (c.loop-index.invariant.1 d h deep) one)),
      (λ e covers. c.ask_at.ensures.each e (c.loop-index.invariant.2 e covers)),
      (let m = c.args.self.now.source.now in
          let here = c.args.start + c.loop-index.index * c.size_of-step.result in
          limit-goes-on (f here) v (requests u) _ (asked_at u m here) _ _ _ _ _ (each-asked-next f (asked_at u m) c.size_of-step.result c.args.start c.args.len c.loop-index.index (omega arith)) e (asks-at u m here v e) more.spent c.loop-index.invariant.3),
    )

pub ask_list-returns-clause-asks : goal.ask_list-returns-clause-asks
ask_list-returns-clause-asks t c =
    let m = c.args.self.now.source.now in
    let u = closed_type c.args.self.now.types.now c.args.element in
    let f = reading u m in
    let step = c.size_of-step.result in
    let al = c.align_of-align.result in
    let stands = block-stands m c.args.start al (c.args.len * step) c.in-Ok.ensures.ok.0 (omega (arith, c.in-Ok.ensures.ok)) in
    let opened = list-opened f m c.args.start c.args.len al step _ _ c.align_of-align.ensures.value c.size_of-step.ensures.value stands in
    let (vs, w, l, told) = c.loop-index.invariant.0 in
    let i : c.loop-index.index ≡ c.args.len = omega arith in
    let all = each-done f step c.args.start c.args.len c.args.len vs (each_at f step c.args.start c.args.len) (subst (λ (k : ℕ). with_front vs (each_at f step (c.args.start + k * step) (c.args.len - k)) ≡ each_at f step c.args.start c.args.len) i w) in (
      list_value (values_of vs),
      opened ∙ ap listed all,
      told-as _ _ _ _ _ _ _ _ (list-told u vs c.args.len al step c.align_of-align.ensures.value c.size_of-step.ensures.value (l ∙ i))
          (told-both _ _ _ (request al (c.args.len * step) ∷ []) (each_request (requests u) vs) _ _ _ _ _ _ (omega arith) c.tell.ensures.told told),
    )

pub ask_variant-returns-in_default-clause-asks : goal.ask_variant-returns-in_default-clause-asks
ask_variant-returns-in_default-clause-asks t c =
    let cs = variant_cases (closed_type c.args.self.now.types.now c.args.ty) in
    let m = c.args.self.now.source.now in
    let i = c.number_of_size-case.result in
    let num : i ≡ case_number cs m c.args.at =
    c.number_of_size-case.ensures ∙ ap (λ w. number_at m c.args.at (byte_width w)) (c.discriminant_bytes.ensures.value ∙ ap discriminant_size (sym c.requires.counted)) in
    rw (← num) (case-none m _ i cs i (sym c.in_default.ensures.found))

pub ask_variant-returns-in_default-payload-clause-asks : goal.ask_variant-returns-in_default-payload-clause-asks
ask_variant-returns-in_default-payload-clause-asks t c =
    let cs = variant_cases (closed_type c.args.self.now.types.now c.args.ty) in
    let m = c.args.self.now.source.now in
    let i = c.number_of_size-case.result in
    let num : i ≡ case_number cs m c.args.at =
    c.number_of_size-case.ensures ∙ ap (λ w. number_at m c.args.at (byte_width w)) (c.discriminant_bytes.ensures.value ∙ ap discriminant_size (sym c.requires.counted)) in
    let found : nth_case cs i ≡ Some None = sym c.in-Some.ensures.found ∙ ap (λ o. Some (option_map (closed_type c.args.self.now.types.now) o)) c.in_default-payload.is in
    rw (← num) (plain_value i, case-plain m _ i cs i found, told-as _ _ _ [] (case_requests cs i None) _ _ _ (sym (plain-asks cs i found)) (told-none c.args.slots.now c.args.count.now c.args.left.now))

pub ask_variant-ask_at-requires : goal.ask_variant-ask_at-requires
ask_variant-ask_at-requires t c =
    let v = closed_type c.args.self.now.types.now c.args.ty in
    let cs = variant_cases v in
    let u = closed_type c.args.self.now.types.now c.in-Some-payload.member in
    let found : nth_case cs c.number_of_size-case.result ≡ Some (Some u) = sym c.in-Some.ensures.found ∙ ap (λ o. Some (option_map (closed_type c.args.self.now.types.now) o)) c.in-Some-payload.is in
    let inside = rw c.in-Some-payload.is at c.in-Some.ensures.inside in
    let place : c.align_of-place.result ≡ payload_place cs = c.align_of-place.ensures.value ∙ ap align (sym c.requires.variant) ∙ sym (payload-place cs) in
    let whole = ap size c.requires.variant in
    (omega (arith, case-depth v c.number_of_size-case.result u found, c.decreases), (inside, (c.requires.short, omega (arith, payload-fits cs c.number_of_size-case.result u found))))

pub ask_variant-returns-clause-asks : goal.ask_variant-returns-clause-asks
ask_variant-returns-clause-asks t c =
    let cs = variant_cases (closed_type c.args.self.now.types.now c.args.ty) in
    let m = c.args.self.now.source.now in
    let i = c.number_of_size-case.result in
    let num : i ≡ case_number cs m c.args.at =
    c.number_of_size-case.ensures ∙ ap (λ w. number_at m c.args.at (byte_width w)) (c.discriminant_bytes.ensures.value ∙ ap discriminant_size (sym c.requires.counted)) in
    let u = closed_type c.args.self.now.types.now c.in-Some-payload.member in
    let found : nth_case cs i ≡ Some (Some u) = sym c.in-Some.ensures.found ∙ ap (λ o. Some (option_map (closed_type c.args.self.now.types.now) o)) c.in-Some-payload.is in
    let place : c.align_of-place.result ≡ payload_place cs = c.align_of-place.ensures.value ∙ ap align (sym c.requires.variant) ∙ sym (payload-place cs) in
    rw (← num, ← place) (asks-made (payload_value i) (reading u m (c.args.at + c.align_of-place.result)) (reading_case cs m (c.args.at + c.align_of-place.result) i i) (requests u) (requests (variant_type cs))
    (case-payload m _ i cs i u found) (λ w. payload-asks cs i u w found) c.args.slots.now c.args.count.now c.args.left.now c.ask_at.result c.ask_at.new.slots c.ask_at.new.count c.ask_at.new.left c.ask_at.ensures.asks)

pub ask_at-returns-in-List-clause-few : goal.ask_at-returns-in-List-clause-few
ask_at-returns-in-List-clause-few t c = λ d h deep.
    list-few _ (closed_type c.args.self.now.types.now c.in-List.element) _ _ _ _ _ c.in-List.ensures.shape.0 h d deep (omega (arith, c.visit.ensures.counted)) c.ask_list.ensures.few

pub ask_at-returns-in-Record-clause-few : goal.ask_at-returns-in-Record-clause-few
ask_at-returns-in-Record-clause-few t c = λ d h deep.
    let s = c.in-Record.ensures.shape.0 in
    let own : record_fields (closed_type c.args.self.now.types.now c.args.ty) ≡ s.0 = ap record_fields s.1 in
    record-few _ s.0 _ _ _ _ _ s.1 h d deep (omega (arith, c.visit.ensures.counted)) (rw own at c.ask_fields.ensures.few)

pub ask_at-returns-in-Variant-clause-few : goal.ask_at-returns-in-Variant-clause-few
ask_at-returns-in-Variant-clause-few t c = λ d h deep.
    let s = c.in-Variant.ensures.shape.0 in
    let own : variant_cases (closed_type c.args.self.now.types.now c.args.ty) ≡ s.0 = ap variant_cases s.1 in
    variant-few _ s.0 _ _ _ _ _ s.1 h d deep (omega (arith, c.visit.ensures.counted)) (rw own at c.ask_variant.ensures.few)

pub ask_fields-returns-in_err-ask_at-clause-few : goal.ask_fields-returns-in_err-ask_at-clause-few
ask_fields-returns-in_err-ask_at-clause-few t c = λ d h deep.
    let fs = members_fields c.args.self.now.types.now c.args.members.now in
    let u = closed_type c.args.self.now.types.now c.in-Some.member in
    let found = sym c.in-Some.ensures.found in
    let (s, is, few) = c.loop-index.invariant.1 d h deep in
    let one = c.ask_at.ensures.few d (member-standard fs c.loop-index.index u h found) (omega (arith, deep, member-depth fs c.loop-index.index u found)) in
    few-more d (s + size u) (fields_size fs) _ _ _ _ (omega (arith, is, sizes-next fs c.loop-index.index u found)) (few-both d s (size u) _ _ _ _ _ _ few one)

pub ask_fields-returns-clause-few : goal.ask_fields-returns-clause-few
ask_fields-returns-clause-few t c = λ d h deep.
    let fs = members_fields c.args.self.now.types.now c.args.members.now in
    let (s, is, few) = c.loop-index.invariant.1 d h deep in
    few-more d s (fields_size fs) _ _ _ _ (omega (arith, is)) few

pub ask_list-returns-in_err-ask_at-clause-few : goal.ask_list-returns-in_err-ask_at-clause-few
ask_list-returns-in_err-ask_at-clause-few t c = λ d h deep.
    let u = closed_type c.args.self.now.types.now c.args.element in
    let step = c.size_of-step.result in
    let i = c.loop-index.index in
    let one = c.ask_at.ensures.few d h deep in
    let all : (i + 1) * step ≤ c.args.len * step = mul-le (i + 1) step c.args.len step (omega arith) (omega arith) in
    let both = few-both d (i * step) (size u) _ _ _ _ _ _ (c.loop-index.invariant.1 d h deep) one in
    few-block d (c.args.len * step) _ _ _ _ _ (omega (arith, c.tell.ensures.told.spent)) (few-more d (i * step + size u) (c.args.len * step) _ _ _ _ (omega (arith, all, c.size_of-step.ensures.value)) both)

pub ask_list-returns-clause-few : goal.ask_list-returns-clause-few
ask_list-returns-clause-few t c = λ d h deep.
    let step = c.size_of-step.result in
    let i = c.loop-index.index in
    let same : i ≡ c.args.len = omega arith in
    let times : i * step ≡ c.args.len * step = ap (λ n. n * step) same in
    few-block d (c.args.len * step) _ _ _ _ _ (omega (arith, c.tell.ensures.told.spent)) (few-more d (i * step) (c.args.len * step) _ _ _ _ (omega (arith, times)) (c.loop-index.invariant.1 d h deep))

pub ask_variant-returns-clause-few : goal.ask_variant-returns-clause-few
ask_variant-returns-clause-few t c = λ d h deep.
    let cs = variant_cases (closed_type c.args.self.now.types.now c.args.ty) in
    let i = c.number_of_size-case.result in
    let u = closed_type c.args.self.now.types.now c.in-Some-payload.member in
    let found : nth_case cs i ≡ Some (Some u) = sym c.in-Some.ensures.found ∙ ap (λ o. Some (option_map (closed_type c.args.self.now.types.now) o)) c.in-Some-payload.is in
    few-more d (size u) (size (variant_type cs)) _ _ _ _ (omega (arith, payload-fits cs i u found)) (c.ask_at.ensures.few d (case-standard cs i u h found) (omega (arith, deep, case-depth (variant_type cs) i u found)))

pub ask_at-returns-in-List-clause-each : goal.ask_at-returns-in-List-clause-each
ask_at-returns-in-List-clause-each t c = λ e covers. c.ask_list.ensures.each e (omega (arith, covers, c.visit.ensures.counted, c.visit.ensures.fits)) (omega (arith, covers, c.visit.ensures.counted, c.visit.ensures.fits))

pub ask_at-returns-in-Record-clause-each : goal.ask_at-returns-in-Record-clause-each
ask_at-returns-in-Record-clause-each t c = λ e covers. c.ask_fields.ensures.each e (omega (arith, covers, c.visit.ensures.counted, c.visit.ensures.fits))

pub ask_at-returns-in-Variant-clause-each : goal.ask_at-returns-in-Variant-clause-each
ask_at-returns-in-Variant-clause-each t c = λ e covers. c.ask_variant.ensures.each e (omega (arith, covers, c.visit.ensures.counted, c.visit.ensures.fits))

pub ask_fields-returns-in_err-ask_at-clause-each : goal.ask_fields-returns-in_err-ask_at-clause-each
ask_fields-returns-in_err-ask_at-clause-each t c = λ e covers. c.ask_at.ensures.each e (c.loop-index.invariant.2 e covers)

pub ask_list-returns-in_err-ask_at-clause-each : goal.ask_list-returns-in_err-ask_at-clause-each
ask_list-returns-in_err-ask_at-clause-each t c = λ e first covers. c.ask_at.ensures.each e (c.loop-index.invariant.2 e (omega (arith, first, c.tell.ensures.counted)))

pub ask_list-returns-clause-each : goal.ask_list-returns-clause-each
ask_list-returns-clause-each t c = λ e first covers. c.loop-index.invariant.2 e (omega (arith, first, c.tell.ensures.counted))

-- ---- the limit

pub ask_at-returns-in-Record-clause-limit : goal.ask_at-returns-in-Record-clause-limit
ask_at-returns-in-Record-clause-limit t c =
    let s = c.in-Record.ensures.shape.0 in
    let own : record_fields (closed_type c.args.self.now.types.now c.args.ty) ≡ s.0 = ap record_fields s.1 in
    rw s.1 (rw own at c.ask_fields.ensures.limit)

pub ask_at-returns-in-List-clause-limit : goal.ask_at-returns-in-List-clause-limit
ask_at-returns-in-List-clause-limit t c = rw (c.in-List.ensures.shape.0, ← c.u32_at-start-in-List.ensures, ← c.u32_at-len-in-List.ensures) c.ask_list.ensures.limit

pub ask_at-returns-in-Flags-clause-limit : goal.ask_at-returns-in-Flags-clause-limit
ask_at-returns-in-Flags-clause-limit t c = rw c.in-Flags.ensures.shape.0 (omega arith)

pub ask_fields-returns-in_err-ask_at-clause-limit : goal.ask_fields-returns-in_err-ask_at-clause-limit
ask_fields-returns-in_err-ask_at-clause-limit t c =
    let fs = members_fields c.args.self.now.types.now c.args.members.now in
    let u = closed_type c.args.self.now.types.now c.in-Some.member in
    let m = c.args.self.now.source.now in
    let place : c.next_multiple_of-place.result ≡ next_multiple_of c.loop-index.end (align u) = c.next_multiple_of-place.ensures.value ∙ ap (next_multiple_of c.loop-index.end) c.align_of.ensures.value in
    let here = c.args.at + next_multiple_of c.loop-index.end (align u) in
    let p = err_from_is_err_and c.from_residual.result c.from_residual.ensures.1 in
    rw (p.1, p.2) (limit-stops (reading u m here) (requests u) (fields_asked fs m c.args.at 0) _ (asked_at u m here) _ _ _ (fields-asked-next fs m c.args.at c.loop-index.end c.loop-index.index u (sym c.in-Some.ensures.found)) c.loop-index.invariant.3
    c.in_err-ask_at.field-0.0 (rw place at c.in_err-ask_at.ensures.asks) (rw place at c.in_err-ask_at.ensures.limit))

pub ask_fields-returns-clause-limit : goal.ask_fields-returns-clause-limit
ask_fields-returns-clause-limit t c =
    let fs = members_fields c.args.self.now.types.now c.args.members.now in
    let i : c.args.fields ≡ c.loop-index.index = omega arith in
    let none = fields-last fs c.loop-index.index (c.requires.counted ∙ i) in
    omega (arith, c.loop-index.invariant.3, ap (λ us. total (fields_asked us c.args.self.now.source.now c.args.at c.loop-index.end)) none)

pub ask_list-returns-in-Err-clause-limit : goal.ask_list-returns-in-Err-clause-limit
ask_list-returns-in-Err-clause-limit t c =
    let m = c.args.self.now.source.now in
    let u = closed_type c.args.self.now.types.now c.args.element in
    let step = c.size_of-step.result in
    let al = c.align_of-align.result in
    let shut = block-fault m c.args.start al (c.args.len * step) c.in-Err.kind (c.in-Err.ensures.fault m refl) in
    omega (arith, ap total (list-asked-shut (reading u m) (asked_at u m) m c.args.start c.args.len al step _ _ c.in-Err.kind c.align_of-align.ensures.value c.size_of-step.ensures.value shut))

pub ask_list-returns-then-left-size-clause-limit : goal.ask_list-returns-then-left-size-clause-limit
ask_list-returns-then-left-size-clause-limit t c =
    let m = c.args.self.now.source.now in
    let u = closed_type c.args.self.now.types.now c.args.element in
    let step = c.size_of-step.result in
    let al = c.align_of-align.result in
    let stands = block-stands m c.args.start al (c.args.len * step) c.in-Ok.ensures.ok.0 (omega (arith, c.in-Ok.ensures.ok)) in
    omega (arith, ap total (list-asked-open (reading u m) (asked_at u m) m c.args.start c.args.len al step _ _ c.align_of-align.ensures.value c.size_of-step.ensures.value stands))

pub ask_list-returns-then-asks_nothing-clause-limit : goal.ask_list-returns-then-asks_nothing-clause-limit
ask_list-returns-then-asks_nothing-clause-limit t c =
    let m = c.args.self.now.source.now in
    let u = closed_type c.args.self.now.types.now c.args.element in
    let step = c.size_of-step.result in
    let al = c.align_of-align.result in
    let stands = block-stands m c.args.start al (c.args.len * step) c.in-Ok.ensures.ok.0 (omega (arith, c.in-Ok.ensures.ok)) in
    let (vs, e, l, none) = nothing-asked u m (c.asks_nothing.ensures c.if-asks_nothing.true) step c.args.start c.args.len in
    let each = each-asks-as (reading u m) (asked_at u m) (requests u) step (asks-at u m) c.args.start c.args.len vs e ∙ none in
    omega (arith, c.tell.ensures.told.spent, ap total each, ap total (list-asked-open (reading u m) (asked_at u m) m c.args.start c.args.len al step _ _ c.align_of-align.ensures.value c.size_of-step.ensures.value stands))

pub ask_list-returns-in_err-ask_at-clause-limit : goal.ask_list-returns-in_err-ask_at-clause-limit
ask_list-returns-in_err-ask_at-clause-limit t c =
    let m = c.args.self.now.source.now in
    let u = closed_type c.args.self.now.types.now c.args.element in
    let f = reading u m in
    let step = c.size_of-step.result in
    let al = c.align_of-align.result in
    let here = c.args.start + c.loop-index.index * step in
    let stands = block-stands m c.args.start al (c.args.len * step) c.in-Ok.ensures.ok.0 (omega (arith, c.in-Ok.ensures.ok)) in
    let opened = list-asked-open f (asked_at u m) m c.args.start c.args.len al step _ _ c.align_of-align.ensures.value c.size_of-step.ensures.value stands in
    let p = err_from_is_err_and c.from_residual.result c.from_residual.ensures.1 in
    rw (p.1, p.2) (limit-stops (f here) (requests u) (list_asked f (asked_at u m) m (align u) (size u) c.args.start c.args.len) _ (asked_at u m here) _ _ _ (each-asked-next f (asked_at u m) step c.args.start c.args.len c.loop-index.index (omega arith))
    (omega (arith, c.loop-index.invariant.3, c.tell.ensures.told.spent, ap total opened)) c.in_err-ask_at.field-0.0 c.in_err-ask_at.ensures.asks c.in_err-ask_at.ensures.limit)

pub ask_list-returns-clause-limit : goal.ask_list-returns-clause-limit
ask_list-returns-clause-limit t c =
    let m = c.args.self.now.source.now in
    let u = closed_type c.args.self.now.types.now c.args.element in
    let f = reading u m in
    let step = c.size_of-step.result in
    let al = c.align_of-align.result in
    let i : c.loop-index.index ≡ c.args.len = omega arith in
    let stands = block-stands m c.args.start al (c.args.len * step) c.in-Ok.ensures.ok.0 (omega (arith, c.in-Ok.ensures.ok)) in
    let opened = list-asked-open f (asked_at u m) m c.args.start c.args.len al step _ _ c.align_of-align.ensures.value c.size_of-step.ensures.value stands in
    let none : each_asked f (asked_at u m) step (c.args.start + c.loop-index.index * step) (c.args.len - c.loop-index.index) ≡ [] =
    ap (λ n. each_asked f (asked_at u m) step (c.args.start + c.loop-index.index * step) (c.args.len - n)) i ∙ each-asked-last f (asked_at u m) step (c.args.start + c.loop-index.index * step) c.args.len in
    omega (arith, c.loop-index.invariant.3, c.tell.ensures.told.spent, ap total opened, ap total none)

pub ask_variant-returns-in_default-clause-limit : goal.ask_variant-returns-in_default-clause-limit
ask_variant-returns-in_default-clause-limit t c =
    let cs = variant_cases (closed_type c.args.self.now.types.now c.args.ty) in
    let m = c.args.self.now.source.now in
    let i = c.number_of_size-case.result in
    let num : i ≡ case_number cs m c.args.at =
    c.number_of_size-case.ensures ∙ ap (λ w. number_at m c.args.at (byte_width w)) (c.discriminant_bytes.ensures.value ∙ ap discriminant_size (sym c.requires.counted)) in
    rw (← num) (omega (arith, ap total (case-asked-none cs m (c.args.at + payload_place cs) i (sym c.in_default.ensures.found))))

pub ask_variant-returns-in_default-payload-clause-limit : goal.ask_variant-returns-in_default-payload-clause-limit
ask_variant-returns-in_default-payload-clause-limit t c =
    let cs = variant_cases (closed_type c.args.self.now.types.now c.args.ty) in
    let m = c.args.self.now.source.now in
    let i = c.number_of_size-case.result in
    let num : i ≡ case_number cs m c.args.at =
    c.number_of_size-case.ensures ∙ ap (λ w. number_at m c.args.at (byte_width w)) (c.discriminant_bytes.ensures.value ∙ ap discriminant_size (sym c.requires.counted)) in
    let found : nth_case cs i ≡ Some None = sym c.in-Some.ensures.found ∙ ap (λ o. Some (option_map (closed_type c.args.self.now.types.now) o)) c.in_default-payload.is in
    rw (← num) (omega (arith, ap total (case-asked-plain cs m (c.args.at + payload_place cs) i found)))

pub ask_variant-returns-clause-limit : goal.ask_variant-returns-clause-limit
ask_variant-returns-clause-limit t c =
    let cs = variant_cases (closed_type c.args.self.now.types.now c.args.ty) in
    let m = c.args.self.now.source.now in
    let i = c.number_of_size-case.result in
    let num : i ≡ case_number cs m c.args.at =
    c.number_of_size-case.ensures ∙ ap (λ w. number_at m c.args.at (byte_width w)) (c.discriminant_bytes.ensures.value ∙ ap discriminant_size (sym c.requires.counted)) in
    let u = closed_type c.args.self.now.types.now c.in-Some-payload.member in
    let found : nth_case cs i ≡ Some (Some u) = sym c.in-Some.ensures.found ∙ ap (λ o. Some (option_map (closed_type c.args.self.now.types.now) o)) c.in-Some-payload.is in
    let place : c.align_of-place.result ≡ payload_place cs = c.align_of-place.ensures.value ∙ ap align (sym c.requires.variant) ∙ sym (payload-place cs) in
    rw (← num, ← place) (limit-as (asked_at u m (c.args.at + c.align_of-place.result)) (case_asked cs m (c.args.at + c.align_of-place.result) i) c.args.left.now
    (sym (case-asked-payload cs m (c.args.at + c.align_of-place.result) i u found)) c.ask_at.result c.ask_at.ensures.limit)
