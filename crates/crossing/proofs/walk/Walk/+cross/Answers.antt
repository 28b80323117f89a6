use Rattle.std.proofs.Common.{◌≡◌, ℕ, ◌*◌, ◌^◌, ◌<◌, [], ◌∷◌, Some, None, option_map, refl, sym, ap, ◌∙◌, subst, arith}
use Rattle.std.proofs.lemmas.Result.{err_from_is_err_and}
use Rattle.std.specs.Int.{next_multiple_of}
use Rattle.canonical_abi.specs.Types.{ClosedType, record_type, variant_type, record_fields, variant_cases, nth_case, case_count}
use Rattle.canonical_abi.specs.Layout.{size, align, discriminant_size, payload_place}
use Rattle.canonical_abi.specs.Reading.{number_at, byte_width, case_number}
use Rattle.canonical_abi.specs.Storing.{pointer_pair}
use Rattle.canonical_abi.specs.Trace.{write, EventLeads}
use Rattle.canonical_abi.proofs.Layouts.AlignmentsAndSizes.{is-alignment}
use Rattle.tables.specs.Closed.{closed_type}
use Rattle.values.specs.Bytes.{AreBytes}
use Rattle.values.specs.Members.{members_fields}
use Rattle.values.proofs.TypesExtents.{member-depth, case-depth, payload-place, payload-fits}
use Rattle.values.proofs.FieldsFromAPlace.{fields-inside, fields-end, nth_field-some}
use Rattle.lift_lower.proofs.OnlyAllocatorsRefuse.{request-fails}
use Rattle.crossing.specs.Outcome.{Walks, EachWalks, Ends}
use Rattle.crossing.proofs.ElementsCrossedTogether.{each-ahead}
use Rattle.crossing.proofs.PartsOfWaysInOrder.{begun}
use Rattle.crossing.proofs.ScriptsOfTypes.{told_case, plain-walks, missing-walks}
use Rattle.crossing.proofs.OneNodeOfAWay.{granted-led, at-node, at-record, each-next, each-stopped, each-done, field-next, field-stopped, fields-done, list-refused, list-ends, variant-ends}
use Rattle.crossing.proofs.walk.Walk.+cross.Goals as goal

-- ---- the node itself

pub cross_at-returns-in-Primitive : goal.cross_at-returns-in-Primitive
cross_at-returns-in-Primitive g t c =
    rw c.in-Primitive.ensures.shape.0 (at-node g.G.Guest.allocates _ (g.G.Guest.memory c.args.guest.now) c.cross_primitive.result (g.G.Guest.memory c.cross_primitive.new.guest) c.args.nodes.now c.saturating_add.result c.saturating_add.result
    (omega (arith, c.saturating_add.ensures)) (c.cross_primitive.ensures c.saturating_add.result))

pub cross_at-returns-in-String : goal.cross_at-returns-in-String
cross_at-returns-in-String g t c =
    rw c.in-String.ensures.shape.0 (at-node g.G.Guest.allocates _ (g.G.Guest.memory c.args.guest.now) c.cross_text.result (g.G.Guest.memory c.cross_text.new.guest) c.args.nodes.now c.saturating_add.result c.saturating_add.result
    (omega (arith, c.saturating_add.ensures)) (c.cross_text.ensures c.saturating_add.result))

pub cross_at-returns-in-Flags : goal.cross_at-returns-in-Flags
cross_at-returns-in-Flags g t c =
    rw c.in-Flags.ensures.shape.0 (at-node g.G.Guest.allocates _ (g.G.Guest.memory c.args.guest.now) c.cross_flags.result (g.G.Guest.memory c.cross_flags.new.guest) c.args.nodes.now c.saturating_add.result c.saturating_add.result
    (omega (arith, c.saturating_add.ensures)) (c.cross_flags.ensures c.saturating_add.result))

pub cross_at-returns-in-List : goal.cross_at-returns-in-List
cross_at-returns-in-List g t c =
    rw c.in-List.ensures.shape.0 (at-node g.G.Guest.allocates _ (g.G.Guest.memory c.args.guest.now) c.cross_list.result (g.G.Guest.memory c.cross_list.new.guest) c.args.nodes.now c.saturating_add.result c.cross_list.new.nodes
    (omega (arith, c.saturating_add.ensures)) c.cross_list.ensures)

pub cross_at-returns-in-Record : goal.cross_at-returns-in-Record
cross_at-returns-in-Record g t c =
    let T = closed_type c.args.self.now.types.now c.args.ty in
    let A = g.G.Guest.allocates in
    let m = c.args.self.now.source.now in
    let old = g.G.Guest.memory c.args.guest.now in
    let new = g.G.Guest.memory c.cross_fields.new.guest in
    let shaped = c.in-Record.ensures.shape.0 in
    let only : record_type (record_fields T) ≡ T = ap (λ x. record_type (record_fields x)) shaped.1 ∙ sym shaped.1 in
    let P : ClosedType → Type 0 = λ x. Ends A (Walks x m c.args.at.from c.args.at.to) old c.args.nodes.now c.cross_fields.result new c.cross_fields.new.nodes in
    subst P only (at-record A (record_fields T) m c.args.at.from c.args.at.to old c.cross_fields.result new c.args.nodes.now c.saturating_add.result c.cross_fields.new.nodes
    (omega (arith, c.saturating_add.ensures)) c.cross_fields.ensures)

pub cross_at-returns-in-Variant : goal.cross_at-returns-in-Variant
cross_at-returns-in-Variant g t c =
    let T = closed_type c.args.self.now.types.now c.args.ty in
    let A = g.G.Guest.allocates in
    let m = c.args.self.now.source.now in
    let old = g.G.Guest.memory c.args.guest.now in
    let new = g.G.Guest.memory c.cross_variant.new.guest in
    let shaped = c.in-Variant.ensures.shape.0 in
    let only : variant_type (variant_cases T) ≡ T = ap (λ x. variant_type (variant_cases x)) shaped.1 ∙ sym shaped.1 in
    let P : ClosedType → Type 0 = λ x. Ends A (Walks x m c.args.at.from c.args.at.to) old c.args.nodes.now c.cross_variant.result new c.cross_variant.new.nodes in
    subst P only (at-node A (Walks (variant_type (variant_cases T)) m c.args.at.from c.args.at.to) old c.cross_variant.result new c.args.nodes.now c.saturating_add.result c.cross_variant.new.nodes
    (omega (arith, c.saturating_add.ensures)) c.cross_variant.ensures)

-- ---- elements

pub cross_elements-returns-in-String : goal.cross_elements-returns-in-String
cross_elements-returns-in-String g t c = rw c.in-String.ensures.shape.0 c.cross_texts.ensures

pub cross_elements-returns-in-Some : goal.cross_elements-returns-in-Some
cross_elements-returns-in-Some g t c = rw c.in-Some.ensures.list c.cross_lists.ensures

pub cross_elements-loop-index-init : goal.cross_elements-loop-index-init
cross_elements-loop-index-init g t c =
    each-ahead g.G.Guest.allocates (closed_type c.args.self.now.types.now c.args.element) c.args.self.now.source.now c.args.elements.from c.args.elements.to c.args.elements.count c.cross_front-crossed.result c.cross_front-crossed.ensures.few
    (g.G.Guest.memory c.args.guest.now) (g.G.Guest.memory c.cross_front-crossed.new.guest) c.args.nodes.now c.cross_front-crossed.new.nodes c.cross_front-crossed.ensures.crossed

pub cross_elements-returns-in_err-cross_at : goal.cross_elements-returns-in_err-cross_at
cross_elements-returns-in_err-cross_at g t c =
    let u = closed_type c.args.self.now.types.now c.args.element in
    let bytes : AreBytes c.args.self.now.source.now = c.are_bytes.ensures in
    let here = rw c.size_of-step.ensures.value at c.in_err-cross_at.ensures in
    let p = err_from_is_err_and c.from_residual.result c.from_residual.ensures.1 in
    rw (p.1, p.2) (each-stopped g.G.Guest.allocates u c.args.self.now.source.now c.args.elements.from c.args.elements.to c.args.elements.count bytes c.requires.short c.reads_exactly.ensures c.loop-index.index c.loop-index-test.true
    (g.G.Guest.memory c.args.guest.now) (g.G.Guest.memory c.loop-index.guest) c.in_err-cross_at.field-0.0 (g.G.Guest.memory c.cross_at.new.guest) c.args.nodes.now c.loop-index.nodes c.cross_at.new.nodes c.loop-index.invariant here)

pub cross_elements-loop-index-preserved : goal.cross_elements-loop-index-preserved
cross_elements-loop-index-preserved g t c =
    let u = closed_type c.args.self.now.types.now c.args.element in
    let here = rw c.size_of-step.ensures.value at c.in_ok-cross_at.ensures in
    each-next g.G.Guest.allocates u c.args.self.now.source.now c.args.elements.from c.args.elements.to c.args.elements.count c.loop-index.index c.loop-index-test.true
    (g.G.Guest.memory c.args.guest.now) (g.G.Guest.memory c.loop-index.guest) (g.G.Guest.memory c.cross_at.new.guest) c.args.nodes.now c.loop-index.nodes c.cross_at.new.nodes c.loop-index.invariant here

pub cross_elements-returns : goal.cross_elements-returns
cross_elements-returns g t c =
    let u = closed_type c.args.self.now.types.now c.args.element in
    each-done g.G.Guest.allocates u c.args.self.now.source.now c.args.elements.from c.args.elements.to c.args.elements.count c.loop-index.index (omega (arith, c.loop-index-test.false))
    (g.G.Guest.memory c.args.guest.now) (g.G.Guest.memory c.loop-index.guest) c.args.nodes.now c.loop-index.nodes c.loop-index.invariant

-- ---- fields

pub cross_fields-loop-index-init : goal.cross_fields-loop-index-init
cross_fields-loop-index-init g t c = (begun g.G.Guest.allocates _ (g.G.Guest.memory c.args.guest.now) c.args.nodes.now, refl)

pub cross_fields-unreachable-requires : goal.cross_fields-unreachable-requires
cross_fields-unreachable-requires g t c =
    nth_field-some (members_fields c.args.self.now.types.now c.args.fields.now.members) c.loop-index.index (omega (arith, c.requires.counted, c.loop-index-test.true)) (sym c.in_default.ensures.found)

pub cross_fields-aligned-place-requires-clause-fits : goal.cross_fields-aligned-place-requires-clause-fits
cross_fields-aligned-place-requires-clause-fits g t c =
    let fs = members_fields c.args.self.now.types.now c.args.fields.now.members in
    let h = fields-inside fs c.loop-index.index (closed_type c.args.self.now.types.now c.in-Some.member) c.loop-index.end _ (sym c.in-Some.ensures.found) c.loop-index.invariant.1 in
    rw c.align_of.ensures.value (omega (arith, h, c.requires.small))

pub cross_fields-aligned-place-requires-clause-alignment : goal.cross_fields-aligned-place-requires-clause-alignment
cross_fields-aligned-place-requires-clause-alignment g t c = rw c.align_of.ensures.value (is-alignment (closed_type c.args.self.now.types.now c.in-Some.member))

pub cross_fields-overflow_add-behind : goal.cross_fields-overflow_add-behind
cross_fields-overflow_add-behind g t c =
    let fs = members_fields c.args.self.now.types.now c.args.fields.now.members in
    let h = fields-inside fs c.loop-index.index (closed_type c.args.self.now.types.now c.in-Some.member) c.loop-index.end _ (sym c.in-Some.ensures.found) c.loop-index.invariant.1 in
    let k = rw (← c.align_of.ensures.value, ← c.aligned-place.ensures) at h in
    omega (arith, k, c.requires.fits, c.requires.short)

pub cross_fields-overflow_add-behind-in-loop-index : goal.cross_fields-overflow_add-behind-in-loop-index
cross_fields-overflow_add-behind-in-loop-index g t c =
    let fs = members_fields c.args.self.now.types.now c.args.fields.now.members in
    let h = fields-inside fs c.loop-index.index (closed_type c.args.self.now.types.now c.in-Some.member) c.loop-index.end _ (sym c.in-Some.ensures.found) c.loop-index.invariant.1 in
    let k = rw (← c.align_of.ensures.value, ← c.aligned-place.ensures) at h in
    omega (arith, k, c.requires.small)

pub cross_fields-cross_at-requires : goal.cross_fields-cross_at-requires
cross_fields-cross_at-requires g t c κs within =
    let fs = members_fields c.args.self.now.types.now c.args.fields.now.members in
    let u = closed_type c.args.self.now.types.now c.in-Some.member in
    let found = sym c.in-Some.ensures.found in
    let h = fields-inside fs c.loop-index.index u c.loop-index.end _ found c.loop-index.invariant.1 in
    let k = rw (← c.align_of.ensures.value, ← c.aligned-place.ensures) at h in
    (omega (arith, member-depth fs c.loop-index.index u found, c.decreases), (within, (c.in-Some.ensures.inside, (c.requires.short, (omega (arith, k, c.requires.fits), (omega (arith, k, c.requires.room, c.loop-index.invariant.0.no_shorter), omega (arith, k, c.requires.small)))))))

pub cross_fields-returns-in_err-cross_at : goal.cross_fields-returns-in_err-cross_at
cross_fields-returns-in_err-cross_at g t c =
    let fs = members_fields c.args.self.now.types.now c.args.fields.now.members in
    let u = closed_type c.args.self.now.types.now c.in-Some.member in
    let bytes : AreBytes c.args.self.now.source.now = c.are_bytes.ensures in
    let place : c.aligned-place.result ≡ next_multiple_of c.loop-index.end (align u) = c.aligned-place.ensures ∙ ap (next_multiple_of c.loop-index.end) c.align_of.ensures.value in
    let here = rw place at c.in_err-cross_at.ensures in
    let p = err_from_is_err_and c.from_residual.result c.from_residual.ensures.1 in
    rw (p.1, p.2) (field-stopped g.G.Guest.allocates fs c.args.self.now.source.now c.args.at.from c.args.at.to c.loop-index.index c.loop-index.end u (sym c.in-Some.ensures.found) bytes c.requires.short c.reads_exactly.ensures
    (g.G.Guest.memory c.args.guest.now) (g.G.Guest.memory c.loop-index.guest) c.in_err-cross_at.field-0.0 (g.G.Guest.memory c.cross_at.new.guest) c.args.nodes.now c.loop-index.nodes c.cross_at.new.nodes c.loop-index.invariant.0 here)

pub cross_fields-overflow_add-end : goal.cross_fields-overflow_add-end
cross_fields-overflow_add-end g t c =
    let fs = members_fields c.args.self.now.types.now c.args.fields.now.members in
    let h = fields-inside fs c.loop-index.index (closed_type c.args.self.now.types.now c.in-Some.member) c.loop-index.end _ (sym c.in-Some.ensures.found) c.loop-index.invariant.1 in
    let k = rw (← c.align_of.ensures.value, ← c.aligned-place.ensures) at h in
    omega (arith, k, c.size_of.ensures.value, c.requires.small)

pub cross_fields-loop-index-preserved : goal.cross_fields-loop-index-preserved
cross_fields-loop-index-preserved g t c =
    let fs = members_fields c.args.self.now.types.now c.args.fields.now.members in
    let u = closed_type c.args.self.now.types.now c.in-Some.member in
    let found = sym c.in-Some.ensures.found in
    let i = c.loop-index.index in
    let place : c.aligned-place.result ≡ next_multiple_of c.loop-index.end (align u) = c.aligned-place.ensures ∙ ap (next_multiple_of c.loop-index.end) c.align_of.ensures.value in
    let here = rw place at c.in_ok-cross_at.ensures in
    rw (place, c.size_of.ensures.value) (
      field-next g.G.Guest.allocates fs c.args.self.now.source.now c.args.at.from c.args.at.to i c.loop-index.end u found
          (g.G.Guest.memory c.args.guest.now) (g.G.Guest.memory c.loop-index.guest) (g.G.Guest.memory c.cross_at.new.guest) c.args.nodes.now c.loop-index.nodes c.cross_at.new.nodes c.loop-index.invariant.0 here,
      sym (fields-end fs c.loop-index.end i u found) ∙ c.loop-index.invariant.1,
    )

pub cross_fields-returns : goal.cross_fields-returns
cross_fields-returns g t c =
    fields-done g.G.Guest.allocates (members_fields c.args.self.now.types.now c.args.fields.now.members) c.args.self.now.source.now c.args.at.from c.args.at.to c.loop-index.index c.loop-index.end (omega (arith, c.requires.counted, c.loop-index-test.false))
    (g.G.Guest.memory c.args.guest.now) (g.G.Guest.memory c.loop-index.guest) c.args.nodes.now c.loop-index.nodes c.loop-index.invariant.0

-- ---- a list

pub cross_list-ask_block-requires : goal.cross_list-ask_block-requires
cross_list-ask_block-requires g t c = record { aligned = rw c.align_of-align.ensures.value (is-alignment (closed_type c.args.self.now.types.now c.args.element)) }

pub cross_list-returns-in-Err-ask_block : goal.cross_list-returns-in-Err-ask_block
cross_list-returns-in-Err-ask_block g t c =
    let A = g.G.Guest.allocates in
    let u = closed_type c.args.self.now.types.now c.args.element in
    let m = c.args.self.now.source.now in
    let bytes : AreBytes m = c.are_bytes.ensures in
    let n = c.u32_at-count.result in
    let stands = rw (c.align_of-align.ensures.value, c.size_of-step.ensures.value) at c.in_default.ensures.ok in
    let fault = rw (c.align_of-align.ensures.value, c.size_of-step.ensures.value) at c.in-Err-ask_block.ensures.fault in
    let old = g.G.Guest.memory c.args.guest.now in
    let new = g.G.Guest.memory c.ask_block.new.guest in
    let k = c.in-Err-ask_block.kind in
    let few : n * size u < 2 ^ 32 = omega (arith, stands.1, c.requires.short) in
    list-refused A u m c.args.at.from c.args.at.to c.u32_at-start.result n c.u32_at-start.ensures c.u32_at-count.ensures stands bytes c.requires.short c.reads_exactly.ensures old k new c.args.nodes.now
    (request-fails A old (align u) (n * size u) k new few fault)

pub cross_list-returns : goal.cross_list-returns
cross_list-returns g t c =
    let A = g.G.Guest.allocates in
    let u = closed_type c.args.self.now.types.now c.args.element in
    let m = c.args.self.now.source.now in
    let n = c.u32_at-count.result in
    let start = c.u32_at-start.result in
    let stands = rw (c.align_of-align.ensures.value, c.size_of-step.ensures.value) at c.in_default.ensures.ok in
    let ok = rw (c.align_of-align.ensures.value, c.size_of-step.ensures.value) at c.in-Ok.ensures.ok in
    let old = g.G.Guest.memory c.args.guest.now in
    let mid = g.G.Guest.memory c.ask_block.new.guest in
    let next = g.G.Guest.memory c.write_header.new.guest in
    let new = g.G.Guest.memory c.cross_elements.new.guest in
    let gr = granted-led 4294967295 A (align u) (n * size u) c.in-Ok.place old mid ok in
    let P : ℕ → Type 0 = λ p. EventLeads A mid (write c.args.at.to (pointer_pair p n)) next in
    let Q : ℕ → Type 0 = λ p. Ends A (EachWalks u m start p n) next c.args.nodes.now c.cross_elements.result new c.cross_elements.new.nodes in
    list-ends A u m c.args.at.from c.args.at.to start n c.u32_at-start.ensures c.u32_at-count.ensures stands gr.0 gr.1 old mid next c.cross_elements.result new c.args.nodes.now c.cross_elements.new.nodes gr.3 ok.no_shorter
    (subst P (sym gr.2) c.write_header.ensures.led) c.write_header.ensures.same_length (subst Q (sym gr.2) c.cross_elements.ensures)

-- ---- a variant

pub cross_variant-returns-in_default : goal.cross_variant-returns-in_default
cross_variant-returns-in_default g t c =
    let cs = variant_cases (closed_type c.args.self.now.types.now c.args.ty) in
    let m = c.args.self.now.source.now in
    let i = c.number_of_size-case.result in
    let count : c.discriminant_bytes-width.result ≡ discriminant_size (case_count cs) = c.discriminant_bytes-width.ensures.value ∙ ap discriminant_size (sym c.requires.counted) in
    let num : i ≡ case_number cs m c.args.at.from = c.number_of_size-case.ensures ∙ ap (λ w. number_at m c.args.at.from (byte_width w)) count in
    record {
      events = [];
      scripted = missing-walks cs m c.args.at.from c.args.at.to i num (sym c.in_default.ensures.found);
      leads = refl;
      counted = omega arith;
    }

pub cross_variant-returns-in_default-known : goal.cross_variant-returns-in_default-known
cross_variant-returns-in_default-known g t c =
    let cs = variant_cases (closed_type c.args.self.now.types.now c.args.ty) in
    let m = c.args.self.now.source.now in
    let i = c.number_of_size-case.result in
    let count : c.discriminant_bytes-width.result ≡ discriminant_size (case_count cs) = c.discriminant_bytes-width.ensures.value ∙ ap discriminant_size (sym c.requires.counted) in
    let num : i ≡ case_number cs m c.args.at.from = c.number_of_size-case.ensures ∙ ap (λ w. number_at m c.args.at.from (byte_width w)) count in
    let found : nth_case cs i ≡ Some None = sym c.in-Some.ensures.found ∙ ap (λ o. Some (option_map (closed_type c.args.self.now.types.now) o)) c.in_default-known.is in
    let led = rw count at c.write_number.ensures.led in
    record {
      events = told_case cs m c.args.at.from c.args.at.to i num ∷ [];
      scripted = plain-walks cs m c.args.at.from c.args.at.to i num found;
      leads = (g.G.Guest.memory c.write_number.new.guest, led, refl);
      no_shorter = omega (arith, c.write_number.ensures.same_length);
      counted = omega arith;
    }

pub cross_variant-cross_at-requires : goal.cross_variant-cross_at-requires
cross_variant-cross_at-requires g t c κs within =
    let T = closed_type c.args.self.now.types.now c.args.ty in
    let cs = variant_cases T in
    let i = c.number_of_size-case.result in
    let u = closed_type c.args.self.now.types.now c.in-Some-known.member in
    let found : nth_case cs i ≡ Some (Some u) = sym c.in-Some.ensures.found ∙ ap (λ o. Some (option_map (closed_type c.args.self.now.types.now) o)) c.in-Some-known.is in
    let inside = rw c.in-Some-known.is at c.in-Some.ensures.inside in
    let place : c.align_of-place.result ≡ payload_place cs = c.align_of-place.ensures.value ∙ ap align (sym c.requires.variant) ∙ sym (payload-place cs) in
    let whole = ap size c.requires.variant in
    let fits = payload-fits cs i u found in
    (omega (arith, case-depth T i u found, c.decreases), (within, (inside, (c.requires.short, (omega (arith, place, whole, fits, c.requires.fits), (omega (arith, place, whole, fits, c.requires.room, c.write_number.ensures.same_length), omega (arith, place, whole, fits, c.requires.small)))))))

pub cross_variant-returns : goal.cross_variant-returns
cross_variant-returns g t c =
    let T = closed_type c.args.self.now.types.now c.args.ty in
    let cs = variant_cases T in
    let m = c.args.self.now.source.now in
    let i = c.number_of_size-case.result in
    let count : c.discriminant_bytes-width.result ≡ discriminant_size (case_count cs) = c.discriminant_bytes-width.ensures.value ∙ ap discriminant_size (sym c.requires.counted) in
    let num : i ≡ case_number cs m c.args.at.from = c.number_of_size-case.ensures ∙ ap (λ w. number_at m c.args.at.from (byte_width w)) count in
    let u = closed_type c.args.self.now.types.now c.in-Some-known.member in
    let found : nth_case cs i ≡ Some (Some u) = sym c.in-Some.ensures.found ∙ ap (λ o. Some (option_map (closed_type c.args.self.now.types.now) o)) c.in-Some-known.is in
    let place : c.align_of-place.result ≡ payload_place cs = c.align_of-place.ensures.value ∙ ap align (sym c.requires.variant) ∙ sym (payload-place cs) in
    let led = rw count at c.write_number.ensures.led in
    let given = rw place at c.cross_at.ensures in
    variant-ends g.G.Guest.allocates cs m c.args.at.from c.args.at.to i num u found (g.G.Guest.memory c.args.guest.now) (g.G.Guest.memory c.write_number.new.guest) c.cross_at.result (g.G.Guest.memory c.cross_at.new.guest) c.args.nodes.now c.cross_at.new.nodes
    led c.write_number.ensures.same_length given
