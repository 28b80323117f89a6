use Rattle.std.proofs.Common.{◌≡◌, suc, ◌+◌, ◌-◌, [], ◌∷◌, length, map, take, drop, Some, None, option_map, refl, sym, ap, ◌∙◌, subst, arith, rules}
use Rattle.std.proofs.lemmas.List.{length-append}
use Rattle.std.proofs.lemmas.Result.{err_from_is_err_and}
use Rattle.canonical_abi.specs.Types.{ClosedType, flags_type, record_type, record_fields, variant_type, variant_cases, nth_case}
use Rattle.canonical_abi.specs.Layout.{flat_kinds, payload_kinds}
use Rattle.canonical_abi.specs.Reading.{number_of, low_bits}
use Rattle.canonical_abi.specs.Values.{flags_value}
use Rattle.canonical_abi.specs.declared.flat.CoreKind.TheVariants.{I32}
use Rattle.canonical_abi.specs.declared.flat.Flat.TheVariants as flat
use Rattle.tables.specs.Closed.{closed_type, prim_of}
use Rattle.values.specs.Bytes.{AreBytes}
use Rattle.values.specs.Members.{members_fields}
use Rattle.lift_lower.proofs.HeldValuesAreTyped.{low-small}
use Rattle.lift_lower.proofs.LiftingStepByStep.{kinds-next, payload-kinds, rest-numbers, rest-length}
use Rattle.lift_lower.proofs.LoweredFromParts.{lowers-length, behind-first, joined-told}
use Rattle.values.proofs.FieldsFromAPlace.{nth_field-some}
use Rattle.values.proofs.TypesExtents.{member-depth, case-depth}
use Rattle.crossing.specs.Outcome.{FlatWalks, FlatEnds}
use Rattle.crossing.proofs.ScriptsOfFlatValues.{flat-node, flat-record, leaf-done, primitive-ends, carrying-begun, carrying-next, carrying-stopped, carrying-done, missing-fault, plain-done, payload-done, payload-stopped}
use Rattle.crossing.proofs.walk.Walk.+flat.Goals as goal

-- ---- the node itself

pub cross_flat-returns-in-Primitive : goal.cross_flat-returns-in-Primitive
cross_flat-returns-in-Primitive g t c =
    rw c.in-Primitive.ensures.shape.0 (primitive-ends g.G.Guest.allocates (prim_of c.in-Primitive.primitive) c.args.self.now.source.now (map number_of c.args.flats.now) c.args.out.now.items (g.G.Guest.memory c.args.guest.now) c.carry_primitive.result c.args.nodes.now c.saturating_add.result c.carry_primitive.new.out.items
    (omega (arith, c.saturating_add.ensures)) c.carry_primitive.ensures.ok c.carry_primitive.ensures.fault)

pub cross_flat-returns-in-String : goal.cross_flat-returns-in-String
cross_flat-returns-in-String g t c =
    rw c.in-String.ensures.shape.0 (flat-node g.G.Guest.allocates _ (g.G.Guest.memory c.args.guest.now) c.carry_text.result (g.G.Guest.memory c.carry_text.new.guest) c.args.nodes.now c.saturating_add.result c.saturating_add.result c.carry_text.new.out.items
    (omega (arith, c.saturating_add.ensures)) (c.carry_text.ensures c.saturating_add.result))

pub cross_flat-returns-in-List : goal.cross_flat-returns-in-List
cross_flat-returns-in-List g t c =
    rw c.in-List.ensures.shape.0 (flat-node g.G.Guest.allocates _ (g.G.Guest.memory c.args.guest.now) c.carry_list.result (g.G.Guest.memory c.carry_list.new.guest) c.args.nodes.now c.saturating_add.result c.carry_list.new.nodes c.carry_list.new.out.items
    (omega (arith, c.saturating_add.ensures)) c.carry_list.ensures)

pub cross_flat-returns-in-Record : goal.cross_flat-returns-in-Record
cross_flat-returns-in-Record g t c =
    let T = closed_type c.args.self.now.types.now c.args.ty in
    let A = g.G.Guest.allocates in
    let m = c.args.self.now.source.now in
    let ns = map number_of c.args.flats.now in
    let front = c.args.out.now.items in
    let old = g.G.Guest.memory c.args.guest.now in
    let new = g.G.Guest.memory c.carry_fields.new.guest in
    let shaped = c.in-Record.ensures.shape.0 in
    let only : record_type (record_fields T) ≡ T = ap (λ x. record_type (record_fields x)) shaped.1 ∙ sym shaped.1 in
    let P : ClosedType → Type 0 = λ x. FlatEnds A (FlatWalks x m ns front) old c.args.nodes.now c.carry_fields.result new c.carry_fields.new.nodes c.carry_fields.new.out.items in
    subst P only (flat-record A (record_fields T) m ns front old c.carry_fields.result new c.args.nodes.now c.saturating_add.result c.carry_fields.new.nodes c.carry_fields.new.out.items
    (omega (arith, c.saturating_add.ensures)) c.carry_fields.ensures)

pub cross_flat-returns-in-Variant : goal.cross_flat-returns-in-Variant
cross_flat-returns-in-Variant g t c =
    let T = closed_type c.args.self.now.types.now c.args.ty in
    let A = g.G.Guest.allocates in
    let m = c.args.self.now.source.now in
    let ns = map number_of c.args.flats.now in
    let front = c.args.out.now.items in
    let old = g.G.Guest.memory c.args.guest.now in
    let new = g.G.Guest.memory c.carry_variant.new.guest in
    let shaped = c.in-Variant.ensures.shape.0 in
    let only : variant_type (variant_cases T) ≡ T = ap (λ x. variant_type (variant_cases x)) shaped.1 ∙ sym shaped.1 in
    let P : ClosedType → Type 0 = λ x. FlatEnds A (FlatWalks x m ns front) old c.args.nodes.now c.carry_variant.result new c.carry_variant.new.nodes c.carry_variant.new.out.items in
    subst P only (flat-node A (FlatWalks (variant_type (variant_cases T)) m ns front) old c.carry_variant.result new c.args.nodes.now c.saturating_add.result c.carry_variant.new.nodes c.carry_variant.new.out.items
    (omega (arith, c.saturating_add.ensures)) c.carry_variant.ensures)

pub cross_flat-returns-in-Flags : goal.cross_flat-returns-in-Flags
cross_flat-returns-in-Flags g t c =
    let ns = map number_of c.args.flats.now in
    let n = c.in-Flags.labels in
    let told = rw c.flags_in.ensures at c.push.ensures.items in
    rw c.in-Flags.ensures.shape.0 (leaf-done g.G.Guest.allocates (FlatWalks (flags_type n) c.args.self.now.source.now ns c.args.out.now.items) (g.G.Guest.memory c.args.guest.now) c.args.nodes.now c.saturating_add.result c.push.new.self.items
    (omega (arith, c.saturating_add.ensures)) (flags_value (low_bits ns 0 n), flat.I32 (low_bits ns 0 n) ∷ [], refl, (low_bits ns 0 n, refl, low-small ns 0 n, refl, refl), told))

-- ---- a member

pub carry_member-returns-in-Primitive : goal.carry_member-returns-in-Primitive
carry_member-returns-in-Primitive g t c =
    rw c.in-Primitive.is (primitive-ends g.G.Guest.allocates (prim_of c.in-Primitive.primitive) c.args.self.now.source.now (map number_of c.args.flats.now) c.args.out.now.items (g.G.Guest.memory c.args.guest.now) c.carry_primitive.result c.args.nodes.now c.saturating_add.result c.carry_primitive.new.out.items
    (omega (arith, c.saturating_add.ensures)) c.carry_primitive.ensures.ok c.carry_primitive.ensures.fault)

pub carry_member-returns-in-String : goal.carry_member-returns-in-String
carry_member-returns-in-String g t c =
    rw c.in-String.is (flat-node g.G.Guest.allocates _ (g.G.Guest.memory c.args.guest.now) c.carry_text.result (g.G.Guest.memory c.carry_text.new.guest) c.args.nodes.now c.saturating_add-in-String.result c.saturating_add-in-String.result c.carry_text.new.out.items
    (omega (arith, c.saturating_add-in-String.ensures)) (c.carry_text.ensures c.saturating_add-in-String.result))

-- ---- fields

pub carry_fields-unreachable-requires : goal.carry_fields-unreachable-requires
carry_fields-unreachable-requires g t c =
    nth_field-some (members_fields c.args.self.now.types.now c.args.fields.now.members) c.loop-index.index (omega (arith, c.requires.counted, c.loop-index-test.true)) (sym c.in_default.ensures.found)

pub carry_fields-loop-index-init : goal.carry_fields-loop-index-init
carry_fields-loop-index-init g t c =
    let fs = members_fields c.args.self.now.types.now c.args.fields.now.members in
    let ns = map number_of c.args.flats.now in
    (carrying-begun g.G.Guest.allocates fs c.args.self.now.source.now ns c.args.out.now.items (g.G.Guest.memory c.args.guest.now) c.args.nodes.now, omega (arith, c.requires.carried), omega (arith, c.requires.room), omega arith)

pub carry_fields-carry_member-requires : goal.carry_fields-carry_member-requires
carry_fields-carry_member-requires g t c κs within =
    let fs = members_fields c.args.self.now.types.now c.args.fields.now.members in
    let u = closed_type c.args.self.now.types.now c.in-Some.member in
    let found = sym c.in-Some.ensures.found in
    let kinds = kinds-next fs c.loop-index.index u found in
    let rest = rest-length c.args.flats.now c.loop-index.used in
    (omega (arith, member-depth fs c.loop-index.index u found, c.decreases), (within, (search rules, (search rules, (c.in-Some.ensures.inside, (c.requires.short, (omega (arith, kinds, rest, c.loop-index.invariant.1), (omega (arith, rest, c.requires.few), (c.requires.capacity, omega (arith, kinds, c.loop-index.invariant.2))))))))))

pub carry_fields-returns-in_err-carry_member : goal.carry_fields-returns-in_err-carry_member
carry_fields-returns-in_err-carry_member g t c =
    let A = g.G.Guest.allocates in
    let fs = members_fields c.args.self.now.types.now c.args.fields.now.members in
    let u = closed_type c.args.self.now.types.now c.in-Some.member in
    let m = c.args.self.now.source.now in
    let ns = map number_of c.args.flats.now in
    let bytes : AreBytes m = c.are_bytes.ensures in
    let here = rw (rest-numbers c.args.flats.now c.loop-index.used) at c.in_err-carry_member.ensures in
    let p = err_from_is_err_and c.from_residual.result c.from_residual.ensures.1 in
    rw (p.1, p.2) (carrying-stopped A fs m ns c.args.out.now.items c.loop-index.index c.loop-index.used u (sym c.in-Some.ensures.found) c.loop-index.out.items bytes c.requires.short
    (g.G.Guest.memory c.args.guest.now) (g.G.Guest.memory c.loop-index.guest) c.in_err-carry_member.field-0.0 (g.G.Guest.memory c.carry_member.new.guest) c.args.nodes.now c.loop-index.nodes c.carry_member.new.nodes c.loop-index.invariant.0 here)

pub carry_fields-loop-index-preserved : goal.carry_fields-loop-index-preserved
carry_fields-loop-index-preserved g t c =
    let A = g.G.Guest.allocates in
    let fs = members_fields c.args.self.now.types.now c.args.fields.now.members in
    let u = closed_type c.args.self.now.types.now c.in-Some.member in
    let ns = map number_of c.args.flats.now in
    let found = sym c.in-Some.ensures.found in
    let here = rw (rest-numbers c.args.flats.now c.loop-index.used) at c.in_ok-carry_member.ensures in
    let s = here.scripted in
    let more = c.carry_member.new.out.items in
    let long : length more ≡ length c.loop-index.out.items + length s.1 = ap length s.4 ∙ length-append c.loop-index.out.items s.1 in
    let own = lowers-length u s.0 here.events s.1 s.3 in
    let kinds = kinds-next fs c.loop-index.index u found in
    let at : c.len.result - c.len-before.result ≡ c.loop-index.used + length (flat_kinds u) = omega (arith, c.len.ensures, c.len-before.ensures, long, own, c.loop-index.invariant.3) in
    rw at (
      carrying-next A fs c.args.self.now.source.now ns c.args.out.now.items c.loop-index.index c.loop-index.used u found c.loop-index.out.items more
          (g.G.Guest.memory c.args.guest.now) (g.G.Guest.memory c.loop-index.guest) (g.G.Guest.memory c.carry_member.new.guest) c.args.nodes.now c.loop-index.nodes c.carry_member.new.nodes c.loop-index.invariant.0 here,
      omega (arith, kinds, c.loop-index.invariant.1),
      omega (arith, kinds, long, own, c.loop-index.invariant.2),
      omega (arith, long, own, c.loop-index.invariant.3),
    )

pub carry_fields-returns : goal.carry_fields-returns
carry_fields-returns g t c =
    let fs = members_fields c.args.self.now.types.now c.args.fields.now.members in
    let ns = map number_of c.args.flats.now in
    carrying-done g.G.Guest.allocates fs c.args.self.now.source.now ns c.args.out.now.items c.loop-index.index c.loop-index.used c.loop-index.out.items (omega (arith, c.requires.counted, c.loop-index-test.false))
    (g.G.Guest.memory c.args.guest.now) (g.G.Guest.memory c.loop-index.guest) c.args.nodes.now c.loop-index.nodes c.loop-index.invariant.0

-- ---- a variant

pub carry_variant-returns-in_default : goal.carry_variant-returns-in_default
carry_variant-returns-in_default g t c =
    let cs = variant_cases (closed_type c.args.self.now.types.now c.args.ty) in
    let ns = map number_of c.args.flats.now in
    missing-fault g.G.Guest.allocates cs c.args.self.now.source.now ns c.args.out.now.items c.low_word-case.result c.low_word-case.ensures (sym c.in_default.ensures.found) (g.G.Guest.memory c.args.guest.now) c.args.nodes.now

pub carry_variant-returns-in_default-known : goal.carry_variant-returns-in_default-known
carry_variant-returns-in_default-known g t c =
    let T = closed_type c.args.self.now.types.now c.args.ty in
    let cs = variant_cases T in
    let ns = map number_of c.args.flats.now in
    let i = c.low_word-case.result in
    let found : nth_case cs i ≡ Some None = sym c.in-Some.ensures.found ∙ ap (λ o. Some (option_map (closed_type c.args.self.now.types.now) o)) c.in_default-known.is in
    let kinds = behind-first c.as_slice.result.now I32 (payload_kinds cs) (c.as_slice.ensures.value ∙ c.kinds_of-kinds.ensures ∙ ap flat_kinds (sym c.requires.variant)) in
    let told = joined-told c.args.out.now.items c.push.new.self.items c.push_joined.new.out.items i (take (length c.as_slice.result.now - 1) (drop 1 c.as_slice.result.now)) (payload_kinds cs) [] c.push.ensures.items c.push_joined.ensures kinds in
    plain-done g.G.Guest.allocates cs c.args.self.now.source.now ns c.args.out.now.items i c.low_word-case.ensures found c.push_joined.new.out.items told (g.G.Guest.memory c.args.guest.now) c.args.nodes.now

pub carry_variant-carry_member-requires : goal.carry_variant-carry_member-requires
carry_variant-carry_member-requires g t c κs within =
    let T = closed_type c.args.self.now.types.now c.args.ty in
    let cs = variant_cases T in
    let i = c.low_word-case.result in
    let u = closed_type c.args.self.now.types.now c.in-Some-known.member in
    let found : nth_case cs i ≡ Some (Some u) = sym c.in-Some.ensures.found ∙ ap (λ o. Some (option_map (closed_type c.args.self.now.types.now) o)) c.in-Some-known.is in
    let inside = rw c.in-Some-known.is at c.in-Some.ensures.inside in
    let rest = rest-length c.args.flats.now 1 in
    let wide : length (flat_kinds T) ≡ suc (length (payload_kinds cs)) = ap (λ x. length (flat_kinds x)) (sym c.requires.variant) in
    let none : length c.new-carried.result.items ≡ 0 = ap length c.new-carried.ensures in
    let small = payload-kinds cs i u found in
    (omega (arith, case-depth T i u found, c.decreases), (within, (search rules, (search rules, (inside, (c.requires.short, (omega (arith, rest, small, c.requires.carried), (omega (arith, rest, c.requires.few), (c.requires.capacity, omega (arith, none, wide, small, c.requires.room))))))))))

pub carry_variant-returns-in_err-carry_member : goal.carry_variant-returns-in_err-carry_member
carry_variant-returns-in_err-carry_member g t c =
    let A = g.G.Guest.allocates in
    let T = closed_type c.args.self.now.types.now c.args.ty in
    let cs = variant_cases T in
    let ns = map number_of c.args.flats.now in
    let i = c.low_word-case.result in
    let u = closed_type c.args.self.now.types.now c.in-Some-known.member in
    let found : nth_case cs i ≡ Some (Some u) = sym c.in-Some.ensures.found ∙ ap (λ o. Some (option_map (closed_type c.args.self.now.types.now) o)) c.in-Some-known.is in
    let here = rw (rest-numbers c.args.flats.now 1, c.new-carried.ensures) at c.in_err-carry_member.ensures in
    let p = err_from_is_err_and c.from_residual.result c.from_residual.ensures.1 in
    rw (p.1, p.2) (payload-stopped A cs c.args.self.now.source.now ns c.args.out.now.items i c.low_word-case.ensures u found (g.G.Guest.memory c.args.guest.now) c.in_err-carry_member.field-0.0 (g.G.Guest.memory c.carry_member.new.guest) c.args.nodes.now c.carry_member.new.nodes here)

pub carry_variant-returns : goal.carry_variant-returns
carry_variant-returns g t c =
    let A = g.G.Guest.allocates in
    let T = closed_type c.args.self.now.types.now c.args.ty in
    let cs = variant_cases T in
    let ns = map number_of c.args.flats.now in
    let i = c.low_word-case.result in
    let u = closed_type c.args.self.now.types.now c.in-Some-known.member in
    let found : nth_case cs i ≡ Some (Some u) = sym c.in-Some.ensures.found ∙ ap (λ o. Some (option_map (closed_type c.args.self.now.types.now) o)) c.in-Some-known.is in
    let carried = c.carry_member.new.out.items in
    let kinds = behind-first c.as_slice-2.result.now I32 (payload_kinds cs) (c.as_slice-2.ensures.value ∙ c.kinds_of-kinds.ensures ∙ ap flat_kinds (sym c.requires.variant)) in
    let joined = rw c.as_slice-3.ensures.value at c.push_joined-2.ensures in
    let told = joined-told c.args.out.now.items c.push.new.self.items c.push_joined-2.new.out.items i (take (length c.as_slice-2.result.now - 1) (drop 1 c.as_slice-2.result.now)) (payload_kinds cs) carried c.push.ensures.items joined kinds in
    let here = rw (rest-numbers c.args.flats.now 1, c.new-carried.ensures) at c.in_ok-carry_member.ensures in
    payload-done A cs c.args.self.now.source.now ns c.args.out.now.items i c.low_word-case.ensures u found carried c.push_joined-2.new.out.items told (g.G.Guest.memory c.args.guest.now) (g.G.Guest.memory c.carry_member.new.guest) c.args.nodes.now c.carry_member.new.nodes here
