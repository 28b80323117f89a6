use Rattle.std.proofs.Common.{◌≡◌, ◌<◌, length, map, refl, sym, ap, ◌∙◌, subst, arith}
use Rattle.std.proofs.lemmas.List.{length-map, get_or-map, drop_all}
use Rattle.std.proofs.lemmas.Result.{err_from_is_err_and}
use Rattle.std.specs.Int.{next_multiple_of}
use Rattle.canonical_abi.specs.Values.{Value, HasType}
use Rattle.canonical_abi.specs.Layout.{size, align}
use Rattle.canonical_abi.specs.Storing.{FieldsStore}
use Rattle.tables.specs.Closed.{closed_type}
use Rattle.values.specs.Members.{members_fields}
use Rattle.values.specs.Val.{value_of}
use Rattle.lift_lower.proofs.ScriptPartsInOrder.{begun-done}
use Rattle.values.proofs.FieldsFromAPlace.{fields-inside, fields-end, nth_field-some}
use Rattle.lift_lower.proofs.StoredFromParts.{FieldsFrom, stored-none, field-done, field-ended}
use Rattle.values.proofs.ValuesOfTypesByShape.{typed-count, have-first, have-rest, field-standard}
use Rattle.lift_lower.proofs.storing.store_fields.Goals as goal

pub unreachable-requires : goal.unreachable-requires
unreachable-requires g c =
    let fs = members_fields c.args.table.now c.args.members.now in
    let count = typed-count fs (map value_of c.args.values.now) c.requires.typed in
    let n = length-map c.args.values.now value_of in
    nth_field-some fs c.loop-index.index (omega (arith, count, n, c.loop-index-test.true)) (sym c.in_default-member_type.ensures.found)

pub aligned-place-requires-clause-fits : goal.aligned-place-requires-clause-fits
aligned-place-requires-clause-fits g c =
    let fs = members_fields c.args.table.now c.args.members.now in
    let h = fields-inside fs c.loop-index.index (closed_type c.args.table.now c.in-Some.member) c.loop-index.end _ (sym c.in-Some.ensures.found) c.loop-index.invariant.1 in
    rw c.align_of.ensures.value (omega (arith, h, c.requires.small))

pub overflow_add-at : goal.overflow_add-at
overflow_add-at g c =
    let fs = members_fields c.args.table.now c.args.members.now in
    let h = fields-inside fs c.loop-index.index (closed_type c.args.table.now c.in-Some.member) c.loop-index.end _ (sym c.in-Some.ensures.found) c.loop-index.invariant.1 in
    let k = rw (← c.align_of.ensures.value, ← c.aligned-place.ensures.value) at h in
    omega (arith, k, c.requires.small)

pub store_at-requires : goal.store_at-requires
store_at-requires g c =
    let fs = members_fields c.args.table.now c.args.members.now in
    let vs = map value_of c.args.values.now in
    let i = c.loop-index.index in
    let u = closed_type c.args.table.now c.in-Some.member in
    let found = sym c.in-Some.ensures.found in
    let v = c.index-values-index.result in
    let h = fields-inside fs i u c.loop-index.end _ found c.loop-index.invariant.1 in
    let k = rw (← c.align_of.ensures.value, ← c.aligned-place.ensures.value) at h in
    let here = get_or-map value_of c.args.values.now i v (value_of v) c.loop-index-test.true ∙ ap value_of (sym c.index-values-index.is) in
    let below : i < length vs = omega (arith, length-map c.args.values.now value_of, c.loop-index-test.true) in
    let P : Value → Type 0 = λ w. HasType w u in
    let typed = subst P here (have-first fs vs i u (value_of v) found below c.loop-index.invariant.2) in
    record {
      inside = c.in-Some.ensures.inside;
      standard = field-standard fs i u found c.requires.standard;
      typed = typed;
      room = omega (arith, k, c.requires.room, c.loop-index.invariant.0.no_shorter);
      small = omega (arith, k, c.requires.small);
    }

pub returns-in_err-store_at-clause-fault : goal.returns-in_err-store_at-clause-fault
returns-in_err-store_at-clause-fault g c =
    let fs = members_fields c.args.table.now c.args.members.now in
    let vs = map value_of c.args.values.now in
    let i = c.loop-index.index in
    let u = closed_type c.args.table.now c.in-Some.member in
    let v = c.index-values-index.result in
    let here = get_or-map value_of c.args.values.now i v (value_of v) c.loop-index-test.true ∙ ap value_of (sym c.index-values-index.is) in
    let below : i < length vs = omega (arith, length-map c.args.values.now value_of, c.loop-index-test.true) in
    let place : c.aligned-place.result ≡ next_multiple_of c.loop-index.end (align u) = c.aligned-place.ensures.value ∙ ap (next_multiple_of c.loop-index.end) c.align_of.ensures.value in
    let p = err_from_is_err_and c.from_residual.result c.from_residual.ensures.1 in
    rw (p.1, p.2) (field-ended c.args.limit g.G.Guest.allocates fs c.args.at vs i c.loop-index.end u (value_of v) c.aligned-place.result (size u) (sym c.in-Some.ensures.found) below here place refl
    (g.G.Guest.memory c.args.guest.now) (g.G.Guest.memory c.loop-index.guest) c.in_err-store_at.field-0.0 (g.G.Guest.memory c.store_at.new.guest) c.loop-index.invariant.2 c.loop-index.invariant.0 c.in_err-store_at.ensures.fault)

pub overflow_add-end : goal.overflow_add-end
overflow_add-end g c =
    let fs = members_fields c.args.table.now c.args.members.now in
    let h = fields-inside fs c.loop-index.index (closed_type c.args.table.now c.in-Some.member) c.loop-index.end _ (sym c.in-Some.ensures.found) c.loop-index.invariant.1 in
    let k = rw (← c.align_of.ensures.value, ← c.aligned-place.ensures.value) at h in
    omega (arith, k, c.size_of.ensures.value, c.requires.small)

pub loop-index-preserved : goal.loop-index-preserved
loop-index-preserved g c =
    let fs = members_fields c.args.table.now c.args.members.now in
    let vs = map value_of c.args.values.now in
    let i = c.loop-index.index in
    let u = closed_type c.args.table.now c.in-Some.member in
    let found = sym c.in-Some.ensures.found in
    let v = c.index-values-index.result in
    let here = get_or-map value_of c.args.values.now i v (value_of v) c.loop-index-test.true ∙ ap value_of (sym c.index-values-index.is) in
    let below : i < length vs = omega (arith, length-map c.args.values.now value_of, c.loop-index-test.true) in
    let place : c.aligned-place.result ≡ next_multiple_of c.loop-index.end (align u) = c.aligned-place.ensures.value ∙ ap (next_multiple_of c.loop-index.end) c.align_of.ensures.value in (
      field-done c.args.limit g.G.Guest.allocates fs c.args.at vs i c.loop-index.end u (value_of v) c.aligned-place.result c.size_of.result found below here place c.size_of.ensures.value
          (g.G.Guest.memory c.args.guest.now) (g.G.Guest.memory c.loop-index.guest) (g.G.Guest.memory c.store_at.new.guest) c.loop-index.invariant.0 c.in_ok-store_at.ensures.ok,
      rw (place, c.size_of.ensures.value) (sym (fields-end fs c.loop-index.end i u found) ∙ c.loop-index.invariant.1),
      have-rest fs vs i u (value_of v) found below c.loop-index.invariant.2,
    )

pub returns-clause-ok : goal.returns-clause-ok
returns-clause-ok g c =
    let fs = members_fields c.args.table.now c.args.members.now in
    let vs = map value_of c.args.values.now in
    let i = c.loop-index.index in
    let count = typed-count fs vs c.requires.typed in
    let n = length-map c.args.values.now value_of in
    begun-done c.args.limit g.G.Guest.allocates (FieldsStore fs c.args.at 0 vs) (FieldsFrom fs c.args.at vs i c.loop-index.end) (g.G.Guest.memory c.args.guest.now) (g.G.Guest.memory c.loop-index.guest) c.loop-index.invariant.0
    (stored-none fs c.args.at vs c.loop-index.end i (omega (arith, count, n, c.loop-index-test.false)) (drop_all i vs (omega (arith, n, c.loop-index-test.false))))
