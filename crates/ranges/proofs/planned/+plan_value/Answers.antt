use Rattle.std.proofs.Common.{◌≡◌, ◌+◌, ◌≤◌, sym, ap, ◌∙◌, subst, arith}
use Rattle.std.specs.Int.{next_multiple_of}
use Rattle.canonical_abi.specs.Types.{record_type, record_fields, depth}
use Rattle.canonical_abi.specs.Layout.{size, align, end_from, field_extents}
use Rattle.canonical_abi.proofs.Layouts.LeastPlaces.{le-next_multiple_of}
use Rattle.canonical_abi.proofs.Layouts.AlignmentsAndSizes.{is-alignment}
use Rattle.tables.specs.Closed.{closed_type}
use Rattle.values.proofs.TypesExtents.{member-depth}
use Rattle.values.proofs.FieldsFromAPlace.{fields_end, nth_field-some, fields-inside, fields-end, fields-last}
use Rattle.ranges.specs.Columns.{Plans}
use Rattle.ranges.proofs.ColumnsLaidOverCaps.{before-more}
use Rattle.ranges.proofs.PlansOneByOne.{planned-next, planned-record}
use Rattle.ranges.proofs.planned.+plan_value.Goals as goal

pub plan_fields-unreachable-requires : goal.plan_fields-unreachable-requires
plan_fields-unreachable-requires t c =
    nth_field-some (record_fields (closed_type c.args.table.now c.args.ty)) c.loop-index.index (omega (arith, c.requires.counted)) (sym c.in_default.ensures.found)

pub plan_fields-aligned-place-requires-clause-fits : goal.plan_fields-aligned-place-requires-clause-fits
plan_fields-aligned-place-requires-clause-fits t c =
    let fs = record_fields (closed_type c.args.table.now c.args.ty) in
    let h = fields-inside fs c.loop-index.index (closed_type c.args.table.now c.in-Some.member) c.loop-index.end _ (sym c.in-Some.ensures.found) c.loop-index.invariant.1 in
    let e = le-next_multiple_of (end_from 0 (field_extents fs)) (align (record_type fs)) in
    let s = ap size c.requires.record in
    rw c.align_of.ensures.value (omega (arith, h, e, s, c.requires.room))

pub plan_fields-aligned-place-requires-clause-alignment : goal.plan_fields-aligned-place-requires-clause-alignment
plan_fields-aligned-place-requires-clause-alignment t c = rw c.align_of.ensures.value (is-alignment (closed_type c.args.table.now c.in-Some.member))

pub plan_fields-overflow_add-at : goal.plan_fields-overflow_add-at
plan_fields-overflow_add-at t c =
    let fs = record_fields (closed_type c.args.table.now c.args.ty) in
    let h = fields-inside fs c.loop-index.index (closed_type c.args.table.now c.in-Some.member) c.loop-index.end _ (sym c.in-Some.ensures.found) c.loop-index.invariant.1 in
    let g = rw (← c.align_of.ensures.value, ← c.aligned-place.ensures) at h in
    let e = le-next_multiple_of (end_from 0 (field_extents fs)) (align (record_type fs)) in
    let s = ap size c.requires.record in
    omega (arith, g, e, s, c.requires.room)

pub plan_fields-overflow_add-end : goal.plan_fields-overflow_add-end
plan_fields-overflow_add-end t c =
    let fs = record_fields (closed_type c.args.table.now c.args.ty) in
    let h = fields-inside fs c.loop-index.index (closed_type c.args.table.now c.in-Some.member) c.loop-index.end _ (sym c.in-Some.ensures.found) c.loop-index.invariant.1 in
    let g = rw (← c.align_of.ensures.value, ← c.aligned-place.ensures) at h in
    let e = le-next_multiple_of (end_from 0 (field_extents fs)) (align (record_type fs)) in
    let s = ap size c.requires.record in
    omega (arith, g, e, s, c.requires.room, c.size_of.ensures.value)

pub plan_fields-plan_value-requires : goal.plan_fields-plan_value-requires
plan_fields-plan_value-requires t c =
    let v = closed_type c.args.table.now c.args.ty in
    let fs = record_fields v in
    let u = closed_type c.args.table.now c.in-Some.member in
    let h = fields-inside fs c.loop-index.index u c.loop-index.end _ (sym c.in-Some.ensures.found) c.loop-index.invariant.1 in
    let g = rw (← c.align_of.ensures.value, ← c.aligned-place.ensures) at h in
    let e = le-next_multiple_of (end_from 0 (field_extents fs)) (align (record_type fs)) in
    let s = ap size c.requires.record in
    let d = ap depth c.requires.record in
    let first = le-next_multiple_of c.loop-index.end c.align_of.result in
    let low : c.loop-index.end ≤ c.aligned-place.result = rw (← c.aligned-place.ensures) at first in (
      omega (arith, member-depth fs c.loop-index.index u (sym c.in-Some.ensures.found), d, c.decreases),
      (
        c.in-Some.ensures.inside,
        (
          omega (arith, g, e, s, c.requires.room),
          (
            λ i h. c.loop-index.invariant.0.blank i (omega (arith, h, low)),
            before-more _ (c.args.at + c.loop-index.end) (c.args.at + c.aligned-place.result) (omega (arith, low)) c.loop-index.invariant.0.before,
          ),
        ),
      ),
    )

pub plan_fields-loop-index-preserved : goal.plan_fields-loop-index-preserved
plan_fields-loop-index-preserved t c =
    let r = c.args.table.now in
    let fs = record_fields (closed_type r c.args.ty) in
    let u = closed_type r c.in-Some.member in
    let place : c.aligned-place.result ≡ next_multiple_of c.loop-index.end (align u) = c.aligned-place.ensures ∙ ap (next_multiple_of c.loop-index.end) c.align_of.ensures.value in
    let planned = c.in_ok-plan_value.ensures in
    rw (place, c.size_of.ensures.value) (
      planned-next fs c.loop-index.index c.loop-index.end c.args.at c.args.plan.now c.loop-index.plan c.plan_value.new.plan u (sym c.in-Some.ensures.found) c.loop-index.invariant.0 (rw place at planned),
      sym (fields-end fs c.loop-index.end c.loop-index.index u (sym c.in-Some.ensures.found)) ∙ c.loop-index.invariant.1,
    )

pub plan_fields-returns : goal.plan_fields-returns
plan_fields-returns t c =
    let r = c.args.table.now in
    let fs = record_fields (closed_type r c.args.ty) in
    let i : c.args.count ≡ c.loop-index.index = omega arith in
    let last = ap (fields_end c.loop-index.end) (fields-last fs c.loop-index.index (c.requires.counted ∙ i)) in
    let whole : c.loop-index.end ≡ end_from 0 (field_extents fs) = sym last ∙ c.loop-index.invariant.1 in
    let fits : c.loop-index.end ≤ size (record_type fs) = omega (arith, whole, le-next_multiple_of (end_from 0 (field_extents fs)) (align (record_type fs))) in
    subst (λ v. Plans v c.args.at c.args.plan.now c.loop-index.plan) c.requires.record (planned-record fs c.loop-index.index c.loop-index.end c.args.at _ _ (c.requires.counted ∙ i) (omega (arith, fits)) c.loop-index.invariant.0)
