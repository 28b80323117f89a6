use Rattle.std.proofs.Common.{◌≡◌, ◌+◌, sym, ap, ◌∙◌, subst, arith}
use Rattle.std.specs.Int.{next_multiple_of}
use Rattle.canonical_abi.specs.Types.{record_type, record_fields, depth}
use Rattle.canonical_abi.specs.Layout.{size, align, end_from, field_extents}
use Rattle.canonical_abi.proofs.Layouts.LeastPlaces.{le-next_multiple_of}
use Rattle.tables.specs.Closed.{closed_type}
use Rattle.values.proofs.TypesExtents.{member-depth}
use Rattle.values.proofs.FieldsFromAPlace.{nth_field-some, fields-inside, fields-end}
use Rattle.ranges.specs.Plan.{Fills}
use Rattle.ranges.proofs.CapsOfFields.{filled-next, filled-record}
use Rattle.ranges.proofs.caps.+fill.Goals as goal

pub fill_fields-unreachable-requires : goal.fill_fields-unreachable-requires
fill_fields-unreachable-requires t c =
    nth_field-some (record_fields (closed_type c.args.table.now c.args.ty)) c.loop-index.index (omega (arith, c.requires.counted)) (sym c.in_default.ensures.found)

pub fill_fields-next_multiple_of-place-requires-clause-fits : goal.fill_fields-next_multiple_of-place-requires-clause-fits
fill_fields-next_multiple_of-place-requires-clause-fits t c =
    let fs = record_fields (closed_type c.args.table.now c.args.ty) in
    let h = fields-inside fs c.loop-index.index (closed_type c.args.table.now c.in-Some.member) c.loop-index.end _ (sym c.in-Some.ensures.found) c.loop-index.invariant.1 in
    let e = le-next_multiple_of (end_from 0 (field_extents fs)) (align (record_type fs)) in
    let s = ap size c.requires.record in
    rw c.align_of.ensures.value (omega (arith, h, e, s, c.requires.room))

pub fill_fields-overflow_add-at : goal.fill_fields-overflow_add-at
fill_fields-overflow_add-at t c =
    let fs = record_fields (closed_type c.args.table.now c.args.ty) in
    let h = fields-inside fs c.loop-index.index (closed_type c.args.table.now c.in-Some.member) c.loop-index.end _ (sym c.in-Some.ensures.found) c.loop-index.invariant.1 in
    let g = rw (← c.align_of.ensures.value, ← c.next_multiple_of-place.ensures.value) at h in
    let e = le-next_multiple_of (end_from 0 (field_extents fs)) (align (record_type fs)) in
    let s = ap size c.requires.record in
    omega (arith, g, e, s, c.requires.room)

pub fill_fields-overflow_add-end : goal.fill_fields-overflow_add-end
fill_fields-overflow_add-end t c =
    let fs = record_fields (closed_type c.args.table.now c.args.ty) in
    let h = fields-inside fs c.loop-index.index (closed_type c.args.table.now c.in-Some.member) c.loop-index.end _ (sym c.in-Some.ensures.found) c.loop-index.invariant.1 in
    let g = rw (← c.align_of.ensures.value, ← c.next_multiple_of-place.ensures.value) at h in
    let e = le-next_multiple_of (end_from 0 (field_extents fs)) (align (record_type fs)) in
    let s = ap size c.requires.record in
    omega (arith, g, e, s, c.requires.room, c.size_of.ensures.value)

pub fill_fields-fill-requires : goal.fill_fields-fill-requires
fill_fields-fill-requires t c =
    let v = closed_type c.args.table.now c.args.ty in
    let fs = record_fields v in
    let u = closed_type c.args.table.now c.in-Some.member in
    let h = fields-inside fs c.loop-index.index u c.loop-index.end _ (sym c.in-Some.ensures.found) c.loop-index.invariant.1 in
    let g = rw (← c.align_of.ensures.value, ← c.next_multiple_of-place.ensures.value) at h in
    let e = le-next_multiple_of (end_from 0 (field_extents fs)) (align (record_type fs)) in
    let s = ap size c.requires.record in
    let d = ap depth c.requires.record in (
      omega (arith, member-depth fs c.loop-index.index u (sym c.in-Some.ensures.found), d, c.decreases),
      (
        c.in-Some.ensures.inside,
        (
          omega (arith, g, e, s, c.requires.room),
          λ i h. c.loop-index.invariant.0.blank i (omega (arith, h, c.next_multiple_of-place.ensures.lower_bound)),
        ),
      ),
    )

pub fill_fields-loop-index-preserved : goal.fill_fields-loop-index-preserved
fill_fields-loop-index-preserved t c =
    let r = c.args.table.now in
    let fs = record_fields (closed_type r c.args.ty) in
    let u = closed_type r c.in-Some.member in
    let place : c.next_multiple_of-place.result ≡ next_multiple_of c.loop-index.end (align u) = c.next_multiple_of-place.ensures.value ∙ ap (next_multiple_of c.loop-index.end) c.align_of.ensures.value in
    let filled = c.in_ok-inner.ensures in
    let sum : c.loop-index.nodes + c.in_ok-inner.inner ≡ c.in_ok-nodes.nodes = omega (arith, c.in_ok-nodes.ensures) in
    rw (place, c.size_of.ensures.value, ← sum) (
      filled-next fs c.loop-index.index c.loop-index.end c.args.at c.args.bytes.now c.loop-index.bytes c.fill.new.bytes c.loop-index.nodes c.in_ok-inner.inner u (sym c.in-Some.ensures.found) c.loop-index.invariant.0 (rw place at filled),
      sym (fields-end fs c.loop-index.end c.loop-index.index u (sym c.in-Some.ensures.found)) ∙ c.loop-index.invariant.1,
    )

pub fill_fields-returns : goal.fill_fields-returns
fill_fields-returns t c =
    let r = c.args.table.now in
    let fs = record_fields (closed_type r c.args.ty) in
    let i : c.args.count ≡ c.loop-index.index = omega arith in
    subst (λ v. Fills v c.args.at c.args.bytes.now c.loop-index.bytes c.loop-index.nodes) c.requires.record (filled-record fs c.loop-index.index c.loop-index.end c.args.at _ _ _ (c.requires.counted ∙ i) c.loop-index.invariant.0)
