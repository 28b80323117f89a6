use Rattle.std.proofs.Common.{◌≡◌, ◌+◌, ap, sym, ◌∙◌, arith}
use Rattle.std.proofs.lemmas.Result.{err_from_is_err_and}
use Rattle.std.proofs.lemmas.List.{map-append}
use Rattle.std.specs.Int.{next_multiple_of}
use Rattle.canonical_abi.specs.Types.{prim_type, boolean}
use Rattle.canonical_abi.specs.Layout.{align}
use Rattle.canonical_abi.specs.Reading.{reading}
use Rattle.tables.specs.Closed.{closed_type}
use Rattle.values.specs.Members.{members_fields}
use Rattle.values.specs.Val.{value_of}
use Rattle.lift_lower.proofs.ListsAreLoaded.{fails-pass}
use Rattle.lift_lower.proofs.ReadingStepByStep.{fields-more, fields-fault, fields-done}
use Rattle.values.proofs.FieldsFromAPlace.{fields-end, fields-inside, nth_field-some}
use Rattle.lift_lower.proofs.loading.load_fields.Goals as goal

pub unreachable-requires : goal.unreachable-requires
unreachable-requires c =
    nth_field-some (members_fields c.args.table.now c.args.members.now) c.loop-index.index (omega (arith, c.requires.counted)) (sym c.in_default-member_type.ensures.found)

pub aligned-place-requires-clause-fits : goal.aligned-place-requires-clause-fits
aligned-place-requires-clause-fits c =
    let fs = members_fields c.args.table.now c.args.members.now in
    let h = fields-inside fs c.loop-index.index (closed_type c.args.table.now c.in-Some.member) c.loop-index.end _ (sym c.in-Some.ensures.found) c.loop-index.invariant.1 in
    rw c.align_of.ensures.value (omega arith)

pub overflow_add-at : goal.overflow_add-at
overflow_add-at c =
    let fs = members_fields c.args.table.now c.args.members.now in
    let h = fields-inside fs c.loop-index.index (closed_type c.args.table.now c.in-Some.member) c.loop-index.end _ (sym c.in-Some.ensures.found) c.loop-index.invariant.1 in
    let g = rw (← c.align_of.ensures.value, ← c.aligned-place.ensures.value) at h in
    omega arith

pub load_at-requires : goal.load_at-requires
load_at-requires c =
    let fs = members_fields c.args.table.now c.args.members.now in
    let u = closed_type c.args.table.now c.in-Some.member in
    let h = fields-inside fs c.loop-index.index u c.loop-index.end _ (sym c.in-Some.ensures.found) c.loop-index.invariant.1 in
    let g = rw (← c.align_of.ensures.value, ← c.aligned-place.ensures.value) at h in
    record { inside = c.in-Some.ensures.inside; fits = omega arith }

pub returns-in_err-field : goal.returns-in_err-field
returns-in_err-field c =
    let fs = members_fields c.args.table.now c.args.members.now in
    let u = closed_type c.args.table.now c.in-Some.member in
    let place : c.aligned-place.result ≡ next_multiple_of c.loop-index.end (align u) = c.aligned-place.ensures.value ∙ ap (next_multiple_of c.loop-index.end) c.align_of.ensures.value in
    let p = err_from_is_err_and c.from_residual-in_err-field.result c.from_residual-in_err-field.ensures.1 in
    rw (p.1, p.2) (fails-pass c.in_err-field.field-0.0 _ _ c.in_err-field.ensures.value (λ k e.
    fields-fault fs c.args.memory.now c.args.at c.loop-index.end c.loop-index.index u _ _ (sym c.in-Some.ensures.found) c.loop-index.invariant.0 k (ap (λ x. reading u c.args.memory.now (c.args.at + x)) (sym place) ∙ e)))

pub overflow_add-end : goal.overflow_add-end
overflow_add-end c =
    let fs = members_fields c.args.table.now c.args.members.now in
    let h = fields-inside fs c.loop-index.index (closed_type c.args.table.now c.in-Some.member) c.loop-index.end _ (sym c.in-Some.ensures.found) c.loop-index.invariant.1 in
    let g = rw (← c.align_of.ensures.value, ← c.aligned-place.ensures.value) at h in
    omega (arith, c.size_of.ensures.value)

pub loop-index-preserved : goal.loop-index-preserved
loop-index-preserved c =
    let fs = members_fields c.args.table.now c.args.members.now in
    let u = closed_type c.args.table.now c.in-Some.member in
    let place : c.aligned-place.result ≡ next_multiple_of c.loop-index.end (align u) = c.aligned-place.ensures.value ∙ ap (next_multiple_of c.loop-index.end) c.align_of.ensures.value in
    rw (place, c.size_of.ensures.value, c.in_ok-push.ensures.items, map-append) (
      fields-more fs c.args.memory.now c.args.at c.loop-index.end c.loop-index.index u _ _ (sym c.in-Some.ensures.found) c.loop-index.invariant.0 (value_of c.in_ok-field.field) (ap (λ x. reading u c.args.memory.now (c.args.at + x)) (sym place) ∙ c.in_ok-field.ensures.value),
      sym (fields-end fs c.loop-index.end c.loop-index.index u (sym c.in-Some.ensures.found)) ∙ c.loop-index.invariant.1,
    )

pub returns : goal.returns
returns c =
    let w = c.loop-index.invariant.0 in
    let i : c.args.count ≡ c.loop-index.index = omega arith in
    let fs = members_fields c.args.table.now c.args.members.now in
    fields-done fs c.args.memory.now c.args.at c.loop-index.end c.loop-index.index (prim_type boolean) _ _ (c.requires.counted ∙ i) w
