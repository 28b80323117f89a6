use Rattle.std.proofs.Common.{◌≡◌, ◌∷◌, [], length-append, append_assoc, append-nil, refl, sym, ap, ◌∙◌, subst, arith}
use Rattle.std.specs.Int.{next_multiple_of}
use Rattle.canonical_abi.specs.Types.{record_fields}
use Rattle.canonical_abi.specs.Layout.{size, align}
use Rattle.canonical_abi.proofs.Layouts.AlignmentsAndSizes.{is-alignment}
use Rattle.tables.specs.Closed.{closed_type}
use Rattle.values.proofs.FieldsFromAPlace.{nth_field-some, fields-inside, fields-end}
use Rattle.values.proofs.TypesExtents.{fields-fit}
use Rattle.crossing.specs.Steps.{AreSteps}
use Rattle.crossing.specs.declared.records.Step.{Step}
use Rattle.crossing.proofs.RecordMembersByStep.{step-more, step-none}
use Rattle.crossing.proofs.walk.Walk.list_of.Goals as goal

pub loop-index-init : goal.loop-index-init
loop-index-init c = rw c.new-steps.ensures (λ ss h. h, refl, refl)

pub unreachable-requires : goal.unreachable-requires
unreachable-requires c = nth_field-some (record_fields (closed_type c.args.self.now.types.now c.args.ty)) c.loop-index.index (omega (arith, c.requires.counted, c.loop-index-test.true)) (sym c.in_default.ensures.found)

pub aligned-place-requires-clause-alignment : goal.aligned-place-requires-clause-alignment
aligned-place-requires-clause-alignment c = rw c.align_of.ensures.value (is-alignment (closed_type c.args.self.now.types.now c.in-Some.member))

pub aligned-place-requires-clause-fits : goal.aligned-place-requires-clause-fits
aligned-place-requires-clause-fits c =
    let fs = record_fields (closed_type c.args.self.now.types.now c.args.ty) in
    let h = fields-inside fs c.loop-index.index (closed_type c.args.self.now.types.now c.in-Some.member) c.loop-index.end _ (sym c.in-Some.ensures.found) c.loop-index.invariant.2 in
    let s = ap size c.requires.record in
    rw c.align_of.ensures.value (omega (arith, h, fields-fit fs, s, c.size_of-size.ensures))

pub overflow_add-end : goal.overflow_add-end
overflow_add-end c =
    let fs = record_fields (closed_type c.args.self.now.types.now c.args.ty) in
    let h = fields-inside fs c.loop-index.index (closed_type c.args.self.now.types.now c.in-Some.member) c.loop-index.end _ (sym c.in-Some.ensures.found) c.loop-index.invariant.2 in
    let k = rw (← c.align_of.ensures.value, ← c.aligned-place.ensures) at h in
    let s = ap size c.requires.record in
    omega (arith, k, fields-fit fs, s, c.size_of-size.ensures, c.size_of.ensures.value)

pub loop-index-preserved : goal.loop-index-preserved
loop-index-preserved c =
    let fs = record_fields (closed_type c.args.self.now.types.now c.args.ty) in
    let u = closed_type c.args.self.now.types.now c.in-Some.member in
    let found = sym c.in-Some.ensures.found in
    let i = c.loop-index.index in
    let leaf = c.in_ok-leaf.ensures in
    let s : Step = record { leaf = c.in_ok-leaf.leaf; place = c.aligned-place.result } in
    let place : c.aligned-place.result ≡ next_multiple_of c.loop-index.end (align u) = c.aligned-place.ensures ∙ ap (next_multiple_of c.loop-index.end) c.align_of.ensures.value in
    rw (c.size_of.ensures.value, c.push.ensures.items) (
      λ ss more. subst (AreSteps fs 0) (sym (append_assoc c.loop-index.steps.items (s ∷ []) ss)) (c.loop-index.invariant.0 (s ∷ ss) (step-more fs i c.loop-index.end u s found leaf.0 leaf.1 place ss more)),
      omega (arith, length-append c.loop-index.steps.items (s ∷ []), c.loop-index.invariant.1),
      rw place (sym (fields-end fs c.loop-index.end i u found) ∙ c.loop-index.invariant.2),
    )

pub returns : goal.returns
returns c =
    let fs = record_fields (closed_type c.args.self.now.types.now c.args.ty) in
    subst (AreSteps fs 0) (append-nil c.loop-index.steps.items) (c.loop-index.invariant.0 [] (step-none fs c.loop-index.index c.loop-index.end (omega (arith, c.requires.counted, c.loop-index-test.false))))
