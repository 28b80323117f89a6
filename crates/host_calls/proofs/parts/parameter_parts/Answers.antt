-- A function's row is the record of its parameters.
use Rattle.std.proofs.Common.{◌≡◌, ◌<◌, length, take, refl, ap, ◌∙◌, subst, arith}
use Rattle.std.proofs.lemmas.List.{take_all, drop-set-lt}
use Rattle.canonical_abi.specs.Types.{record_fields}
use Rattle.canonical_abi.specs.Layout.{field_extents, field_places}
use Rattle.tables.specs.Closed.{function_type}
use Rattle.adapter.proofs.FunctionsInLayouts.{params-row, params-inside}
use Rattle.host_calls.specs.Parts.{extent_of_part}
use Rattle.host_calls.specs.declared.error.CallError.TheVariants.{NoRoom}
use Rattle.host_calls.proofs.FieldsAsLists.{params-count, places-count, told-more}
use Rattle.host_calls.proofs.parts.parameter_parts.Goals as goal

pub returns-then-out-count : goal.returns-then-out-count
returns-then-out-count c =
    let count = c.len-count.ensures ∙ params-count c.args.types.now c.args.func c.requires.function c.signature.result.now (rw c.resolve.ensures at c.signature.ensures) in
    (ap NoRoom count, subst (λ n. length c.args.out.now < n) count c.if-out-count.true, refl)

pub loop-place-init : goal.loop-place-init
loop-place-init c = (refl, refl, refl)

pub part_at-requires-clause-inside : goal.part_at-requires-clause-inside
part_at-requires-clause-inside c = params-inside c.args.types.now c.args.func c.requires.function _ refl

pub part_at-requires-clause-place : goal.part_at-requires-clause-place
part_at-requires-clause-place c =
    let r = c.args.types.now in
    let count = c.len-count.ensures ∙ params-count r c.args.func c.requires.function c.signature.result.now (rw c.resolve.ensures at c.signature.ensures) in
    omega (arith, c.loop-place-test.true, count, ap (λ t. length (field_extents (record_fields t))) (params-row r c.args.func c.requires.function _ refl))

pub loop-place-preserved : goal.loop-place-preserved
loop-place-preserved c =
    let below : c.loop-place.place < length c.loop-place.out = omega (arith, c.loop-place-test.true, c.if-out-count.false, c.loop-place.auto.out) in (
      told-more extent_of_part c.loop-place.out _ c.loop-place.place c.part_at.result below c.loop-place.invariant.0 c.part_at.ensures.extent,
      told-more (λ p. p.offset) c.loop-place.out _ c.loop-place.place c.part_at.result below c.loop-place.invariant.1 c.part_at.ensures.offset,
      drop-set-lt c.len-count.result c.loop-place.out c.loop-place.place c.part_at.result c.loop-place-test.true ∙ c.loop-place.invariant.2,
    )

pub returns : goal.returns
returns c =
    let r = c.args.types.now in
    let fs = (function_type r c.args.func).params in
    let row = params-row r c.args.func c.requires.function _ refl in
    let count = c.len-count.ensures ∙ params-count r c.args.func c.requires.function c.signature.result.now (rw c.resolve.ensures at c.signature.ensures) in
    let all : c.loop-place.place ≡ c.len-count.result = omega (arith, c.loop-place-test.false, c.loop-place.auto.place-end) in
    let places = places-count 0 (field_extents fs) in
    record {
      counted = count;
      extents = rw all at c.loop-place.invariant.0 ∙ ap (λ t. take c.len-count.result (field_extents (record_fields t))) row ∙ take_all c.len-count.result (field_extents fs) (omega (arith, count));
      places = rw all at c.loop-place.invariant.1 ∙ ap (λ t. take c.len-count.result (field_places (record_fields t))) row ∙ take_all c.len-count.result (field_places fs) (omega (arith, count, places));
      rest = c.loop-place.invariant.2;
    }
