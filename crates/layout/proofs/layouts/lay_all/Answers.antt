use Rattle.std.proofs.Common.{◌≡◌, ◌+◌, [], length, take, get_or, refl, ap, sym, ◌∙◌, arith}
use Rattle.std.proofs.lemmas.List.{take_all}
use Rattle.std.proofs.lemmas.List.Sums.{sum_by_more}
use Rattle.std.proofs.lemmas.Result.{err_from_is_err_and}
use Rattle.canonical_abi.specs.Layout.{extent_of}
use Rattle.tables.specs.Closed.{closed_type}
use Rattle.tables.specs.declared.tables.Definition.{Definition}
use Rattle.layout.specs.Work.{laid_in, laid_work}
use Rattle.layout.specs.Parts.{definition_parts, parts_from}
use Rattle.layout.specs.Rows.{extent_at, definition_row}
use Rattle.layout.proofs.RowsSoFar.{length-rows, next-below, refuses-first, all-within, all-rows}
use Rattle.layout.proofs.LaidSoFar.{laid-none, laid-more, length-laid}
use Rattle.layout.proofs.layouts.lay_all.Goals as goal

pub loop-definition-init : goal.loop-definition-init
loop-definition-init c = record {
  laid = rw (c.in_ok-rows.ensures.items, c.in_ok-parts.ensures.ok) (laid-none c.args.resolve.now);
  steps_are = omega (arith, c.args.steps.now.fits);
}

pub lay_definition-requires-clause-below : goal.lay_definition-requires-clause-below
lay_definition-requires-clause-below c =
    let count = ap length c.as_slice-definition-items.ensures in
    next-below c.args.resolve.now c.loop-definition.definition-index c.loop-definition.rows.items c.definition-item.result (omega arith) (cc) c.loop-definition.invariant.laid.so_far

pub lay_definition-requires-clause-same : goal.lay_definition-requires-clause-same
lay_definition-requires-clause-same c =
    let count = ap length c.as_slice-definition-items.ensures in
    let rows = length-rows c.args.resolve.now c.loop-definition.definition-index c.loop-definition.rows.items (omega arith) c.loop-definition.invariant.laid.so_far in
    let parts = length-laid c.args.resolve.now c.loop-definition.definition-index c.loop-definition.rows.items c.loop-definition.parts (omega arith) c.loop-definition.invariant.laid in
    parts ∙ sym rows

pub lay_definition-requires-clause-sound : goal.lay_definition-requires-clause-sound
lay_definition-requires-clause-sound c = c.loop-definition.invariant.laid.so_far.sound

pub returns-in_err-lay_definition-clause-err : goal.returns-in_err-lay_definition-clause-err
returns-in_err-lay_definition-clause-err c =
    let count = ap length c.as_slice-definition-items.ensures in
    let refused = c.in_err-lay_definition.ensures.err in
    let p = err_from_is_err_and c.from_residual-in_err-lay_definition.result c.from_residual-in_err-lay_definition.ensures.1 in
    rw (p.1, p.2) (refuses-first c.args.resolve.now c.loop-definition.definition-index c.loop-definition.rows.items c.definition-item.result (omega arith) (cc) c.loop-definition.invariant.laid.so_far _ refused)

pub loop-definition-preserved : goal.loop-definition-preserved
loop-definition-preserved c =
    let count = ap length c.as_slice-definition-items.ensures in
    let made = c.in_ok-lay_definition.ensures in
    let items = c.as_slice-definition-items.result.now in
    let i = c.loop-definition.definition-index in
    let d = c.definition-item.result in
    let is : get_or items i d ≡ d = cc in
    let more : laid_work (take (i + 1) items) ≡ laid_work (take i items) + (1 + laid_in d) =
    rw is at (sum_by_more (λ (e : Definition). 1 + laid_in e) items i d (omega arith)) in
    record {
      laid = laid-more c.args.resolve.now i c.loop-definition.rows.items c.loop-definition.parts d (omega arith) (cc) c.loop-definition.invariant.laid
          (definition_row c.loop-definition.rows.items d) (definition_parts (extent_at c.loop-definition.rows.items) c.loop-definition.parts d) _ _ refl refl made.sound made.within made.row made.parts;
      steps_are = omega (arith, more, made.steps, c.loop-definition.invariant.steps_are);
    }

pub returns-clause-within : goal.returns-clause-within
returns-clause-within c =
    let count = ap length c.as_slice-definition-items.ensures in
    all-within c.args.resolve.now c.loop-definition.definition-index c.loop-definition.rows.items (omega arith) c.loop-definition.invariant.laid.so_far

pub returns-clause-rows : goal.returns-clause-rows
returns-clause-rows c =
    let count = ap length c.as_slice-definition-items.ensures in
    all-rows c.args.resolve.now c.loop-definition.definition-index c.loop-definition.rows.items (omega arith) c.loop-definition.invariant.laid.so_far

pub returns-clause-parts : goal.returns-clause-parts
returns-clause-parts c =
    let r = c.args.resolve.now in
    let count = ap length c.as_slice-definition-items.ensures in
    c.loop-definition.invariant.laid.parts_are ∙ ap (parts_from (λ v. extent_of (closed_type r v)) []) (take_all c.loop-definition.definition-index r.definitions (omega arith))

pub returns-clause-ended : goal.returns-clause-ended
returns-clause-ended c = c.loop-definition.invariant.laid.ended

pub returns-clause-sound : goal.returns-clause-sound
returns-clause-sound c = c.loop-definition.invariant.laid.so_far.sound
