use Rattle.std.proofs.Common.{◌≡◌, refl, [], arith, length, ap, ◌∙◌, sym}
use Rattle.std.proofs.lemmas.List.{length-map}
use Rattle.canonical_abi.specs.Layout.{extent_of}
use Rattle.tables.specs.Closed.{closed_types, closed_type}
use Rattle.layout.specs.Layout.{result_of}
use Rattle.layout.specs.Work.{saturated, total_work}
use Rattle.layout.proofs.StepsSumOverDefinitions.{work-split}
use Rattle.layout.proofs.MeasuresAgree.{length-parts}
use Rattle.layout.proofs.RowsSoFar.{length-table}
use Rattle.layout.proofs.layouts.Layouts.of.Goals as goal

pub invariant_of-result : goal.invariant_of-result
invariant_of-result c =
    let r = c.args.resolve.now in
    let tables = c.in_ok-tables.tables in
    let rows = length-table r tables.rows.items c.in_ok-tables.ensures.rows in (
      c.in_ok-tables.ensures.sound,
      ap length c.in_ok-results.ensures.ok ∙ length-map r.definitions (result_of (closed_types r)) ∙ sym rows,
      ap length c.in_ok-tables.ensures.parts ∙ length-parts (λ v. extent_of (closed_type r v)) [] r.definitions ∙ omega (arith, rows),
      c.in_ok-tables.ensures.ended,
    )

pub returns-clause-ok : goal.returns-clause-ok
returns-clause-ok c =
    let r = c.args.resolve.now in
    let work : c.all_results.new.steps.count ≡ saturated (total_work r.definitions) =
    omega (arith, work-split r.definitions, c.in_ok-tables.ensures.steps, c.in_ok-results.ensures.steps) in
    rw (c.in_ok-tables.ensures.rows, c.in_ok-results.ensures.ok, c.in_ok-tables.ensures.parts, work) refl
