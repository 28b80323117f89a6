use Rattle.std.proofs.Common.{◌≡◌, ◌<◌, ◌≤◌, false, length, refl, sym, ap, ◌∙◌, arith}
use Rattle.std.specs.Prelude.{◌==◌}
use Rattle.std.proofs.lemmas.Result.{err_from_is_err_and}
use Rattle.core_modules.specs.Sections.{reader_view, section}
use Rattle.component_structure.proofs.Loops.{goes_on, ends, is_done, refused_first}
use Rattle.component_structure.proofs.Loops.{is_at_end, left_reads}
use Rattle.core_modules.proofs.sections.sections.Goals as goal
use Rattle.core_modules.proofs.sections.sections.Goals.{else-loop-test, then-loop-test+then-is_empty}
use Rattle.component_structure.specs.Bytes.{if_left}

pub loop-preserved : goal.loop-preserved
loop-preserved c =
    let left : (length c.loop.left.rest.now == 0) ≡ false = sym c.is_empty.ensures ∙ c.if-is_empty.false in
    let n = ap length c.rest-end.ensures in
    let more : c.loop.counter < length c.args.reader.rest.now = omega (arith, c.loop-test.true, n) in
    record {
      whole = c.in_ok-section.ensures.whole ∙ c.loop.invariant.whole;
      so_far = goes_on (if_left (section c.args.reader.end)) (length c.args.reader.rest.now) c.loop.counter (reader_view c.loop.module) c.loop.left.rest.now (reader_view c.section.new.self, c.section.new.reader.rest.now) _ more (left_reads (section c.args.reader.end) (reader_view c.loop.module) c.loop.left.rest.now left ∙ (rw c.loop.invariant.whole at c.in_ok-section.ensures.reads)) c.loop.invariant.so_far;
    }

pub returns-in_err-section : goal.returns-in_err-section
returns-in_err-section c =
    let p = err_from_is_err_and c.from_residual.result c.from_residual.ensures.1 in
    let left : (length c.loop.left.rest.now == 0) ≡ false = sym c.is_empty.ensures ∙ c.if-is_empty.false in
    let n = ap length c.rest-end.ensures in
    let more : c.loop.counter < length c.args.reader.rest.now = omega (arith, c.loop-test.true, n) in
    let reads = rw c.loop.invariant.whole at c.in_err-section.ensures.reads in
    rw (p.1, p.2) (refused_first c.in_err-section.field-0.0 _ _ (ends (if_left (section c.args.reader.end)) c.in_err-section.field-0.0 (length c.args.reader.rest.now) c.loop.counter (reader_view c.loop.module) c.loop.left.rest.now _ more (rw (left_reads (section c.args.reader.end) (reader_view c.loop.module) c.loop.left.rest.now left) reads) c.loop.invariant.so_far))

pub returns : goal.returns
returns c =
    let n = ap length c.rest-end.ensures in
    elim c.loop-test.branch [
      | else-loop-test w ↦
          let past : length c.args.reader.rest.now ≤ c.loop.counter = omega (arith, w.loop-test.false, n) in
          rw (is_done (if_left (section c.args.reader.end)) (length c.args.reader.rest.now) c.loop.counter (reader_view c.loop.module) c.loop.left.rest.now _ past c.loop.invariant.so_far) refl
      | then-loop-test+then-is_empty w ↦ rw (is_at_end (section c.args.reader.end) _ (reader_view c.loop.module) c.loop.left.rest.now _ (sym w.is_empty.ensures ∙ w.if-is_empty.true) c.loop.invariant.so_far) refl
    ]
