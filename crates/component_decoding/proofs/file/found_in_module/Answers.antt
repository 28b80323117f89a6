use Rattle.std.proofs.Common.{◌≡◌, ◌<◌, ◌≤◌, false, length, sym, ap, ◌∙◌, arith}
use Rattle.std.specs.Prelude.{◌==◌}
use Rattle.std.specs.Option.{option_map}
use Rattle.std.proofs.lemmas.Result.{err_from_is_err_and}
use Rattle.component_decoding.specs.File.{content_view, more_module}
use Rattle.component_structure.proofs.Loops.{goes_on, ends, is_done}
use Rattle.component_structure.proofs.Loops.{is_at_end, left_reads}
use Rattle.component_decoding.proofs.file.found_in_module.Goals as goal
use Rattle.component_decoding.proofs.file.found_in_module.Goals.{else-loop-test, then-loop-test+then-is_empty}
use Rattle.component_structure.specs.Bytes.{if_left}

pub loop-preserved : goal.loop-preserved
loop-preserved c =
    let left : (length c.loop.left.rest.now == 0) ≡ false = sym c.is_empty.ensures ∙ c.if-is_empty.false in
    let n = ap length c.rest-end.ensures in
    let more : c.loop.counter < length c.args.reader.rest.now = omega (arith, c.loop-test.true, n) in
    record {
      whole = c.in_ok-found.ensures.whole ∙ c.loop.invariant.whole;
      so_far = goes_on (if_left (more_module c.args.reader.end)) (length c.args.reader.rest.now) c.loop.counter (option_map content_view c.loop.found) c.loop.left.rest.now (option_map content_view c.in_ok-found.found, c.more_module.new.reader.rest.now) _ more (left_reads (more_module c.args.reader.end) (option_map content_view c.loop.found) c.loop.left.rest.now left ∙ (rw c.loop.invariant.whole at c.in_ok-found.ensures.reads)) c.loop.invariant.so_far;
    }

pub returns-in_err-found-clause-reads : goal.returns-in_err-found-clause-reads
returns-in_err-found-clause-reads c =
    let p = err_from_is_err_and c.from_residual.result c.from_residual.ensures.1 in
    let left : (length c.loop.left.rest.now == 0) ≡ false = sym c.is_empty.ensures ∙ c.if-is_empty.false in
    let n = ap length c.rest-end.ensures in
    let more : c.loop.counter < length c.args.reader.rest.now = omega (arith, c.loop-test.true, n) in
    let reads = rw c.loop.invariant.whole at c.in_err-found.ensures.reads in
    rw (p.1, p.2) (ends (if_left (more_module c.args.reader.end)) c.in_err-found.field-0.0 (length c.args.reader.rest.now) c.loop.counter (option_map content_view c.loop.found) c.loop.left.rest.now _ more (rw (left_reads (more_module c.args.reader.end) (option_map content_view c.loop.found) c.loop.left.rest.now left) reads) c.loop.invariant.so_far)

pub returns-clause-reads : goal.returns-clause-reads
returns-clause-reads c =
    let n = ap length c.rest-end.ensures in
    elim c.loop-test.branch [
      | else-loop-test w ↦
          let past : length c.args.reader.rest.now ≤ c.loop.counter = omega (arith, w.loop-test.false, n) in
          is_done (if_left (more_module c.args.reader.end)) (length c.args.reader.rest.now) c.loop.counter (option_map content_view c.loop.found) c.loop.left.rest.now _ past c.loop.invariant.so_far
      | then-loop-test+then-is_empty w ↦
          is_at_end (more_module c.args.reader.end) _ (option_map content_view c.loop.found) c.loop.left.rest.now _ (sym w.is_empty.ensures ∙ w.if-is_empty.true) c.loop.invariant.so_far
    ]
