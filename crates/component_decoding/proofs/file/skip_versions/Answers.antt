use Rattle.std.proofs.Common.{◌∙◌}
use Rattle.std.proofs.lemmas.Result.{err_from_is_err_and}
use Rattle.component_decoding.specs.File.{version}
use Rattle.component_structure.proofs.Loops.{goes_on, ends, is_done}
use Rattle.component_decoding.proofs.file.skip_versions.Goals as goal

pub returns-in_err-skip_version-clause-reads : goal.returns-in_err-skip_version-clause-reads
returns-in_err-skip_version-clause-reads c =
    let p = err_from_is_err_and c.from_residual.result c.from_residual.ensures.1 in
    rw (p.1, p.2) (ends (version c.args.reader.now.end) c.in_err-skip_version.field-0.0 c.args.count c.loop.counter 0 c.loop.reader.rest.now _ c.loop-test.true (rw c.loop.invariant.whole at c.in_err-skip_version.ensures.reads) c.loop.invariant.so_far)

pub loop-preserved : goal.loop-preserved
loop-preserved c = record {
  whole = c.in_ok-skip_version.ensures.whole ∙ c.loop.invariant.whole;
  so_far = goes_on (version c.args.reader.now.end) c.args.count c.loop.counter 0 c.loop.reader.rest.now (0, c.skip_version.new.reader.rest.now) _ c.loop-test.true (rw c.loop.invariant.whole at c.in_ok-skip_version.ensures.reads) c.loop.invariant.so_far;
}

pub returns-clause-reads : goal.returns-clause-reads
returns-clause-reads c = is_done (version c.args.reader.now.end) c.args.count c.loop.counter 0 c.loop.reader.rest.now _ c.loop-test.false c.loop.invariant.so_far
