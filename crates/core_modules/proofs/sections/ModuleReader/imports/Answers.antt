use Rattle.std.proofs.Common.{◌∙◌}
use Rattle.std.proofs.lemmas.Result.{err_from_is_err_and}
use Rattle.core_modules.specs.Sections.{import_, reader_view}
use Rattle.component_structure.proofs.Loops.{goes_on, ends, is_done}
use Rattle.core_modules.proofs.sections.ModuleReader.imports.Goals as goal

pub returns-in_err-import-clause-reads : goal.returns-in_err-import-clause-reads
returns-in_err-import-clause-reads c =
    let p = err_from_is_err_and c.from_residual.result c.from_residual.ensures.1 in
    rw (p.1, p.2) (ends (import_ c.args.reader.now.end) c.in_err-import.field-0.0 c.args.count c.loop.counter (reader_view c.loop.self) c.loop.reader.rest.now _ c.loop-test.true (rw c.loop.invariant.whole at c.in_err-import.ensures.reads) c.loop.invariant.so_far)

pub loop-preserved : goal.loop-preserved
loop-preserved c = record {
  whole = c.in_ok-import.ensures.whole ∙ c.loop.invariant.whole;
  so_far = goes_on (import_ c.args.reader.now.end) c.args.count c.loop.counter (reader_view c.loop.self) c.loop.reader.rest.now (reader_view c.import.new.self, c.import.new.reader.rest.now) _ c.loop-test.true (rw c.loop.invariant.whole at c.in_ok-import.ensures.reads) c.loop.invariant.so_far;
}

pub returns-clause-reads : goal.returns-clause-reads
returns-clause-reads c = is_done (import_ c.args.reader.now.end) c.args.count c.loop.counter (reader_view c.loop.self) c.loop.reader.rest.now _ c.loop-test.false c.loop.invariant.so_far
