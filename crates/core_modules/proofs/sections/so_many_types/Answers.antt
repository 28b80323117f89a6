use Rattle.std.proofs.Common.{◌∙◌}
use Rattle.std.proofs.lemmas.Result.{err_from_is_err_and}
use Rattle.core_modules.specs.Sections.{next_type}
use Rattle.component_structure.proofs.Loops.{goes_on, ends, is_done}
use Rattle.core_modules.proofs.sections.so_many_types.Goals as goal

pub returns-in_err-next_type-clause-reads : goal.returns-in_err-next_type-clause-reads
returns-in_err-next_type-clause-reads c =
    let p = err_from_is_err_and c.from_residual.result c.from_residual.ensures.1 in
    rw (p.1, p.2) (ends (next_type c.args.reader.now.end) c.in_err-next_type.field-0.0 c.args.count c.loop.counter c.loop.types.items c.loop.reader.rest.now _ c.loop-test.true (rw c.loop.invariant.whole at c.in_err-next_type.ensures.reads) c.loop.invariant.so_far)

pub loop-preserved : goal.loop-preserved
loop-preserved c = record {
  whole = c.in_ok-next_type.ensures.whole ∙ c.loop.invariant.whole;
  so_far = goes_on (next_type c.args.reader.now.end) c.args.count c.loop.counter c.loop.types.items c.loop.reader.rest.now (c.next_type.new.types.items, c.next_type.new.reader.rest.now) _ c.loop-test.true (rw c.loop.invariant.whole at c.in_ok-next_type.ensures.reads) c.loop.invariant.so_far;
}

pub returns-clause-reads : goal.returns-clause-reads
returns-clause-reads c = is_done (next_type c.args.reader.now.end) c.args.count c.loop.counter c.loop.types.items c.loop.reader.rest.now _ c.loop-test.false c.loop.invariant.so_far
