use Rattle.std.proofs.Common.{refl, ◌∙◌}
use Rattle.std.proofs.lemmas.Result.{err_from_is_err_and}
use Rattle.component_structure.specs.Types.{member_label}
use Rattle.component_structure.proofs.Loops.{goes_on, ends, is_done, refused_first}
use Rattle.component_structure.proofs.types.labels.Goals as goal

pub returns-in_err-label-clause-reads : goal.returns-in_err-label-clause-reads
returns-in_err-label-clause-reads c =
    let p = err_from_is_err_and c.from_residual.result c.from_residual.ensures.1 in
    rw (p.1, p.2) (refused_first c.in_err-label.field-0.0 _ _ (ends (member_label c.args.reader.now.end) c.in_err-label.field-0.0 c.args.count c.loop.counter (c.loop.names, c.loop.labels.items) c.loop.reader.rest.now _ c.loop-test.true (rw c.loop.invariant.whole at c.in_err-label.ensures.reads) c.loop.invariant.so_far))

pub loop-preserved : goal.loop-preserved
loop-preserved c = record {
  whole = c.in_ok-label.ensures.whole ∙ c.loop.invariant.whole;
  so_far = goes_on (member_label c.args.reader.now.end) c.args.count c.loop.counter (c.loop.names, c.loop.labels.items) c.loop.reader.rest.now ((c.label.new.names, c.label.new.labels.items), c.label.new.reader.rest.now) _ c.loop-test.true (rw c.loop.invariant.whole at c.in_ok-label.ensures.reads) c.loop.invariant.so_far;
}

pub returns-clause-reads : goal.returns-clause-reads
returns-clause-reads c = rw (is_done (member_label c.args.reader.now.end) c.args.count c.loop.counter (c.loop.names, c.loop.labels.items) c.loop.reader.rest.now _ c.loop-test.false c.loop.invariant.so_far) refl
