use Rattle.std.proofs.Common.{refl, ◌∙◌}
use Rattle.std.proofs.lemmas.Result.{err_from_is_err_and}
use Rattle.component_structure.specs.Types.{field}
use Rattle.component_structure.proofs.Loops.{goes_on, ends, is_done, refused_first}
use Rattle.component_structure.proofs.types.Types.fields.Goals as goal

pub returns-in_err-field-clause-reads : goal.returns-in_err-field-clause-reads
returns-in_err-field-clause-reads c =
    let p = err_from_is_err_and c.from_residual.result c.from_residual.ensures.1 in
    rw (p.1, p.2) (refused_first c.in_err-field.field-0.0 _ _ (ends (field c.args.reader.now.end c.args.self.now.scope.now.types.items) c.in_err-field.field-0.0 c.args.count c.loop.counter (c.loop.names, c.loop.fields.items) c.loop.reader.rest.now _ c.loop-test.true (rw c.loop.invariant.whole at c.in_err-field.ensures.reads) c.loop.invariant.so_far))

pub loop-preserved : goal.loop-preserved
loop-preserved c = record {
  whole = c.in_ok-field.ensures.whole ∙ c.loop.invariant.whole;
  so_far = goes_on (field c.args.reader.now.end c.args.self.now.scope.now.types.items) c.args.count c.loop.counter (c.loop.names, c.loop.fields.items) c.loop.reader.rest.now ((c.field.new.names, c.field.new.fields.items), c.field.new.reader.rest.now) _ c.loop-test.true (rw c.loop.invariant.whole at c.in_ok-field.ensures.reads) c.loop.invariant.so_far;
}

pub returns-clause-reads : goal.returns-clause-reads
returns-clause-reads c = rw (is_done (field c.args.reader.now.end c.args.self.now.scope.now.types.items) c.args.count c.loop.counter (c.loop.names, c.loop.fields.items) c.loop.reader.rest.now _ c.loop-test.false c.loop.invariant.so_far) refl
