use Rattle.std.proofs.Common.{◌∙◌}
use Rattle.std.proofs.lemmas.Result.{err_from_is_err_and}
use Rattle.component_structure.specs.Types.{member}
use Rattle.component_structure.proofs.Loops.{goes_on, ends, is_done}
use Rattle.component_structure.proofs.types.Types.members.Goals as goal

pub returns-in_err-member-clause-reads : goal.returns-in_err-member-clause-reads
returns-in_err-member-clause-reads c =
    let p = err_from_is_err_and c.from_residual.result c.from_residual.ensures.1 in
    rw (p.1, p.2) (ends (member c.args.reader.now.end c.args.self.now.scope.now.types.items) c.in_err-member.field-0.0 c.args.count c.loop.counter c.loop.members.items c.loop.reader.rest.now _ c.loop-test.true (rw c.loop.invariant.whole at c.in_err-member.ensures.reads) c.loop.invariant.so_far)

pub loop-preserved : goal.loop-preserved
loop-preserved c = record {
  whole = c.in_ok-member.ensures.whole ∙ c.loop.invariant.whole;
  so_far = goes_on (member c.args.reader.now.end c.args.self.now.scope.now.types.items) c.args.count c.loop.counter c.loop.members.items c.loop.reader.rest.now (c.member.new.members.items, c.member.new.reader.rest.now) _ c.loop-test.true (rw c.loop.invariant.whole at c.in_ok-member.ensures.reads) c.loop.invariant.so_far;
}

pub returns-clause-reads : goal.returns-clause-reads
returns-clause-reads c = is_done (member c.args.reader.now.end c.args.self.now.scope.now.types.items) c.args.count c.loop.counter c.loop.members.items c.loop.reader.rest.now _ c.loop-test.false c.loop.invariant.so_far
