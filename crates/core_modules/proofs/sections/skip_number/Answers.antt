use Rattle.std.proofs.Common.{◌∙◌}
use Rattle.std.proofs.lemmas.Result.{err_from_is_err_and}
use Rattle.core_modules.proofs.LongNumbers.{goes_on, ends, stops, is_over}
use Rattle.core_modules.proofs.sections.skip_number.Goals as goal

pub returns-in_err-byte-clause-reads : goal.returns-in_err-byte-clause-reads
returns-in_err-byte-clause-reads c =
    let p = err_from_is_err_and c.from_residual.result c.from_residual.ensures.1 in
    let so_far = rw c.place-place.ensures at c.loop.invariant.so_far in
    rw (p.1, p.2) (stops c.in_err-byte.field-0.0 10 c.loop.counter _ c.args.reader.now.end c.loop.reader.rest.now _ c.loop-test.true (rw c.loop.invariant.whole at c.in_err-byte.ensures.reads) so_far)

pub returns-then-branch-lt128-clause-reads : goal.returns-then-branch-lt128-clause-reads
returns-then-branch-lt128-clause-reads c =
    let so_far = rw c.place-place.ensures at c.loop.invariant.so_far in
    ends 10 c.loop.counter _ c.args.reader.now.end c.in_ok-byte.field-0 c.loop.reader.rest.now c.byte.new.self.rest.now _ c.loop-test.true c.if-branch-lt128.true (rw c.loop.invariant.whole at c.in_ok-byte.ensures.reads) so_far

pub loop-preserved : goal.loop-preserved
loop-preserved c = record {
  whole = c.in_ok-byte.ensures.whole ∙ c.loop.invariant.whole;
  so_far = goes_on 10 c.loop.counter c.place-place.result c.args.reader.now.end c.in_ok-byte.field-0 c.loop.reader.rest.now c.byte.new.self.rest.now _ c.loop-test.true c.if-branch-lt128.false (rw c.loop.invariant.whole at c.in_ok-byte.ensures.reads) c.loop.invariant.so_far;
}

pub returns-clause-reads : goal.returns-clause-reads
returns-clause-reads c =
    let so_far = rw c.place-place.ensures at c.loop.invariant.so_far in
    rw c.place-place.ensures (is_over 10 c.loop.counter _ c.args.reader.now.end c.loop.reader.rest.now _ c.loop-test.false so_far)
