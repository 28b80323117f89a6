use Rattle.std.proofs.lemmas.Result.{err_from_is_err_and}
use Rattle.ctype_format.specs.File.{max_length}
use Rattle.ctype_bin.proofs.ReadsExactly.CustomSections.{trailing_ends, trailing_skips, trailing_stops, none_trails}
use Rattle.ctype_bin.proofs.sections.trailing_of.Goals as goal

pub returns-in_err-more : goal.returns-in_err-more
returns-in_err-more c =
    let p = err_from_is_err_and c.from_residual.result c.from_residual.ensures.1 in
    rw (p.1, p.2) (trailing_stops max_length c.loop.counter c.loop.rest.now _ c.loop.invariant c.in_err-more.field-0.0 c.loop-test.true c.in_err-more.ensures)

pub returns : goal.returns
returns c = none_trails max_length c.loop.counter c.loop.rest.now _ c.loop.invariant c.loop-test.false

pub returns-then-not-more : goal.returns-then-not-more
returns-then-not-more c = rw (trailing_ends max_length c.loop.counter c.loop.rest.now _ c.loop.invariant c.in_ok-more.behind.now c.loop-test.true (rw c.if-not-more.true at c.in_ok-more.ensures)) c.ended.ensures

pub loop-preserved : goal.loop-preserved
loop-preserved c = trailing_skips max_length c.loop.counter c.loop.rest.now _ c.loop.invariant 0 c.in_ok-more.behind.now c.loop-test.true (rw c.if-not-more.false at c.in_ok-more.ensures)
