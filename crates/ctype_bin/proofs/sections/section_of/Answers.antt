use Rattle.std.proofs.lemmas.Result.{err_from_is_err_and}
use Rattle.ctype_format.specs.File.{max_length}
use Rattle.ctype_bin.proofs.ReadsExactly.CustomSections.{head_skips, head_found, head_stops, none_found}
use Rattle.ctype_bin.proofs.sections.section_of.Goals as goal

pub returns-in_err-size : goal.returns-in_err-size
returns-in_err-size c =
    let p = err_from_is_err_and c.from_residual.result c.from_residual.ensures.1 in
    rw (p.1, p.2) (head_stops c.args.id max_length c.loop.counter c.loop.rest.now _ c.loop.invariant c.in_err-size.field-0.0 c.loop-test.true c.in_err-size.ensures)

pub returns-in-Some : goal.returns-in-Some
returns-in-Some c = head_found c.args.id max_length c.loop.counter c.loop.rest.now _ c.loop.invariant c.in-Some.size c.in_ok-size.behind.now c.loop-test.true (rw c.in-Some.is at c.in_ok-size.ensures)

pub loop-preserved : goal.loop-preserved
loop-preserved c = head_skips c.args.id max_length c.loop.counter c.loop.rest.now _ c.loop.invariant c.in_ok-size.behind.now c.loop-test.true (rw c.in_default.is at c.in_ok-size.ensures)

pub returns : goal.returns
returns c = none_found c.args.id max_length c.loop.counter c.loop.rest.now _ c.loop.invariant c.loop-test.false
