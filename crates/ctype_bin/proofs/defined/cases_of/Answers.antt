use Rattle.std.proofs.lemmas.Result.{err_from_is_err_and}
use Rattle.ctype_format.specs.Grammar.{case}
use Rattle.ctype_bin.proofs.ReadsExactly.ItemLoops.{goes_on, ends, is_done}
use Rattle.ctype_bin.proofs.defined.cases_of.Goals as goal

pub returns-in_err-case : goal.returns-in_err-case
returns-in_err-case c =
    let p = err_from_is_err_and c.from_residual.result c.from_residual.ensures.1 in
    rw (p.1, p.2) (ends (case c.args.types) c.in_err-case.field-0.0 c.loop.cases.items c.args.count c.loop.counter c.loop.rest.now _ c.loop-test.true c.in_err-case.ensures c.loop.invariant)

pub loop-preserved : goal.loop-preserved
loop-preserved c =
    rw c.in_ok-push.ensures.items (goes_on (case c.args.types) c.loop.cases.items c.args.count c.loop.counter c.loop.rest.now (c.in_ok-case.case, c.in_ok-case.behind.now) _ c.loop-test.true c.in_ok-case.ensures c.loop.invariant)

pub returns : goal.returns
returns c = is_done (case c.args.types) c.loop.cases.items c.args.count c.loop.counter c.loop.rest.now _ c.loop-test.false c.loop.invariant
