use Rattle.std.proofs.lemmas.Result.{err_from_is_err_and}
use Rattle.ctype_format.specs.Grammar.{label}
use Rattle.ctype_bin.proofs.ReadsExactly.ItemLoops.{goes_on, ends, is_done}
use Rattle.ctype_bin.proofs.defined.labels_of.Goals as goal

pub returns-in_err-label : goal.returns-in_err-label
returns-in_err-label c =
    let p = err_from_is_err_and c.from_residual.result c.from_residual.ensures.1 in
    rw (p.1, p.2) (ends label c.in_err-label.field-0.0 c.loop.labels.items c.args.count c.loop.counter c.loop.rest.now _ c.loop-test.true c.in_err-label.ensures c.loop.invariant)

pub loop-preserved : goal.loop-preserved
loop-preserved c =
    rw c.in_ok-push.ensures.items (goes_on label c.loop.labels.items c.args.count c.loop.counter c.loop.rest.now (c.in_ok-label.label, c.in_ok-label.behind.now) _ c.loop-test.true c.in_ok-label.ensures c.loop.invariant)

pub returns : goal.returns
returns c = is_done label c.loop.labels.items c.args.count c.loop.counter c.loop.rest.now _ c.loop-test.false c.loop.invariant
