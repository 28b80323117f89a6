use Rattle.std.proofs.lemmas.Result.{err_from_is_err_and}
use Rattle.ctype_format.specs.Grammar.{field}
use Rattle.ctype_bin.proofs.ReadsExactly.ItemLoops.{goes_on, ends, is_done}
use Rattle.ctype_bin.proofs.defined.fields_of.Goals as goal

pub returns-in_err-field : goal.returns-in_err-field
returns-in_err-field c =
    let p = err_from_is_err_and c.from_residual.result c.from_residual.ensures.1 in
    rw (p.1, p.2) (ends (field c.args.types) c.in_err-field.field-0.0 c.loop.fields.items c.args.count c.loop.counter c.loop.rest.now _ c.loop-test.true c.in_err-field.ensures c.loop.invariant)

pub loop-preserved : goal.loop-preserved
loop-preserved c =
    rw c.in_ok-push.ensures.items (goes_on (field c.args.types) c.loop.fields.items c.args.count c.loop.counter c.loop.rest.now (c.in_ok-field.field, c.in_ok-field.behind.now) _ c.loop-test.true c.in_ok-field.ensures c.loop.invariant)

pub returns : goal.returns
returns c = is_done (field c.args.types) c.loop.fields.items c.args.count c.loop.counter c.loop.rest.now _ c.loop-test.false c.loop.invariant
