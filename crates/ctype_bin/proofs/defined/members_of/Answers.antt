use Rattle.std.proofs.lemmas.Result.{err_from_is_err_and}
use Rattle.ctype_format.specs.Grammar.{valtype}
use Rattle.ctype_bin.proofs.ReadsExactly.ItemLoops.{goes_on, ends, is_done}
use Rattle.ctype_bin.proofs.defined.members_of.Goals as goal

pub returns-in_err-member : goal.returns-in_err-member
returns-in_err-member c =
    let p = err_from_is_err_and c.from_residual.result c.from_residual.ensures.1 in
    rw (p.1, p.2) (ends (valtype c.args.types) c.in_err-member.field-0.0 c.loop.members.items c.args.count c.loop.counter c.loop.rest.now _ c.loop-test.true c.in_err-member.ensures c.loop.invariant)

pub loop-preserved : goal.loop-preserved
loop-preserved c =
    rw c.in_ok-push.ensures.items (goes_on (valtype c.args.types) c.loop.members.items c.args.count c.loop.counter c.loop.rest.now (c.in_ok-member.member, c.in_ok-member.behind.now) _ c.loop-test.true c.in_ok-member.ensures c.loop.invariant)

pub returns : goal.returns
returns c = is_done (valtype c.args.types) c.loop.members.items c.args.count c.loop.counter c.loop.rest.now _ c.loop-test.false c.loop.invariant
