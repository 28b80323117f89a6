use Rattle.std.proofs.Common.{◌≡◌, length, ap, ◌∙◌, subst, arith}
use Rattle.canonical_abi.specs.Guest.{IsLimited}
use Rattle.tables.specs.Closed.{function_type}
use Rattle.adapter.specs.Plain.{ArePlainArguments}
use Rattle.adapter.proofs.PlainValuesCrossAsTheyAre.{arguments-entered}
use Rattle.adapter.proofs.link.Link.enter.Goals as goal

pub returns-clause-entered : goal.returns-clause-entered
returns-clause-entered g c =
    let r = c.args.self.now.resolve in
    let f = function_type r c.args.call.now.func in
    let flats = c.args.call.now.flats.now in
    let callee = g.E.Guest.memory c.args.callee.now in
    let small : IsLimited callee = omega arith in
    let same : c.new.result ≡ r = c.new.ensures ∙ ap (λ l. l.resolve) c.self.view_is in
    let arguments = c.in-Some.arguments.now in
    let plain = subst (λ q. ArePlainArguments (function_type q c.args.call.now.func) flats arguments) same c.in-Some.ensures in
    let counted : c.len.result ≡ length arguments = c.len.ensures.value ∙ ap length c.put.ensures in
    rw c.put.ensures (arguments-entered g.E.Guest.allocates f flats arguments (g.C.Guest.memory c.args.caller.now).bytes callee c.len.result plain counted small)
