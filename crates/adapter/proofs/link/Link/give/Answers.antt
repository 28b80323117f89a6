use Rattle.std.proofs.Common.{◌≡◌, refl, ap, ◌∙◌, subst, arith}
use Rattle.canonical_abi.specs.Guest.{IsLimited}
use Rattle.canonical_abi.specs.Types.{result_fields}
use Rattle.tables.specs.Closed.{function_type}
use Rattle.adapter.specs.Plain.{AreOwn}
use Rattle.adapter.proofs.PlainValuesCrossAsTheyAre.{plain-returned}
use Rattle.adapter.proofs.link.Link.give.Goals as goal

pub returns-then-is_plain_answer-clause-returned : goal.returns-then-is_plain_answer-clause-returned
returns-then-is_plain_answer-clause-returned g c =
    let r = c.args.self.now.resolve in
    let f = function_type r c.args.call.now.func in
    let answer = c.args.answer.now in
    let small : IsLimited (g.C.Guest.memory c.args.caller.now) = omega arith in
    let same : c.new.result ≡ r = c.new.ensures ∙ ap (λ l. l.resolve) c.self.view_is in
    let own = subst (λ q. AreOwn (result_fields (function_type q c.args.call.now.func).result) answer) same (c.is_plain_answer.ensures.own c.if-is_plain_answer.true) in
    rw c.flat_results.ensures (plain-returned g.C.Guest.allocates f c.args.call.now.flats.now answer (g.E.Guest.memory c.args.callee.now).bytes (g.C.Guest.memory c.args.caller.now) _ own (c.is_plain_answer.ensures.few c.if-is_plain_answer.true) refl small)
