use Rattle.std.proofs.Common.{◌≡◌, ◌≤◌, IfErr, length, sym, ap, ◌∙◌, subst, arith, rules}
use Rattle.canonical_abi.specs.Call.{KindsFit}
use Rattle.canonical_abi.specs.Guest.{IsLimited}
use Rattle.canonical_abi.specs.Halves.{ReturnFails}
use Rattle.canonical_abi.specs.Types.{result_fields}
use Rattle.layout.specs.Layout.{layouts_of}
use Rattle.tables.specs.Closed.{function_type}
use Rattle.adapter.specs.Plain.{AreOwn}
use Rattle.adapter.proofs.FunctionsInLayouts.{function-stands}
use Rattle.adapter.proofs.CallFromItsWays.{ok-anyway, leave-fails}
use Rattle.adapter.proofs.PlainValuesCrossAsTheyAre.{plain-returned}
use Rattle.adapter.proofs.link.Link.leave.Goals as goal

pub takes-requires : goal.takes-requires
takes-requires g c =
    let r = c.args.self.now.resolve in
    let same : c.new.result ≡ r = c.new.ensures ∙ ap (λ l. l.resolve) c.self.view_is in
    function-stands r c.layouts.result.now c.args.call.now.func (c.layouts.ensures ∙ ap layouts_of same) c.requires.function

pub leave_walked-requires : goal.leave_walked-requires
leave_walked-requires g c =
    let r = c.args.self.now.resolve in
    let own : c.self.inside.resolve.now ≡ r = ap (λ l. l.resolve) c.self.view_is in
    let kinds = (c.takes.ensures r (c.layouts.ensures ∙ ap layouts_of (c.new.ensures ∙ own)) c.requires.function).0 c.if-not-takes.false in
    let fit = subst (λ q. KindsFit (function_type q c.args.call.now.func) c.args.call.now.flats.now) (sym own) kinds in
    (search rules, (search rules, (fit, (omega arith, (omega arith, search rules)))))

pub returns-then-not-is_plain_answer-clause-kinds : goal.returns-then-not-is_plain_answer-clause-kinds
returns-then-not-is_plain_answer-clause-kinds g c =
    let r = c.args.self.now.resolve in
    let same : c.new.result ≡ r = c.new.ensures ∙ ap (λ l. l.resolve) c.self.view_is in
    ok-anyway c.leave_walked.result _ ((c.takes.ensures r (c.layouts.ensures ∙ ap layouts_of same) c.requires.function).0 c.if-not-takes.false)

pub returns-then-not-is_plain_answer-clause-fault : goal.returns-then-not-is_plain_answer-clause-fault
returns-then-not-is_plain_answer-clause-fault g c =
    let r = c.args.self.now.resolve in
    let func = c.args.call.now.func in
    let flats = c.args.call.now.flats.now in
    let own : c.self.inside.resolve.now ≡ r = ap (λ l. l.resolve) c.self.view_is in
    let kinds = (c.takes.ensures r (c.layouts.ensures ∙ ap layouts_of (c.new.ensures ∙ own)) c.requires.function).0 c.if-not-takes.false in
    let m = (g.E.Guest.memory c.args.callee.now).bytes in
    let before = g.C.Guest.memory c.args.caller.now in
    let after = g.C.Guest.memory c.leave_walked.new.caller in
    let P : _ → Type 0 = λ q. IfErr c.leave_walked.result (λ fault. ReturnFails g.C.Guest.allocates (function_type q func) flats m c.args.answer.now before fault after c.leave_walked.new.self.back) in
    leave-fails g.C.Guest.allocates (function_type r func) flats m c.args.answer.now before after c.leave_walked.new.self.back kinds c.leave_walked.result (subst P own c.leave_walked.ensures.fault)

pub returns-clause-returned : goal.returns-clause-returned
returns-clause-returned g c =
    let r = c.args.self.now.resolve in
    let f = function_type r c.args.call.now.func in
    let answer = c.args.answer.now in
    let small : IsLimited (g.C.Guest.memory c.args.caller.now) = omega arith in
    let same : c.new.result ≡ r = c.new.ensures ∙ ap (λ l. l.resolve) c.self.view_is in
    let own = subst (λ q. AreOwn (result_fields (function_type q c.args.call.now.func).result) answer) same (c.is_plain_answer.ensures.own c.if-not-is_plain_answer.false) in
    let few : length answer ≤ 1 = c.is_plain_answer.ensures.few c.if-not-is_plain_answer.false in
    let counted : c.len.result ≡ length answer = c.len.ensures.value ∙ ap length c.put.ensures in
    rw c.put.ensures (plain-returned g.C.Guest.allocates f c.args.call.now.flats.now answer (g.E.Guest.memory c.args.callee.now).bytes (g.C.Guest.memory c.args.caller.now) c.len.result own few counted small)

pub returns-clause-kinds : goal.returns-clause-kinds
returns-clause-kinds g c =
    let r = c.args.self.now.resolve in
    let same : c.new.result ≡ r = c.new.ensures ∙ ap (λ l. l.resolve) c.self.view_is in
    (c.takes.ensures r (c.layouts.ensures ∙ ap layouts_of same) c.requires.function).0 c.if-not-takes.false
