use Rattle.std.proofs.Common.{◌≡◌, refl, ap, ◌∙◌, subst, arith}
use Rattle.canonical_abi.specs.Guest.{IsLimited}
use Rattle.canonical_abi.specs.Halves.{ends_at_run}
use Rattle.tables.specs.Closed.{function_type}
use Rattle.adapter.specs.Plain.{ArePlainArguments}
use Rattle.adapter.proofs.PlainValuesCrossAsTheyAre.{arguments-entered}
use Rattle.adapter.proofs.link.Link.run.Goals as goal

pub returns-clause-ran : goal.returns-clause-ran
returns-clause-ran g c =
    let r = c.args.self.now.resolve in
    let f = function_type r c.args.call.now.func in
    let flats = c.args.call.now.flats.now in
    let callee = g.E.Guest.memory c.args.callee.now in
    let small : IsLimited callee = omega arith in
    let same : c.new.result ≡ r = c.new.ensures ∙ ap (λ l. l.resolve) c.self.view_is in
    let arguments = c.in-Some.arguments.now in
    let plain = subst (λ q. ArePlainArguments (function_type q c.args.call.now.func) flats arguments) same c.in-Some.ensures in
    let enters = arguments-entered g.E.Guest.allocates f flats arguments (g.C.Guest.memory c.args.caller.now).bytes callee _ plain refl small in
    record { handed = arguments; entered = callee; enters = enters; run = c.in-Ok.ensures.run }

pub returns-in_default-call-clause-fault : goal.returns-in_default-call-clause-fault
returns-in_default-call-clause-fault g c =
    let r = c.args.self.now.resolve in
    let f = function_type r c.args.call.now.func in
    let flats = c.args.call.now.flats.now in
    let callee = g.E.Guest.memory c.args.callee.now in
    let small : IsLimited callee = omega arith in
    let same : c.new.result ≡ r = c.new.ensures ∙ ap (λ l. l.resolve) c.self.view_is in
    let arguments = c.in-Some.arguments.now in
    let plain = subst (λ q. ArePlainArguments (function_type q c.args.call.now.func) flats arguments) same c.in-Some.ensures in
    let enters = arguments-entered g.E.Guest.allocates f flats arguments (g.C.Guest.memory c.args.caller.now).bytes callee _ plain refl small in
    rw c.trap.ensures (ends_at_run _ _ _ (record { handed = arguments; entered = callee; enters = enters; run = c.in_default-call.ensures.run }))
