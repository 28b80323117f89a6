use Rattle.std.proofs.Common.{◌≡◌, ◌<◌, ◌^◌, length, ap, ◌∙◌, subst, arith}
use Rattle.canonical_abi.specs.Guest.{IsLimited}
use Rattle.canonical_abi.specs.Halves.{ends_at_run}
use Rattle.tables.specs.Closed.{function_type}
use Rattle.tables.proofs.HasStandardTypes.{function-standard}
use Rattle.adapter.specs.Plain.{AreNestedArguments}
use Rattle.adapter.proofs.NestedValuesCrossAsTheyAre.{nested-entered}
use Rattle.adapter.proofs.link.Link.run_nested.Goals as goal

pub returns-clause-ran : goal.returns-clause-ran
returns-clause-ran g c =
    let r = c.args.self.now.resolve in
    let func = c.args.call.now.func in
    let f = function_type r func in
    let flats = c.args.call.now.flats.now in
    let m = (g.C.Guest.memory c.args.caller.now).bytes in
    let callee = g.E.Guest.memory c.args.callee.now in
    let short : length m < 2 ^ 32 = omega arith in
    let small : IsLimited callee = omega arith in
    let same : c.new.result ≡ r = c.new.ensures ∙ ap (λ l. l.resolve) c.self.view_is in
    let arguments = c.in-Some.carried.now in
    let there = c.nested_arguments.new.nodes in
    let nested = subst (λ q. AreNestedArguments (function_type q func) flats there arguments) same c.in-Some.ensures in
    let enters = nested-entered g.E.Guest.allocates f flats arguments m callee there nested (function-standard r func c.requires.function).params short small in
    record { handed = arguments; entered = callee; enters = enters; run = c.in-Ok.ensures.run }

pub returns-in_default-call-clause-fault : goal.returns-in_default-call-clause-fault
returns-in_default-call-clause-fault g c =
    let r = c.args.self.now.resolve in
    let func = c.args.call.now.func in
    let f = function_type r func in
    let flats = c.args.call.now.flats.now in
    let m = (g.C.Guest.memory c.args.caller.now).bytes in
    let callee = g.E.Guest.memory c.args.callee.now in
    let short : length m < 2 ^ 32 = omega arith in
    let small : IsLimited callee = omega arith in
    let same : c.new.result ≡ r = c.new.ensures ∙ ap (λ l. l.resolve) c.self.view_is in
    let arguments = c.in-Some.carried.now in
    let there = c.nested_arguments.new.nodes in
    let nested = subst (λ q. AreNestedArguments (function_type q func) flats there arguments) same c.in-Some.ensures in
    let enters = nested-entered g.E.Guest.allocates f flats arguments m callee there nested (function-standard r func c.requires.function).params short small in
    rw c.trap.ensures (ends_at_run _ _ _ (record { handed = arguments; entered = callee; enters = enters; run = c.in_default-call.ensures.run }))
