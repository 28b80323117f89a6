use Rattle.std.proofs.Common.{None}
use Rattle.std.proofs.lemmas.Result.{err_from_is_err_and}
use Rattle.canonical_abi.specs.Call.{Parties, CallState}
use Rattle.canonical_abi.specs.Halves.{as_state, HasEntered, RunsBetween, ends_at_entry, ends_at_run}
use Rattle.tables.specs.Closed.{function_type}
use Rattle.adapter.proofs.link.Link.run_walked.Goals as goal

pub returns-in_err-enter_walked-clause-fault : goal.returns-in_err-enter_walked-clause-fault
returns-in_err-enter_walked-clause-fault g c =
    let p = err_from_is_err_and c.from_residual.result c.from_residual.ensures.1 in
    rw (p.1, p.2) (ends_at_entry c.in_err-enter_walked.field-0.0 c.enter_walked.new.self.there (g.E.Guest.memory c.enter_walked.new.callee) c.in_err-enter_walked.ensures.fault)

pub returns-in-Err-clause-fault : goal.returns-in-Err-clause-fault
returns-in-Err-clause-fault g c =
    let f = function_type c.args.self.now.resolve c.args.call.now.func in
    let flats = c.args.call.now.flats.now in
    let parties : Parties = record { caller_allocates = g.C.Guest.allocates; callee_allocates = g.E.Guest.allocates; runs = g.B.Body.runs c.args.body.now; posts = g.B.Body.posts c.args.body.now } in
    let old : CallState = as_state (g.C.Guest.memory c.args.caller.now) (g.E.Guest.memory c.args.callee.now) (g.B.Body.state c.args.body.now) in
    let entered = g.E.Guest.memory c.enter_walked.new.callee in
    let there = c.enter_walked.new.self.there in
    let handed = c.as_slice.result.now in
    let enters : HasEntered g.E.Guest.allocates f flats old.caller.bytes old.callee handed entered there = rw c.as_slice.ensures.value c.in_ok-enter_walked.ensures.entered in
    let runs : RunsBetween parties f flats old there None (g.E.Guest.memory c.call.new.memory) (g.B.Body.state c.call.new.self) = record { handed = handed; entered = entered; enters = enters; run = c.in-Err.ensures.run } in
    rw c.trap.ensures (ends_at_run there (g.E.Guest.memory c.call.new.memory) (g.B.Body.state c.call.new.self) runs)
