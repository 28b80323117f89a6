use Rattle.std.proofs.Common.{ap, sym, subst, ℕ, Some, Ok, Err}
use Rattle.std.proofs.lemmas.Result.{err_from_is_err_and}
use Rattle.canonical_abi.specs.Call.{Parties, CallState}
use Rattle.canonical_abi.specs.Halves.{as_state, ReturnFails, RunsBetween, RunsAndReturns, CallsInHalves, ends_at_return, ends_at_post, completes}
use Rattle.layout.specs.Layout.{AreWithin}
use Rattle.tables.specs.Closed.{function_type}
use Rattle.adapter.proofs.LinkCallsKeepPromise.{link-promised, link-promised-live, link-told}
use Rattle.adapter.proofs.link.Link.call.Goals as goal

pub returns-in_err-ran-clause-call : goal.returns-in_err-ran-clause-call
returns-in_err-ran-clause-call g c =
    let r = c.args.self.now.resolve in
    let f = function_type r c.args.func in
    let flats = c.args.flats.now in
    let within : ∥ AreWithin r ∥₁ = subst (λ q. ∥ AreWithin q ∥₁) (ap (λ l. l.resolve) c.self.view_is) c.self.inside.within in
    let parties : Parties = record { caller_allocates = g.C.Guest.allocates; callee_allocates = g.E.Guest.allocates; runs = g.B.Body.runs c.args.body.now; posts = g.B.Body.posts c.args.body.now } in
    let old : CallState = as_state (g.C.Guest.memory c.args.caller.now) (g.E.Guest.memory c.args.callee.now) (g.B.Body.state c.args.body.now) in
    let new : CallState = as_state old.caller (g.E.Guest.memory c.run.new.callee) (g.B.Body.state c.run.new.body) in
    let there = c.run.new.self.there in
    let fault = c.in_err-ran.field-0.0 in
    let p = err_from_is_err_and c.from_residual.result c.from_residual.ensures.1 in
    rw (p.1, p.2) (link-told parties r within c.args.func flats old (Err fault) new there c.run.new.self.back c.requires.function
    (subst (λ (n : ℕ). CallsInHalves parties f flats old old.caller (Err fault) there n new) (sym c.run.ensures.back) c.in_err-ran.ensures.fault))

pub returns-in_err-ran-clause-promise : goal.returns-in_err-ran-clause-promise
returns-in_err-ran-clause-promise g c =
    link-promised _ _ _ c.args.self.now.resolve c.args.func _ _ _ _ c.requires.function (returns-in_err-ran-clause-call g c).0 (returns-in_err-ran-clause-call g c).1

pub returns-in_err-given-clause-call : goal.returns-in_err-given-clause-call
returns-in_err-given-clause-call g c =
    let r = c.args.self.now.resolve in
    let f = function_type r c.args.func in
    let flats = c.args.flats.now in
    let within : ∥ AreWithin r ∥₁ = subst (λ q. ∥ AreWithin q ∥₁) (ap (λ l. l.resolve) c.self.view_is) c.self.inside.within in
    let parties : Parties = record { caller_allocates = g.C.Guest.allocates; callee_allocates = g.E.Guest.allocates; runs = g.B.Body.runs c.args.body.now; posts = g.B.Body.posts c.args.body.now } in
    let old : CallState = as_state (g.C.Guest.memory c.args.caller.now) (g.E.Guest.memory c.args.callee.now) (g.B.Body.state c.args.body.now) in
    let there = c.give.new.self.there in
    let back = c.give.new.self.back in
    let answer = c.as_slice-answer.result.now in
    let ran = g.E.Guest.memory c.run.new.callee in
    let body = g.B.Body.state c.run.new.body in
    let runs : RunsBetween parties f flats old there (Some answer) ran body = rw (c.as_slice-answer.ensures.value, c.give.ensures.there) c.in_ok-ran.ensures.ran in
    let caller = g.C.Guest.memory c.give.new.caller in
    let fault = c.in_err-given.field-0.0 in
    let p = err_from_is_err_and c.from_residual-in_err-given.result c.from_residual-in_err-given.ensures.1 in
    let fails : ReturnFails g.C.Guest.allocates f flats ran.bytes answer old.caller fault caller back = rw c.run.ensures.same_package at c.in_err-given.ensures.fault in
    rw (p.1, p.2) (link-told parties r within c.args.func flats old (Err fault) (as_state caller ran body) there back c.requires.function
    (ends_at_return there back answer fault caller ran body runs fails))

pub returns-in_default-clause-call : goal.returns-in_default-clause-call
returns-in_default-clause-call g c =
    let r = c.args.self.now.resolve in
    let f = function_type r c.args.func in
    let flats = c.args.flats.now in
    let within : ∥ AreWithin r ∥₁ = subst (λ q. ∥ AreWithin q ∥₁) (ap (λ l. l.resolve) c.self.view_is) c.self.inside.within in
    let parties : Parties = record { caller_allocates = g.C.Guest.allocates; callee_allocates = g.E.Guest.allocates; runs = g.B.Body.runs c.args.body.now; posts = g.B.Body.posts c.args.body.now } in
    let old : CallState = as_state (g.C.Guest.memory c.args.caller.now) (g.E.Guest.memory c.args.callee.now) (g.B.Body.state c.args.body.now) in
    let there = c.give.new.self.there in
    let back = c.give.new.self.back in
    let answer = c.as_slice-answer.result.now in
    let ran = g.E.Guest.memory c.run.new.callee in
    let body = g.B.Body.state c.run.new.body in
    let runs : RunsBetween parties f flats old there (Some answer) ran body = rw (c.as_slice-answer.ensures.value, c.give.ensures.there) c.in_ok-ran.ensures.ran in
    let caller = g.C.Guest.memory c.give.new.caller in
    let given = c.in_ok-given.given.items in
    let returns : RunsAndReturns parties f flats old old.caller there back answer given caller ran body = record { runs = runs; returns = rw c.run.ensures.same_package at c.in_ok-given.ensures.returned } in
    let callee = g.E.Guest.memory c.post_return.new.memory in
    let kept = g.B.Body.state c.post_return.new.self in
    let post = (c.run.ensures.same_posts _ _ _ _ _ _).1 c.in_default.ensures.run in
    rw c.trap.ensures (link-told parties r within c.args.func flats old _ (as_state caller callee kept) there back c.requires.function
    (ends_at_post there back answer given caller ran body returns callee kept post))

pub returns-clause-call : goal.returns-clause-call
returns-clause-call g c =
    let r = c.args.self.now.resolve in
    let f = function_type r c.args.func in
    let flats = c.args.flats.now in
    let within : ∥ AreWithin r ∥₁ = subst (λ q. ∥ AreWithin q ∥₁) (ap (λ l. l.resolve) c.self.view_is) c.self.inside.within in
    let parties : Parties = record { caller_allocates = g.C.Guest.allocates; callee_allocates = g.E.Guest.allocates; runs = g.B.Body.runs c.args.body.now; posts = g.B.Body.posts c.args.body.now } in
    let old : CallState = as_state (g.C.Guest.memory c.args.caller.now) (g.E.Guest.memory c.args.callee.now) (g.B.Body.state c.args.body.now) in
    let there = c.give.new.self.there in
    let back = c.give.new.self.back in
    let answer = c.as_slice-answer.result.now in
    let ran = g.E.Guest.memory c.run.new.callee in
    let body = g.B.Body.state c.run.new.body in
    let runs : RunsBetween parties f flats old there (Some answer) ran body = rw (c.as_slice-answer.ensures.value, c.give.ensures.there) c.in_ok-ran.ensures.ran in
    let caller = g.C.Guest.memory c.give.new.caller in
    let given = c.in_ok-given.given.items in
    let returns : RunsAndReturns parties f flats old old.caller there back answer given caller ran body = record { runs = runs; returns = rw c.run.ensures.same_package at c.in_ok-given.ensures.returned } in
    let callee = g.E.Guest.memory c.post_return.new.memory in
    let kept = g.B.Body.state c.post_return.new.self in
    let post = (c.run.ensures.same_posts _ _ _ _ _ _).1 c.in-Ok.ensures.run in
    link-told parties r within c.args.func flats old (Ok given) (as_state caller callee kept) there back c.requires.function
    (completes there back answer given caller ran body returns callee kept post)

pub returns-in_err-given-clause-promise : goal.returns-in_err-given-clause-promise
returns-in_err-given-clause-promise g c =
    link-promised _ _ _ c.args.self.now.resolve c.args.func _ _ _ _ c.requires.function (returns-in_err-given-clause-call g c).0 (returns-in_err-given-clause-call g c).1

pub returns-in_default-clause-promise : goal.returns-in_default-clause-promise
returns-in_default-clause-promise g c =
    link-promised _ _ _ c.args.self.now.resolve c.args.func _ _ _ _ c.requires.function (returns-in_default-clause-call g c).0 (returns-in_default-clause-call g c).1

pub returns-clause-promise : goal.returns-clause-promise
returns-clause-promise g c =
    link-promised _ _ _ c.args.self.now.resolve c.args.func _ _ _ _ c.requires.function (returns-clause-call g c).0 (returns-clause-call g c).1

pub returns-in_err-ran-clause-promise_live : goal.returns-in_err-ran-clause-promise_live
returns-in_err-ran-clause-promise_live g c =
    link-promised-live _ _ _ c.args.self.now.resolve c.args.func _ _ _ _ c.requires.function (returns-in_err-ran-clause-call g c).0 (returns-in_err-ran-clause-call g c).1

pub returns-in_err-given-clause-promise_live : goal.returns-in_err-given-clause-promise_live
returns-in_err-given-clause-promise_live g c =
    link-promised-live _ _ _ c.args.self.now.resolve c.args.func _ _ _ _ c.requires.function (returns-in_err-given-clause-call g c).0 (returns-in_err-given-clause-call g c).1

pub returns-in_default-clause-promise_live : goal.returns-in_default-clause-promise_live
returns-in_default-clause-promise_live g c =
    link-promised-live _ _ _ c.args.self.now.resolve c.args.func _ _ _ _ c.requires.function (returns-in_default-clause-call g c).0 (returns-in_default-clause-call g c).1

pub returns-clause-promise_live : goal.returns-clause-promise_live
returns-clause-promise_live g c =
    link-promised-live _ _ _ c.args.self.now.resolve c.args.func _ _ _ _ c.requires.function (returns-clause-call g c).0 (returns-clause-call g c).1
