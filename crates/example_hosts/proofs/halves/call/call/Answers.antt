-- The steps are put together by the law.
use Rattle.std.proofs.Common.{ℕ, List, None, Some, Ok, Err, sym, subst}
use Rattle.std.proofs.lemmas.Result.{err_from_is_err_and}
use Rattle.canonical_abi.specs.declared.flat.Flat.{Flat}
use Rattle.tables.specs.Closed.{function_type}
use Rattle.tables.specs.Standard.{HasStandardTypes}
use Rattle.example_hosts.specs.Promise.{LeavesCall, RunsOnBytes, PostsOnBytes}
use Rattle.example_hosts.proofs.HostStepsKeepPromise.{not-entered, not-run, not-returned, not-finished, finished}
use Rattle.example_hosts.proofs.halves.call.call.Goals as goal

pub returns-in_err-handed : goal.returns-in_err-handed
returns-in_err-handed g c =
    let f = function_type c.args.types.now c.args.invocation.now.func in
    let standard = (subst HasStandardTypes c.resolve.ensures c.types_are_standard.ensures).functions c.args.invocation.now.func c.requires.function in
    let p = err_from_is_err_and c.from_residual.result c.from_residual.ensures.1 in
    rw (p.1, p.2) (record {
      promise =
          not-entered (g.F.Callee.runs c.args.core.now) (g.F.Callee.posts c.args.core.now) c.halves_keep_promise.ensures f c.args.invocation.now.flats.now standard c.args.caller.now c.args.callee.now c.requires.short c.requires.limited
          c.in_err-handed.field-0.0 c.enter.new.caller c.enter.new.callee c.enter.ensures.same_caller c.in_err-handed.ensures.entered;
    })

pub returns-in_default : goal.returns-in_default
returns-in_default g c =
    let runs = g.F.Callee.runs c.args.core.now in
    let f = function_type c.args.types.now c.args.invocation.now.func in
    let standard = (subst HasStandardTypes c.resolve.ensures c.types_are_standard.ensures).functions c.args.invocation.now.func c.requires.function in
    let run = subst (λ (xs : List Flat). RunsOnBytes runs c.enter.new.callee xs c.run.new.memory None) c.as_slice-arguments.ensures.value c.in_default.ensures in
    rw c.stopped.ensures (record {
      promise =
          not-run runs (g.F.Callee.posts c.args.core.now) c.halves_keep_promise.ensures f c.args.invocation.now.flats.now standard c.args.caller.now c.args.callee.now c.requires.short c.requires.limited
          c.in_ok-handed.handed c.enter.new.callee c.enter.new.caller c.run.new.memory c.enter.ensures.same_caller c.in_ok-handed.ensures.entered run;
    })

pub returns-in_err-given : goal.returns-in_err-given
returns-in_err-given g c =
    let runs = g.F.Callee.runs c.args.core.now in
    let f = function_type c.args.types.now c.args.invocation.now.func in
    let standard = (subst HasStandardTypes c.resolve.ensures c.types_are_standard.ensures).functions c.args.invocation.now.func c.requires.function in
    let left = c.run.new.memory in
    let answer = c.as_slice-answer.result.now in
    let run =
    subst (λ (a : List Flat). RunsOnBytes runs c.enter.new.callee c.in_ok-handed.handed.items left (Some a)) (sym c.as_slice-answer.ensures.value)
    (subst (λ (xs : List Flat). RunsOnBytes runs c.enter.new.callee xs left (Some c.in-Ok.answer.items)) c.as_slice-arguments.ensures.value c.in-Ok.ensures) in
    let leaves = subst (λ (m : List ℕ). LeavesCall f c.args.invocation.now.flats.now left answer m (Err c.in_err-given.field-0.0) c.leave.new.caller) c.enter.ensures.same_caller c.in_err-given.ensures.left in
    let p = err_from_is_err_and c.from_residual-in_err-given.result c.from_residual-in_err-given.ensures.1 in
    rw (p.1, p.2) (record {
      promise =
          not-returned runs (g.F.Callee.posts c.args.core.now) c.halves_keep_promise.ensures f c.args.invocation.now.flats.now standard c.args.caller.now c.args.callee.now c.requires.short c.requires.limited
          c.in_ok-handed.handed c.enter.new.callee left answer c.in_err-given.field-0.0 c.leave.new.caller c.leave.new.callee c.leave.ensures.same_callee c.in_ok-handed.ensures.entered run leaves;
    })

pub returns-in_default-post_return : goal.returns-in_default-post_return
returns-in_default-post_return g c =
    let runs = g.F.Callee.runs c.args.core.now in
    let posts = g.F.Callee.posts c.args.core.now in
    let f = function_type c.args.types.now c.args.invocation.now.func in
    let standard = (subst HasStandardTypes c.resolve.ensures c.types_are_standard.ensures).functions c.args.invocation.now.func c.requires.function in
    let left = c.run.new.memory in
    let answer = c.as_slice-answer.result.now in
    let run =
    subst (λ (a : List Flat). RunsOnBytes runs c.enter.new.callee c.in_ok-handed.handed.items left (Some a)) (sym c.as_slice-answer.ensures.value)
    (subst (λ (xs : List Flat). RunsOnBytes runs c.enter.new.callee xs left (Some c.in-Ok.answer.items)) c.as_slice-arguments.ensures.value c.in-Ok.ensures) in
    let leaves = subst (λ (m : List ℕ). LeavesCall f c.args.invocation.now.flats.now left answer m (Ok c.in_ok-given.given) c.leave.new.caller) c.enter.ensures.same_caller c.in_ok-given.ensures.left in
    let post = subst (λ (m : List ℕ). PostsOnBytes posts m answer c.post_return.new.memory None) c.leave.ensures.same_callee c.in_default-post_return.ensures in
    rw c.stopped-in_default-post_return.ensures (record {
      promise =
          not-finished runs posts c.halves_keep_promise.ensures f c.args.invocation.now.flats.now standard c.args.caller.now c.args.callee.now c.requires.short c.requires.limited
          c.in_ok-handed.handed c.enter.new.callee left answer c.in_ok-given.given c.leave.new.caller c.post_return.new.memory c.in_ok-handed.ensures.entered run leaves post;
    })

pub returns : goal.returns
returns g c =
    let runs = g.F.Callee.runs c.args.core.now in
    let posts = g.F.Callee.posts c.args.core.now in
    let f = function_type c.args.types.now c.args.invocation.now.func in
    let standard = (subst HasStandardTypes c.resolve.ensures c.types_are_standard.ensures).functions c.args.invocation.now.func c.requires.function in
    let left = c.run.new.memory in
    let answer = c.as_slice-answer.result.now in
    let run =
    subst (λ (a : List Flat). RunsOnBytes runs c.enter.new.callee c.in_ok-handed.handed.items left (Some a)) (sym c.as_slice-answer.ensures.value)
    (subst (λ (xs : List Flat). RunsOnBytes runs c.enter.new.callee xs left (Some c.in-Ok.answer.items)) c.as_slice-arguments.ensures.value c.in-Ok.ensures) in
    let leaves = subst (λ (m : List ℕ). LeavesCall f c.args.invocation.now.flats.now left answer m (Ok c.in_ok-given.given) c.leave.new.caller) c.enter.ensures.same_caller c.in_ok-given.ensures.left in
    let post = subst (λ (m : List ℕ). PostsOnBytes posts m answer c.post_return.new.memory (Some tt)) c.leave.ensures.same_callee c.in-Ok-post_return.ensures in
    record {
      promise =
          finished runs posts c.halves_keep_promise.ensures f c.args.invocation.now.flats.now standard c.args.caller.now c.args.callee.now c.requires.short c.requires.limited
          c.in_ok-handed.handed c.enter.new.callee left answer c.in_ok-given.given c.leave.new.caller c.post_return.new.memory c.in_ok-handed.ensures.entered run leaves post;
    }
