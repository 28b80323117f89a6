use Rattle.std.proofs.Common.{◌≡◌, ◌+◌, ◌-◌, ◌<◌, length, map, take, drop, ap, ◌∙◌, subst, arith}
use Rattle.canonical_abi.specs.Call.{Parties, CallState, exact}
use Rattle.canonical_abi.specs.Session.{TakesStep}
use Rattle.witcall.specs.Steps.{IsKnownAnswer, answer_of, step_of, RunsSteps}
use Rattle.witcall.proofs.SameRuns.{step_alike, same_runs_on, same_posts_on}
use Rattle.witcall.proofs.SessionRuns.{one_more, to_the_end}
use Rattle.witcall.proofs.session.Session.run.Goals as goal

pub loop-step-preserved : goal.loop-step-preserved
loop-step-preserved g c =
    let i = c.loop-step.invariant in
    let r = c.args.self.now.package.now.resolve in
    let runs = g.B.Body.runs c.args.self.now.body in
    let posts = g.B.Body.posts c.args.self.now.body in
    let runs_now = g.B.Body.runs c.loop-step.self.body in
    let posts_now = g.B.Body.posts c.loop-step.self.body in
    let first : Parties = record { caller_allocates = g.C.Guest.allocates; callee_allocates = g.E.Guest.allocates; runs = runs; posts = posts } in
    let later : Parties = record { caller_allocates = g.C.Guest.allocates; callee_allocates = g.E.Guest.allocates; runs = runs_now; posts = posts_now } in
    let old : CallState = record { caller = g.C.Guest.memory c.args.self.now.caller; callee = g.E.Guest.memory c.args.self.now.callee; body = g.B.Body.state c.args.self.now.body } in
    let now : CallState = record { caller = g.C.Guest.memory c.loop-step.self.caller; callee = g.E.Guest.memory c.loop-step.self.callee; body = g.B.Body.state c.loop-step.self.body } in
    let new : CallState = record { caller = g.C.Guest.memory c.take_step-answer.new.self.caller; callee = g.E.Guest.memory c.take_step-answer.new.self.callee; body = g.B.Body.state c.take_step-answer.new.self.body } in
    let before = c.reserve.new.self.items in
    let items = c.loop-step.answers.items in
    let s = c.step-item.result in
    let a = c.take_step-answer.result in
    let steps = c.args.steps.now in
    let n = c.loop-step.step-index in
    let given = take (length c.as_slice.result.now - c.len-start.result) (drop c.len-start.result c.as_slice.result.now) in
    let start : c.len-start.result ≡ length before = c.len-start.ensures ∙ c.reserve.new.self.ok.0 in
    let same : given ≡ drop (length before) items =
    to_the_end c.len-start.result c.as_slice.result.now ∙ ap (drop c.len-start.result) c.as_slice.ensures.value ∙ ap (λ k. drop k items) start in
    let told : TakesStep later g.C.Guest.releases exact (map (answer_of r) given) now (step_of r s) (answer_of r a) new =
    subst (λ p. TakesStep later g.C.Guest.releases exact (map (answer_of p.resolve) given) now (step_of p.resolve s) (answer_of p.resolve a) new) i.3 c.take_step-answer.ensures.taken in
    let taken = subst (λ xs. TakesStep first g.C.Guest.releases exact (map (answer_of r) xs) now (step_of r s) (answer_of r a) new) same
    (step_alike g.C.Guest.allocates g.E.Guest.allocates runs runs_now posts posts_now i.1 i.2 g.C.Guest.releases exact (map (answer_of r) given) now (step_of r s) (answer_of r a) new told) in
    let known : IsKnownAnswer r a = subst (λ p. IsKnownAnswer p.resolve a) i.3 c.take_step-answer.ensures.known in
    let less : n < length steps = c.loop-step-test.true in
    let more : RunsSteps first g.C.Guest.releases r (take (n + 1) steps) before old c.push_reserved.new.self.items new =
    rw c.push_reserved.ensures.items (one_more first g.C.Guest.releases r steps before old n items now s a new less c.step-item.is i.0 taken known c.take_step-answer.ensures.same_type) in (
      more,
      same_runs_on runs runs_now (g.B.Body.runs c.take_step-answer.new.self.body) i.1 c.take_step-answer.ensures.same_runs,
      same_posts_on posts posts_now (g.B.Body.posts c.take_step-answer.new.self.body) i.2 c.take_step-answer.ensures.same_posts,
      c.take_step-answer.ensures.package ∙ i.3,
      omega (arith, i.4, c.push_reserved.ensures.len),
      omega (arith, i.5, less, c.push_reserved.ensures.len, c.push_reserved.ensures.capacity),
    )
