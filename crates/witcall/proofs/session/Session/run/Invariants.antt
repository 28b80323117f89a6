use Rattle.std.proofs.Common.{◌≡◌, ◌+◌, ◌-◌, ◌≤◌, length, take}
use Rattle.std.specs.Prelude.{vec_len, vec_capacity}
use Rattle.canonical_abi.specs.Call.{AllowsSameRuns, AllowsSamePosts}
use Rattle.witcall.specs.Steps.{RunsSteps}
use Rattle.witcall.proofs.session.Session.run.Given as goal

abbrev pub invariant-loop-step : goal.invariant-loop-step
invariant-loop-step g l =
    RunsSteps (record { caller_allocates = g.C.Guest.allocates; callee_allocates = g.E.Guest.allocates; runs = g.B.Body.runs l.initial.self.body; posts = g.B.Body.posts l.initial.self.body })
    g.C.Guest.releases l.initial.self.package.now.resolve (take l.step-index l.steps) l.initial.answers.items
    (record { caller = g.C.Guest.memory l.initial.self.caller; callee = g.E.Guest.memory l.initial.self.callee; body = g.B.Body.state l.initial.self.body })
    l.answers.items
    (record { caller = g.C.Guest.memory l.self.caller; callee = g.E.Guest.memory l.self.callee; body = g.B.Body.state l.self.body })
    × AllowsSameRuns (g.B.Body.runs l.initial.self.body) (g.B.Body.runs l.self.body)
    × AllowsSamePosts (g.B.Body.posts l.initial.self.body) (g.B.Body.posts l.self.body)
    × (l.self.package.now ≡ l.initial.self.package.now)
    × (l.start ≤ vec_len l.answers)
    × (vec_len l.answers + (length l.steps - l.step-index) ≤ vec_capacity l.answers)
