-- What a call that trapped shows of its source is what its events tell: one proof for all that may be said of the bytes that a trace left.
use Rattle.std.proofs.Common.{◌≡◌, inl, inr, List, [], ◌∷◌, refl, sym, ap, ◌∙◌, subst}
use Rattle.canonical_abi.specs.Types.{FunctionType, result_fields}
use Rattle.canonical_abi.specs.Guest.{Memory, Allocation, Release}
use Rattle.canonical_abi.specs.Trace.{Event, grant, TraceLeads, LeavesOutWrites}
use Rattle.canonical_abi.specs.Stands.{AreAligned}
use Rattle.canonical_abi.specs.Call.{Parties, CallState, Ways, exact, Answered, ArgumentsFaulty, ArgumentsFail, ResultFaulty, ResultFails, Traps, argument_flats, area_of, Begins, Breaks, IsGrantedPart}
use Rattle.canonical_abi.specs.Headline.{IsBeforeBody}
use Rattle.canonical_abi.specs.Tame.{IsTame, AreTame}
use Rattle.canonical_abi.specs.declared.flat.Flat.{Flat}
use Rattle.canonical_abi.specs.declared.trap.Step.{Step}
use Rattle.canonical_abi.specs.declared.trap.Step.TheVariants as step
use Rattle.canonical_abi.specs.declared.trap.TrapKind.{TrapKind}
use Rattle.canonical_abi.proofs.Traces.WhatTracesKeep.{aligned-first, aligned-second}
use Rattle.canonical_abi.proofs.Traces.StoppedTracesAreConfined.{aligned-left, made-leaves, leaves-none}
use Rattle.canonical_abi.proofs.Traces.ConfinedTraces.{Refuses}
use Rattle.canonical_abi.proofs.Calls.WaysOfCalls.{passes-result-aligned, until-result-aligned, script-aligned, until-params-fine, script-params-fine}
use Rattle.canonical_abi.proofs.Calls.LinkKeepsPromise.{faulty-caller}
use Rattle.canonical_abi.proofs.Traces.TameTraces.{request-refused}

-- what is shown after a trace, some writes of which may be left out, and after a refusal or none
abbrev pub Shows : Allocation → (Memory → List Event → Memory → Type 0) → Type 0
Shows allocates Shown =
    (es made : List Event) (old mid new : Memory) → AreAligned made → LeavesOutWrites es made → TraceLeads allocates old made mid → Refuses allocates mid new → Shown old es new

module _ (allocates : Allocation) (releases : Release) (tame : IsTame allocates releases) (Shown : Memory → List Event → Memory → Type 0) (shows : Shows allocates Shown) where
  same-shows : (old new : Memory) (es : List Event) → new ≡ old → es ≡ [] → Shown old es new
  same-shows old new es same none = subst (λ l. Shown old l new) (sym none) (shows [] [] old old new tt refl refl (inl same))

  begun-shows : (old new : Memory) (es done : List Event) → AreAligned es → IsGrantedPart exact done es → Begins exact allocates old done new → Shown old done new
  begun-shows old new es done al is (made, left, leads) =
      let leaves = made-leaves exact done made left in shows done made old new new (aligned-left done made leaves (subst AreAligned (sym is) al)) leaves leads (inl refl)

  broken-shows : (old new : Memory) (es done : List Event) (k : TrapKind) → AreAligned es → (breaks : Breaks exact allocates old es k new) → done ≡ breaks.0 → Shown old done new
  broken-shows old new es done k al (front, made, rest, next, asked, is, left, leads, fails) same =
      let whole = subst AreAligned is al in
      let leaves = made-leaves exact front made left in
      let refused = request-refused allocates releases tame asked next.align next.size k new (aligned-second front (grant next ∷ rest) whole).0 fails in
      subst (λ l. Shown old l new) (sym same)
      (shows front made old asked new (aligned-left front made leaves (aligned-first front (grant next ∷ rest) whole)) leaves leads (inr (next.align, next.size, refused.1)))

module _ (parties : Parties) (caller_releases callee_releases : Release) (tame : AreTame parties caller_releases callee_releases) (Shown : Memory → List Event → Memory → Type 0)
    (callee_shows : Shows parties.callee_allocates Shown) (caller_shows : Shows parties.caller_allocates Shown) (f : FunctionType) (flats : List Flat) where
  callee-same : (old new : CallState) (es : List Event) → new ≡ old → es ≡ [] → Shown old.callee es new.callee
  callee-same old new es same none = same-shows parties.callee_allocates callee_releases tame.callee Shown callee_shows old.callee new.callee es (ap (λ w. w.callee) same) none

  caller-same : (old new : CallState) (es : List Event) → new.caller ≡ old.caller → es ≡ [] → Shown old.caller es new.caller
  caller-same old new es same none = same-shows parties.caller_allocates caller_releases tame.caller Shown caller_shows old.caller new.caller es same none

  arguments-faulty : (old : CallState) (k : TrapKind) (done : List Event) (new : CallState) → ArgumentsFaulty parties exact f flats old k done new → Shown old.callee done new.callee
  arguments-faulty old k done new (inl (other, is, none, same)) = callee-same old new done same none
  arguments-faulty old k done new (inr (inl (kinds, faulty, none, same))) = callee-same old new done same none
  arguments-faulty old k done new (inr (inr (kinds, es, until, is, begun, caller, body))) =
      begun-shows parties.callee_allocates callee_releases tame.callee Shown callee_shows old.callee new.callee es done (until-params-fine f.params old.caller.bytes (argument_flats f flats) k es until).0 is begun

  arguments-fail : (old : CallState) (k : TrapKind) (done : List Event) (new : CallState) → ArgumentsFail parties exact f flats old k done new → Shown old.callee done new.callee
  arguments-fail old k done new (kinds, es, script, breaks, same, caller, body) =
      broken-shows parties.callee_allocates callee_releases tame.callee Shown callee_shows old.callee new.callee es done k (script-params-fine f.params old.caller.bytes (argument_flats f flats) es script).0 breaks same

  result-faulty : (answered : CallState) (answer : List Flat) (k : TrapKind) (done : List Event) (new : CallState) → ResultFaulty parties exact f flats answered answer k done new → Shown answered.caller done new.caller
  result-faulty answered answer k done new (inl (faulty, none, same)) = caller-same answered new done (ap (λ w. w.caller) same) none
  result-faulty answered answer k done new (inr (tested, es, until, is, begun, callee, body)) =
      begun-shows parties.caller_allocates caller_releases tame.caller Shown caller_shows answered.caller new.caller es done
      (until-result-aligned (result_fields f.result) answered.callee.bytes answer (area_of f flats) k es until) is begun

  result-fails : (answered : CallState) (answer : List Flat) (k : TrapKind) (done : List Event) (new : CallState) → ResultFails parties exact f flats answered answer k done new → Shown answered.caller done new.caller
  result-fails answered answer k done new (inl (tested, faulty, none, same)) = caller-same answered new done (ap (λ w. w.caller) same) none
  result-fails answered answer k done new (inr (stands, es, script, breaks, same, callee, body)) =
      broken-shows parties.caller_allocates caller_releases tame.caller Shown caller_shows answered.caller new.caller es done k
      (script-aligned (result_fields f.result) answered.callee.bytes answer (area_of f flats) es script) breaks same

  since : (old answered new : CallState) (answer : List Flat) (there es : List Event) → Answered parties f flats old answer there answered → Shown answered.caller es new.caller → Shown old.caller es new.caller
  since old answered new answer there es a shows = subst (λ m. Shown m es new.caller) (a.runs.same_caller ∙ a.enters.same_caller) shows

  -- into the callee, where the body was not entered
  pub shows-there : (old : CallState) (s : Step) (k : TrapKind) (ways : Ways) (new : CallState) → IsBeforeBody s → Traps parties exact f flats old s k ways new → Shown old.callee ways.there new.callee
  shows-there old step.Place k ways new before t = absurd t
  shows-there old step.LiftArgs k ways new before t = arguments-faulty old k ways.there new t.0
  shows-there old step.LowerArgs k ways new before t = arguments-fail old k ways.there new t.0
  shows-there old s k ways new before t = absurd before

  -- into the caller
  pub shows-back : (old : CallState) (s : Step) (k : TrapKind) (ways : Ways) (new : CallState) → Traps parties exact f flats old s k ways new → Shown old.caller ways.back new.caller
  shows-back old step.LiftArgs k ways new (faulty, none) =
      caller-same old new ways.back (faulty-caller parties caller_releases callee_releases exact f flats tame old k ways.there new faulty) none
  shows-back old step.LowerArgs k ways new ((kinds, es, script, breaks, same, caller, body), none) = caller-same old new ways.back caller none
  shows-back old step.Body k ways new (values, handed, entered, is, enters, runs, none) = caller-same old new ways.back (runs.same_caller ∙ enters.same_caller) none
  shows-back old step.LiftResult k ways new (answer, answered, a, faulty) = since old answered new answer ways.there ways.back a (result-faulty answered answer k ways.back new faulty)
  shows-back old step.LowerResult k ways new (answer, answered, a, fails) = since old answered new answer ways.there ways.back a (result-fails answered answer k ways.back new fails)
  shows-back old step.Post k ways new (answer, given, last, is, r, finishes) =
      since old r.answered new answer ways.there ways.back r.answers (subst (λ m. Shown r.answered.caller ways.back m) (sym finishes.same_caller)
      (caller_shows ways.back ways.back r.answered.caller last.caller last.caller (passes-result-aligned (result_fields f.result) (area_of f flats) r.values ways.back given r.returns.passes)
      (leaves-none ways.back) r.returns.leads (inl refl)))
  shows-back old s k ways new t = absurd t
