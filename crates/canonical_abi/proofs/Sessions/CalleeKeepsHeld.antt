-- A value that is held in live addresses of the callee stays held over every list of steps, where the body leaves them alone.
use Rattle.std.proofs.Common.{◌≡◌, inl, inr, ℕ, ◌<◌, ◌≤◌, true, List, [], ◌∷◌, ◌++◌, length, Option, Result, Ok, Err, ap, ◌∙◌, arith}
use Rattle.std.specs.Prelude.{slice_get}
use Rattle.std.specs.List.{AllByRecursion}
use Rattle.canonical_abi.specs.Types.{ClosedType, FunctionType}
use Rattle.canonical_abi.specs.Values.{Value}
use Rattle.canonical_abi.specs.Layout.{max_flat_params}
use Rattle.canonical_abi.specs.Guest.{Memory, Release}
use Rattle.canonical_abi.specs.Footprint.{Reads, KeepsBytes}
use Rattle.canonical_abi.specs.Trace.{Event}
use Rattle.canonical_abi.specs.Call.{Parties, CallState, Order, either, exact, Ways, Enters, Answered, Returned, Traps, GivesUp}
use Rattle.canonical_abi.specs.Session.{SessionStep, call, place, read, release, SessionAnswer, TypedTraps, TypedCall, CameBack, TakesStep, RunsSession}
use Rattle.canonical_abi.specs.Headline.{IsBeforeBody, IsAsItRan}
use Rattle.canonical_abi.specs.Memory.{HoldsInBlock}
use Rattle.canonical_abi.specs.Tame.{LeavesLive, AreTame}
use Rattle.canonical_abi.specs.Keeping.{Footprint, IsLive, IsKept, BodyRun, LeavesAlone, answering_run, runs_of_returned, runs_of_completed, runs_of_given_up, runs_of_traps, runs_of_call, runs_of_step, runs_of_session, CalleeKeepsHeld}
use Rattle.canonical_abi.specs.declared.flat.Flat.{Flat}
use Rattle.canonical_abi.specs.declared.trap.Fault.{Fault}
use Rattle.canonical_abi.specs.declared.trap.Fault.TheVariants.{Trap, NoMemory}
use Rattle.canonical_abi.specs.declared.trap.Step.{Step}
use Rattle.canonical_abi.specs.declared.trap.Step.TheVariants as step
use Rattle.canonical_abi.specs.declared.trap.TrapKind.{TrapKind}
use Rattle.canonical_abi.proofs.ReadValues.FramesReading.{frames_reading, same_footprint}
use Rattle.canonical_abi.proofs.FlatValues.LoweredIsDenoted.{Nowhere, passes-confined, passes-aligned}
use Rattle.canonical_abi.proofs.Traces.ConfinedTraces.{went-by}
use Rattle.canonical_abi.proofs.Calls.WaysOfCalls.{own-left}
use Rattle.canonical_abi.proofs.Calls.LinkKeepsPromise.{traps-wait, faulty-ran, fails-ran}
use Rattle.canonical_abi.proofs.Calls.TameLinkKeepsPromise.{waits-live}
use Rattle.canonical_abi.proofs.Sessions.HeldValues.{reads-inside}

-- ---- live addresses of a footprint, from one memory to another

record KeepsAt (F : Footprint) (old new : Memory) : Type 0 where
  no_shorter : length old.bytes ≤ length new.bytes
  same : (x : ℕ) → F x → x < length old.bytes → old.live x ≡ true → slice_get new.bytes x ≡ slice_get old.bytes x
  live : (x : ℕ) → F x → x < length old.bytes → old.live x ≡ true → new.live x ≡ true

module _ (F : Footprint) where
  at-same : (old new : Memory) → new ≡ old → KeepsAt F old new
  at-same old new is = record {
    no_shorter = let l : length new.bytes ≡ length old.bytes = ap (λ m. length m.bytes) is in omega arith;
    same = λ x f below l. ap (λ m. slice_get m.bytes x) is;
    live = λ x f below l. ap (λ m. m.live x) is ∙ l;
  }

  at-then : (a b c : Memory) → KeepsAt F a b → KeepsAt F b c → KeepsAt F a c
  at-then a b c k l = record {
    no_shorter = let p = k.no_shorter in let q = l.no_shorter in omega arith;
    same = λ x f below is. let p = k.no_shorter in l.same x f (omega arith) (k.live x f below is) ∙ k.same x f below is;
    live = λ x f below is. let p = k.no_shorter in l.live x f (omega arith) (k.live x f below is);
  }

  at-left : (old new : Memory) → LeavesLive 0 0 old new → KeepsAt F old new
  at-left old new k = record { no_shorter = k.no_shorter; same = λ x f below is. k.bytes x is below (inr (omega arith)); live = λ x f below is. k.live x is }

  at-run : (run : BodyRun) → LeavesAlone F run → KeepsAt F run.before run.after
  at-run run leaves = record { no_shorter = leaves.no_shorter; same = λ x f below is. leaves.same x f; live = λ x f below is. leaves.live x f is }

-- ---- one call

module _ (parties : Parties) (caller_releases callee_releases : Release) (order : Order) (F : Footprint) (tame : AreTame parties caller_releases callee_releases) (f : FunctionType) where
  -- the body is entered
  at-entered : (flats : List Flat) (placed : CallState) (values : List Value) (handed : List Flat) (there : List Event) (entered : CallState) → Enters parties f flats placed values handed there entered → KeepsAt F placed.callee entered.callee
  at-entered flats placed values handed there entered e =
      at-left F placed.callee entered.callee (own-left parties.callee_allocates callee_releases tame.callee placed.callee entered.callee
      (went-by parties.callee_allocates Nowhere placed.callee there entered.callee (record {
        aligned = passes-aligned max_flat_params f.params values there handed e.passes;
        confined = passes-confined max_flat_params f.params values there handed e.passes;
        leads = e.leads;
      })))

  -- or it is not
  at-waiting : (flats : List Flat) (placed : CallState) (s : Step) (k : TrapKind) (ways : Ways) (new : CallState) → Traps parties order f flats placed s k ways new → IsBeforeBody s → KeepsAt F placed.callee new.callee
  at-waiting flats placed s k ways new t b =
      at-left F placed.callee new.callee
      (waits-live parties caller_releases callee_releases tame placed new (traps-wait parties caller_releases callee_releases order f flats tame placed s k ways new t b).0).kept

  at-answered : (flats : List Flat) (placed : CallState) (answer : List Flat) (there : List Event) (answered : CallState) (a : Answered parties f flats placed answer there answered) → LeavesAlone F (answering_run parties f flats placed answer there answered a)
      → KeepsAt F placed.callee answered.callee
  at-answered flats placed answer there answered a leaves =
      at-then F placed.callee a.entered.callee answered.callee (at-entered flats placed a.values a.handed there a.entered a.enters) (at-run F (answering_run parties f flats placed answer there answered a) leaves)

  at-returned : (flats : List Flat) (placed : CallState) (answer given : List Flat) (ways : Ways) (returned : CallState) (r : Returned parties f flats placed answer given ways returned) (new : CallState)
      → AllByRecursion (LeavesAlone F) (runs_of_returned parties f flats placed answer given ways returned r new) → KeepsAt F placed.callee new.callee
  at-returned flats placed answer given ways returned r new leaves =
      at-then F placed.callee r.answered.callee new.callee (at-answered flats placed answer ways.there r.answered r.answers leaves.0)
      (at-then F r.answered.callee returned.callee new.callee (at-same F r.answered.callee returned.callee r.returns.same_callee) (at-run F (record { before = returned.callee; after = new.callee }) leaves.1.0))

  from-placed : (old placed new : CallState) → placed.callee ≡ old.callee → KeepsAt F placed.callee new.callee → KeepsAt F old.callee new.callee
  from-placed old placed new same k = at-then F old.callee placed.callee new.callee (at-same F old.callee placed.callee same) k

  at-ran : (answered new : CallState) → IsAsItRan answered new → KeepsAt F answered.callee new.callee
  at-ran answered new ran = at-same F answered.callee new.callee ran.0

  module _ (arguments : List Value) (old : CallState) where
    at-came : (back : List Flat) (area : ℕ) (new : CallState) (b : CameBack parties f arguments old back area new) → AllByRecursion (LeavesAlone F) (runs_of_completed parties f b.flats b.placed back b.ways new b.completes) → KeepsAt F old.callee new.callee
    at-came back area new b leaves =
        from-placed old b.placed new b.places.same_callee (at-returned b.flats b.placed b.completes.answer back b.ways b.completes.returned b.completes.returns new leaves)

    at-trapped : (s : Step) (k : TrapKind) (new : CallState) (t : TypedTraps parties order f arguments old s k new) → AllByRecursion (LeavesAlone F) (runs_of_traps parties order f arguments old s k new t) → KeepsAt F old.callee new.callee
    at-trapped step.Place k new t leaves = at-same F old.callee new.callee t.same_callee
    at-trapped step.Take k new (back, area, b, fault) leaves = at-came back area new b leaves
    at-trapped step.LiftArgs k new (flats, area, placed, p, ways, t) leaves = from-placed old placed new p.same_callee (at-waiting flats placed step.LiftArgs k ways new t tt)
    at-trapped step.LowerArgs k new (flats, area, placed, p, ways, t) leaves = from-placed old placed new p.same_callee (at-waiting flats placed step.LowerArgs k ways new t tt)
    at-trapped step.Body k new (flats, area, placed, p, ways, (values, handed, entered, is, enters, runs, none)) leaves =
        from-placed old placed new p.same_callee (at-then F placed.callee entered.callee new.callee (at-entered flats placed values handed ways.there entered enters) (at-run F (record { before = entered.callee; after = new.callee }) leaves.0))
    at-trapped step.LiftResult k new (flats, area, placed, p, ways, (answer, answered, a, faulty)) leaves =
        from-placed old placed new p.same_callee (at-then F placed.callee answered.callee new.callee (at-answered flats placed answer ways.there answered a leaves.0)
        (at-ran answered new (faulty-ran parties order f flats answer answered k ways.back new faulty)))
    at-trapped step.LowerResult k new (flats, area, placed, p, ways, (answer, answered, a, fails)) leaves =
        from-placed old placed new p.same_callee (at-then F placed.callee answered.callee new.callee (at-answered flats placed answer ways.there answered a leaves.0)
        (at-ran answered new (fails-ran parties order f flats answer answered k ways.back new fails)))
    at-trapped step.Post k new (flats, area, placed, p, ways, (answer, given, returned, is, r, finishes)) leaves = from-placed old placed new p.same_callee (at-returned flats placed answer given ways returned r new leaves)

    at-given-up : (o : Order) (flats : List Flat) (placed : CallState) (ways : Ways) (new : CallState) (g : GivesUp parties f flats o placed ways new) → AllByRecursion (LeavesAlone F) (runs_of_given_up parties f o flats placed ways new g) → KeepsAt F placed.callee new.callee
    at-given-up either flats placed ways new (inl same) leaves = at-same F placed.callee new.callee (ap (λ w. w.callee) same.2)
    at-given-up either flats placed ways new (inr (answer, a, none)) leaves = at-answered flats placed answer ways.there new a leaves.0
    at-given-up exact flats placed ways new g leaves = absurd g

    at-called : (result : Result (Option Value) Fault) (new : CallState) (c : TypedCall parties order f arguments old result new) → AllByRecursion (LeavesAlone F) (runs_of_call parties order f arguments old result new c) → KeepsAt F old.callee new.callee
    at-called (Ok v) new (back, area, b, has) leaves = at-came back area new b leaves
    at-called (Err (Trap t)) new traps leaves = at-trapped t.step t.kind new traps leaves
    at-called (Err NoMemory) new (inl (flats, area, placed, p, ways, g)) leaves = from-placed old placed new p.same_callee (at-given-up order flats placed ways new g leaves)
    at-called (Err NoMemory) new (inr (back, area, b)) leaves = at-came back area new b leaves

-- ---- all steps

all-first : (P : BodyRun → Type 0) (xs ys : List BodyRun) → AllByRecursion P (xs ++ ys) → AllByRecursion P xs
all-first P [] ys all = tt
all-first P (x ∷ xs) ys all = (all.0, all-first P xs ys all.1)

all-second : (P : BodyRun → Type 0) (xs ys : List BodyRun) → AllByRecursion P (xs ++ ys) → AllByRecursion P ys
all-second P [] ys all = all
all-second P (x ∷ xs) ys all = all-second P xs ys all.1

module _ (parties : Parties) (caller_releases callee_releases : Release) (order : Order) (F : Footprint) (tame : AreTame parties caller_releases callee_releases) where
  at-step : (s : SessionStep) (before : List SessionAnswer) (old : CallState) (answer : SessionAnswer) (new : CallState) (taken : TakesStep parties caller_releases order before old s answer new)
      → AllByRecursion (LeavesAlone F) (runs_of_step parties caller_releases order s before old answer new taken) → KeepsAt F old.callee new.callee
  at-step (call f arguments) before old answer new (result, is, calls) leaves = at-called parties caller_releases callee_releases order F tame f arguments old result new calls leaves
  at-step (place t v) before old answer new (result, is, places, callee, body) leaves = at-same F old.callee new.callee callee
  at-step (read k) before old answer new (same, reads) leaves = at-same F old.callee new.callee (ap (λ w. w.callee) same)
  at-step (release at n) before old answer new (took, is, releases, callee, body) leaves = at-same F old.callee new.callee callee

  at-steps : (before : List SessionAnswer) (old : CallState) (steps : List SessionStep) (answers : List SessionAnswer) (new : CallState) (run : RunsSession parties caller_releases order before old steps answers new)
      → AllByRecursion (LeavesAlone F) (runs_of_session parties caller_releases order before old steps answers new run) → KeepsAt F old.callee new.callee
  at-steps before old [] answers new run leaves = at-same F old.callee new.callee (ap (λ w. w.callee) run.1)
  at-steps before old (s ∷ steps) answers new run leaves =
      at-then F old.callee run.between.callee new.callee
      (at-step s before old run.answer run.between run.takes (all-first (LeavesAlone F) (runs_of_step parties caller_releases order s before old run.answer run.between run.takes) _ leaves))
      (at-steps (before ++ run.answer ∷ []) run.between steps run.rest new run.others (all-second (LeavesAlone F) (runs_of_step parties caller_releases order s before old run.answer run.between run.takes) _ leaves))

-- a value that was held, in live addresses
held-then : (t : ClosedType) (a : ℕ) (v : Value) (old new : Memory) → HoldsInBlock t old.bytes a v → IsLive (Reads t old.bytes a) old → KeepsAt (Reads t old.bytes a) old new → IsKept t a v old new × IsLive (Reads t old.bytes a) new
held-then t a v old new holds live k =
    let inside : (x : ℕ) → Reads t old.bytes a x → x < length old.bytes = λ x r. reads-inside old.bytes t a v holds.0.1 holds.1 x r in
    let bytes : KeepsBytes t a old.bytes new.bytes = record { same = λ x r. k.same x r (inside x r) (live x r); no_shorter = k.no_shorter } in (
      record {
        holds = ((holds.0.0, let i = holds.0.1 in let l = k.no_shorter in omega arith), frames_reading t a v old.bytes new.bytes bytes holds.1);
        footprint = same_footprint t a old.bytes new.bytes bytes;
      },
      λ x r. k.live x r (inside x r) (live x r),
    )

pub callee-keeps-held : (parties : Parties) (caller_releases callee_releases : Release) (order : Order) → CalleeKeepsHeld parties caller_releases order callee_releases
callee-keeps-held parties caller_releases callee_releases order t a v before old steps answers new run tame holds live leaves =
    held-then t a v old.callee new.callee holds live (at-steps parties caller_releases callee_releases order (Reads t old.callee.bytes a) tame before old steps answers new run leaves)
