-- CanonicalABI.md, "Loading", over a whole session between tame guests, so between honest ones, too: a value that is held in live addresses
-- stays held.
use Rattle.std.specs.Prelude.{◌≡◌, ◌⊎◌, ℕ, ◌^◌, ◌<◌, ◌≤◌, true, false, List, [], ◌∷◌, ◌++◌, Option, Some, Result, Ok, Err, length, slice_get}
use Rattle.std.proofs.Common.{inl, inr}
use Rattle.std.specs.List.{AllByRecursion}
use Rattle.canonical_abi.specs.Types.{ClosedType, FunctionType, IsStandard}
use Rattle.canonical_abi.specs.Values.{Value}
use Rattle.canonical_abi.specs.Layout.{align, size}
use Rattle.canonical_abi.specs.Memory.{HoldsInBlock}
use Rattle.canonical_abi.specs.Guest.{Memory, Allocation, Release, IsLimited, KeepsLimit, IsOutside, rounded_to_eight}
use Rattle.canonical_abi.specs.Footprint.{Reads, SameFootprint}
use Rattle.canonical_abi.specs.Trace.{Event, requests_of}
use Rattle.canonical_abi.specs.Requests.{request, requests}
use Rattle.canonical_abi.specs.Stands.{IsGranted}
use Rattle.canonical_abi.specs.Call.{Parties, CallState, Order, either, exact, Ways, Answered, Returned, Completes, GivesUp}
use Rattle.canonical_abi.specs.Session.{Held, SessionStep, call, place, read, release, SessionAnswer, was_read, released, TypedTraps, TypedCall, PlacesValue, TakesStep, RunsSession, ReadsStep}
use Rattle.canonical_abi.specs.Headline.{IsStandardFunction, KeepsOutside}
use Rattle.canonical_abi.specs.Tame.{AreTame}
use Rattle.canonical_abi.specs.declared.flat.Flat.{Flat}
use Rattle.canonical_abi.specs.declared.trap.Fault.{Fault}
use Rattle.canonical_abi.specs.declared.trap.Fault.TheVariants.{Trap, NoMemory}
use Rattle.canonical_abi.specs.declared.trap.Step.{Step}
use Rattle.canonical_abi.specs.declared.trap.Step.TheVariants as step
use Rattle.canonical_abi.specs.declared.trap.TrapKind.{TrapKind}

-- a set of addresses, as those that reading a value reads
abbrev pub Footprint : Type 1
Footprint = ℕ → Type 0

-- all addresses of the set are live
abbrev pub IsLive : Footprint → Memory → Type 0
IsLive F memory = (x : ℕ) → F x → memory.live x ≡ true

-- a value that was placed is held, and its footprint is live: it stands in the blocks that it asked for, which were free, and nothing
-- else was changed
pub record IsPlaced (allocates : Allocation) (t : ClosedType) (a : ℕ) (v : Value) (old new : Memory) : Type 0 where
  pub holds : HoldsInBlock t new.bytes a v
  pub live : IsLive (Reads t new.bytes a) new
  pub kept : KeepsOutside allocates 0 0 old new
  pub asked : requests_of kept.events ≡ request (align t) (size t) ∷ requests t v
  pub own : (x : ℕ) → Reads t new.bytes a x → IsGranted kept.events x
  pub was_free : (x : ℕ) → IsGranted kept.events x → old.live x ≡ false

-- of an allocator: a value that it placed is held, and a placing that failed changed no byte outside blocks it granted
pub record PlacedIsHeld (allocates : Allocation) : Type 0 where
  pub placed : (t : ClosedType) (v : Value) (old new : Memory) (held : Held) → IsStandard t → length new.bytes < 2 ^ 32
      → PlacesValue allocates t v old (Ok held) new → IsPlaced allocates t held.at v old new
  pub failed : (t : ClosedType) (v : Value) (old new : Memory) (fault : Fault) → PlacesValue allocates t v old (Err fault) new → KeepsOutside allocates 0 0 old new

-- of an allocator that keeps the limit: the memory in which it placed a value has fewer than 2^32 bytes, as `PlacedIsRead` asks
abbrev pub PlacedIsLimited : Allocation → Type 0
PlacedIsLimited allocates =
    KeepsLimit allocates → (t : ClosedType) (v : Value) (old new : Memory) (held : Held) → IsLimited old → PlacesValue allocates t v old (Ok held) new → IsLimited new

-- the functions that the steps call have types that a package can have
abbrev pub AreStandardSteps : List SessionStep → Type 0
AreStandardSteps [] = Unit {0}
AreStandardSteps (call f arguments ∷ steps) = IsStandardFunction f × AreStandardSteps steps
AreStandardSteps (place t v ∷ steps) = AreStandardSteps steps
AreStandardSteps (read k ∷ steps) = AreStandardSteps steps
AreStandardSteps (release at size ∷ steps) = AreStandardSteps steps

-- the value is held in the new memory as in the old, with the same footprint
pub record IsKept (t : ClosedType) (a : ℕ) (v : Value) (old new : Memory) : Type 0 where
  pub holds : HoldsInBlock t new.bytes a v
  pub footprint : SameFootprint t a old.bytes new.bytes

-- no release of these steps ends life in the footprint; one that took nothing back, by its answer, ends none
abbrev pub ReleasesMiss : Footprint → List SessionStep → List SessionAnswer → Type 0
ReleasesMiss F [] answers = Unit {0}
ReleasesMiss F (s ∷ steps) [] = Unit {0}
ReleasesMiss F (call f arguments ∷ steps) (answer ∷ answers) = ReleasesMiss F steps answers
ReleasesMiss F (place t v ∷ steps) (answer ∷ answers) = ReleasesMiss F steps answers
ReleasesMiss F (read k ∷ steps) (answer ∷ answers) = ReleasesMiss F steps answers
ReleasesMiss F (release at size ∷ steps) (answer ∷ answers) =
    (answer ≡ released true → (x : ℕ) → F x → IsOutside x at (rounded_to_eight size)) × ReleasesMiss F steps answers

-- what is read is the value, or the host had no memory
abbrev pub ReadAnswers : Value → SessionAnswer → Type 0
ReadAnswers v answer = (answer ≡ was_read (Ok v)) ⊎ (answer ≡ was_read (Err NoMemory))

module _ (parties : Parties) (caller_releases : Release) (order : Order) where
  -- P holds at the beginning of a run and after each of its steps
  abbrev pub Throughout : (CallState → Type 0) → (before : List SessionAnswer) (old : CallState) (steps : List SessionStep) (answers : List SessionAnswer) (new : CallState)
      → RunsSession parties caller_releases order before old steps answers new → Type 0
  Throughout P before old [] answers new run = P old
  Throughout P before old (s ∷ steps) answers new run =
      P old × Throughout P (before ++ run.answer ∷ []) run.between steps run.rest new run.others

  -- the value is held in a block of the caller, and its footprint is live throughout the run
  pub record StaysLive (t : ClosedType) (a : ℕ) (v : Value) (before : List SessionAnswer) (old : CallState) (steps : List SessionStep) (answers : List SessionAnswer) (new : CallState)
      (run : RunsSession parties caller_releases order before old steps answers new) : Type 0 where
    -- the caller holds v at a, in an aligned block, before the run
    pub holds : HoldsInBlock t old.caller.bytes a v
    -- all addresses of its footprint are live before the run and after each step
    pub live : Throughout (λ w. IsLive (Reads t old.caller.bytes a) w.caller) before old steps answers new run

  -- a value that stays live is held after every list of steps, traps among them, from any moment to any later one
  abbrev pub HeldStaysHeld : Release → Type 0
  HeldStaysHeld callee_releases =
      (t : ClosedType) (a : ℕ) (v : Value) (before : List SessionAnswer) (old : CallState) (steps : List SessionStep) (answers : List SessionAnswer) (new : CallState)
      (run : RunsSession parties caller_releases order before old steps answers new)
      → AreTame parties caller_releases callee_releases → AreStandardSteps steps
      → StaysLive t a v before old steps answers new run → IsKept t a v old.caller new.caller

  -- what is read of a value that stayed live is the value, or the host has no memory
  abbrev pub HeldIsRead : Release → Type 0
  HeldIsRead callee_releases =
      (t : ClosedType) (a : ℕ) (v : Value) (before : List SessionAnswer) (old : CallState) (steps : List SessionStep) (answers : List SessionAnswer) (new : CallState)
      (run : RunsSession parties caller_releases order before old steps answers new) (answer : SessionAnswer)
      → AreTame parties caller_releases callee_releases → AreStandardSteps steps
      → StaysLive t a v before old steps answers new run → ReadsStep new.caller (Some (record { ty = t; at = a })) answer → ReadAnswers v answer

  -- a value that was placed is read, whatever the steps in between, as long as none of them takes back what it stands in; the memory in which
  -- it was placed has fewer than 2^32 bytes
  abbrev pub PlacedIsRead : Release → Type 0
  PlacedIsRead callee_releases =
      (t : ClosedType) (v : Value) (held : Held) (before : List SessionAnswer) (old placed : CallState) (steps : List SessionStep) (answers : List SessionAnswer) (new : CallState)
      (answer : SessionAnswer)
      → AreTame parties caller_releases callee_releases → IsLimited placed.caller → IsStandard t → AreStandardSteps steps
      → PlacesValue parties.caller_allocates t v old.caller (Ok held) placed.caller → RunsSession parties caller_releases order before placed steps answers new
      → ReleasesMiss (Reads t placed.caller.bytes held.at) steps answers → ReadsStep new.caller (Some held) answer → ReadAnswers v answer

-- ---- what the callee holds, which only its body changes otherwise

-- what a run of the body, or of its post-return, had before it and left
pub record BodyRun : Type 0 where
  pub before : Memory
  pub after : Memory

-- a run of the body changed no byte of the footprint, freed none of it, and did not shorten the memory
pub record LeavesAlone (F : Footprint) (run : BodyRun) : Type 0 where
  pub no_shorter : length run.before.bytes ≤ length run.after.bytes
  pub same : (x : ℕ) → F x → slice_get run.after.bytes x ≡ slice_get run.before.bytes x
  pub live : (x : ℕ) → F x → run.before.live x ≡ true → run.after.live x ≡ true

module _ (parties : Parties) (f : FunctionType) where
  -- the run of the body in a call that the body answered
  abbrev pub answering_run : (flats : List Flat) (old : CallState) (answer : List Flat) (there : List Event) (new : CallState) → Answered parties f flats old answer there new → BodyRun
  answering_run flats old answer there new answered = record { before = answered.entered.callee; after = new.callee }

  -- the runs of the body and then of its post-return, in a call whose result was put into the caller
  abbrev pub runs_of_returned : (flats : List Flat) (old : CallState) (answer given : List Flat) (ways : Ways) (returned : CallState) → Returned parties f flats old answer given ways returned → CallState → List BodyRun
  runs_of_returned flats old answer given ways returned r new =
      answering_run flats old answer ways.there r.answered r.answers ∷ record { before = returned.callee; after = new.callee } ∷ []

  -- the runs of the body and then of its post-return, in a call that came to its end
  abbrev pub runs_of_completed : (flats : List Flat) (old : CallState) (given : List Flat) (ways : Ways) (new : CallState) → Completes parties f flats old given ways new → List BodyRun
  runs_of_completed flats old given ways new c = runs_of_returned flats old c.answer given ways c.returned c.returns new

  -- the runs in a call that ended out of memory: none, or that of the body
  abbrev pub runs_of_given_up : (o : Order) (flats : List Flat) (old : CallState) (ways : Ways) (new : CallState) → GivesUp parties f flats o old ways new → List BodyRun
  runs_of_given_up either flats old ways new (inl same) = []
  runs_of_given_up either flats old ways new (inr (answer, answered, none)) = answering_run flats old answer ways.there new answered ∷ []
  runs_of_given_up exact flats old ways new g = []

module _ (parties : Parties) (order : Order) (f : FunctionType) (arguments : List Value) (old : CallState) where
  -- the runs in a typed call that ended in a trap of this step
  abbrev pub runs_of_traps : (s : Step) (k : TrapKind) (new : CallState) → TypedTraps parties order f arguments old s k new → List BodyRun
  runs_of_traps step.Place k new t = []
  runs_of_traps step.Take k new (back, area, b, fault) = runs_of_completed parties f b.flats b.placed back b.ways new b.completes
  runs_of_traps step.LiftArgs k new t = []
  runs_of_traps step.LowerArgs k new t = []
  runs_of_traps step.Body k new (flats, area, placed, p, ways, (values, handed, entered, is, enters, runs, none)) = record { before = entered.callee; after = new.callee } ∷ []
  runs_of_traps step.LiftResult k new (flats, area, placed, p, ways, (answer, answered, a, faulty)) = answering_run parties f flats placed answer ways.there answered a ∷ []
  runs_of_traps step.LowerResult k new (flats, area, placed, p, ways, (answer, answered, a, fails)) = answering_run parties f flats placed answer ways.there answered a ∷ []
  runs_of_traps step.Post k new (flats, area, placed, p, ways, (answer, given, returned, is, r, finishes)) = runs_of_returned parties f flats placed answer given ways returned r new

  -- the runs of the body and its post-return in one typed call, in turn
  abbrev pub runs_of_call : (result : Result (Option Value) Fault) (new : CallState) → TypedCall parties order f arguments old result new → List BodyRun
  runs_of_call (Ok v) new (back, area, b, has) = runs_of_completed parties f b.flats b.placed back b.ways new b.completes
  runs_of_call (Err (Trap t)) new traps = runs_of_traps t.step t.kind new traps
  runs_of_call (Err NoMemory) new (inl (flats, area, placed, p, ways, g)) = runs_of_given_up parties f order flats placed ways new g
  runs_of_call (Err NoMemory) new (inr (back, area, b)) = runs_of_completed parties f b.flats b.placed back b.ways new b.completes

module _ (parties : Parties) (caller_releases : Release) (order : Order) where
  -- the runs in one step of a session: only a call has some
  abbrev pub runs_of_step : (s : SessionStep) (before : List SessionAnswer) (old : CallState) (answer : SessionAnswer) (new : CallState) → TakesStep parties caller_releases order before old s answer new → List BodyRun
  runs_of_step (call f arguments) before old answer new (result, is, calls) = runs_of_call parties order f arguments old result new calls
  runs_of_step (place t v) before old answer new taken = []
  runs_of_step (read k) before old answer new taken = []
  runs_of_step (release at size) before old answer new taken = []

  -- the runs of the body and its post-return in all steps, in turn
  abbrev pub runs_of_session : (before : List SessionAnswer) (old : CallState) (steps : List SessionStep) (answers : List SessionAnswer) (new : CallState) → RunsSession parties caller_releases order before old steps answers new → List BodyRun
  runs_of_session before old [] answers new run = []
  runs_of_session before old (s ∷ steps) answers new run =
      runs_of_step s before old run.answer run.between run.takes ++ runs_of_session (before ++ run.answer ∷ []) run.between steps run.rest new run.others

  -- a value that the callee holds in live addresses is held in the end, if the body left them alone, and they are live still
  abbrev pub CalleeKeepsHeld : Release → Type 0
  CalleeKeepsHeld callee_releases =
      (t : ClosedType) (a : ℕ) (v : Value) (before : List SessionAnswer) (old : CallState) (steps : List SessionStep) (answers : List SessionAnswer) (new : CallState)
      (run : RunsSession parties caller_releases order before old steps answers new)
      → AreTame parties caller_releases callee_releases
      → HoldsInBlock t old.callee.bytes a v → IsLive (Reads t old.callee.bytes a) old.callee
      → AllByRecursion (LeavesAlone (Reads t old.callee.bytes a)) (runs_of_session before old steps answers new run)
      → IsKept t a v old.callee new.callee × IsLive (Reads t old.callee.bytes a) new.callee
