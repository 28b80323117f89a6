-- CanonicalABI.md, "canon lift" and "canon lower": a call in two halves, between which a host runs the core function itself. One half puts the
-- arguments into the callee, the other the answer into the caller. Each keeps a promise of its own, whatever a host does before and behind it;
-- between the halves the caller may be changed, too, as by its own allocator, which grants the blocks of the second one.
use Rattle.std.specs.Prelude.{◌≡◌, ◌⊎◌, ℕ, ◌-◌, ◌^◌, min, false, List, [], Option, Some, None, Result, Ok, Err, IfOk}
use Rattle.canonical_abi.specs.Types.{FunctionType, result_fields}
use Rattle.canonical_abi.specs.Layout.{max_flat_params, max_flat_results}
use Rattle.canonical_abi.specs.Flat.{Denotes, DenotesFault}
use Rattle.canonical_abi.specs.Values.{Value}
use Rattle.canonical_abi.specs.Guest.{Memory, Allocation, Release}
use Rattle.canonical_abi.specs.Trace.{Event, nodes_of}
use Rattle.canonical_abi.specs.Call.{exact, Parties, CallState, Ways, Enters, Returns, ArgumentsFaulty, ArgumentsFail, ResultFaulty, ResultFails, Calls, KindsFit, area_of, ReturnAreaFaulty}
use Rattle.canonical_abi.specs.Session.{HasResult}
use Rattle.canonical_abi.specs.Headline as headline
use Rattle.canonical_abi.specs.Headline.{IsStandardFunction, AreHonest, LendsArea, AreArguments, IsArgumentFault, KeepsOutside, area_size, CalleeIsUnchanged, EndsBeforeBody, AfterRun, IfTrap, IsLinkTrap, LinksOnce, GivesBack}
use Rattle.canonical_abi.specs.declared.flat.Flat.{Flat}
use Rattle.canonical_abi.specs.declared.trap.Fault.{Fault}
use Rattle.canonical_abi.specs.declared.trap.Fault.TheVariants.{Trap, NoMemory}
use Rattle.canonical_abi.specs.declared.trap.TrapKind.{TrapKind}
use Rattle.canonical_abi.specs.declared.trap.TrapKind.TheVariants as trap
use Rattle.canonical_abi.specs.declared.trap.Step.{Step}
use Rattle.canonical_abi.specs.declared.trap.Step.TheVariants as step

-- the nodes that these events visit, as far as 64 bits count
abbrev pub counted_nodes : List Event → ℕ
counted_nodes es = min (nodes_of es) (2 ^ 64 - 1)

-- the state of a call: these two memories, and what the body keeps
abbrev pub as_state : Memory → Memory → List ℕ → CallState
as_state caller callee body = record { caller = caller; callee = callee; body = body }

-- a memory that is only read: its bytes, with nothing live
abbrev pub source : List ℕ → Memory
source bytes = record { bytes = bytes; live = λ a. false; state = [] }

-- the parties of the first half: the callee's allocator, and no other and no body
abbrev pub entering : Allocation → Parties
entering allocates = record {
  caller_allocates = λ old align size at new. ⊥;
  callee_allocates = allocates;
  runs = λ s m f s' m' a. ⊥;
  posts = λ s m f s' m' a. ⊥;
}

-- the parties of the second half: the caller's allocator, and no other and no body
abbrev pub returning : Allocation → Parties
returning allocates = record {
  caller_allocates = allocates;
  callee_allocates = λ old align size at new. ⊥;
  runs = λ s m f s' m' a. ⊥;
  posts = λ s m f s' m' a. ⊥;
}

-- ---- the first half, from a caller with the bytes m

-- the arguments are put into the callee; c is the number of nodes that they have
abbrev pub HasEntered : Allocation → FunctionType → List Flat → List ℕ → Memory → List Flat → Memory → ℕ → Type 0
HasEntered allocates f flats m old handed new c =
    (values : List Value) × (there : List Event) × Enters (entering allocates) f flats (as_state (source m) old []) values handed there (as_state (source m) new []) × (c ≡ counted_nodes there)

-- why the arguments are not put into the callee: a trap; c is the number of nodes that were visited before it
abbrev pub EntryFails : Allocation → FunctionType → List Flat → List ℕ → Memory → Fault → Memory → ℕ → Type 0
EntryFails allocates f flats m old (Trap t) new c =
    ((t.step ≡ step.LiftArgs) × (done : List Event)
    × ArgumentsFaulty (entering allocates) exact f flats (as_state (source m) old []) t.kind done (as_state (source m) new []) × (c ≡ counted_nodes done))
    ⊎ ((t.step ≡ step.LowerArgs) × (done : List Event)
    × ArgumentsFail (entering allocates) exact f flats (as_state (source m) old []) t.kind done (as_state (source m) new []) × (c ≡ counted_nodes done))
EntryFails allocates f flats m old NoMemory new c = ⊥

-- ---- the second half, from a callee with the bytes m

-- the result is put into the caller; c is the number of nodes that it has
abbrev pub HasReturned : Allocation → FunctionType → List Flat → List ℕ → List Flat → Memory → List Flat → Memory → ℕ → Type 0
HasReturned allocates f flats m answer old given new c =
    (values : List Value) × (back : List Event) × Returns (returning allocates) f flats (as_state old (source m) []) answer values given back (as_state new (source m) []) × (c ≡ counted_nodes back)

-- why the result is not put into the caller: a trap; c is the number of nodes that were visited before it
abbrev pub ReturnFails : Allocation → FunctionType → List Flat → List ℕ → List Flat → Memory → Fault → Memory → ℕ → Type 0
ReturnFails allocates f flats m answer old (Trap t) new c =
    ((t.step ≡ step.LiftResult) × (done : List Event)
    × ResultFaulty (returning allocates) exact f flats (as_state old (source m) []) answer t.kind done (as_state new (source m) []) × (c ≡ counted_nodes done))
    ⊎ ((t.step ≡ step.LowerResult) × (done : List Event)
    × ResultFails (returning allocates) exact f flats (as_state old (source m) []) answer t.kind done (as_state new (source m) []) × (c ≡ counted_nodes done))
ReturnFails allocates f flats m answer old NoMemory new c = ⊥

-- ---- what each half promises by itself, over a memory whose allocator is honest

-- the callee finds exactly the arguments that the caller holds, and no byte of it outside the blocks handed out is changed
pub record FindsArguments (allocates : Allocation) (f : FunctionType) (flats : List Flat) (m : List ℕ) (old : Memory) (handed : List Flat) (new : Memory) : Type 0 where
  pub arguments : List Value
  pub held : AreArguments f flats (source m) arguments
  pub finds : Denotes max_flat_params f.params new.bytes handed arguments
  pub kept : KeepsOutside allocates 0 0 old new

-- the traps that the first half can end in
abbrev pub IsEntryTrap : FunctionType → List Flat → List ℕ → Step → TrapKind → Type 0
IsEntryTrap f flats m step.LiftArgs k = IsArgumentFault f flats (source m) k
IsEntryTrap f flats m step.LowerArgs k = k ≡ trap.Full
IsEntryTrap f flats m _ k = ⊥

-- the promise of the first half, for every function, memory and argument
pub record EntryKeepsPromise (allocates : Allocation) : Type 0 where
  pub done : (f : FunctionType) (flats : List Flat) (m : List ℕ) (old : Memory) (handed : List Flat) (new : Memory) (c : ℕ) → IsStandardFunction f
      → HasEntered allocates f flats m old handed new c → FindsArguments allocates f flats m old handed new
  pub fails : (f : FunctionType) (flats : List Flat) (m : List ℕ) (old : Memory) (fault : Fault) (new : Memory) (c : ℕ)
      → EntryFails allocates f flats m old fault new c → KeepsOutside allocates 0 0 old new × IfTrap {A = List Flat} (Err fault) (IsEntryTrap f flats m)

-- the caller holds exactly what the answer denotes in the callee, in the flat values that come back or in the return area, and no other
-- byte of it outside the blocks handed out is changed
pub record GivesAnswer (allocates : Allocation) (f : FunctionType) (flats : List Flat) (m : List ℕ) (answer : List Flat) (old : Memory) (given : List Flat) (new : Memory) : Type 0 where
  pub values : List Value
  pub answered : Denotes max_flat_results (result_fields f.result) m answer values
  pub holds : HasResult (result_fields f.result) new.bytes given (area_of f flats) values
  pub unchanged : KeepsOutside allocates (area_of f flats) (area_size f) old new

-- the traps that the second half can end in
abbrev pub IsReturnTrap : FunctionType → List Flat → List ℕ → List Flat → Memory → Step → TrapKind → Type 0
IsReturnTrap f flats m answer old step.LiftResult k = DenotesFault max_flat_results (result_fields f.result) m answer k
IsReturnTrap f flats m answer old step.LowerResult k = (k ≡ trap.Full) ⊎ ReturnAreaFaulty f flats old k
IsReturnTrap f flats m answer old _ k = ⊥

-- the promise of the second half, for every function, memory and answer, if the return area is lent
pub record ReturnKeepsPromise (allocates : Allocation) : Type 0 where
  pub done : (f : FunctionType) (flats : List Flat) (m : List ℕ) (answer : List Flat) (old : Memory) (given : List Flat) (new : Memory) (c : ℕ) → IsStandardFunction f
      → KindsFit f flats → LendsArea f flats old → HasReturned allocates f flats m answer old given new c → GivesAnswer allocates f flats m answer old given new
  pub fails : (f : FunctionType) (flats : List Flat) (m : List ℕ) (answer : List Flat) (old : Memory) (fault : Fault) (new : Memory) (c : ℕ)
      → ReturnFails allocates f flats m answer old fault new c
      → KeepsOutside allocates (area_of f flats) (area_size f) old new × IfTrap {A = List Flat} (Err fault) (IsReturnTrap f flats m answer old)

-- ---- the whole call

-- the fault of a call whose body stopped by itself
abbrev pub body_stopped : Fault
body_stopped = Trap (record { kind = trap.Body; step = step.Body })

-- the fault of a call whose post-return stopped by itself
abbrev pub post_stopped : Fault
post_stopped = Trap (record { kind = trap.Body; step = step.Post })

module _ (parties : Parties) (f : FunctionType) (flats : List Flat) (old : CallState) where
  -- the arguments entered, and the core function made one run on what was handed
  pub record RunsBetween (there : ℕ) (answer : Option (List Flat)) (ran : Memory) (body : List ℕ) : Type 0 where
    -- the flat values that the core function is run on
    pub handed : List Flat
    -- the callee's memory after the first half and before the run
    pub entered : Memory
    -- the first half put the arguments into the callee, with `there` nodes
    pub enters : HasEntered parties.callee_allocates f flats old.caller.bytes old.callee handed entered there
    -- a run that the body may make on them; `ran` is the callee's memory after it
    pub run : parties.runs old.body entered handed body ran answer

-- from a state as it is before the first half, and a caller as it is before the second
module _ (parties : Parties) (f : FunctionType) (flats : List Flat) (old : CallState) (between : Memory) where
  -- the arguments entered, the core function ran and answered, and its answer is put into the caller
  pub record RunsAndReturns (there back : ℕ) (answer given : List Flat) (caller ran : Memory) (body : List ℕ) : Type 0 where
    -- the first half and the run, which gave this answer
    pub runs : RunsBetween parties f flats old there (Some answer) ran body
    -- the second half put the answer into the caller, with `back` nodes
    pub returns : HasReturned parties.caller_allocates f flats ran.bytes answer between given caller back

  -- what a host sees of a call in halves, by where it ended: the answer, the nodes that the two halves told, and the state after it
  pub data CallsInHalves : Result (List Flat) Fault → ℕ → ℕ → CallState → Type 0 where
    -- the arguments did not enter, and nothing ran
    ends_at_entry : (fault : Fault) (there : ℕ) (callee : Memory) → EntryFails parties.callee_allocates f flats old.caller.bytes old.callee fault callee there
        → CallsInHalves (Err fault) there 0 (as_state between callee old.body)
    -- the run came to no answer
    ends_at_run : (there : ℕ) (ran : Memory) (body : List ℕ) → RunsBetween parties f flats old there None ran body → CallsInHalves (Err body_stopped) there 0 (as_state between ran body)
    -- its answer did not return
    ends_at_return : (there back : ℕ) (answer : List Flat) (fault : Fault) (caller ran : Memory) (body : List ℕ) → RunsBetween parties f flats old there (Some answer) ran body
        → ReturnFails parties.caller_allocates f flats ran.bytes answer between fault caller back → CallsInHalves (Err fault) there back (as_state caller ran body)
    -- the one run of post-return on it stopped
    ends_at_post : (there back : ℕ) (answer given : List Flat) (caller ran : Memory) (body : List ℕ) → RunsAndReturns there back answer given caller ran body
        → (callee : Memory) (kept : List ℕ) → parties.posts body ran answer kept callee None → CallsInHalves (Err post_stopped) there back (as_state caller callee kept)
    -- or came to its end
    completes : (there back : ℕ) (answer given : List Flat) (caller ran : Memory) (body : List ℕ) → RunsAndReturns there back answer given caller ran body
        → (callee : Memory) (kept : List ℕ) → parties.posts body ran answer kept callee (Some tt) → CallsInHalves (Ok given) there back (as_state caller callee kept)

module _ (parties : Parties) (f : FunctionType) (flats : List Flat) (old : CallState) where
  -- the call gives this answer, and visits so many nodes in the callee and in the caller
  abbrev pub CallsWithNodes : Result (List Flat) Fault → ℕ → ℕ → CallState → Type 0
  CallsWithNodes result there back new =
      (ways : Ways) × Calls parties exact f flats old result ways new × ((there ≡ counted_nodes ways.there) × (back ≡ counted_nodes ways.back))

-- each call in halves between which the caller stays as it was is a call
abbrev pub HalvesAreACall : Parties → Type 0
HalvesAreACall parties =
    (f : FunctionType) (flats : List Flat) (old : CallState) (result : Result (List Flat) Fault) (there back : ℕ) (new : CallState)
    → CallsInHalves parties f flats old old.caller result there back new → CallsWithNodes parties f flats old result there back new

-- the traps of a call in halves: those of a call, but that the return area is one of the caller as it was between
abbrev pub IsHalvesTrap : Parties → FunctionType → List Flat → CallState → Memory → CallState → Step → TrapKind → Type 0
IsHalvesTrap parties f flats old between new step.LowerResult k = (k ≡ trap.Full) ⊎ ReturnAreaFaulty f flats between k
IsHalvesTrap parties f flats old between new s k = IsLinkTrap parties f flats old new s k

-- what such a call promises, whatever became of the caller between: of the callee from its beginning, of the caller from the second half on
pub record HalvesKeep (parties : Parties) (f : FunctionType) (flats : List Flat) (old : CallState) (between : Memory) (result : Result (List Flat) Fault) (new : CallState) : Type 0 where
  -- the callee finds exactly the arguments that the caller held at the beginning, and is run once
  pub finds : headline.WasEntered exact result → LinksOnce parties f flats old (AfterRun parties exact result new)
  -- before the body is entered the callee keeps all outside the blocks handed out
  pub before : EndsBeforeBody result → CalleeIsUnchanged parties old new
  pub once : CalleeIsUnchanged parties old new ⊎ LinksOnce parties f flats old (AfterRun parties exact result new)
  -- the caller holds exactly what the body answered
  pub gives : IfOk result (λ back. GivesBack parties f flats old back new)
  -- and from between on no byte of it outside the blocks handed out and the return area is changed
  pub unchanged : KeepsOutside parties.caller_allocates (area_of f flats) (area_size f) between new.caller
  pub own : IfTrap result (IsHalvesTrap parties f flats old between new)

-- each call in halves keeps its promise, over honest guests and a return area that is lent before the second half
abbrev pub HalvesKeepPromise : Parties → Release → Release → Type 0
HalvesKeepPromise parties caller_releases callee_releases =
    (f : FunctionType) (flats : List Flat) (old : CallState) (between : Memory) (result : Result (List Flat) Fault) (there back : ℕ) (new : CallState)
    → IsStandardFunction f → CallsInHalves parties f flats old between result there back new
    → AreHonest parties caller_releases callee_releases → LendsArea f flats between
    → HalvesKeep parties f flats old between result new
