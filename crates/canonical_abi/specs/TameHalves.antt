-- A call in halves over tame guests: what each half promises by itself, and what the whole call does, whatever became of the caller between.
use Rattle.std.specs.Prelude.{◌≡◌, ◌⊎◌, ℕ, List, Result, Err, IfOk}
use Rattle.canonical_abi.specs.Types.{FunctionType, result_fields}
use Rattle.canonical_abi.specs.Values.{Value}
use Rattle.canonical_abi.specs.Layout.{max_flat_params, max_flat_results}
use Rattle.canonical_abi.specs.Flat.{Denotes}
use Rattle.canonical_abi.specs.Guest.{Memory, Allocation, Release}
use Rattle.canonical_abi.specs.Call.{exact, Parties, CallState, KindsFit, area_of, ReturnAreaFaulty}
use Rattle.canonical_abi.specs.Session.{HasResult}
use Rattle.canonical_abi.specs.Headline.{IsStandardFunction, LendsArea, AreArguments, area_size, WasEntered, EndsBeforeBody, AfterRun, IfTrap}
use Rattle.canonical_abi.specs.Tame.{LeavesLive, AreTame, CalleeLeavesLive, LinksLive, GivesLive, IsLiveLinkTrap}
use Rattle.canonical_abi.specs.Halves.{source, HasEntered, EntryFails, HasReturned, ReturnFails, IsEntryTrap, IsReturnTrap, CallsInHalves}
use Rattle.canonical_abi.specs.declared.flat.Flat.{Flat}
use Rattle.canonical_abi.specs.declared.trap.Fault.{Fault}
use Rattle.canonical_abi.specs.declared.trap.Step.{Step}
use Rattle.canonical_abi.specs.declared.trap.Step.TheVariants as step
use Rattle.canonical_abi.specs.declared.trap.TrapKind.{TrapKind}
use Rattle.canonical_abi.specs.declared.trap.TrapKind.TheVariants as trap

-- ---- what each half promises by itself

-- the callee finds exactly the arguments that the caller holds, and no live byte of it is changed
pub record FindsArgumentsLive (f : FunctionType) (flats : List Flat) (m : List ℕ) (old : Memory) (handed : List Flat) (new : Memory) : Type 0 where
  pub arguments : List Value
  pub held : AreArguments f flats (source m) arguments
  pub finds : Denotes max_flat_params f.params new.bytes handed arguments
  pub kept : LeavesLive 0 0 old new

-- the promise of the first half, for every function, memory and argument
pub record EntryKeepsLivePromise (allocates : Allocation) : Type 0 where
  pub done : (f : FunctionType) (flats : List Flat) (m : List ℕ) (old : Memory) (handed : List Flat) (new : Memory) (c : ℕ) → IsStandardFunction f
      → HasEntered allocates f flats m old handed new c → FindsArgumentsLive f flats m old handed new
  pub fails : (f : FunctionType) (flats : List Flat) (m : List ℕ) (old : Memory) (fault : Fault) (new : Memory) (c : ℕ)
      → EntryFails allocates f flats m old fault new c → LeavesLive 0 0 old new × IfTrap {A = List Flat} (Err fault) (IsEntryTrap f flats m)

-- the caller holds exactly what the answer denotes in the callee, in the flat values that come back or in the return area, and no other live byte
-- of it is changed
pub record GivesAnswerLive (f : FunctionType) (flats : List Flat) (m : List ℕ) (answer : List Flat) (old : Memory) (given : List Flat) (new : Memory) : Type 0 where
  pub values : List Value
  pub answered : Denotes max_flat_results (result_fields f.result) m answer values
  pub holds : HasResult (result_fields f.result) new.bytes given (area_of f flats) values
  pub unchanged : LeavesLive (area_of f flats) (area_size f) old new

-- the promise of the second half, for every function, memory and answer, if the return area is lent
pub record ReturnKeepsLivePromise (allocates : Allocation) : Type 0 where
  pub done : (f : FunctionType) (flats : List Flat) (m : List ℕ) (answer : List Flat) (old : Memory) (given : List Flat) (new : Memory) (c : ℕ) → IsStandardFunction f
      → KindsFit f flats → LendsArea f flats old → HasReturned allocates f flats m answer old given new c → GivesAnswerLive f flats m answer old given new
  pub fails : (f : FunctionType) (flats : List Flat) (m : List ℕ) (answer : List Flat) (old : Memory) (fault : Fault) (new : Memory) (c : ℕ)
      → ReturnFails allocates f flats m answer old fault new c
      → LeavesLive (area_of f flats) (area_size f) old new × IfTrap {A = List Flat} (Err fault) (IsReturnTrap f flats m answer old)

-- ---- the whole call

-- the traps of a call in halves: those of a call, but that the return area is one of the caller as it was between
abbrev pub IsLiveHalvesTrap : Parties → FunctionType → List Flat → CallState → Memory → CallState → Step → TrapKind → Type 0
IsLiveHalvesTrap parties f flats old between new step.LowerResult k = (k ≡ trap.Full) ⊎ ReturnAreaFaulty f flats between k
IsLiveHalvesTrap parties f flats old between new s k = IsLiveLinkTrap parties f flats old new s k

-- what such a call promises, whatever became of the caller between: of the callee from its beginning, of the caller from the second half on
pub record HalvesKeepLive (parties : Parties) (f : FunctionType) (flats : List Flat) (old : CallState) (between : Memory) (result : Result (List Flat) Fault) (new : CallState) : Type 0 where
  -- the callee finds exactly the arguments that the caller held at the beginning, and is run once
  pub finds : WasEntered exact result → LinksLive parties f flats old (AfterRun parties exact result new)
  -- before the body is entered the callee keeps all that is live
  pub before : EndsBeforeBody result → CalleeLeavesLive old new
  pub once : CalleeLeavesLive old new ⊎ LinksLive parties f flats old (AfterRun parties exact result new)
  -- the caller holds exactly what the body answered
  pub gives : IfOk result (λ back. GivesLive parties f flats old back new)
  -- and from between on no live byte of it outside the return area is changed
  pub unchanged : LeavesLive (area_of f flats) (area_size f) between new.caller
  pub own : IfTrap result (IsLiveHalvesTrap parties f flats old between new)

-- each call in halves keeps its promise, over tame guests and a return area that is lent before the second half
abbrev pub HalvesKeepLivePromise : Parties → Release → Release → Type 0
HalvesKeepLivePromise parties caller_releases callee_releases =
    (f : FunctionType) (flats : List Flat) (old : CallState) (between : Memory) (result : Result (List Flat) Fault) (there back : ℕ) (new : CallState)
    → IsStandardFunction f → CallsInHalves parties f flats old between result there back new
    → AreTame parties caller_releases callee_releases → LendsArea f flats between
    → HalvesKeepLive parties f flats old between result new
