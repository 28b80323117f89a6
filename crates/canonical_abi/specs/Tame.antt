-- Tame guests: allocators as they are in use, whose headers, free lists and bins stand in the memory that the program has, too. They keep what is
-- live, and nothing else is asked of them: a grant, a refusal and a release may write every byte that is not live, and lengthen the memory.
-- (CanonicalABI.md has no such section: what it asks of `realloc` is an aligned block inside the memory.)
use Rattle.std.specs.Prelude.{◌≡◌, ◌⊎◌, ℕ, ◌+◌, ◌%◌, ◌<◌, ◌≤◌, true, false, List, Option, None, Some, Result, IfOk, IfErr, length, slice_get}
use Rattle.canonical_abi.specs.Types.{FunctionType, result_fields}
use Rattle.canonical_abi.specs.Values.{Value}
use Rattle.canonical_abi.specs.Layout.{max_flat_params, max_flat_results}
use Rattle.canonical_abi.specs.Flat.{Denotes, DenotesFault}
use Rattle.canonical_abi.specs.Guest.{Memory, Allocation, Release, IsAlignment, IsWithin, IsOutside, rounded_to_eight}
use Rattle.canonical_abi.specs.Call.{Parties, CallState, Order, Ways, area_of, Traps, Calls}
use Rattle.canonical_abi.specs.Session.{HasResult, TypedCall}
use Rattle.canonical_abi.specs.Headline.{IsStandardFunction, LendsArea, AreArguments, area_size, LiftsExactly, EndsBeforeBody, WasEntered, IsAsItRan, IsPosted, AfterRun, TrapStands, IfTrap, IsOwnTrap, IsLinkTrap}
use Rattle.canonical_abi.specs.declared.flat.Flat.{Flat}
use Rattle.canonical_abi.specs.declared.trap.Fault.{Fault}
use Rattle.canonical_abi.specs.declared.trap.Step.{Step}
use Rattle.canonical_abi.specs.declared.trap.Step.TheVariants as step
use Rattle.canonical_abi.specs.declared.trap.TrapKind.{TrapKind}

-- ---- tame allocators

-- the memory gets no shorter, and what was live stays live and keeps its bytes, except the `size` bytes at `lent`
pub record LeavesLive (lent size : ℕ) (old new : Memory) : Type 0 where
  pub no_shorter : length old.bytes ≤ length new.bytes
  pub live : (a : ℕ) → old.live a ≡ true → new.live a ≡ true
  pub bytes : (a : ℕ) → old.live a ≡ true → a < length old.bytes → IsOutside a lent size → slice_get new.bytes a ≡ slice_get old.bytes a

-- a block was granted at `at`: aligned, inside, of addresses that were not live and are live now
pub record IsTameGrant (old : Memory) (align size at : ℕ) (new : Memory) : Type 0 where
  pub aligned : at % align ≡ 0
  pub inside : at + size ≤ length new.bytes
  pub was_free : (a : ℕ) → IsWithin a at size → old.live a ≡ false
  pub is_live : (a : ℕ) → IsWithin a at size → new.live a ≡ true
  pub leaves : LeavesLive 0 0 old new

-- the block of `size` bytes at `at` was taken back, with the rest of its last unit at most, and what is live still keeps its bytes
pub record IsTameRelease (old : Memory) (at size : ℕ) (new : Memory) : Type 0 where
  pub no_shorter : length old.bytes ≤ length new.bytes
  pub stays_live : (a : ℕ) → old.live a ≡ true → IsOutside a at (rounded_to_eight size) → new.live a ≡ true
  pub bytes : (a : ℕ) → old.live a ≡ true → new.live a ≡ true → a < length old.bytes → slice_get new.bytes a ≡ slice_get old.bytes a

-- every step that the guest may make keeps what is live
pub record IsTame (allocates : Allocation) (releases : Release) : Type 0 where
  pub granted : (old : Memory) (align size at : ℕ) (new : Memory) → IsAlignment align → allocates old align size (Some at) new → IsTameGrant old align size at new
  pub full : (old : Memory) (align size : ℕ) (new : Memory) → allocates old align size None new → LeavesLive 0 0 old new
  pub taken : (old : Memory) (at size : ℕ) (new : Memory) → releases old at size true new → IsTameRelease old at size new
  pub not_taken : (old : Memory) (at size : ℕ) (new : Memory) → releases old at size false new → LeavesLive 0 0 old new

-- Tame: both guests keep what is live
pub record AreTame (parties : Parties) (caller_releases callee_releases : Release) : Type 0 where
  pub caller : IsTame parties.caller_allocates caller_releases
  pub callee : IsTame parties.callee_allocates callee_releases

-- ---- the promise over tame guests: that of Headline, where of what is not lent each live byte is kept, in place of each byte

module _ (parties : Parties) (f : FunctionType) where
  -- the callee finds exactly these arguments as the body is entered, and the body is run once, on them
  pub record FindsLive (arguments : List Value) (old : CallState) (answer : Option (List Flat)) (ran : CallState) : Type 0 where
    -- the state as the body is entered
    pub entered : CallState
    -- the flat values that the body is run on
    pub handed : List Flat
    -- in the callee's memory they denote exactly these arguments
    pub finds : Denotes max_flat_params f.params entered.callee.bytes handed arguments
    -- the body's one run on them
    pub run : parties.runs entered.body entered.callee handed ran.body ran.callee answer
    -- nothing that the body keeps changes before it is entered
    pub same_body : entered.body ≡ old.body
    -- the run leaves the caller's memory as it was
    pub same_caller : ran.caller ≡ entered.caller
    -- no live byte of the callee is changed before
    pub kept : LeavesLive 0 0 old.callee entered.callee

  -- the callee finds these arguments, the body is run once on them, and `After` is true of what came after
  pub record RunsLive (arguments : List Value) (old : CallState) (After : Option (List Flat) → CallState → Type 0) : Type 0 where
    pub answer : Option (List Flat)
    pub ran : CallState
    pub found : FindsLive arguments old answer ran
    pub after : After answer ran

-- in the callee no live byte is changed, and the body is as it was
pub record CalleeLeavesLive (old new : CallState) : Type 0 where
  pub kept : LeavesLive 0 0 old.callee new.callee
  pub same_body : new.body ≡ old.body

-- the body's answer denotes nothing in the callee as the run left it, and this is its first fault; nothing ran after
abbrev pub IsLiveAnswerFault : Parties → FunctionType → List Value → CallState → CallState → TrapKind → Type 0
IsLiveAnswerFault parties f arguments old new k =
    (answer : List Flat) × (ran : CallState) × FindsLive parties f arguments old (Some answer) ran
    × DenotesFault max_flat_results (result_fields f.result) ran.callee.bytes answer k × IsAsItRan ran new

-- the traps that a typed call can end in
abbrev pub IsLiveTrap : Parties → FunctionType → List Value → CallState → CallState → Step → TrapKind → Type 0
IsLiveTrap parties f arguments old new step.LiftResult k = IsLiveAnswerFault parties f arguments old new k
IsLiveTrap parties f arguments old new s k = IsOwnTrap parties f arguments old new s k

-- the promise of a typed call over tame guests that ended with this result
pub record KeepsLivePromise (parties : Parties) (order : Order) (f : FunctionType) (arguments : List Value) (old : CallState) (result : Result (Option Value) Fault) (new : CallState) : Type 0 where
  -- the callee finds exactly these arguments and is run once, and nothing runs after but its post-return, once
  pub finds : WasEntered order result → RunsLive parties f arguments old (AfterRun parties order result new)
  -- before the body is entered the callee keeps all that is live
  pub before : EndsBeforeBody result → CalleeLeavesLive old new
  -- whatever the answer, it is one of the two
  pub once : CalleeLeavesLive old new ⊎ RunsLive parties f arguments old (AfterRun parties order result new)
  -- the caller lifts exactly its answer
  pub lifts : IfOk result (λ v. (answer : List Flat) × (ran : CallState) × FindsLive parties f arguments old (Some answer) ran × LiftsExactly parties f v answer ran
      × IsPosted parties (Some tt) new (Some answer) ran)
  -- no live byte of the caller is changed
  pub unchanged : LeavesLive 0 0 old.caller new.caller
  -- and whatever denotes no value ends in a trap that stands
  pub trap : IfErr result (λ fault. TrapStands parties order f arguments old fault new)
  -- a trap of one of the kinds that its step can end in
  pub own : IfTrap result (IsLiveTrap parties f arguments old new)

-- the promise of a typed call, if both guests are tame
abbrev pub IsPromisedLive : Parties → Release → Release → Order → FunctionType → List Value → CallState → Result (Option Value) Fault → CallState → Type 0
IsPromisedLive parties caller_releases callee_releases order f arguments old result new =
    AreTame parties caller_releases callee_releases → KeepsLivePromise parties order f arguments old result new

-- a typed call of a function whose types a package can have keeps it
abbrev pub CallKeepsLivePromise : Parties → Release → Release → Order → Type 0
CallKeepsLivePromise parties caller_releases callee_releases order =
    (f : FunctionType) (arguments : List Value) (old : CallState) (result : Result (Option Value) Fault) (new : CallState)
    → IsStandardFunction f → TypedCall parties order f arguments old result new
    → IsPromisedLive parties caller_releases callee_releases order f arguments old result new

-- ---- of a call of flat values, over a return area that is lent

-- the callee finds exactly the arguments that the caller holds, and is run once
pub record LinksLive (parties : Parties) (f : FunctionType) (flats : List Flat) (old : CallState) (After : Option (List Flat) → CallState → Type 0) : Type 0 where
  pub arguments : List Value
  pub held : AreArguments f flats old.caller arguments
  pub runs : RunsLive parties f arguments old After

-- the caller holds exactly what the body answered, in the flat values that come back or in the return area
pub record GivesLive (parties : Parties) (f : FunctionType) (flats : List Flat) (old : CallState) (back : List Flat) (new : CallState) : Type 0 where
  pub arguments : List Value
  pub held : AreArguments f flats old.caller arguments
  pub answer : List Flat
  pub ran : CallState
  pub found : FindsLive parties f arguments old (Some answer) ran
  pub values : List Value
  pub answered : Denotes max_flat_results (result_fields f.result) ran.callee.bytes answer values
  pub given : HasResult (result_fields f.result) new.caller.bytes back (area_of f flats) values
  pub posted : IsPosted parties (Some tt) new (Some answer) ran

-- the traps that such a call can end in
abbrev pub IsLiveLinkTrap : Parties → FunctionType → List Flat → CallState → CallState → Step → TrapKind → Type 0
IsLiveLinkTrap parties f flats old new step.LiftResult k =
    (arguments : List Value) × AreArguments f flats old.caller arguments × IsLiveAnswerFault parties f arguments old new k
IsLiveLinkTrap parties f flats old new s k = IsLinkTrap parties f flats old new s k

-- the promise of a call of flat values over tame guests that ended with this result
pub record LinkKeepsLivePromise (parties : Parties) (order : Order) (f : FunctionType) (flats : List Flat) (old : CallState) (result : Result (List Flat) Fault) (new : CallState) : Type 0 where
  pub finds : WasEntered order result → LinksLive parties f flats old (AfterRun parties order result new)
  pub before : EndsBeforeBody result → CalleeLeavesLive old new
  pub once : CalleeLeavesLive old new ⊎ LinksLive parties f flats old (AfterRun parties order result new)
  pub gives : IfOk result (λ back. GivesLive parties f flats old back new)
  -- no live byte of the caller outside the return area is changed
  pub unchanged : LeavesLive (area_of f flats) (area_size f) old.caller new.caller
  pub trap : IfTrap result (λ s k. (ways : Ways) × Traps parties order f flats old s k ways new)
  pub own : IfTrap result (IsLiveLinkTrap parties f flats old new)

-- the promise of a call of flat values, if both guests are tame and the return area is lent
abbrev pub IsLinkPromisedLive : Parties → Release → Release → Order → FunctionType → List Flat → CallState → Result (List Flat) Fault → CallState → Type 0
IsLinkPromisedLive parties caller_releases callee_releases order f flats old result new =
    AreTame parties caller_releases callee_releases → LendsArea f flats old.caller
    → LinkKeepsLivePromise parties order f flats old result new

-- a call of a function whose types a package can have keeps it
abbrev pub LinkLivePromise : Parties → Release → Release → Order → Type 0
LinkLivePromise parties caller_releases callee_releases order =
    (f : FunctionType) (flats : List Flat) (old : CallState) (result : Result (List Flat) Fault) (ways : Ways) (new : CallState)
    → IsStandardFunction f → Calls parties order f flats old result ways new
    → IsLinkPromisedLive parties caller_releases callee_releases order f flats old result new
