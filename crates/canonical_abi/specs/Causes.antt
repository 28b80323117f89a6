-- Why a call traps, over any two guests and any body, honest or not. (CanonicalABI.md has no such section: these follow from "canon lift" and
-- "canon lower".)
use Rattle.std.specs.Prelude.{◌≡◌, ◌⊎◌, ℕ, List, None, Err}
use Rattle.canonical_abi.specs.Types.{FunctionType}
use Rattle.canonical_abi.specs.Values.{Value}
use Rattle.canonical_abi.specs.Guest.{Memory, Allocation}
use Rattle.canonical_abi.specs.Trace.{Event, TraceLeads, RequestFails}
use Rattle.canonical_abi.specs.Call.{Parties, Run, PostRun, CallState, Order, Ways, Calls}
use Rattle.canonical_abi.specs.Session.{TypedCall}
use Rattle.canonical_abi.specs.declared.flat.Flat.{Flat}
use Rattle.canonical_abi.specs.declared.trap.Fault.TheVariants.{Trap}
use Rattle.canonical_abi.specs.declared.trap.Trap.{Trap as TrapAt}
use Rattle.canonical_abi.specs.declared.trap.TrapKind.{TrapKind}
use Rattle.canonical_abi.specs.declared.trap.TrapKind.TheVariants as trap
use Rattle.canonical_abi.specs.declared.trap.Step.{Step}
use Rattle.canonical_abi.specs.declared.trap.Step.TheVariants as step

-- the kinds of traps that values cause, K1 to K5 and K8; not a refusal of an allocator, nor a body that stopped
abbrev pub IsOfValues : TrapKind → Type 0
IsOfValues trap.Full = ⊥
IsOfValues trap.Body = ⊥
IsOfValues _ = Unit {0}

-- a request of the call failed: by these events its memory came from old to the one that was asked, and this request left it as the call did:
-- refused (K6), or granted where the address is no multiple of the alignment (K3), or where the block ends past the memory (K4)
abbrev pub RequestFailed : Allocation → Memory → TrapKind → Memory → Type 0
RequestFailed allocates old k new =
    (made : List Event) × (asked : Memory) × (align size : ℕ) × TraceLeads allocates old made asked × RequestFails allocates asked align size k new

-- a run of the body stopped, and left the callee and what the body keeps as the call left them
abbrev pub BodyStopped : Run → CallState → Type 0
BodyStopped runs new = (state : List ℕ) × (memory : Memory) × (flats : List Flat) × runs state memory flats new.body new.callee None

-- a run of the post-return stopped, and left them as the call left them
abbrev pub PostStopped : PostRun → CallState → Type 0
PostStopped posts new = (state : List ℕ) × (memory : Memory) × (flats : List Flat) × posts state memory flats new.body new.callee None

-- the cause of a trap of a call, by its step
abbrev pub HasCause : Parties → CallState → Step → TrapKind → CallState → Type 0
HasCause parties old step.LiftArgs k new = IsOfValues k
HasCause parties old step.LowerArgs k new = RequestFailed parties.callee_allocates old.callee k new.callee
HasCause parties old step.Body k new = (k ≡ trap.Body) × BodyStopped parties.runs new
HasCause parties old step.LiftResult k new = IsOfValues k
-- the return area that the call was given is tested in this step too
HasCause parties old step.LowerResult k new = IsOfValues k ⊎ RequestFailed parties.caller_allocates old.caller k new.caller
HasCause parties old step.Post k new = (k ≡ trap.Body) × PostStopped parties.posts new
-- a text or a list of more bytes than any may have is not asked for
HasCause parties old step.Place k new = (k ≡ trap.Bounds) ⊎ RequestFailed parties.caller_allocates old.caller k new.caller
HasCause parties old step.Take k new = IsOfValues k

-- each trap has the cause of its step
pub record TrapsHaveCauses (parties : Parties) (order : Order) : Type 0 where
  pub call : (f : FunctionType) (flats : List Flat) (old : CallState) (t : TrapAt) (ways : Ways) (new : CallState)
      → Calls parties order f flats old (Err (Trap t)) ways new → HasCause parties old t.step t.kind new
  pub typed : (f : FunctionType) (arguments : List Value) (old : CallState) (t : TrapAt) (new : CallState)
      → TypedCall parties order f arguments old (Err (Trap t)) new → HasCause parties old t.step t.kind new
