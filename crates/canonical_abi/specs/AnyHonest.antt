-- The weakest honest guest: its allocator may make every grant, refusal and release that honesty allows, whatever the memory's length is.
use Rattle.std.specs.Prelude.{◌≡◌, true, false, List, Option, None, Some, Result}
use Rattle.canonical_abi.specs.Types.{FunctionType}
use Rattle.canonical_abi.specs.Values.{Value}
use Rattle.canonical_abi.specs.Guest.{Allocation, Release, IsGrant, IsRelease}
use Rattle.canonical_abi.specs.Call.{Parties, CallState, Run, PostRun, Ways, exact, Calls}
use Rattle.canonical_abi.specs.Session.{TypedCall}
use Rattle.canonical_abi.specs.Headline.{IsStandardFunction, KeepsPromise, LendsArea, LinkKeepsPromise}
use Rattle.canonical_abi.specs.declared.flat.Flat.{Flat}
use Rattle.canonical_abi.specs.declared.trap.Fault.{Fault}

-- an allocator that may grant every block that honesty allows, or refuse and leave the memory as it was
abbrev pub AnyGrant : Allocation
AnyGrant old align size (Some at) new = IsGrant old align size at new
AnyGrant old align size None new = new ≡ old

-- a `free` that may take back every block as honesty allows, or refuse and leave the memory as it was
abbrev pub AnyRelease : Release
AnyRelease old at size true new = IsRelease old at size new
AnyRelease old at size false new = new ≡ old

-- the parties of a call whose two allocators may make all honest steps, with this body and post-return
abbrev pub any_honest : Run → PostRun → Parties
any_honest runs posts = record { caller_allocates = AnyGrant; callee_allocates = AnyGrant; runs = runs; posts = posts }

-- a typed call between guests that make any honest step keeps the promise, with no premise on the guests
abbrev pub AnyHonestIsPromised : Run → PostRun → Type 0
AnyHonestIsPromised runs posts =
    (f : FunctionType) (arguments : List Value) (old : CallState) (result : Result (Option Value) Fault) (new : CallState)
    → IsStandardFunction f → TypedCall (any_honest runs posts) exact f arguments old result new
    → KeepsPromise (any_honest runs posts) exact f arguments old result new

-- a call of flat values between such guests keeps the promise too, if the return area is lent
abbrev pub AnyHonestLinkIsPromised : Run → PostRun → Type 0
AnyHonestLinkIsPromised runs posts =
    (f : FunctionType) (flats : List Flat) (old : CallState) (result : Result (List Flat) Fault) (ways : Ways) (new : CallState)
    → IsStandardFunction f → Calls (any_honest runs posts) exact f flats old result ways new → LendsArea f flats old.caller
    → LinkKeepsPromise (any_honest runs posts) exact f flats old result new
