-- The weakest tame guest: its allocator may make every grant, refusal and release that leaves what is live, and writes what it likes elsewhere.
use Rattle.std.specs.Prelude.{true, false, List, Option, None, Some, Result}
use Rattle.canonical_abi.specs.Types.{FunctionType}
use Rattle.canonical_abi.specs.Values.{Value}
use Rattle.canonical_abi.specs.Guest.{Allocation, Release}
use Rattle.canonical_abi.specs.Call.{Parties, CallState, Order, Run, PostRun, Ways, exact, Calls}
use Rattle.canonical_abi.specs.Session.{TypedCall}
use Rattle.canonical_abi.specs.Headline.{IsStandardFunction, LendsArea}
use Rattle.canonical_abi.specs.Tame.{LeavesLive, IsTameGrant, IsTameRelease, KeepsLivePromise, LinkKeepsLivePromise}
use Rattle.canonical_abi.specs.declared.flat.Flat.{Flat}
use Rattle.canonical_abi.specs.declared.trap.Fault.{Fault}

-- an allocator that may grant every block that a tame one may, or refuse and leave what is live
abbrev pub AnyTameGrant : Allocation
AnyTameGrant old align size (Some at) new = IsTameGrant old align size at new
AnyTameGrant old align size None new = LeavesLive 0 0 old new

-- a `free` that may take back every block as a tame one may, or refuse and leave what is live
abbrev pub AnyTameRelease : Release
AnyTameRelease old at size true new = IsTameRelease old at size new
AnyTameRelease old at size false new = LeavesLive 0 0 old new

-- the parties of a call whose two allocators may make all tame steps, with this body and post-return
abbrev pub any_tame : Run → PostRun → Parties
any_tame runs posts = record { caller_allocates = AnyTameGrant; callee_allocates = AnyTameGrant; runs = runs; posts = posts }

-- a typed call keeps the promise of what is live, with no premise on the guests
abbrev pub CallsKeepLive : Parties → Order → Type 0
CallsKeepLive parties order =
    (f : FunctionType) (arguments : List Value) (old : CallState) (result : Result (Option Value) Fault) (new : CallState)
    → IsStandardFunction f → TypedCall parties order f arguments old result new
    → KeepsLivePromise parties order f arguments old result new

-- a call of flat values, too, if the return area is lent
abbrev pub LinksKeepLive : Parties → Order → Type 0
LinksKeepLive parties order =
    (f : FunctionType) (flats : List Flat) (old : CallState) (result : Result (List Flat) Fault) (ways : Ways) (new : CallState)
    → IsStandardFunction f → Calls parties order f flats old result ways new → LendsArea f flats old.caller
    → LinkKeepsLivePromise parties order f flats old result new

-- a typed call between such guests keeps the promise of what is live, with no premise on the guests
abbrev pub AnyTameIsPromised : Run → PostRun → Type 0
AnyTameIsPromised runs posts =
    (f : FunctionType) (arguments : List Value) (old : CallState) (result : Result (Option Value) Fault) (new : CallState)
    → IsStandardFunction f → TypedCall (any_tame runs posts) exact f arguments old result new
    → KeepsLivePromise (any_tame runs posts) exact f arguments old result new

-- a call of flat values between them, too, if the return area is lent
abbrev pub AnyTameLinkIsPromised : Run → PostRun → Type 0
AnyTameLinkIsPromised runs posts =
    (f : FunctionType) (flats : List Flat) (old : CallState) (result : Result (List Flat) Fault) (ways : Ways) (new : CallState)
    → IsStandardFunction f → Calls (any_tame runs posts) exact f flats old result ways new → LendsArea f flats old.caller
    → LinkKeepsLivePromise (any_tame runs posts) exact f flats old result new
