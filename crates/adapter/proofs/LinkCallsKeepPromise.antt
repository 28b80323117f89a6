-- A function of a package has types that a package can have, and so a link's calls keep the promise.
use Rattle.std.proofs.Common.{◌≡◌, ℕ, List, Result}
use Rattle.canonical_abi.specs.Guest.{Release}
use Rattle.canonical_abi.specs.Call.{Parties, CallState, Ways, exact, Calls}
use Rattle.canonical_abi.specs.Halves.{counted_nodes, CallsInHalves}
use Rattle.canonical_abi.specs.Headline.{IsLinkPromised}
use Rattle.canonical_abi.specs.Tame.{IsLinkPromisedLive}
use Rattle.canonical_abi.specs.declared.flat.Flat.{Flat}
use Rattle.canonical_abi.specs.declared.trap.Fault.{Fault}
use Rattle.canonical_abi.specs.Few.{AreFewNodes}
use Rattle.canonical_abi.proofs.Calls.VisitsFewNodes.{visits-few-nodes}
use Rattle.canonical_abi.proofs.Calls.HalvesAreACall.{halves-are-a-call}
use Rattle.canonical_abi.proofs.Calls.LinkKeepsPromise.{link-keeps-promise}
use Rattle.canonical_abi.proofs.Calls.TameLinkKeepsPromise.{tame-link-keeps-promise}
use Rattle.layout.specs.Layout.{AreWithin}
use Rattle.tables.specs.Closed.{function_type, IsFunction}
use Rattle.tables.specs.declared.tables.FunctionId.{FunctionId}
use Rattle.tables.specs.declared.tables.Resolve.{Resolve}
use Rattle.tables.proofs.HasStandardTypes.{function-standard}
use Rattle.adapter.proofs.FunctionsInLayouts.{function-shallow}

pub link-promised : (parties : Parties) (caller_releases callee_releases : Release) (r : Resolve) (f : FunctionId) (flats : List Flat) (old : CallState)
    (result : Result (List Flat) Fault) (new : CallState) → IsFunction r f → (ways : Ways) → Calls parties exact (function_type r f) flats old result ways new
    → IsLinkPromised parties caller_releases callee_releases exact (function_type r f) flats old result new
link-promised parties caller_releases callee_releases r f flats old result new is ways calls =
    link-keeps-promise parties caller_releases callee_releases exact (function_type r f) flats old result ways new (function-standard r f is) calls

-- over tame guests, too
pub link-promised-live : (parties : Parties) (caller_releases callee_releases : Release) (r : Resolve) (f : FunctionId) (flats : List Flat) (old : CallState)
    (result : Result (List Flat) Fault) (new : CallState) → IsFunction r f → (ways : Ways) → Calls parties exact (function_type r f) flats old result ways new
    → IsLinkPromisedLive parties caller_releases callee_releases exact (function_type r f) flats old result new
link-promised-live parties caller_releases callee_releases r f flats old result new is ways calls =
    tame-link-keeps-promise parties caller_releases callee_releases exact (function_type r f) flats old result ways new (function-standard r f is) calls

-- and visit few nodes, so many
pub link-told : (parties : Parties) (r : Resolve) → ∥ AreWithin r ∥₁ → (f : FunctionId) (flats : List Flat) (old : CallState) (result : Result (List Flat) Fault) (new : CallState) (there back : ℕ) → IsFunction r f
    → CallsInHalves parties (function_type r f) flats old old.caller result there back new
    → (ways : Ways) × Calls parties exact (function_type r f) flats old result ways new × ((there ≡ counted_nodes ways.there) × (back ≡ counted_nodes ways.back)) × AreFewNodes (function_type r f) ways
link-told parties r within f flats old result new there back is halves =
    let (ways, calls, counts) = halves-are-a-call parties (function_type r f) flats old result there back new halves in
    (ways, calls, counts, visits-few-nodes parties (function_type r f) flats old result ways new (function-standard r f is) (function-shallow r within f is) calls)
