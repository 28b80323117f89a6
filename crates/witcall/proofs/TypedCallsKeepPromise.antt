-- A function of a package has types that a package can have, and so its typed calls keep the promise.
use Rattle.std.proofs.Common.{List, Option, Result}
use Rattle.canonical_abi.specs.Values.{Value}
use Rattle.canonical_abi.specs.Guest.{Release}
use Rattle.canonical_abi.specs.Call.{Parties, CallState, exact}
use Rattle.canonical_abi.specs.Session.{TypedCall}
use Rattle.canonical_abi.specs.Headline.{IsPromised}
use Rattle.canonical_abi.specs.Tame.{IsPromisedLive}
use Rattle.canonical_abi.specs.declared.trap.Fault.{Fault}
use Rattle.canonical_abi.proofs.Calls.CallKeepsPromise.{keeps-promise}
use Rattle.canonical_abi.proofs.Calls.TameCallKeepsPromise.{tame-call-keeps-promise}
use Rattle.tables.specs.Closed.{function_type, IsFunction}
use Rattle.tables.specs.declared.tables.FunctionId.{FunctionId}
use Rattle.tables.specs.declared.tables.Resolve.{Resolve}
use Rattle.tables.proofs.HasStandardTypes.{function-standard}

pub promised : (parties : Parties) (caller_releases callee_releases : Release) (r : Resolve) (f : FunctionId) (arguments : List Value) (old : CallState)
    (result : Result (Option Value) Fault) (new : CallState) → IsFunction r f → TypedCall parties exact (function_type r f) arguments old result new
    → IsPromised parties caller_releases callee_releases exact (function_type r f) arguments old result new
promised parties caller_releases callee_releases r f arguments old result new is called =
    keeps-promise parties caller_releases callee_releases exact (function_type r f) arguments old result new (function-standard r f is) called

-- over tame guests, too
pub promised-live : (parties : Parties) (caller_releases callee_releases : Release) (r : Resolve) (f : FunctionId) (arguments : List Value) (old : CallState)
    (result : Result (Option Value) Fault) (new : CallState) → IsFunction r f → TypedCall parties exact (function_type r f) arguments old result new
    → IsPromisedLive parties caller_releases callee_releases exact (function_type r f) arguments old result new
promised-live parties caller_releases callee_releases r f arguments old result new is called =
    tame-call-keeps-promise parties caller_releases callee_releases exact (function_type r f) arguments old result new (function-standard r f is) called
