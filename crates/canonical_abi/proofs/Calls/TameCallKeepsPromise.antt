-- A typed call over tame guests keeps the promise of what is live.
use Rattle.std.proofs.Common.{List, Option, Result, Some}
use Rattle.canonical_abi.specs.Types.{FunctionType}
use Rattle.canonical_abi.specs.Values.{Value}
use Rattle.canonical_abi.specs.Guest.{Release}
use Rattle.canonical_abi.specs.Call.{Order, Parties, CallState}
use Rattle.canonical_abi.specs.Session.{TypedCall}
use Rattle.canonical_abi.specs.Headline.{IsPosted, IsStandardFunction, LiftsExactly}
use Rattle.canonical_abi.specs.Tame.{AreTame, CallKeepsLivePromise, CalleeLeavesLive, FindsLive, IsLiveTrap, LeavesLive, RunsLive}
use Rattle.canonical_abi.specs.declared.flat.Flat.{Flat}
use Rattle.canonical_abi.specs.declared.trap.Fault.{Fault}
use Rattle.canonical_abi.specs.declared.trap.TrapKind.{TrapKind}
use Rattle.canonical_abi.specs.declared.trap.Step.{Step}
use Rattle.canonical_abi.specs.declared.trap.Step.TheVariants as step
use Rattle.canonical_abi.proofs.Calls.WaysOfCalls.{own-left}
use Rattle.canonical_abi.proofs.Calls.LinkKeepsPromise.{Goes, goes-as}
use Rattle.canonical_abi.proofs.Calls.TameLinkKeepsPromise.{waits-live}
use Rattle.canonical_abi.proofs.Calls.CallKeepsPromise.{OwnCallTrap, call-goes, call-stands, call-went-on}

module _ (parties : Parties) (f : FunctionType) (arguments : List Value) (old new : CallState) where
  -- the trap without its trace
  live-trap : (s : Step) (k : TrapKind) → OwnCallTrap parties f arguments old new s k → IsLiveTrap parties f arguments old new s k
  live-trap step.LiftResult k (answer, ran, found, fault, same) = (answer, ran, found.0, fault, same)
  live-trap s k t = t

-- whatever a typed call answers, all that is live in the caller stays
pub call-leaves-caller : (parties : Parties) (caller_releases callee_releases : Release) (order : Order) (f : FunctionType) (arguments : List Value) → AreTame parties caller_releases callee_releases → IsStandardFunction f
    → (old : CallState) (result : Result (Option Value) Fault) (new : CallState) → TypedCall parties order f arguments old result new → LeavesLive 0 0 old.caller new.caller
call-leaves-caller parties caller_releases callee_releases order f arguments tame standard old result new called =
    own-left parties.caller_allocates caller_releases tame.caller old.caller new.caller (call-went-on parties caller_releases callee_releases order f arguments tame standard old result new called)

pub tame-call-keeps-promise : (parties : Parties) (caller_releases callee_releases : Release) (order : Order) → CallKeepsLivePromise parties caller_releases callee_releases order
tame-call-keeps-promise parties caller_releases callee_releases order f arguments old result new standard called tame =
    record { finds = g.finds; before = g.before; once = g.once; lifts = g.gives; unchanged = g.unchanged; trap = call-stands parties order f arguments old result new called; own = g.own }
  where
    g : Goes parties order result new (CalleeLeavesLive old new) (RunsLive parties f arguments old)
        (λ v. (answer : List Flat) × (ran : CallState) × FindsLive parties f arguments old (Some answer) ran × LiftsExactly parties f v answer ran × IsPosted parties (Some tt) new (Some answer) ran)
        (LeavesLive 0 0 old.caller new.caller) (IsLiveTrap parties f arguments old new)
    g = goes-as parties order new (waits-live parties caller_releases callee_releases tame old new) (λ After r. r.0) (λ v l. (l.0, l.1, l.2.0, l.3, l.4))
        (own-left parties.caller_allocates caller_releases tame.caller old.caller new.caller) (live-trap parties f arguments old new) result
        (call-goes parties caller_releases callee_releases order f arguments tame standard old result new called)
