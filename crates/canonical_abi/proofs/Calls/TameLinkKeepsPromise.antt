-- A call of flat values over tame guests, with a return area that is lent, keeps the promise of what is live.
use Rattle.std.proofs.Common.{List}
use Rattle.canonical_abi.specs.Types.{FunctionType}
use Rattle.canonical_abi.specs.Guest.{Release}
use Rattle.canonical_abi.specs.Call.{Order, Parties, CallState, area_of}
use Rattle.canonical_abi.specs.Headline.{area_size}
use Rattle.canonical_abi.specs.Tame.{AreTame, CalleeLeavesLive, GivesLive, IsLiveLinkTrap, LeavesLive, LinkLivePromise, LinksLive}
use Rattle.canonical_abi.specs.declared.flat.Flat.{Flat}
use Rattle.canonical_abi.specs.declared.trap.TrapKind.{TrapKind}
use Rattle.canonical_abi.specs.declared.trap.Step.{Step}
use Rattle.canonical_abi.specs.declared.trap.Step.TheVariants as step
use Rattle.canonical_abi.proofs.Calls.WaysOfCalls.{area-left, own-left}
use Rattle.canonical_abi.proofs.Calls.LinkKeepsPromise.{Goes, OwnTrap, Waits, goes-as, link-goes, traps-stand}

module _ (parties : Parties) (caller_releases callee_releases : Release) (tame : AreTame parties caller_releases callee_releases) where
  pub waits-live : (old new : CallState) → Waits parties old new → CalleeLeavesLive old new
  waits-live old new (went, body) = record { kept = own-left parties.callee_allocates callee_releases tame.callee old.callee new.callee went; same_body = body }

-- the trap without its trace
pub live-link-trap : (parties : Parties) (f : FunctionType) (flats : List Flat) (old new : CallState) (s : Step) (k : TrapKind) → OwnTrap parties f flats old new s k → IsLiveLinkTrap parties f flats old new s k
live-link-trap parties f flats old new step.LiftResult k (values, held, (answer, ran, found, fault, same)) = (values, held, (answer, ran, found.0, fault, same))
live-link-trap parties f flats old new s k t = t

pub tame-link-keeps-promise : (parties : Parties) (caller_releases callee_releases : Release) (order : Order) → LinkLivePromise parties caller_releases callee_releases order
tame-link-keeps-promise parties caller_releases callee_releases order f flats old result ways new standard called tame lends =
    record { finds = g.finds; before = g.before; once = g.once; gives = g.gives; unchanged = g.unchanged; trap = traps-stand parties order f flats old result ways new called; own = g.own }
  where
    g : Goes parties order result new (CalleeLeavesLive old new) (LinksLive parties f flats old) (λ back. GivesLive parties f flats old back new)
        (LeavesLive (area_of f flats) (area_size f) old.caller new.caller) (IsLiveLinkTrap parties f flats old new)
    g = goes-as parties order new (waits-live parties caller_releases callee_releases tame old new) (λ After l. l.0) (λ back g. g.0)
        (area-left parties.caller_allocates caller_releases tame.caller old.caller new.caller f (area_of f flats))
        (live-link-trap parties f flats old new) result (link-goes parties caller_releases callee_releases order f flats tame standard old lends result ways new called)
