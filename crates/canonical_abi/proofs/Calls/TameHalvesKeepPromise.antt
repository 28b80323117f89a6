-- Each half of a call over a tame guest keeps a promise of its own, and the whole one keeps both, whatever became of the caller between.
use Rattle.std.proofs.Common.{List}
use Rattle.canonical_abi.specs.Types.{FunctionType}
use Rattle.canonical_abi.specs.Guest.{Allocation, Memory, Release}
use Rattle.canonical_abi.specs.Call.{Parties, CallState, area_of, exact}
use Rattle.canonical_abi.specs.Headline.{area_size}
use Rattle.canonical_abi.specs.Tame.{CalleeLeavesLive, GivesLive, IsTame, LeavesLive, LinksLive}
use Rattle.canonical_abi.specs.TameHalves.{EntryKeepsLivePromise, HalvesKeepLivePromise, IsLiveHalvesTrap, ReturnKeepsLivePromise}
use Rattle.canonical_abi.specs.declared.flat.Flat.{Flat}
use Rattle.canonical_abi.specs.declared.trap.TrapKind.{TrapKind}
use Rattle.canonical_abi.specs.declared.trap.Step.{Step}
use Rattle.canonical_abi.specs.declared.trap.Step.TheVariants as step
use Rattle.canonical_abi.proofs.Calls.WaysOfCalls.{own-left, area-left}
use Rattle.canonical_abi.proofs.Calls.LinkKeepsPromise.{Goes, goes-as}
use Rattle.canonical_abi.proofs.Calls.TameLinkKeepsPromise.{live-link-trap, waits-live}
use Rattle.canonical_abi.proofs.Calls.HalvesKeepPromise.{HalvesTrap, entry-done, entry-fails, halves-go, return-done, return-fails}

pub tame-entry-keeps-promise : (allocates : Allocation) (releases : Release) → IsTame allocates releases → EntryKeepsLivePromise allocates
tame-entry-keeps-promise allocates releases tame = record {
  done = λ f flats m old handed new c standard h. (entry-done allocates releases tame f flats m old handed new c standard h).0;
  fails = λ f flats m old fault new c h.
      let (went, own) = entry-fails allocates releases tame f flats m old fault new c h in (own-left allocates releases tame old new went, own);
}

pub tame-return-keeps-promise : (allocates : Allocation) (releases : Release) → IsTame allocates releases → ReturnKeepsLivePromise allocates
tame-return-keeps-promise allocates releases tame = record {
  done = λ f flats m answer old given new c standard kinds lends h. (return-done allocates releases tame f flats m answer old given new c standard kinds lends h).0;
  fails = λ f flats m answer old fault new c h.
      let (went, own) = return-fails allocates releases tame f flats m answer old fault new c h in (area-left allocates releases tame old new f (area_of f flats) went, own);
}

-- the trap without its trace
live-halves-trap : (parties : Parties) (f : FunctionType) (flats : List Flat) (old : CallState) (between : Memory) (new : CallState) (s : Step) (k : TrapKind)
    → HalvesTrap parties f flats old between new s k → IsLiveHalvesTrap parties f flats old between new s k
live-halves-trap parties f flats old between new step.LiftResult k t = live-link-trap parties f flats old new step.LiftResult k t
live-halves-trap parties f flats old between new s k t = t

pub tame-halves-keep-promise : (parties : Parties) (caller_releases callee_releases : Release) → HalvesKeepLivePromise parties caller_releases callee_releases
tame-halves-keep-promise parties caller_releases callee_releases f flats old between result there back new standard called tame lends =
    record { finds = g.finds; before = g.before; once = g.once; gives = g.gives; unchanged = g.unchanged; own = g.own }
  where
    g : Goes parties exact result new (CalleeLeavesLive old new) (LinksLive parties f flats old) (λ back. GivesLive parties f flats old back new)
        (LeavesLive (area_of f flats) (area_size f) between new.caller) (IsLiveHalvesTrap parties f flats old between new)
    g = goes-as parties exact new (waits-live parties caller_releases callee_releases tame old new) (λ After l. l.0) (λ back g. g.0)
        (area-left parties.caller_allocates caller_releases tame.caller between new.caller f (area_of f flats)) (live-halves-trap parties f flats old between new) result
        (halves-go parties caller_releases callee_releases tame f flats standard old between lends result there back new called)
