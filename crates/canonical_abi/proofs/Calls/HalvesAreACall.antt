-- A call, chained of its halves and of what the host ran between and after them.
use Rattle.std.proofs.Common.{inl, inr, List, [], ℕ, Some, None, Result, Ok, Err, refl, sym, ap, subst}
use Rattle.canonical_abi.specs.Types.{FunctionType}
use Rattle.canonical_abi.specs.Guest.{Memory}
use Rattle.canonical_abi.specs.Trace.{Event}
use Rattle.canonical_abi.specs.Call.{exact, Parties, CallState, Ways, Enters, Answered, Returned, ArgumentsFaulty, ResultFaulty, ResultFails, Traps}
use Rattle.canonical_abi.specs.Halves.{entering, returning, source, as_state, HasEntered, EntryFails, ReturnFails, RunsBetween, RunsAndReturns, CallsWithNodes, HalvesAreACall, body_stopped, post_stopped, ends_at_entry, ends_at_run, ends_at_return, ends_at_post, completes}
use Rattle.canonical_abi.specs.declared.flat.Flat.{Flat}
use Rattle.canonical_abi.specs.declared.trap.Fault.{Fault}
use Rattle.canonical_abi.specs.declared.trap.Fault.TheVariants as ended
use Rattle.canonical_abi.specs.declared.trap.Step.{Step}
use Rattle.canonical_abi.specs.declared.trap.TrapKind.{TrapKind}

module _ (parties : Parties) (f : FunctionType) (flats : List Flat) (old : CallState) where
  abbrev Ends : Result (List Flat) Fault → CallState → ℕ → ℕ → Type 0
  Ends result new there back = CallsWithNodes parties f flats old result there back new

  abbrev ways_of : List Event → List Event → Ways
  ways_of there back = record { there = there; back = back }

  -- ---- the arguments

  args_faulty : (k : TrapKind) (done : List Event) (callee : Memory) → ArgumentsFaulty (entering parties.callee_allocates) exact f flats (as_state (source old.caller.bytes) old.callee []) k done (as_state (source old.caller.bytes) callee [])
      → ArgumentsFaulty parties exact f flats old k done (as_state old.caller callee old.body)
  args_faulty k done callee (inl (other, is, none, same)) = inl (other, is, none, ap (λ w. as_state old.caller w.callee old.body) same)
  args_faulty k done callee (inr (inl (kinds, address, none, same))) = inr (inl (kinds, address, none, ap (λ w. as_state old.caller w.callee old.body) same))
  args_faulty k done callee (inr (inr (kinds, es, until, front, begun, same, kept))) = inr (inr (kinds, es, until, front, begun, refl, refl))

  entry-fails : (fault : Fault) (callee : Memory) (there : ℕ) → EntryFails parties.callee_allocates f flats old.caller.bytes old.callee fault callee there
      → Ends (Err fault) (as_state old.caller callee old.body) there 0
  entry-fails ended.NoMemory callee there never = absurd never
  entry-fails (ended.Trap t) callee there (inl (is, done, faulty, counts)) =
      let P : Step → Type 0 = λ s. Traps parties exact f flats old s t.kind (ways_of done []) (as_state old.caller callee old.body) in
      (ways_of done [], subst P (sym is) (args_faulty t.kind done callee faulty, refl), (counts, refl))
  entry-fails (ended.Trap t) callee there (inr (is, done, (kinds, es, script, breaks, is_done, same, kept), counts)) =
      let P : Step → Type 0 = λ s. Traps parties exact f flats old s t.kind (ways_of done []) (as_state old.caller callee old.body) in
      (ways_of done [], subst P (sym is) ((kinds, es, script, breaks, is_done, refl, refl), refl), (counts, refl))

  -- ---- the run

  pub enters : (handed : List Flat) (entered : Memory) (there : ℕ) (h : HasEntered parties.callee_allocates f flats old.caller.bytes old.callee handed entered there)
      → Enters parties f flats old h.0 handed h.1 (as_state old.caller entered old.body)
  enters handed entered there h =
      let e = h.2 in
      record { kinds = e.kinds; denoted = e.denoted; passes = e.passes; leads = e.leads; small = e.small; same_caller = refl; same_body = refl }

  run-stops : (there : ℕ) (ran : Memory) (body : List ℕ) → RunsBetween parties f flats old there None ran body → Ends (Err body_stopped) (as_state old.caller ran body) there 0
  run-stops there ran body r =
      let h = r.enters in (
        ways_of h.1 [],
        (h.0, r.handed, as_state old.caller r.entered old.body, refl, enters r.handed r.entered there h, record { run = r.run; same_caller = refl }, refl),
        (h.3, refl),
      )

  module _ (there : ℕ) (answer : List Flat) (ran : Memory) (body : List ℕ) (r : RunsBetween parties f flats old there (Some answer) ran body) where
    abbrev pub after : CallState
    after = as_state old.caller ran body

    abbrev pub put : List Event
    put = r.enters.1

    abbrev pub answered : Answered parties f flats old answer put after
    answered = record {
      values = r.enters.0;
      handed = r.handed;
      entered = as_state old.caller r.entered old.body;
      enters = enters r.handed r.entered there r.enters;
      runs = record { run = r.run; same_caller = refl };
    }

    -- ---- the result

    result_faulty : (k : TrapKind) (done : List Event) (caller : Memory) → ResultFaulty (returning parties.caller_allocates) exact f flats (as_state old.caller (source ran.bytes) []) answer k done (as_state caller (source ran.bytes) [])
        → ResultFaulty parties exact f flats after answer k done (as_state caller ran body)
    result_faulty k done caller (inl (address, none, same)) = inl (address, none, ap (λ w. as_state w.caller ran body) same)
    result_faulty k done caller (inr (u, es, until, front, begun, same, kept)) = inr (u, es, until, front, begun, refl, refl)

    result_fails : (k : TrapKind) (done : List Event) (caller : Memory) → ResultFails (returning parties.caller_allocates) exact f flats (as_state old.caller (source ran.bytes) []) answer k done (as_state caller (source ran.bytes) [])
        → ResultFails parties exact f flats after answer k done (as_state caller ran body)
    result_fails k done caller (inl (u, bad, none, same)) = inl (u, bad, none, ap (λ w. as_state w.caller ran body) same)
    result_fails k done caller (inr (stands, es, script, breaks, is_done, same, kept)) = inr (stands, es, script, breaks, is_done, refl, refl)

    return-fails : (fault : Fault) (caller : Memory) (back : ℕ) → ReturnFails parties.caller_allocates f flats ran.bytes answer old.caller fault caller back
        → Ends (Err fault) (as_state caller ran body) there back
    return-fails ended.NoMemory caller back never = absurd never
    return-fails (ended.Trap t) caller back (inl (is, done, faulty, counts)) =
        let P : Step → Type 0 = λ s. Traps parties exact f flats old s t.kind (ways_of put done) (as_state caller ran body) in
        (ways_of put done, subst P (sym is) (answer, after, answered, result_faulty t.kind done caller faulty), (r.enters.3, counts))
    return-fails (ended.Trap t) caller back (inr (is, done, failed, counts)) =
        let P : Step → Type 0 = λ s. Traps parties exact f flats old s t.kind (ways_of put done) (as_state caller ran body) in
        (ways_of put done, subst P (sym is) (answer, after, answered, result_fails t.kind done caller failed), (r.enters.3, counts))

  module _ (there back : ℕ) (answer given : List Flat) (caller ran : Memory) (body : List ℕ) (b : RunsAndReturns parties f flats old old.caller there back answer given caller ran body) where
    abbrev both : Ways
    both = ways_of b.runs.enters.1 b.returns.1

    returned : Returned parties f flats old answer given both (as_state caller ran body)
    returned =
        let e = b.returns.2 in
        record {
          values = b.returns.0;
          answered = as_state old.caller ran body;
          answers = answered there answer ran body b.runs;
          returns = record { denoted = e.denoted; area_stands = e.area_stands; passes = e.passes; leads = e.leads; small = e.small; same_callee = refl; same_body = refl };
        }

    post-stops : (callee : Memory) (kept : List ℕ) → parties.posts body ran answer kept callee None → Ends (Err post_stopped) (as_state caller callee kept) there back
    post-stops callee kept post =
        (both, (answer, given, as_state caller ran body, refl, returned, record { run = post; same_caller = refl }), (b.runs.enters.3, b.returns.3))

    whole : (callee : Memory) (kept : List ℕ) → parties.posts body ran answer kept callee (Some tt) → Ends (Ok given) (as_state caller callee kept) there back
    whole callee kept post = (
      both,
      record {
        answer = answer;
        returned = as_state caller ran body;
        returns = returned;
        finishes = record { run = post; same_caller = refl };
      },
      (b.runs.enters.3, b.returns.3),
    )

pub halves-are-a-call : (parties : Parties) → HalvesAreACall parties
halves-are-a-call parties f flats old _ _ _ _ (ends_at_entry fault there callee fails) = entry-fails parties f flats old fault callee there fails
halves-are-a-call parties f flats old _ _ _ _ (ends_at_run there ran body r) = run-stops parties f flats old there ran body r
halves-are-a-call parties f flats old _ _ _ _ (ends_at_return there back answer fault caller ran body r fails) =
    return-fails parties f flats old there answer ran body r fault caller back fails
halves-are-a-call parties f flats old _ _ _ _ (ends_at_post there back answer given caller ran body b callee kept post) =
    post-stops parties f flats old there back answer given caller ran body b callee kept post
halves-are-a-call parties f flats old _ _ _ _ (completes there back answer given caller ran body b callee kept post) =
    whole parties f flats old there back answer given caller ran body b callee kept post
