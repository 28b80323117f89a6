-- Each half of a call keeps a promise of its own, and the whole one keeps both, whatever became of the caller between: over tame and over honest
-- guests, by the traces of a call.
use Rattle.std.proofs.Common.{◌≡◌, inl, inr, ℕ, List, [], Option, Some, None, Result, Ok, Err, refl, sym, subst, ◌⊎◌}
use Rattle.canonical_abi.specs.Types.{FunctionType, result_fields}
use Rattle.canonical_abi.specs.Guest.{Memory, Allocation, Release, IsHonest}
use Rattle.canonical_abi.specs.Call.{exact, Parties, CallState, KindsFit, area_of, ReturnAreaFaulty}
use Rattle.canonical_abi.specs.Headline.{AreHonest, IsStandardFunction, KeepsOutside, LendsArea, area_size, CalleeIsUnchanged, AfterTrap, IsPosted, LinksOnce, IfTrap, EntersBody, GivesBack, IsBeforeBody}
use Rattle.canonical_abi.specs.Halves.{entering, returning, source, as_state, HasEntered, EntryFails, HasReturned, ReturnFails, IsEntryTrap, EntryKeepsPromise, IsReturnTrap, ReturnKeepsPromise, RunsBetween, RunsAndReturns, HalvesKeepPromise, body_stopped, post_stopped, ends_at_entry, ends_at_run, ends_at_return, ends_at_post, completes, CallsInHalves, IsHalvesTrap}
use Rattle.canonical_abi.specs.Tame.{AreTame, GivesLive, IsTame}
use Rattle.canonical_abi.specs.TameHalves.{FindsArgumentsLive, GivesAnswerLive}
use Rattle.canonical_abi.specs.TameLaws.{HonestIsTame}
use Rattle.canonical_abi.specs.declared.flat.Flat.{Flat}
use Rattle.canonical_abi.specs.declared.trap.Fault.{Fault}
use Rattle.canonical_abi.specs.declared.trap.Fault.TheVariants.{Trap, NoMemory}
use Rattle.canonical_abi.specs.declared.trap.Step.{Step}
use Rattle.canonical_abi.specs.declared.trap.Step.TheVariants as step
use Rattle.canonical_abi.specs.declared.trap.TrapKind.{TrapKind}
use Rattle.canonical_abi.specs.declared.trap.TrapKind.TheVariants as trap
use Rattle.canonical_abi.proofs.FlatValues.LoweredIsDenoted.{Nowhere}
use Rattle.canonical_abi.proofs.Traces.ConfinedTraces.{Went, went-by, went-same}
use Rattle.canonical_abi.proofs.Calls.WaysOfCalls.{InArea, passes-result-confined, passes-result-aligned, lent-live, params-arrive, result-arrives, area-left, area-outside, own-left, own-outside}
use Rattle.canonical_abi.proofs.Calls.LinkKeepsPromise.{result-faulty, result-fails, found, answered-found, Found, Gave, Goes, Linked, OwnTrap, Waits, are-tame, gives-once, goes-as, link-trap, linked, links-once, traps-wait, waits-unchanged}
use Rattle.canonical_abi.proofs.Calls.HalvesAreACall.{enters, put, after, answered}

-- who grants nothing and takes nothing back
abbrev nobody : Allocation
nobody = λ old align size at new. ⊥

abbrev no_release : Release
no_release = λ old at size taken new. ⊥

nobody-is-tame : IsTame nobody no_release
nobody-is-tame = record {
  granted = λ old align size at new alignment h. absurd h;
  full = λ old align size new h. absurd h;
  taken = λ old at size new h. absurd h;
  not_taken = λ old at size new h. absurd h;
}

-- ---- each half over a tame guest, with the trace that its memory went through

module _ (allocates : Allocation) (releases : Release) (tame : IsTame allocates releases) (f : FunctionType) (flats : List Flat) where
  enters-tame : AreTame (entering allocates) no_release releases
  enters-tame = record { caller = nobody-is-tame; callee = tame }

  returns-tame : AreTame (returning allocates) releases no_release
  returns-tame = record { caller = tame; callee = nobody-is-tame }

  abbrev area : ℕ
  area = area_of f flats

  -- the caller went through a trace that is confined to the area and its own blocks
  abbrev AreaWent : Memory → Memory → Type 0
  AreaWent old new = Went allocates (InArea (result_fields f.result) area) old new

  -- the first half
  pub entry-done : (m : List ℕ) (old : Memory) (handed : List Flat) (new : Memory) (c : ℕ) → IsStandardFunction f
      → HasEntered allocates f flats m old handed new c → FindsArgumentsLive f flats m old handed new × Went allocates Nowhere old new
  entry-done m old handed new c standard (values, there, e, counts) =
      let (denotes, went) = params-arrive allocates releases tame old new e.small f.params values there handed standard.params e.passes e.leads in
      (record { arguments = values; held = e.denoted; finds = denotes; kept = own-left allocates releases tame old new went }, went)

  pub entry-fails : (m : List ℕ) (old : Memory) (fault : Fault) (new : Memory) (c : ℕ)
      → EntryFails allocates f flats m old fault new c → Went allocates Nowhere old new × IfTrap {A = List Flat} (Err fault) (IsEntryTrap f flats m)
  entry-fails m old NoMemory new c never = absurd never
  entry-fails m old (Trap t) new c (inl (is, done, faulty, counts)) =
      let (waits, own) = traps-wait (entering allocates) no_release releases exact f flats enters-tame (as_state (source m) old []) step.LiftArgs t.kind (record { there = done; back = [] }) (as_state (source m) new []) (faulty, refl) tt in
      (waits.0, subst (λ s. IsEntryTrap f flats m s t.kind) (sym is) own)
  entry-fails m old (Trap t) new c (inr (is, done, fail, counts)) =
      let (waits, own) = traps-wait (entering allocates) no_release releases exact f flats enters-tame (as_state (source m) old []) step.LowerArgs t.kind (record { there = done; back = [] }) (as_state (source m) new []) (fail, refl) tt in
      (waits.0, subst (λ s. IsEntryTrap f flats m s t.kind) (sym is) own)

  -- the second
  pub return-done : (m : List ℕ) (answer : List Flat) (old : Memory) (given : List Flat) (new : Memory) (c : ℕ) → IsStandardFunction f
      → KindsFit f flats → LendsArea f flats old → HasReturned allocates f flats m answer old given new c → GivesAnswerLive f flats m answer old given new × AreaWent old new
  return-done m answer old given new c standard kinds lends (values, back, r, counts) =
      let results = result_fields f.result in
      let went : AreaWent old new = went-by allocates (InArea results area) old back new
      (record { aligned = passes-result-aligned results area values back given r.passes; confined = passes-result-confined results area values back given r.passes; leads = r.leads }) in (
        record {
          values = values;
          answered = r.denoted;
          holds = result-arrives allocates releases tame old new r.small results area values back given standard.result (lent-live f area old (lends kinds r.area_stands)) r.area_stands r.passes r.leads;
          unchanged = area-left allocates releases tame old new f area went;
        },
        went,
      )

  pub return-fails : (m : List ℕ) (answer : List Flat) (old : Memory) (fault : Fault) (new : Memory) (c : ℕ) → ReturnFails allocates f flats m answer old fault new c
      → AreaWent old new × IfTrap {A = List Flat} (Err fault) (IsReturnTrap f flats m answer old)
  return-fails m answer old NoMemory new c never = absurd never
  return-fails m answer old (Trap t) new c (inl (is, done, faulty, counts)) =
      let (went, own) = result-faulty (returning allocates) releases no_release exact f flats returns-tame answer (as_state old (source m) []) (as_state new (source m) []) t.kind done faulty in
      (went, subst (λ s. IsReturnTrap f flats m answer old s t.kind) (sym is) own)
  return-fails m answer old (Trap t) new c (inr (is, done, fails, counts)) =
      let (went, own) = result-fails (returning allocates) releases no_release exact f flats returns-tame answer (as_state old (source m) []) (as_state new (source m) []) t.kind done fails in
      (went, subst (λ s. IsReturnTrap f flats m answer old s t.kind) (sym is) own)

-- ---- the whole over tame guests

-- a trap that its step can end in, with the trace that the callee went through before the body was entered
abbrev pub HalvesTrap : Parties → FunctionType → List Flat → CallState → Memory → CallState → Step → TrapKind → Type 0
HalvesTrap parties f flats old between new step.LowerResult k = (k ≡ trap.Full) ⊎ ReturnAreaFaulty f flats between k
HalvesTrap parties f flats old between new s k = OwnTrap parties f flats old new s k

module _ (parties : Parties) (caller_releases callee_releases : Release) (tame : AreTame parties caller_releases callee_releases) (f : FunctionType) (flats : List Flat) (standard : IsStandardFunction f)
    (old : CallState) (between : Memory) (lends : LendsArea f flats between) where
  -- from between on the caller went through a trace that is confined to the area and its own blocks
  abbrev CallerWent : CallState → Type 0
  CallerWent new = Went parties.caller_allocates (InArea (result_fields f.result) (area_of f flats)) between new.caller

  abbrev Keeps : Result (List Flat) Fault → CallState → Type 0
  Keeps result new = Goes parties exact result new (Waits parties old new) (Linked parties f flats old) (Gave parties f flats old new) (CallerWent new) (HalvesTrap parties f flats old between new)

  caller-same : CallerWent (as_state between old.callee old.body)
  caller-same = went-same parties.caller_allocates (InArea (result_fields f.result) (area_of f flats)) between between refl

  -- a trap of the first half comes before the body
  entry-late : (s : Step) (k : TrapKind) → IsEntryTrap f flats old.caller.bytes s k → EntersBody s → ⊥
  entry-late step.LiftArgs k t e = e
  entry-late step.LowerArgs k t e = e
  entry-late s k t e = t

  entry-own : (s : Step) (k : TrapKind) (new : CallState) → IsEntryTrap f flats old.caller.bytes s k → HalvesTrap parties f flats old between new s k
  entry-own step.LiftArgs k new t = t
  entry-own step.LowerArgs k new t = t
  entry-own s k new t = absurd t

  at-entry : (fault : Fault) (there : ℕ) (callee : Memory) → EntryFails parties.callee_allocates f flats old.caller.bytes old.callee fault callee there → Keeps (Err fault) (as_state between callee old.body)
  at-entry NoMemory there callee never = absurd never
  at-entry (Trap t) there callee h =
      let (went, own) = entry-fails parties.callee_allocates callee_releases tame.callee f flats old.caller.bytes old.callee (Trap t) callee there h in
      record {
        finds = λ e. absurd (entry-late t.step t.kind own e);
        before = λ b. (went, refl);
        once = inl (went, refl);
        gives = tt;
        unchanged = caller-same;
        own = entry-own t.step t.kind (as_state between callee old.body) own;
      }

  at-run : (there : ℕ) (ran : Memory) (body : List ℕ) → RunsBetween parties f flats old there None ran body → Keeps (Err body_stopped) (as_state between ran body)
  at-run there ran body r =
      record { finds = λ e. once; before = λ e. absurd e; once = inr once; gives = tt; unchanged = caller-same; own = refl }
    where
      once : Linked parties f flats old (AfterTrap parties step.Body (as_state between ran body))
      once =
          linked parties caller_releases callee_releases exact f flats tame standard old r.enters.0 r.enters.2.denoted None (as_state old.caller ran body)
          (found parties caller_releases callee_releases exact f flats tame standard old r.enters.0 r.handed r.enters.1 (as_state old.caller r.entered old.body)
          (enters parties f flats old r.handed r.entered there r.enters) None (as_state old.caller ran body) (record { run = r.run; same_caller = refl }))
          (AfterTrap parties step.Body (as_state between ran body)) (refl, (refl, refl))

  module _ (there : ℕ) (answer : List Flat) (ran : Memory) (body : List ℕ) (r : RunsBetween parties f flats old there (Some answer) ran body) where
    found-once : Found parties f r.enters.0 old (Some answer) (as_state old.caller ran body)
    found-once =
        answered-found parties caller_releases callee_releases exact f flats tame standard old answer (put parties f flats old there answer ran body r)
        (after parties f flats old there answer ran body r) (answered parties f flats old there answer ran body r)

    ran-once : (After : Option (List Flat) → CallState → Type 0) → After (Some answer) (as_state old.caller ran body) → Linked parties f flats old After
    ran-once After stands = linked parties caller_releases callee_releases exact f flats tame standard old r.enters.0 r.enters.2.denoted (Some answer) (as_state old.caller ran body) found-once After stands

    return-after : (s : Step) (k : TrapKind) (caller : Memory) → IsReturnTrap f flats ran.bytes answer between s k → AfterTrap parties s (as_state caller ran body) (Some answer) (as_state old.caller ran body)
    return-after step.LiftResult k caller t = (refl, refl)
    return-after step.LowerResult k caller t = (refl, refl)
    return-after s k caller t = absurd t

    return-early : (s : Step) (k : TrapKind) → IsReturnTrap f flats ran.bytes answer between s k → IsBeforeBody s → ⊥
    return-early step.LiftResult k t b = b
    return-early step.LowerResult k t b = b
    return-early s k t b = t

    return-own : (s : Step) (k : TrapKind) (caller : Memory) → IsReturnTrap f flats ran.bytes answer between s k → HalvesTrap parties f flats old between (as_state caller ran body) s k
    return-own step.LiftResult k caller t = (r.enters.0, r.enters.2.denoted, (answer, as_state old.caller ran body, found-once, t, (refl, refl)))
    return-own step.LowerResult k caller t = t
    return-own s k caller t = absurd t

    at-return : (fault : Fault) (caller : Memory) (back : ℕ) → ReturnFails parties.caller_allocates f flats ran.bytes answer between fault caller back → Keeps (Err fault) (as_state caller ran body)
    at-return NoMemory caller back never = absurd never
    at-return (Trap t) caller back h =
        let (went, own) = return-fails parties.caller_allocates caller_releases tame.caller f flats ran.bytes answer between (Trap t) caller back h in
        let once = ran-once (AfterTrap parties t.step (as_state caller ran body)) (return-after t.step t.kind caller own) in
        record {
          finds = λ e. once;
          before = λ b. absurd (return-early t.step t.kind own b);
          once = inr once;
          gives = tt;
          unchanged = went;
          own = return-own t.step t.kind caller own;
        }

  module _ (there back : ℕ) (answer given : List Flat) (caller ran : Memory) (body : List ℕ) (b : RunsAndReturns parties f flats old between there back answer given caller ran body) where
    gives : GivesAnswerLive f flats ran.bytes answer between given caller × Went parties.caller_allocates (InArea (result_fields f.result) (area_of f flats)) between caller
    gives =
        return-done parties.caller_allocates caller_releases tame.caller f flats ran.bytes answer between given caller back standard
        b.runs.enters.2.kinds lends b.returns

    at-post : (callee : Memory) (kept : List ℕ) → parties.posts body ran answer kept callee None → Keeps (Err post_stopped) (as_state caller callee kept)
    at-post callee kept post =
        let once = ran-once there answer ran body b.runs (IsPosted parties None (as_state caller callee kept)) post in
        record { finds = λ e. once; before = λ e. absurd e; once = inr once; gives = tt; unchanged = gives.1; own = refl }

    whole : (callee : Memory) (kept : List ℕ) → parties.posts body ran answer kept callee (Some tt) → Keeps (Ok given) (as_state caller callee kept)
    whole callee kept post =
        let once = ran-once there answer ran body b.runs (IsPosted parties (Some tt) (as_state caller callee kept)) post in
        let (found, went) = found-once there answer ran body b.runs in
        let gave : GivesLive parties f flats old given (as_state caller callee kept) = record {
          arguments = b.runs.enters.0;
          held = b.runs.enters.2.denoted;
          answer = answer;
          ran = as_state old.caller ran body;
          found = found;
          values = gives.0.values;
          answered = gives.0.answered;
          given = gives.0.holds;
          posted = post;
        } in
        record { finds = λ e. once; before = λ e. absurd e; once = inr once; gives = (gave, went); unchanged = gives.1; own = tt }

  pub halves-go : (result : Result (List Flat) Fault) (there back : ℕ) (new : CallState) → CallsInHalves parties f flats old between result there back new → Keeps result new
  halves-go _ _ _ _ (ends_at_entry fault there callee fails) = at-entry fault there callee fails
  halves-go _ _ _ _ (ends_at_run there ran body r) = at-run there ran body r
  halves-go _ _ _ _ (ends_at_return there back answer fault caller ran body r fails) = at-return there answer ran body r fault caller back fails
  halves-go _ _ _ _ (ends_at_post there back answer given caller ran body b callee kept post) = at-post there back answer given caller ran body b callee kept post
  halves-go _ _ _ _ (completes there back answer given caller ran body b callee kept post) = whole there back answer given caller ran body b callee kept post

-- ---- over honest guests all outside the blocks is kept, too

pub entry-keeps-promise : (allocates : Allocation) (releases : Release) → IsHonest allocates releases → EntryKeepsPromise allocates
entry-keeps-promise allocates releases honest = record {
  done = λ f flats m old handed new c standard h.
      let (e, went) = entry-done allocates releases (HonestIsTame allocates releases honest) f flats m old handed new c standard h in
      record { arguments = e.arguments; held = e.held; finds = e.finds; kept = own-outside allocates releases honest old new went };
  fails = λ f flats m old fault new c h.
      let (went, own) = entry-fails allocates releases (HonestIsTame allocates releases honest) f flats m old fault new c h in (own-outside allocates releases honest old new went, own);
}

pub return-keeps-promise : (allocates : Allocation) (releases : Release) → IsHonest allocates releases → ReturnKeepsPromise allocates
return-keeps-promise allocates releases honest = record {
  done = λ f flats m answer old given new c standard kinds lends h.
      let (r, went) = return-done allocates releases (HonestIsTame allocates releases honest) f flats m answer old given new c standard kinds lends h in
      record { values = r.values; answered = r.answered; holds = r.holds; unchanged = area-outside allocates releases honest old new f (area_of f flats) went };
  fails = λ f flats m answer old fault new c h.
      let (went, own) = return-fails allocates releases (HonestIsTame allocates releases honest) f flats m answer old fault new c h in (area-outside allocates releases honest old new f (area_of f flats) went, own);
}

-- a trap that its step can end in
halves-trap : (parties : Parties) (caller_releases callee_releases : Release) (honest : AreHonest parties caller_releases callee_releases) (f : FunctionType) (flats : List Flat) (old : CallState) (between : Memory) (new : CallState)
    (s : Step) (k : TrapKind) → HalvesTrap parties f flats old between new s k → IsHalvesTrap parties f flats old between new s k
halves-trap parties caller_releases callee_releases honest f flats old between new step.LiftResult k t = link-trap parties caller_releases callee_releases honest f flats old new step.LiftResult k t
halves-trap parties caller_releases callee_releases honest f flats old between new s k t = t

pub halves-keep-promise : (parties : Parties) (caller_releases callee_releases : Release) → HalvesKeepPromise parties caller_releases callee_releases
halves-keep-promise parties caller_releases callee_releases f flats old between result there back new standard called honest lends =
    record { finds = g.finds; before = g.before; once = g.once; gives = g.gives; unchanged = g.unchanged; own = g.own }
  where
    g : Goes parties exact result new (CalleeIsUnchanged parties old new) (LinksOnce parties f flats old) (λ back. GivesBack parties f flats old back new)
        (KeepsOutside parties.caller_allocates (area_of f flats) (area_size f) between new.caller) (IsHalvesTrap parties f flats old between new)
    g = goes-as parties exact new (waits-unchanged parties caller_releases callee_releases honest old new) (links-once parties caller_releases callee_releases honest f flats old)
        (gives-once parties caller_releases callee_releases honest f flats old new) (area-outside parties.caller_allocates caller_releases honest.caller between new.caller f (area_of f flats))
        (halves-trap parties caller_releases callee_releases honest f flats old between new) result
        (halves-go parties caller_releases callee_releases (are-tame parties caller_releases callee_releases honest) f flats standard old between lends result there back new called)
