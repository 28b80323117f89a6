-- A call of flat values, with a return area that is lent, keeps the promise. It is proved once, over tame guests, with the traces that its memories
-- went through. What is live stays over such a trace, and over an honest guest each byte outside the blocks stays, too: so both promises follow.
use Rattle.std.proofs.Common.{◌≡◌, ◌⊎◌, inl, inr, ℕ, List, Option, Some, None, Result, Ok, Err, refl, sym, ap, ◌∙◌, subst}
use Rattle.std.specs.Prelude.{IfOk}
use Rattle.canonical_abi.specs.Types.{Fields, FunctionType, result_fields}
use Rattle.canonical_abi.specs.Values.{Value}
use Rattle.canonical_abi.specs.Layout.{max_flat_params, max_flat_results}
use Rattle.canonical_abi.specs.Flat.{DenotesFault}
use Rattle.canonical_abi.specs.Guest.{Release, Allocation, Memory}
use Rattle.canonical_abi.specs.Trace.{Event, TraceLeads}
use Rattle.canonical_abi.specs.Stands.{AreAligned}
use Rattle.canonical_abi.specs.Call.{Parties, CallState, Order, either, exact, Ways, Enters, Runs, Finishes, Answered, Returned, Completes, ArgumentsFaulty, ResultFaulty, ResultFails, Traps, GivesUp, Calls, IsGrantedPart, ReturnAreaStands, ReturnAreaFaulty, area_of, Begins}
use Rattle.canonical_abi.specs.Session.{HasResult}
use Rattle.canonical_abi.specs.Headline.{AreHonest, IsStandardFunction, KeepsOutside, FindsAndRunsOnce, CalleeIsUnchanged, IsBeforeBody, EntersBody, WasEntered, IsAsItRan, IsPosted, IsNotPosted, AfterTrap, AfterRun, area_size, LendsArea, IsArgumentFault, IsLinkTrap, LinksOnce, GivesBack, LinkPromise, AreArguments, EndsBeforeBody, IfTrap}
use Rattle.canonical_abi.specs.Tame.{AreTame, FindsLive, GivesLive, LinksLive}
use Rattle.canonical_abi.specs.TameLaws.{HonestIsTame}
use Rattle.canonical_abi.specs.declared.flat.Flat.{Flat}
use Rattle.canonical_abi.specs.declared.trap.Fault.{Fault}
use Rattle.canonical_abi.specs.declared.trap.Fault.TheVariants.{Trap, NoMemory}
use Rattle.canonical_abi.specs.declared.trap.TrapKind.{TrapKind}
use Rattle.canonical_abi.specs.declared.trap.TrapKind.TheVariants as trap
use Rattle.canonical_abi.specs.declared.trap.Step.{Step}
use Rattle.canonical_abi.specs.declared.trap.Step.TheVariants as step
use Rattle.canonical_abi.proofs.StoredValues.WritesOwnPlaceAndBlocks.{Confined}
use Rattle.canonical_abi.proofs.FlatValues.LoweredIsDenoted.{Nowhere}
use Rattle.canonical_abi.proofs.Traces.StoppedTracesAreConfined.{confined-left, aligned-left, made-leaves, breaks-either}
use Rattle.canonical_abi.proofs.ReadValues.StopsAtFirstFault.{address-denotes-fault, params-denote-fault, result-denotes-fault}
use Rattle.canonical_abi.proofs.Traces.ConfinedTraces.{Went, went-by, went-same}
use Rattle.canonical_abi.proofs.Traces.TameTraces.{broken}
use Rattle.canonical_abi.proofs.Calls.WaysOfCalls.{InArea, passes-result-confined, passes-result-aligned, until-result-confined, until-result-aligned, script-confined, script-aligned, until-params-fine, script-params-fine, granted-part, params-arrive, result-arrives, lent-live, own-left, own-outside, area-outside}

-- ---- what is said of a call: the words of the promise over tame guests, each with the trace that its callee went through before the body was entered

-- the body was not entered
abbrev pub Waits : Parties → CallState → CallState → Type 0
Waits parties old new = Went parties.callee_allocates Nowhere old.callee new.callee × (new.body ≡ old.body)

module _ (parties : Parties) (f : FunctionType) where
  -- the callee found these arguments, and the body made its one run
  abbrev pub Found : List Value → CallState → Option (List Flat) → CallState → Type 0
  Found arguments old answer ran = (found : FindsLive parties f arguments old answer ran) × Went parties.callee_allocates Nowhere old.callee found.entered.callee

  -- it answered what denotes nothing
  abbrev pub AnswerFaulty : List Value → CallState → CallState → TrapKind → Type 0
  AnswerFaulty arguments old new k =
      (answer : List Flat) × (ran : CallState) × Found arguments old (Some answer) ran × DenotesFault max_flat_results (result_fields f.result) ran.callee.bytes answer k × IsAsItRan ran new

  module _ (flats : List Flat) (old : CallState) where
    -- the callee found what the caller holds
    abbrev pub Linked : (Option (List Flat) → CallState → Type 0) → Type 0
    Linked After = (links : LinksLive parties f flats old After) × Went parties.callee_allocates Nowhere old.callee links.runs.found.entered.callee

    -- the caller holds what the body answered
    abbrev pub Gave : CallState → List Flat → Type 0
    Gave new back = (gives : GivesLive parties f flats old back new) × Went parties.callee_allocates Nowhere old.callee gives.found.entered.callee

    -- a trap that its step can end in
    abbrev pub OwnTrap : CallState → Step → TrapKind → Type 0
    OwnTrap new step.LiftResult k = (arguments : List Value) × AreArguments f flats old.caller arguments × AnswerFaulty arguments old new k
    OwnTrap new s k = IsLinkTrap parties f flats old new s k

-- a promise of a call that ended with this result, by what it says of a callee that was not entered, of the body's one run, of the answer, of the
-- caller and of the trap
pub record Goes {A : Type 0} (parties : Parties) (order : Order) (result : Result A Fault) (new : CallState) (Before : Type 0) (Once : (Option (List Flat) → CallState → Type 0) → Type 0)
    (Gives : A → Type 0) (Caller : Type 0) (Own : Step → TrapKind → Type 0) : Type 0 where
  pub finds : WasEntered order result → Once (AfterRun parties order result new)
  pub before : EndsBeforeBody result → Before
  pub once : Before ⊎ Once (AfterRun parties order result new)
  pub gives : IfOk result Gives
  pub unchanged : Caller
  pub own : IfTrap result Own

module _ {A : Type 0} (parties : Parties) (order : Order) (new : CallState) {Before Before' : Type 0} {Once Once' : (Option (List Flat) → CallState → Type 0) → Type 0} {Gives Gives' : A → Type 0}
    {Caller Caller' : Type 0} {Own Own' : Step → TrapKind → Type 0} (before : Before → Before') (once : (After : Option (List Flat) → CallState → Type 0) → Once After → Once' After)
    (gives : (x : A) → Gives x → Gives' x) (caller : Caller → Caller') (own : (s : Step) (k : TrapKind) → Own s k → Own' s k) where
  if-ok : (result : Result A Fault) → IfOk result Gives → IfOk result Gives'
  if-ok (Ok x) g = gives x g
  if-ok (Err fault) g = g

  if-trap : (result : Result A Fault) → IfTrap result Own → IfTrap result Own'
  if-trap (Err (Trap t)) o = own t.step t.kind o
  if-trap (Err NoMemory) o = o
  if-trap (Ok x) o = o

  -- if each part has another that follows, so has the whole
  pub goes-as : (result : Result A Fault) → Goes parties order result new Before Once Gives Caller Own → Goes parties order result new Before' Once' Gives' Caller' Own'
  goes-as result g = record {
    finds = λ e. once (AfterRun parties order result new) (g.finds e);
    before = λ e. before (g.before e);
    once = elim g.once [ inl b ↦ inl (before b) | inr o ↦ inr (once (AfterRun parties order result new) o) ];
    gives = if-ok result g.gives;
    unchanged = caller g.unchanged;
    own = if-trap result g.own;
  }

-- a step is before the body or after it
pub before-or-after : (s : Step) → IsBeforeBody s ⊎ EntersBody s
before-or-after step.Place = inl tt
before-or-after step.LiftArgs = inl tt
before-or-after step.LowerArgs = inl tt
before-or-after s = inr tt

-- where the answer denotes nothing, or there is no room for it, the callee is as its body left it
pub faulty-ran : (parties : Parties) (order : Order) (f : FunctionType) (flats answer : List Flat) (answered : CallState) (k : TrapKind) (done : List Event) (new : CallState) → ResultFaulty parties order f flats answered answer k done new → IsAsItRan answered new
faulty-ran parties order f flats answer answered k done new (inl (faulty, none, is)) = (ap (λ w. w.callee) is, ap (λ w. w.body) is)
faulty-ran parties order f flats answer answered k done new (inr (tested, es, until, part, begun, callee, body)) = (callee, body)

pub fails-ran : (parties : Parties) (order : Order) (f : FunctionType) (flats answer : List Flat) (answered : CallState) (k : TrapKind) (done : List Event) (new : CallState) → ResultFails parties order f flats answered answer k done new → IsAsItRan answered new
fails-ran parties order f flats answer answered k done new (inl (stands, faulty, none, is)) = (ap (λ w. w.callee) is, ap (λ w. w.body) is)
fails-ran parties order f flats answer answered k done new (inr (stands, es, script, breaks, is_done, callee, body)) = (callee, body)

-- ---- a call over tame guests

module _ (parties : Parties) (caller_releases callee_releases : Release) (order : Order) (f : FunctionType) (flats : List Flat)
    (tame : AreTame parties caller_releases callee_releases) where
  abbrev results : Fields
  results = result_fields f.result

  abbrev area : ℕ
  area = area_of f flats

  -- ---- the caller

  -- the caller went through a trace that is confined to the area and its own blocks
  abbrev CallerWent : CallState → CallState → Type 0
  CallerWent old new = Went parties.caller_allocates (InArea results area) old.caller new.caller

  went-none : (old new : CallState) → new.caller ≡ old.caller → CallerWent old new
  went-none old new same = went-same parties.caller_allocates (InArea results area) old.caller new.caller same

  -- until the result comes back the caller is as it was
  answered-same : (old : CallState) (answer : List Flat) (there : List Event) (answered : CallState) → Answered parties f flats old answer there answered → answered.caller ≡ old.caller
  answered-same old answer there answered a = a.runs.same_caller ∙ a.enters.same_caller

  since : (old : CallState) (answer : List Flat) (there : List Event) (answered new : CallState) → Answered parties f flats old answer there answered → CallerWent answered new → CallerWent old new
  since old answer there answered new a went = subst (λ m. Went parties.caller_allocates (InArea results area) m new.caller) (answered-same old answer there answered a) went

  returned-went : (old : CallState) (answer given : List Flat) (ways : Ways) (returned new : CallState) → Returned parties f flats old answer given ways returned → new.caller ≡ returned.caller → CallerWent old new
  returned-went old answer given ways returned new r same =
      let went : CallerWent r.answered returned = went-by parties.caller_allocates (InArea results area) r.answered.caller ways.back returned.caller (record {
        aligned = passes-result-aligned results area r.values ways.back given r.returns.passes;
        confined = passes-result-confined results area r.values ways.back given r.returns.passes;
        leads = r.returns.leads;
      }) in
      since old answer ways.there r.answered new r.answers (subst (λ m. Went parties.caller_allocates (InArea results area) r.answered.caller m) (sym same) went)

  -- a trace that was begun
  begun-went : (allocates : Allocation) (P : ℕ → Type 0) (old : Memory) (es done : List Event) (new : Memory) → AreAligned es → Confined P es → IsGrantedPart order done es → Begins order allocates old done new → Went allocates P old new
  begun-went allocates P old es done new al c part begun =
      let front = granted-part order P done es part al c in
      let left = made-leaves order done begun.0 begun.1 in
      went-by allocates P old begun.0 new (record { aligned = aligned-left done begun.0 left front.0; confined = confined-left P done begun.0 left front.1; leads = begun.2 })

  -- the answer denotes nothing
  pub result-faulty : (answer : List Flat) (answered new : CallState) (k : TrapKind) (done : List Event) → ResultFaulty parties order f flats answered answer k done new
      → CallerWent answered new × DenotesFault max_flat_results results answered.callee.bytes answer k
  result-faulty answer answered new k done (inl (faulty, none, is)) =
      (went-none answered new (ap (λ w. w.caller) is), address-denotes-fault max_flat_results results answered.callee.bytes answer k faulty)
  result-faulty answer answered new k done (inr (tested, es, until, part, begun, callee, body)) = (
    begun-went parties.caller_allocates (InArea results area) answered.caller es done new.caller (until-result-aligned results answered.callee.bytes answer area k es until)
        (until-result-confined results answered.callee.bytes answer area k es until) part begun,
    result-denotes-fault max_flat_results results answered.callee.bytes answer area k es until,
  )

  -- there is no room for it
  pub result-fails : (answer : List Flat) (answered new : CallState) (k : TrapKind) (done : List Event) → ResultFails parties order f flats answered answer k done new
      → CallerWent answered new × ((k ≡ trap.Full) ⊎ ReturnAreaFaulty f flats answered.caller k)
  result-fails answer answered new k done (inl (stands, faulty, none, is)) = (went-none answered new (ap (λ w. w.caller) is), inr faulty)
  result-fails answer answered new k done (inr (stands, es, script, breaks, is_done, callee, body)) =
      let made = broken parties.caller_allocates caller_releases tame.caller (InArea results area) answered.caller es k new.caller
      (script-aligned results answered.callee.bytes answer area es script) (script-confined results answered.callee.bytes answer area es script) (breaks-either order parties.caller_allocates answered.caller es k new.caller breaks) in
      (made.0, inl made.1)

  pub faulty-caller : (old : CallState) (k : TrapKind) (done : List Event) (new : CallState) → ArgumentsFaulty parties order f flats old k done new → new.caller ≡ old.caller
  faulty-caller old k done new (inl (kinds, is_k, none, is)) = ap (λ w. w.caller) is
  faulty-caller old k done new (inr (inl (kinds, faulty, none, is))) = ap (λ w. w.caller) is
  faulty-caller old k done new (inr (inr (kinds, es, until, part, begun, caller, body))) = caller

  traps-went : (old : CallState) (s : Step) (k : TrapKind) (ways : Ways) (new : CallState) → Traps parties order f flats old s k ways new → CallerWent old new
  traps-went old step.LiftArgs k ways new t = went-none old new (faulty-caller old k ways.there new t.0)
  traps-went old step.LowerArgs k ways new ((kinds, es, script, breaks, is_done, caller, body), none) = went-none old new caller
  traps-went old step.Body k ways new (values, handed, entered, is, enters, runs, none) = went-none old new (runs.same_caller ∙ enters.same_caller)
  traps-went old step.LiftResult k ways new (answer, answered, a, faulty) = since old answer ways.there answered new a (result-faulty answer answered new k ways.back faulty).0
  traps-went old step.LowerResult k ways new (answer, answered, a, fails) = since old answer ways.there answered new a (result-fails answer answered new k ways.back fails).0
  traps-went old step.Post k ways new (answer, given, returned, is, r, finishes) = returned-went old answer given ways returned new r finishes.same_caller
  traps-went old s k ways new t = absurd t

  gives-up-went : (o : Order) (old : CallState) (ways : Ways) (new : CallState) → GivesUp parties f flats o old ways new → CallerWent old new
  gives-up-went either old ways new (inl is) = went-none old new (ap (λ w. w.caller) is.2)
  gives-up-went either old ways new (inr a) = went-none old new (answered-same old a.0 ways.there new a.1)
  gives-up-went exact old ways new g = absurd g

  pub call-went : (old : CallState) (result : Result (List Flat) Fault) (ways : Ways) (new : CallState) → Calls parties order f flats old result ways new → CallerWent old new
  call-went old (Ok given) ways new c = returned-went old c.answer given ways c.returned new c.returns c.finishes.same_caller
  call-went old (Err (Trap t)) ways new traps = traps-went old t.step t.kind ways new traps
  call-went old (Err NoMemory) ways new g = gives-up-went order old ways new g

  -- ---- the callee before the body is entered

  waits-same : (old new : CallState) → new ≡ old → Waits parties old new
  waits-same old new is = (went-same parties.callee_allocates Nowhere old.callee new.callee (ap (λ w. w.callee) is), ap (λ w. w.body) is)

  faulty-waits : (old : CallState) (k : TrapKind) (done : List Event) (new : CallState) → ArgumentsFaulty parties order f flats old k done new → Waits parties old new × IsArgumentFault f flats old.caller k
  faulty-waits old k done new (inl (kinds, is_k, none, is)) = (waits-same old new is, inl (kinds, is_k))
  faulty-waits old k done new (inr (inl (kinds, faulty, none, is))) = (waits-same old new is, inr (kinds, address-denotes-fault max_flat_params f.params _ _ k faulty))
  faulty-waits old k done new (inr (inr (kinds, es, until, part, begun, caller, same))) =
      let whole = until-params-fine f.params _ _ k es until in
      ((begun-went parties.callee_allocates Nowhere old.callee es done new.callee whole.0 whole.1 part begun, same), inr (kinds, params-denote-fault max_flat_params f.params _ _ k es until))

  pub traps-wait : (old : CallState) (s : Step) (k : TrapKind) (ways : Ways) (new : CallState) → Traps parties order f flats old s k ways new → IsBeforeBody s → Waits parties old new × IsLinkTrap parties f flats old new s k
  traps-wait old step.Place k ways new t b = absurd t
  traps-wait old step.LiftArgs k ways new t b = faulty-waits old k ways.there new t.0
  traps-wait old step.LowerArgs k ways new ((kinds, es, script, breaks, is_done, caller, body), none) b =
      let whole = script-params-fine f.params _ _ es script in
      let made = broken parties.callee_allocates callee_releases tame.callee Nowhere old.callee es k new.callee whole.0 whole.1 (breaks-either order parties.callee_allocates old.callee es k new.callee breaks) in
      ((made.0, body), made.1)
  traps-wait old s k ways new t b = absurd b

  -- ---- the body's one run

  module _ (standard : IsStandardFunction f) (old : CallState) where
    pub found : (values : List Value) (handed : List Flat) (there : List Event) (entered : CallState) → Enters parties f flats old values handed there entered
        → (answer : Option (List Flat)) (ran : CallState) → Runs parties f flats entered handed answer ran → Found parties f values old answer ran
    found values handed there entered e answer ran r =
        let (denotes, went) = params-arrive parties.callee_allocates callee_releases tame.callee old.callee entered.callee e.small f.params values there handed standard.params e.passes e.leads in (
          record {
            entered = entered;
            handed = handed;
            finds = denotes;
            run = r.run;
            same_body = e.same_body;
            same_caller = r.same_caller;
            kept = own-left parties.callee_allocates callee_releases tame.callee old.callee entered.callee went;
          },
          went,
        )

    pub answered-found : (answer : List Flat) (there : List Event) (answered : CallState) (a : Answered parties f flats old answer there answered) → Found parties f a.values old (Some answer) answered
    answered-found answer there answered a = found a.values a.handed there a.entered a.enters (Some answer) answered a.runs

    -- one run on what the caller holds
    pub linked : (values : List Value) → AreArguments f flats old.caller values → (answer : Option (List Flat)) (ran : CallState) → Found parties f values old answer ran
        → (After : Option (List Flat) → CallState → Type 0) → After answer ran → Linked parties f flats old After
    linked values held answer ran (found, went) After after = (record { arguments = values; held = held; runs = record { answer = answer; ran = ran; found = found; after = after } }, went)

    answered-once : (After : Option (List Flat) → CallState → Type 0) (answer : List Flat) (there : List Event) (answered : CallState) → Answered parties f flats old answer there answered → After (Some answer) answered → Linked parties f flats old After
    answered-once After answer there answered a after = linked a.values a.enters.denoted (Some answer) answered (answered-found answer there answered a) After after

    pub posted : (answer given : List Flat) (ways : Ways) (returned new : CallState) (ended : Option (Unit {0})) (r : Returned parties f flats old answer given ways returned) → Finishes parties f flats returned answer ended new
        → parties.posts r.answered.body r.answered.callee answer new.body new.callee ended
    posted answer given ways returned new ended r finishes = rw (sym r.returns.same_body, sym r.returns.same_callee) finishes.run

    pub completed-once : (given : List Flat) (ways : Ways) (new : CallState) → Completes parties f flats old given ways new → Linked parties f flats old (IsPosted parties (Some tt) new)
    completed-once given ways new c =
        answered-once (IsPosted parties (Some tt) new) c.answer ways.there c.returns.answered c.returns.answers (posted c.answer given ways c.returned new (Some tt) c.returns c.finishes)

    pub traps-once : (s : Step) (k : TrapKind) (ways : Ways) (new : CallState) → Traps parties order f flats old s k ways new → EntersBody s → Linked parties f flats old (AfterTrap parties s new)
    traps-once step.Body k ways new (values, handed, entered, is, enters, runs, none) e =
        linked values enters.denoted None new (found values handed ways.there entered enters None new runs) (AfterTrap parties step.Body new) (refl, (refl, refl))
    traps-once step.LiftResult k ways new (answer, answered, a, faulty) e = answered-once (IsNotPosted new) answer ways.there answered a (faulty-ran parties order f flats answer answered k ways.back new faulty)
    traps-once step.LowerResult k ways new (answer, answered, a, fails) e = answered-once (IsNotPosted new) answer ways.there answered a (fails-ran parties order f flats answer answered k ways.back new fails)
    traps-once step.Post k ways new (answer, given, returned, is, r, finishes) e =
        answered-once (IsPosted parties None new) answer ways.there r.answered r.answers (posted answer given ways returned new None r finishes)
    traps-once step.Take k ways new t e = absurd t
    traps-once s k ways new t e = absurd e

    -- where memory of the host was wanting
    pub gives-up-once : (o : Order) (ways : Ways) (new : CallState) → GivesUp parties f flats o old ways new → Waits parties old new ⊎ Linked parties f flats old (AfterRun {A = List Flat} parties o (Err NoMemory) new)
    gives-up-once either ways new (inl is) = inl (waits-same old new is.2)
    gives-up-once either ways new (inr (answer, a, none)) = inr (answered-once (λ b ran. IsNotPosted new b ran ⊎ IsPosted parties (Some tt) new b ran) answer ways.there new a (inl (refl, refl)))
    gives-up-once exact ways new g = absurd g

    gives-up-late : (o : Order) (ways : Ways) (new : CallState) → GivesUp parties f flats o old ways new → WasEntered {A = List Flat} o (Err NoMemory) → Linked parties f flats old (AfterRun {A = List Flat} parties o (Err NoMemory) new)
    gives-up-late either ways new g e = absurd e
    gives-up-late exact ways new g e = absurd g

    pub traps-own : (s : Step) (k : TrapKind) (ways : Ways) (new : CallState) → Traps parties order f flats old s k ways new → OwnTrap parties f flats old new s k
    traps-own step.LiftArgs k ways new t = (traps-wait old step.LiftArgs k ways new t tt).1
    traps-own step.LowerArgs k ways new t = (traps-wait old step.LowerArgs k ways new t tt).1
    traps-own step.LiftResult k ways new (answer, answered, a, faulty) =
        (a.values, a.enters.denoted, (answer, answered, answered-found answer ways.there answered a, (result-faulty answer answered new k ways.back faulty).1, faulty-ran parties order f flats answer answered k ways.back new faulty))
    traps-own step.LowerResult k ways new (answer, answered, a, fails) =
        subst (λ m. (k ≡ trap.Full) ⊎ ReturnAreaFaulty f flats m k) (answered-same old answer ways.there answered a) (result-fails answer answered new k ways.back fails).1
    traps-own step.Body k ways new t = t.3
    traps-own step.Post k ways new t = t.3
    traps-own s k ways new t = absurd t

    -- ---- the result in the caller

    module _ (lends : LendsArea f flats old.caller) where
      pub result-given : (answer given : List Flat) (ways : Ways) (returned new : CallState) (r : Returned parties f flats old answer given ways returned) → new.caller ≡ returned.caller → HasResult results new.caller.bytes given area r.values
      result-given answer given ways returned new r same =
          let is = answered-same old answer ways.there r.answered r.answers in
          let stands = subst (λ m. ReturnAreaStands f flats m) is r.returns.area_stands in
          let lent = lends r.answers.enters.kinds stands in
          subst (λ m. HasResult results m.bytes given area r.values) (sym same)
          (result-arrives parties.caller_allocates caller_releases tame.caller old.caller returned.caller r.returns.small results area r.values ways.back given standard.result (lent-live f area old.caller lent)
          stands r.returns.passes (subst (λ m. TraceLeads parties.caller_allocates m ways.back returned.caller) is r.returns.leads))

      gives-back : (given : List Flat) (ways : Ways) (new : CallState) → Completes parties f flats old given ways new → Gave parties f flats old new given
      gives-back given ways new c =
          let (found, went) = answered-found c.answer ways.there c.returns.answered c.returns.answers in (
            record {
              arguments = c.returns.answers.values;
              held = c.returns.answers.enters.denoted;
              answer = c.answer;
              ran = c.returns.answered;
              found = found;
              values = c.returns.values;
              answered = c.returns.returns.denoted;
              given = result-given c.answer given ways c.returned new c.returns c.finishes.same_caller;
              posted = posted c.answer given ways c.returned new (Some tt) c.returns c.finishes;
            },
            went,
          )

      pub link-goes : (result : Result (List Flat) Fault) (ways : Ways) (new : CallState) → Calls parties order f flats old result ways new
          → Goes parties order result new (Waits parties old new) (Linked parties f flats old) (Gave parties f flats old new) (CallerWent old new) (OwnTrap parties f flats old new)
      link-goes (Ok given) ways new c = record {
        finds = λ e. completed-once given ways new c;
        before = λ e. absurd e;
        once = inr (completed-once given ways new c);
        gives = gives-back given ways new c;
        unchanged = call-went old (Ok given) ways new c;
        own = tt;
      }
      link-goes (Err (Trap t)) ways new c = record {
        finds = λ e. traps-once t.step t.kind ways new c e;
        before = λ b. (traps-wait old t.step t.kind ways new c b).0;
        once = elim (before-or-after t.step) [ inl b ↦ inl (traps-wait old t.step t.kind ways new c b).0 | inr e ↦ inr (traps-once t.step t.kind ways new c e) ];
        gives = tt;
        unchanged = traps-went old t.step t.kind ways new c;
        own = traps-own t.step t.kind ways new c;
      }
      link-goes (Err NoMemory) ways new g = record {
        finds = λ e. gives-up-late order ways new g e;
        before = λ e. absurd e;
        once = gives-up-once order ways new g;
        gives = tt;
        unchanged = gives-up-went order old ways new g;
        own = tt;
      }

-- a trap that stands
pub traps-stand : (parties : Parties) (order : Order) (f : FunctionType) (flats : List Flat) (old : CallState) (result : Result (List Flat) Fault) (ways : Ways) (new : CallState) → Calls parties order f flats old result ways new
    → IfTrap result (λ s k. (ways : Ways) × Traps parties order f flats old s k ways new)
traps-stand parties order f flats old (Ok given) ways new c = tt
traps-stand parties order f flats old (Err (Trap t)) ways new c = (ways, c)
traps-stand parties order f flats old (Err NoMemory) ways new c = tt

-- ---- over honest guests all outside the blocks is kept, too

pub are-tame : (parties : Parties) (caller_releases callee_releases : Release) → AreHonest parties caller_releases callee_releases → AreTame parties caller_releases callee_releases
are-tame parties caller_releases callee_releases honest = record {
  caller = HonestIsTame parties.caller_allocates caller_releases honest.caller;
  callee = HonestIsTame parties.callee_allocates callee_releases honest.callee;
}

module _ (parties : Parties) (caller_releases callee_releases : Release) (honest : AreHonest parties caller_releases callee_releases) where
  pub waits-unchanged : (old new : CallState) → Waits parties old new → CalleeIsUnchanged parties old new
  waits-unchanged old new (went, body) = record { kept = own-outside parties.callee_allocates callee_releases honest.callee old.callee new.callee went; same_body = body }

  module _ (f : FunctionType) where
    pub finds-and-runs : (values : List Value) (old : CallState) (answer : Option (List Flat)) (ran : CallState) → Found parties f values old answer ran → FindsAndRunsOnce parties f values old answer ran
    finds-and-runs values old answer ran (r, went) = record {
      entered = r.entered;
      handed = r.handed;
      finds = r.finds;
      run = r.run;
      same_body = r.same_body;
      same_caller = r.same_caller;
      kept = own-outside parties.callee_allocates callee_releases honest.callee old.callee r.entered.callee went;
    }

    pub links-once : (flats : List Flat) (old : CallState) (After : Option (List Flat) → CallState → Type 0) → Linked parties f flats old After → LinksOnce parties f flats old After
    links-once flats old After (l, went) =
        let r = l.runs in
        record { arguments = l.arguments; held = l.held; runs = record { answer = r.answer; ran = r.ran; found = finds-and-runs l.arguments old r.answer r.ran (r.found, went); after = r.after } }

    pub gives-once : (flats : List Flat) (old new : CallState) (back : List Flat) → Gave parties f flats old new back → GivesBack parties f flats old back new
    gives-once flats old new back (g, went) = record {
      arguments = g.arguments;
      held = g.held;
      answer = g.answer;
      ran = g.ran;
      found = finds-and-runs g.arguments old (Some g.answer) g.ran (g.found, went);
      values = g.values;
      answered = g.answered;
      given = g.given;
      posted = g.posted;
    }

    pub link-trap : (flats : List Flat) (old new : CallState) (s : Step) (k : TrapKind) → OwnTrap parties f flats old new s k → IsLinkTrap parties f flats old new s k
    link-trap flats old new step.LiftResult k (values, held, (answer, ran, found, fault, same)) = (values, held, (answer, ran, finds-and-runs values old (Some answer) ran found, fault, same))
    link-trap flats old new s k t = t

pub link-keeps-promise : (parties : Parties) (caller_releases callee_releases : Release) (order : Order) → LinkPromise parties caller_releases callee_releases order
link-keeps-promise parties caller_releases callee_releases order f flats old result ways new standard called honest lends =
    record { finds = g.finds; before = g.before; once = g.once; gives = g.gives; unchanged = g.unchanged; trap = traps-stand parties order f flats old result ways new called; own = g.own }
  where
    g : Goes parties order result new (CalleeIsUnchanged parties old new) (LinksOnce parties f flats old) (λ back. GivesBack parties f flats old back new)
        (KeepsOutside parties.caller_allocates (area_of f flats) (area_size f) old.caller new.caller) (IsLinkTrap parties f flats old new)
    g = goes-as parties order new (waits-unchanged parties caller_releases callee_releases honest old new) (links-once parties caller_releases callee_releases honest f flats old)
        (gives-once parties caller_releases callee_releases honest f flats old new)
        (area-outside parties.caller_allocates caller_releases honest.caller old.caller new.caller f (area_of f flats))
        (link-trap parties caller_releases callee_releases honest f flats old new) result
        (link-goes parties caller_releases callee_releases order f flats (are-tame parties caller_releases callee_releases honest) standard old lends result ways new called)
