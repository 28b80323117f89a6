-- What may be seen of a call whose body makes these runs may be seen of it where the body makes others, if they are the same.
use Rattle.std.proofs.Common.{inl, inr, ℕ, List, Option, Some, None, Result, Ok, Err}
use Rattle.canonical_abi.specs.Types.{FunctionType}
use Rattle.canonical_abi.specs.Values.{Value}
use Rattle.canonical_abi.specs.Guest.{Allocation, Release}
use Rattle.canonical_abi.specs.Call.{Run, PostRun, AllowsSameRuns, AllowsSamePosts, Parties, CallState, Ways, either, exact, Order, Enters, Runs, Returns, Finishes, Answered, Returned, Completes, GivesUp, Traps}
use Rattle.canonical_abi.specs.Session.{Placed, PlaceFails, CameBack, TypedTraps, TypedCall, SessionStep, call, place, read, release, SessionAnswer, TakesStep}
use Rattle.canonical_abi.specs.Trace.{Event}
use Rattle.canonical_abi.specs.declared.flat.Flat.{Flat}
use Rattle.canonical_abi.specs.declared.trap.Fault.{Fault}
use Rattle.canonical_abi.specs.declared.trap.Fault.TheVariants as ended
use Rattle.canonical_abi.specs.declared.trap.Step.{Step}
use Rattle.canonical_abi.specs.declared.trap.Step.TheVariants as step
use Rattle.canonical_abi.specs.declared.trap.TrapKind.{TrapKind}

module _ (caller callee : Allocation) (runs now : Run) (posts posts_now : PostRun) (same : AllowsSameRuns runs now) (same_posts : AllowsSamePosts posts posts_now) where
  abbrev first : Parties
  first = record { caller_allocates = caller; callee_allocates = callee; runs = runs; posts = posts }

  abbrev later : Parties
  later = record { caller_allocates = caller; callee_allocates = callee; runs = now; posts = posts_now }

  module _ (f : FunctionType) (flats : List Flat) where
    enters : (old : CallState) (values : List Value) (handed : List Flat) (there : List Event) (new : CallState) → Enters later f flats old values handed there new
        → Enters first f flats old values handed there new
    enters old values handed there new e = record {
      kinds = e.kinds;
      denoted = e.denoted;
      passes = e.passes;
      leads = e.leads;
      small = e.small;
      same_caller = e.same_caller;
      same_body = e.same_body;
    }

    ran : (old : CallState) (handed : List Flat) (answer : Option (List Flat)) (new : CallState) → Runs later f flats old handed answer new → Runs first f flats old handed answer new
    ran old handed answer new r = record { run = (same old.body old.callee handed new.body new.callee answer).1 r.run; same_caller = r.same_caller }

    returned_alike : (old : CallState) (answer : List Flat) (values : List Value) (given : List Flat) (back : List Event) (new : CallState)
        → Returns later f flats old answer values given back new → Returns first f flats old answer values given back new
    returned_alike old answer values given back new r = record {
      denoted = r.denoted;
      area_stands = r.area_stands;
      passes = r.passes;
      leads = r.leads;
      small = r.small;
      same_callee = r.same_callee;
      same_body = r.same_body;
    }

    finishes : (old : CallState) (answer : List Flat) (done : Option (Unit {0})) (new : CallState) → Finishes later f flats old answer done new → Finishes first f flats old answer done new
    finishes old answer done new r = record { run = (same_posts old.body old.callee answer new.body new.callee done).1 r.run; same_caller = r.same_caller }

    answered : (old : CallState) (answer : List Flat) (there : List Event) (new : CallState) → Answered later f flats old answer there new → Answered first f flats old answer there new
    answered old answer there new a = record {
      values = a.values;
      handed = a.handed;
      entered = a.entered;
      enters = enters old a.values a.handed there a.entered a.enters;
      runs = ran a.entered a.handed (Some answer) new a.runs;
    }

    returned : (old : CallState) (answer given : List Flat) (ways : Ways) (new : CallState) → Returned later f flats old answer given ways new → Returned first f flats old answer given ways new
    returned old answer given ways new r = record {
      values = r.values;
      answered = r.answered;
      answers = answered old answer ways.there r.answered r.answers;
      returns = returned_alike r.answered answer r.values given ways.back new r.returns;
    }

    completes : (old : CallState) (given : List Flat) (ways : Ways) (new : CallState) → Completes later f flats old given ways new → Completes first f flats old given ways new
    completes old given ways new c = record {
      answer = c.answer;
      returned = c.returned;
      returns = returned old c.answer given ways c.returned c.returns;
      finishes = finishes c.returned c.answer (Some tt) new c.finishes;
    }

    gives_up : (order : Order) (old : CallState) (ways : Ways) (new : CallState) → GivesUp later f flats order old ways new → GivesUp first f flats order old ways new
    gives_up either old ways new (inl none) = inl none
    gives_up either old ways new (inr (answer, a, none)) = inr (answer, answered old answer ways.there new a, none)
    gives_up exact old ways new h = h

    traps : (order : Order) (old : CallState) (s : Step) (k : TrapKind) (ways : Ways) (new : CallState) → Traps later order f flats old s k ways new → Traps first order f flats old s k ways new
    traps order old step.Place k ways new h = h
    traps order old step.Take k ways new h = h
    traps order old step.LiftArgs k ways new h = h
    traps order old step.LowerArgs k ways new h = h
    traps order old step.Body k ways new (values, handed, entered, is, e, r, none) =
        (values, handed, entered, is, enters old values handed ways.there entered e, ran entered handed None new r, none)
    traps order old step.LiftResult k ways new (answer, at, a, faulty) = (answer, at, answered old answer ways.there at a, faulty)
    traps order old step.LowerResult k ways new (answer, at, a, fails) = (answer, at, answered old answer ways.there at a, fails)
    traps order old step.Post k ways new (answer, given, at, is, r, done) =
        (answer, given, at, is, returned old answer given ways at r, finishes at answer None new done)

  module _ (f : FunctionType) (arguments : List Value) where
    placed : (old : CallState) (flats : List Flat) (area : ℕ) (new : CallState) → Placed later f arguments old flats area new → Placed first f arguments old flats area new
    placed old flats area new p = record { puts = p.puts; small = p.small; same_callee = p.same_callee; same_body = p.same_body }

    place_fails : (old : CallState) (k : TrapKind) (new : CallState) → PlaceFails later f arguments old k new → PlaceFails first f arguments old k new
    place_fails old k new p = record { fails = p.fails; same_callee = p.same_callee; same_body = p.same_body }

    came_back : (old : CallState) (back : List Flat) (area : ℕ) (new : CallState) → CameBack later f arguments old back area new → CameBack first f arguments old back area new
    came_back old back area new b = record {
      flats = b.flats;
      placed = b.placed;
      places = placed old b.flats area b.placed b.places;
      ways = b.ways;
      completes = completes f b.flats b.placed back b.ways new b.completes;
    }

    module _ (order : Order) where
      ways_trap : (old : CallState) (s : Step) (k : TrapKind) (new : CallState)
          → ((flats : List Flat) × (area : ℕ) × (at : CallState) × Placed later f arguments old flats area at × (ways : Ways) × Traps later order f flats at s k ways new)
          → (flats : List Flat) × (area : ℕ) × (at : CallState) × Placed first f arguments old flats area at × (ways : Ways) × Traps first order f flats at s k ways new
      ways_trap old s k new (flats, area, at, p, ways, h) = (flats, area, at, placed old flats area at p, ways, traps f flats order at s k ways new h)

      typed_traps : (old : CallState) (s : Step) (k : TrapKind) (new : CallState) → TypedTraps later order f arguments old s k new → TypedTraps first order f arguments old s k new
      typed_traps old step.Place k new h = place_fails old k new h
      typed_traps old step.Take k new (back, area, b, fault) = (back, area, came_back old back area new b, fault)
      typed_traps old step.LiftArgs k new h = ways_trap old step.LiftArgs k new h
      typed_traps old step.LowerArgs k new h = ways_trap old step.LowerArgs k new h
      typed_traps old step.Body k new h = ways_trap old step.Body k new h
      typed_traps old step.LiftResult k new h = ways_trap old step.LiftResult k new h
      typed_traps old step.LowerResult k new h = ways_trap old step.LowerResult k new h
      typed_traps old step.Post k new h = ways_trap old step.Post k new h

      pub typed_call_alike : (old : CallState) (result : Result (Option Value) Fault) (new : CallState) → TypedCall later order f arguments old result new → TypedCall first order f arguments old result new
      typed_call_alike old (Ok v) new (back, area, b, has) = (back, area, came_back old back area new b, has)
      typed_call_alike old (Err (ended.Trap t)) new h = typed_traps old t.step t.kind new h
      typed_call_alike old (Err ended.NoMemory) new (inl (flats, area, at, p, ways, g)) = inl (flats, area, at, placed old flats area at p, ways, gives_up f flats order at ways new g)
      typed_call_alike old (Err ended.NoMemory) new (inr (back, area, b)) = inr (back, area, came_back old back area new b)

  -- .. and so of a step of a session
  pub step_alike : (caller_releases : Release) (order : Order) (before : List SessionAnswer) (old : CallState) (s : SessionStep) (answer : SessionAnswer) (new : CallState)
      → TakesStep later caller_releases order before old s answer new → TakesStep first caller_releases order before old s answer new
  step_alike caller_releases order before old (call f arguments) answer new (result, is, h) = (result, is, typed_call_alike f arguments order old result new h)
  step_alike caller_releases order before old (place t v) answer new h = h
  step_alike caller_releases order before old (read k) answer new h = h
  step_alike caller_releases order before old (release at size) answer new h = h

-- the same runs as before, and then the same again
pub same_runs_on : (a b c : Run) → AllowsSameRuns a b → AllowsSameRuns b c → AllowsSameRuns a c
same_runs_on a b c p q s m f s' m' o = (λ r. (q s m f s' m' o).0 ((p s m f s' m' o).0 r), λ r. (p s m f s' m' o).1 ((q s m f s' m' o).1 r))

pub same_posts_on : (a b c : PostRun) → AllowsSamePosts a b → AllowsSamePosts b c → AllowsSamePosts a c
same_posts_on a b c p q s m f s' m' o = (λ r. (q s m f s' m' o).0 ((p s m f s' m' o).0 r), λ r. (p s m f s' m' o).1 ((q s m f s' m' o).1 r))
