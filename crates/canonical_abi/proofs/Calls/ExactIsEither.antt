-- What may be seen in the exact order may be seen in the other.
use Rattle.std.proofs.Common.{◌≡◌, inl, inr, List, [], ◌∷◌, ◌++◌, Option, Result, Ok, Err, refl, sym, ap, ◌∙◌}
use Rattle.canonical_abi.specs.Types.{FunctionType}
use Rattle.canonical_abi.specs.Values.{Value}
use Rattle.canonical_abi.specs.Trace.{Event, IsFrontOf}
use Rattle.canonical_abi.specs.Call.{Parties, CallState, either, exact, Ways, ArgumentsFaulty, ArgumentsFail, ResultFaulty, ResultFails, Traps, Calls}
use Rattle.canonical_abi.specs.Session.{TypedTraps, TypedCall}
use Rattle.canonical_abi.specs.Laws.{ExactIsEither}
use Rattle.canonical_abi.specs.declared.flat.Flat.{Flat}
use Rattle.canonical_abi.specs.declared.trap.Fault.{Fault}
use Rattle.canonical_abi.specs.declared.trap.Fault.TheVariants.{Trap, NoMemory}
use Rattle.canonical_abi.specs.declared.trap.TrapKind.{TrapKind}
use Rattle.canonical_abi.specs.declared.trap.Step.{Step}
use Rattle.canonical_abi.specs.declared.trap.Step.TheVariants as step
use Rattle.canonical_abi.proofs.Traces.StoppedTracesAreConfined.{made-leaves, begins-either}

no-more : (es : List Event) → es ++ [] ≡ es
no-more [] = refl
no-more (e ∷ es) = ap (λ l. e ∷ l) (no-more es)

whole-is-front : (done es : List Event) → done ≡ es → IsFrontOf done es
whole-is-front done es is = ([], sym is ∙ sym (no-more done))

module _ (parties : Parties) (f : FunctionType) where
  module _ (flats : List Flat) where
    arguments-faulty : (old : CallState) (k : TrapKind) (done : List Event) (new : CallState) → ArgumentsFaulty parties exact f flats old k done new → ArgumentsFaulty parties either f flats old k done new
    arguments-faulty old k done new (inl t) = inl t
    arguments-faulty old k done new (inr (inl t)) = inr (inl t)
    arguments-faulty old k done new (inr (inr (kinds, es, until, part, begun, caller, body))) = inr (inr (kinds, es, until, whole-is-front done es part, begins-either exact parties.callee_allocates old.callee done new.callee begun, caller, body))

    arguments-fail : (old : CallState) (k : TrapKind) (done : List Event) (new : CallState) → ArgumentsFail parties exact f flats old k done new → ArgumentsFail parties either f flats old k done new
    arguments-fail old k done new (kinds, es, script, (front, made, rest, next, asked, whole, left, leads, fails), is, caller, body) =
        (kinds, es, script, (front, made, rest, next, asked, whole, made-leaves exact front made left, leads, fails), is, caller, body)

    result-faulty : (answered : CallState) (answer : List Flat) (k : TrapKind) (done : List Event) (new : CallState) → ResultFaulty parties exact f flats answered answer k done new → ResultFaulty parties either f flats answered answer k done new
    result-faulty answered answer k done new (inl t) = inl t
    result-faulty answered answer k done new (inr (tested, es, until, part, begun, callee, body)) = inr (tt, es, until, whole-is-front done es part, begins-either exact parties.caller_allocates answered.caller done new.caller begun, callee, body)

    result-fails : (answered : CallState) (answer : List Flat) (k : TrapKind) (done : List Event) (new : CallState) → ResultFails parties exact f flats answered answer k done new → ResultFails parties either f flats answered answer k done new
    result-fails answered answer k done new (inl (tested, faulty, none, is)) = inl (tt, faulty, none, is)
    result-fails answered answer k done new (inr (stands, es, script, (front, made, rest, next, asked, whole, left, leads, fails), is, callee, body)) =
        inr (stands, es, script, (front, made, rest, next, asked, whole, made-leaves exact front made left, leads, fails), is, callee, body)

    traps : (old : CallState) (s : Step) (k : TrapKind) (ways : Ways) (new : CallState) → Traps parties exact f flats old s k ways new → Traps parties either f flats old s k ways new
    traps old step.Place k ways new t = t
    traps old step.Take k ways new t = t
    traps old step.LiftArgs k ways new t = (arguments-faulty old k ways.there new t.0, t.1)
    traps old step.LowerArgs k ways new t = (arguments-fail old k ways.there new t.0, t.1)
    traps old step.Body k ways new t = t
    traps old step.LiftResult k ways new (answer, answered, a, faulty) = (answer, answered, a, result-faulty answered answer k ways.back new faulty)
    traps old step.LowerResult k ways new (answer, answered, a, fails) = (answer, answered, a, result-fails answered answer k ways.back new fails)
    traps old step.Post k ways new t = t

    calls : (old : CallState) (result : Result (List Flat) Fault) (ways : Ways) (new : CallState) → Calls parties exact f flats old result ways new → Calls parties either f flats old result ways new
    calls old (Ok given) ways new c = c
    calls old (Err (Trap t)) ways new c = traps old t.step t.kind ways new c
    calls old (Err NoMemory) ways new c = absurd c

  typed-traps : (arguments : List Value) (old : CallState) (s : Step) (k : TrapKind) (new : CallState) → TypedTraps parties exact f arguments old s k new → TypedTraps parties either f arguments old s k new
  typed-traps arguments old step.Place k new t = t
  typed-traps arguments old step.Take k new t = t
  typed-traps arguments old step.LiftArgs k new (flats, area, placed, p, ways, t) = (flats, area, placed, p, ways, traps flats placed step.LiftArgs k ways new t)
  typed-traps arguments old step.LowerArgs k new (flats, area, placed, p, ways, t) = (flats, area, placed, p, ways, traps flats placed step.LowerArgs k ways new t)
  typed-traps arguments old step.Body k new t = t
  typed-traps arguments old step.LiftResult k new (flats, area, placed, p, ways, t) = (flats, area, placed, p, ways, traps flats placed step.LiftResult k ways new t)
  typed-traps arguments old step.LowerResult k new (flats, area, placed, p, ways, t) = (flats, area, placed, p, ways, traps flats placed step.LowerResult k ways new t)
  typed-traps arguments old step.Post k new t = t

  typed : (arguments : List Value) (old : CallState) (result : Result (Option Value) Fault) (new : CallState) → TypedCall parties exact f arguments old result new → TypedCall parties either f arguments old result new
  typed arguments old (Ok v) new c = c
  typed arguments old (Err (Trap t)) new c = typed-traps arguments old t.step t.kind new c
  typed arguments old (Err NoMemory) new (inl (flats, area, placed, p, ways, g)) = absurd g
  typed arguments old (Err NoMemory) new (inr c) = inr c

pub exact-is-either : (parties : Parties) → ExactIsEither parties
exact-is-either parties = record { call = λ f flats old result ways new c. calls parties f flats old result ways new c; typed = λ f arguments old result new c. typed parties f arguments old result new c }
