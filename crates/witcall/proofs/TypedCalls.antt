-- The links of a typed call, put together from what its parts answer.
use Rattle.std.proofs.Common.{◌≡◌, ℕ, List, Option, Result, Ok, Err, inl, inr, refl, sym, subst}
use Rattle.std.specs.Option.{option_map}
use Rattle.canonical_abi.specs.Types.{FunctionType, result_fields}
use Rattle.canonical_abi.specs.Values.{Value}
use Rattle.canonical_abi.specs.Guest.{Memory, IsLimited}
use Rattle.canonical_abi.specs.Call.{exact, Parties, CallState, Ways, Traps, Calls}
use Rattle.canonical_abi.specs.Session.{HasResult, HasResultFault, Placed, PlaceFails, CameBack, TypedTraps, TypedCall}
use Rattle.canonical_abi.specs.declared.flat.Flat.{Flat}
use Rattle.canonical_abi.specs.declared.trap.Fault.{Fault}
use Rattle.canonical_abi.specs.declared.trap.Fault.TheVariants as ended
use Rattle.canonical_abi.specs.declared.trap.Step.{Step}
use Rattle.canonical_abi.specs.declared.trap.Step.TheVariants as step
use Rattle.canonical_abi.specs.declared.trap.TrapKind.{TrapKind}
use Rattle.values.specs.declared.val.Val.{Val}
use Rattle.values.specs.Val.{value_of}
use Rattle.lift_lower.specs.NoValue.{AnswerStands}
use Rattle.lift_lower.specs.Placing.{area_at}
use Rattle.witcall.specs.Session.{typed_answer, IsReady, IsNotReady}
use Rattle.canonical_abi.specs.Halves.{as_state}
use Rattle.std.specs.Prelude.{option_to_list}

module _ (parties : Parties) (f : FunctionType) (arguments : List Value) where
  pub placed : (caller caller' callee : Memory) (body : List ℕ) (flats : List Flat) (area : Option ℕ)
      → IsReady parties.caller_allocates f arguments caller flats area caller' → IsLimited caller'
      → Placed parties f arguments (as_state caller callee body) flats (area_at area) (as_state caller' callee body)
  placed caller caller' callee body flats area h small = record { puts = h; small = small; same_callee = refl; same_body = refl }

  pub place_fails : (caller caller' callee : Memory) (body : List ℕ) (fault : Fault)
      → IsNotReady parties.caller_allocates f arguments caller fault caller'
      → TypedCall parties exact f arguments (as_state caller callee body) (Err fault) (as_state caller' callee body)
  place_fails caller caller' callee body ended.NoMemory h = absurd h
  place_fails caller caller' callee body (ended.Trap t) h =
      let fails : PlaceFails parties f arguments (as_state caller callee body) t.kind (as_state caller' callee body) =
      record { fails = h.1; same_callee = refl; same_body = refl } in
      subst (λ s. TypedTraps parties exact f arguments (as_state caller callee body) s t.kind (as_state caller' callee body)) (sym h.0) fails

  module _ (area : ℕ) where
    traps : (old place new : CallState) (flats : List Flat) (s : Step) (k : TrapKind) (ways : Ways) → Placed parties f arguments old flats area place
        → Traps parties exact f flats place s k ways new → TypedTraps parties exact f arguments old s k new
    traps old place new flats step.Place k ways places h = absurd h
    traps old place new flats step.Take k ways places h = absurd h
    traps old place new flats step.LiftArgs k ways places h = (flats, area, place, places, ways, h)
    traps old place new flats step.LowerArgs k ways places h = (flats, area, place, places, ways, h)
    traps old place new flats step.Body k ways places h = (flats, area, place, places, ways, h)
    traps old place new flats step.LiftResult k ways places h = (flats, area, place, places, ways, h)
    traps old place new flats step.LowerResult k ways places h = (flats, area, place, places, ways, h)
    traps old place new flats step.Post k ways places h = (flats, area, place, places, ways, h)

    pub link_fails : (old place new : CallState) (flats : List Flat) (fault : Fault) → Placed parties f arguments old flats area place
        → (ways : Ways) × Calls parties exact f flats place (Err fault) ways new → TypedCall parties exact f arguments old (Err fault) new
    link_fails old place new flats (ended.Trap t) places h = traps old place new flats t.step t.kind h.0 places h.1
    link_fails old place new flats ended.NoMemory places h = inl (flats, area, place, places, h.0, h.1)

    pub came_back : (old place new : CallState) (flats back : List Flat) → Placed parties f arguments old flats area place
        → (ways : Ways) × Calls parties exact f flats place (Ok back) ways new → CameBack parties f arguments old back area new
    came_back old place new flats back places h = record { flats = flats; placed = place; places = places; ways = h.0; completes = h.1 }

    take_traps : (old new : CallState) (back : List Flat) (s : Step) (k : TrapKind) → CameBack parties f arguments old back area new
        → s ≡ step.Take → HasResultFault (result_fields f.result) new.caller.bytes back area k → TypedTraps parties exact f arguments old s k new
    take_traps old new back s k came is_take fault =
        subst (λ x. TypedTraps parties exact f arguments old x k new) (sym is_take) (back, area, came, fault)

    pub takes : (old new : CallState) (back : List Flat) (answer : Result (Option Val) Fault) → CameBack parties f arguments old back area new
        → AnswerStands step.Take (λ v. HasResult (result_fields f.result) new.caller.bytes back area (option_to_list (option_map value_of v)))
        (HasResultFault (result_fields f.result) new.caller.bytes back area) answer
        → TypedCall parties exact f arguments old (typed_answer answer) new
    takes old new back (Ok v) came stands = (back, area, came, stands)
    takes old new back (Err (ended.Trap t)) came stands = take_traps old new back t.step t.kind came stands.0 stands.1
    takes old new back (Err ended.NoMemory) came stands = inr (back, area, came)
