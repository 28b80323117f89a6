-- The parts of a call, put together from how its ways ended.
use Rattle.std.proofs.Common.{◌≡◌, ◌^◌, ◌<◌, ◌≤◌, inl, inr, ℕ, min, Bool, true, false, if◌then◌else◌, List, [], ◌∷◌, ◌++◌, length, map, take, Option, Some, None, Result, Ok, Err, OnOk, IfErr, refl, sym, ap, ◌∙◌, arith}
use Rattle.std.proofs.Math.Seq.{take-append_seam, take-length}
use Rattle.std.proofs.lemmas.Bool.{leb-true}
use Rattle.std.proofs.lemmas.List.{length-map, length-take, take-map}
use Rattle.canonical_abi.specs.Types.{FunctionType, Fields, result_fields}
use Rattle.canonical_abi.specs.Layout.{CoreSignature, lifted_signature, max_flat_params, max_flat_results, field_kinds, fits_flat, passed_kinds}
use Rattle.canonical_abi.specs.Reading.{low_bits, kind_of, number_of}
use Rattle.canonical_abi.specs.Guest.{Memory, Allocation, IsLimited}
use Rattle.canonical_abi.specs.Script.{AddressFaulty}
use Rattle.canonical_abi.specs.Trace.{Event, grant}
use Rattle.canonical_abi.specs.Call.{area_of, argument_flats, KindsFit}
use Rattle.canonical_abi.specs.declared.flat.CoreKind.{CoreKind}
use Rattle.canonical_abi.specs.declared.flat.CoreKind.TheVariants as kind
use Rattle.canonical_abi.specs.declared.flat.Flat.{Flat}
use Rattle.canonical_abi.specs.declared.trap.Fault.{Fault}
use Rattle.canonical_abi.specs.declared.trap.Fault.TheVariants as ended
use Rattle.canonical_abi.specs.declared.trap.Step.TheVariants as step
use Rattle.canonical_abi.specs.declared.trap.TrapKind.{TrapKind}
use Rattle.crossing.specs.Outcome.{Counts, IsCrossed, MetFault, WasRefused}
use Rattle.crossing.specs.Ways.{ParamsWalk, ResultWalk, AreaIsBad, IsUnbegun, WayEnds}
use Rattle.crossing.specs.declared.stopped.Stopped.{Stopped}
use Rattle.crossing.specs.declared.stopped.Stopped.TheVariants as stopped
use Rattle.canonical_abi.specs.Halves.{counted_nodes, source, as_state, HasEntered, EntryFails, HasReturned, ReturnFails}
use Rattle.adapter.specs.Faults.{fault_in}
use Rattle.adapter.specs.Leaving.{LeaveFails}

-- the flat value behind those of the arguments
pub area-is : (f : FunctionType) (flats : List Flat) (area count : ℕ) (s : CoreSignature) → area ≡ low_bits (map number_of flats) count 32 → count ≡ length s.params → s ≡ lifted_signature f
    → area ≡ area_of f flats
area-is f flats area count s is counted same = is ∙ ap (λ n. low_bits (map number_of flats) n 32) (counted ∙ ap (λ t. length t.params) same)

-- the kinds of the arguments' flat values, which stand in front of the return area's address
pub argument-kinds : (f : FunctionType) (flats : List Flat) → KindsFit f flats → map kind_of (argument_flats f flats) ≡ passed_kinds max_flat_params f.params
argument-kinds f flats kinds = sym (take-map kind_of (length ks) flats) ∙ ap (take (length ks)) kinds ∙ by (fits_flat max_flat_results (result_fields f.result))
  where
    ks : List CoreKind
    ks = passed_kinds max_flat_params f.params

    by : (b : Bool) → take (length ks) (if b then lifted_signature f else record { params = ks ++ kind.I32 ∷ []; results = [] }).params ≡ ks
    by true = take-length ks
    by false = take-append_seam ks (kind.I32 ∷ [])

-- there are at most sixteen of these, and no more than the call has
passed-few : (ts : Fields) → length (passed_kinds max_flat_params ts) ≤ 16
passed-few ts = by (fits_flat max_flat_params ts) refl
  where
    by : (b : Bool) → fits_flat max_flat_params ts ≡ b → length (if b then field_kinds ts else kind.I32 ∷ []) ≤ 16
    by true fits = leb-true _ _ fits
    by false spills = omega arith

pub arguments-stand : (f : FunctionType) (flats : List Flat) → KindsFit f flats → length (lifted_signature f).params ≤ length flats
arguments-stand f flats kinds =
    let same : length (argument_flats f flats) ≡ length (passed_kinds max_flat_params f.params) = sym (length-map (argument_flats f flats) kind_of) ∙ ap length (argument-kinds f flats kinds) in
    let front = length-take (length (passed_kinds max_flat_params f.params)) flats in
    omega (arith, same, front)

pub arguments-room : (f : FunctionType) (flats : List Flat) (room : ℕ) → KindsFit f flats → min 17 (length flats) ≤ room → length (argument_flats f flats) ≤ room
arguments-room f flats room kinds fits =
    let same : length (argument_flats f flats) ≡ length (passed_kinds max_flat_params f.params) = sym (length-map (argument_flats f flats) kind_of) ∙ ap length (argument-kinds f flats kinds) in
    let front = length-take (length (passed_kinds max_flat_params f.params)) flats in
    omega (arith, fits, same, passed-few f.params, front)

pub same-arguments : (f : FunctionType) (flats given : List Flat) (count : ℕ) (s : CoreSignature) → given ≡ take count flats → count ≡ length s.params → s ≡ lifted_signature f → given ≡ argument_flats f flats
same-arguments f flats given count s is counted same = is ∙ ap (λ n. take n flats) (counted ∙ ap (λ t. length t.params) same)

-- ---- the arguments

module _ (allocates : Allocation) (f : FunctionType) (flats : List Flat) (m : List ℕ) (callee : Memory) where
  module _ (n : ℕ) (callee' : Memory) (c : ℕ) (fresh : n ≡ 0) (small : c < 2 ^ 64) where
    counted : (es : List Event) → Counts n es c → c ≡ counted_nodes es
    counted es h = omega (arith, h, fresh, small)

    has-entered : IsLimited callee' → (handed : List Flat) → KindsFit f flats → IsCrossed allocates (ParamsWalk max_flat_params f.params m (argument_flats f flats) handed) callee n callee' c
        → HasEntered allocates f flats m callee handed callee' c
    has-entered limited handed kinds d =
        (d.scripted.0, d.events, record { kinds = kinds; denoted = d.scripted.1; passes = d.scripted.2; leads = d.leads; small = limited; same_caller = refl; same_body = refl }, counted d.events d.counted)

    -- the record of the arguments has no place
    bad-address : (k : TrapKind) → KindsFit f flats → AddressFaulty max_flat_params f.params m (argument_flats f flats) k → IsUnbegun callee n callee' c
        → EntryFails allocates f flats m callee (ended.Trap (record { kind = k; step = step.LiftArgs })) callee' c
    bad-address k kinds address none = inl (refl, [], inr (inl (kinds, address, refl, ap (λ w. as_state (source m) w []) none.same)), none.uncounted ∙ fresh)

    -- one of their nodes is at fault
    bad-argument : (k : TrapKind) (final : List Flat) → KindsFit f flats → MetFault allocates (ParamsWalk max_flat_params f.params m (argument_flats f flats) final) callee n k callee' c
        → EntryFails allocates f flats m callee (ended.Trap (record { kind = k; step = step.LiftArgs })) callee' c
    bad-argument k final kinds u =
        inl (refl, u.events, inr (inr (kinds, u.events, u.scripted, refl, (u.events, refl, u.leads), refl, refl)), counted u.events u.counted)

    -- the callee has no room for them
    no-room : (k : TrapKind) (final : List Flat) → KindsFit f flats → WasRefused allocates (ParamsWalk max_flat_params f.params m (argument_flats f flats) final) callee n k callee' c
        → EntryFails allocates f flats m callee (ended.Trap (record { kind = k; step = step.LowerArgs })) callee' c
    no-room k final kinds u = by u.outcome u.scripted
      where
        by : (o : Option TrapKind) → ParamsWalk max_flat_params f.params m (argument_flats f flats) final o (u.done ++ grant u.next ∷ u.rest)
            → EntryFails allocates f flats m callee (ended.Trap (record { kind = k; step = step.LowerArgs })) callee' c
        by None (vs, denoted, passes) =
            inr (refl, u.done, (kinds, u.done ++ grant u.next ∷ u.rest, inl (vs, final, denoted, passes), (u.done, u.done, u.rest, u.next, u.asked, refl, refl, u.leads, u.fails), refl, refl, refl), counted u.done u.counted)
        by (Some j) stops =
            inr (refl, u.done, (kinds, u.done ++ grant u.next ∷ u.rest, inr (j, stops), (u.done, u.done, u.rest, u.next, u.asked, refl, refl, u.leads, u.fails), refl, refl, refl), counted u.done u.counted)

  -- what the end of the arguments' way says of the call
  abbrev pub EndsArguments : Memory → ℕ → List Flat → Result (Unit {0}) Stopped → Type 0
  EndsArguments callee' c handed (Ok _) = HasEntered allocates f flats m callee handed callee' c
  EndsArguments callee' c handed (Err s) =
      EntryFails allocates f flats m callee (fault_in step.LiftArgs step.LowerArgs s) callee' c

  pub arguments-end : KindsFit f flats → (n : ℕ) (r : Result (Unit {0}) Stopped) (callee' : Memory) (c : ℕ) (handed : List Flat) → n ≡ 0 → c < 2 ^ 64 → IsLimited callee'
      → WayEnds allocates (ParamsWalk max_flat_params f.params m (argument_flats f flats)) (AddressFaulty max_flat_params f.params m (argument_flats f flats)) (λ k. ⊥) callee n r callee' c handed
      → EndsArguments callee' c handed r
  arguments-end kinds n (Ok _) callee' c handed fresh small limited d = has-entered n callee' c fresh small limited handed kinds d
  arguments-end kinds n (Err (stopped.Source k)) callee' c handed fresh small limited (inl (address, none)) = bad-address n callee' c fresh small k kinds address none
  arguments-end kinds n (Err (stopped.Source k)) callee' c handed fresh small limited (inr (final, u)) = bad-argument n callee' c fresh small k final kinds u
  arguments-end kinds n (Err (stopped.Target k)) callee' c handed fresh small limited (inl (never, none)) = absurd never
  arguments-end kinds n (Err (stopped.Target k)) callee' c handed fresh small limited (inr (final, u)) = no-room n callee' c fresh small k final kinds u

-- ---- the result

module _ (allocates : Allocation) (f : FunctionType) (flats : List Flat) (caller : Memory) (m : List ℕ) where
  module _ (answer : List Flat) (n : ℕ) (caller' : Memory) (c : ℕ) (fresh : n ≡ 0) (small : c < 2 ^ 64) where
    counted-back : (es : List Event) → Counts n es c → c ≡ counted_nodes es
    counted-back es h = omega (arith, h, fresh, small)

    abbrev fs : Fields
    fs = result_fields f.result

    has-returned : IsLimited caller' → (back : List Flat) → IsCrossed allocates (ResultWalk max_flat_results fs m answer (area_of f flats) caller.bytes back) caller n caller' c
        → HasReturned allocates f flats m answer caller back caller' c
    has-returned limited back d =
        (d.scripted.1, d.events, record { denoted = d.scripted.2; area_stands = d.scripted.0; passes = d.scripted.3; leads = d.leads; small = limited; same_callee = refl; same_body = refl }, counted-back d.events d.counted)

    -- the answer's kinds or the address of its record are at fault
    bad-answer : (k : TrapKind) → AddressFaulty max_flat_results fs m answer k → IsUnbegun caller n caller' c
        → ReturnFails allocates f flats m answer caller (ended.Trap (record { kind = k; step = step.LiftResult })) caller' c
    bad-answer k address none = inl (refl, [], inl (address, refl, ap (λ w. as_state w (source m) []) none.same), none.uncounted ∙ fresh)

    -- one of its nodes is
    bad-result : (k : TrapKind) (final : List Flat) → MetFault allocates (ResultWalk max_flat_results fs m answer (area_of f flats) caller.bytes final) caller n k caller' c
        → ReturnFails allocates f flats m answer caller (ended.Trap (record { kind = k; step = step.LiftResult })) caller' c
    bad-result k final u =
        inl (refl, u.events, inr (u.scripted.0, u.events, u.scripted.1, refl, (u.events, refl, u.leads), refl, refl), counted-back u.events u.counted)

    -- the return area is
    bad-area : (k : TrapKind) → AreaIsBad max_flat_results fs m answer (area_of f flats) caller.bytes k → IsUnbegun caller n caller' c
        → ReturnFails allocates f flats m answer caller (ended.Trap (record { kind = k; step = step.LowerResult })) caller' c
    bad-area k bad none = inr (refl, [], inl (bad.0, bad.1, refl, ap (λ w. as_state w (source m) []) none.same), none.uncounted ∙ fresh)

    -- the caller has no room for it
    no-room-back : (k : TrapKind) (final : List Flat) → WasRefused allocates (ResultWalk max_flat_results fs m answer (area_of f flats) caller.bytes final) caller n k caller' c
        → ReturnFails allocates f flats m answer caller (ended.Trap (record { kind = k; step = step.LowerResult })) caller' c
    no-room-back k final u = by u.outcome u.scripted
      where
        by : (o : Option TrapKind) → ResultWalk max_flat_results fs m answer (area_of f flats) caller.bytes final o (u.done ++ grant u.next ∷ u.rest)
            → ReturnFails allocates f flats m answer caller (ended.Trap (record { kind = k; step = step.LowerResult })) caller' c
        by None (stands, vs, denoted, passes) =
            inr (refl, u.done, inr (stands, u.done ++ grant u.next ∷ u.rest, inl (vs, final, denoted, passes), (u.done, u.done, u.rest, u.next, u.asked, refl, refl, u.leads, u.fails), refl, refl, refl), counted-back u.done u.counted)
        by (Some j) (stands, stops) =
            inr (refl, u.done, inr (stands, u.done ++ grant u.next ∷ u.rest, inr (j, stops), (u.done, u.done, u.rest, u.next, u.asked, refl, refl, u.leads, u.fails), refl, refl, refl), counted-back u.done u.counted)

  module _ (answer : List Flat) where
    -- what the end of the result's way says of the call
    abbrev pub EndsResult : Memory → ℕ → List Flat → Result (Unit {0}) Stopped → Type 0
    EndsResult caller' c back (Ok _) = HasReturned allocates f flats m answer caller back caller' c
    EndsResult caller' c back (Err s) =
        ReturnFails allocates f flats m answer caller (fault_in step.LiftResult step.LowerResult s) caller' c

    pub result-ends : (n : ℕ) (r : Result (Unit {0}) Stopped) (caller' : Memory) (c : ℕ) (back : List Flat) → n ≡ 0 → c < 2 ^ 64 → IsLimited caller'
        → WayEnds allocates (ResultWalk max_flat_results (result_fields f.result) m answer (area_of f flats) caller.bytes) (AddressFaulty max_flat_results (result_fields f.result) m answer)
        (AreaIsBad max_flat_results (result_fields f.result) m answer (area_of f flats) caller.bytes) caller n r caller' c back
        → EndsResult caller' c back r
    result-ends n (Ok _) caller' c back fresh small limited d = has-returned answer n caller' c fresh small limited back d
    result-ends n (Err (stopped.Source k)) caller' c back fresh small limited (inl (address, none)) = bad-answer answer n caller' c fresh small k address none
    result-ends n (Err (stopped.Source k)) caller' c back fresh small limited (inr (final, u)) = bad-result answer n caller' c fresh small k final u
    result-ends n (Err (stopped.Target k)) caller' c back fresh small limited (inl (bad, none)) = bad-area answer n caller' c fresh small k bad none
    result-ends n (Err (stopped.Target k)) caller' c back fresh small limited (inr (final, u)) = no-room-back answer n caller' c fresh small k final u

-- where the caller's kinds were tested before, the answer did not return
pub return-fails : (allocates : Allocation) (f : FunctionType) (flats : List Flat) (m : List ℕ) (answer : List Flat) (old : Memory) (fault : Fault) (new : Memory) (c : ℕ) → KindsFit f flats
    → LeaveFails allocates f flats m answer old fault new c → ReturnFails allocates f flats m answer old fault new c
return-fails allocates f flats m answer old fault new c kinds (inl (others, is, same, none)) = absurd (others kinds)
return-fails allocates f flats m answer old fault new c kinds (inr (own, fails)) = fails

-- and the other way round
pub leave-fails : (allocates : Allocation) (f : FunctionType) (flats : List Flat) (m : List ℕ) (answer : List Flat) (old new : Memory) (c : ℕ) → KindsFit f flats
    → {A : Type 0} (r : Result A Fault) → IfErr r (λ fault. ReturnFails allocates f flats m answer old fault new c) → IfErr r (λ fault. LeaveFails allocates f flats m answer old fault new c)
leave-fails allocates f flats m answer old new c kinds (Ok _) fails = tt
leave-fails allocates f flats m answer old new c kinds (Err fault) fails = inr (kinds, fails)

pub ok-anyway : {A : Type 0} (r : Result A Fault) (P : Type 0) → P → OnOk r P
ok-anyway (Ok _) P h = h
ok-anyway (Err _) P h = tt
