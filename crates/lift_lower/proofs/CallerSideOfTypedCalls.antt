-- The caller's side of a typed call: its arguments, a return area that was granted, and what stands in it.
use Rattle.std.proofs.Common.{◌≡◌, inl, inr, ℕ, ◌+◌, ◌%◌, ◌≤◌, false, List, [], ◌∷◌, length, Some, Err, refl, sym, ap, ◌∙◌, subst, arith}
use Rattle.std.specs.Int.{next_multiple_of}
use Rattle.std.specs.Option.{option_map}
use Rattle.std.proofs.lemmas.Bool.{leb-true}
use Rattle.std.proofs.lemmas.List.{length-map}
use Rattle.canonical_abi.specs.Guest.{Memory, Allocation}
use Rattle.canonical_abi.specs.Types.{ClosedType, Fields, no_field, field, record_type, record_fields}
use Rattle.canonical_abi.specs.Values.{Value}
use Rattle.canonical_abi.specs.Layout.{align, size, field_kinds, fits_flat, max_flat_results}
use Rattle.canonical_abi.specs.Lowering.{PassesParams}
use Rattle.canonical_abi.specs.Memory.{Holds, Faulty, BlockHolds, BlockFaulty, HoldsInBlock, FaultyInBlock}
use Rattle.canonical_abi.specs.Reading.{kind_of}
use Rattle.canonical_abi.specs.Session.{HasResult, HasResultFault}
use Rattle.canonical_abi.specs.Trace.{Event, grant, TraceLeads, RequestEnds}
use Rattle.canonical_abi.specs.declared.flat.Flat.{Flat}
use Rattle.canonical_abi.specs.declared.trap.Fault.{Fault}
use Rattle.canonical_abi.specs.declared.trap.Fault.TheVariants as ended
use Rattle.canonical_abi.specs.declared.trap.Step.TheVariants as step
use Rattle.canonical_abi.specs.declared.trap.TrapKind.{TrapKind}
use Rattle.canonical_abi.proofs.FlatValues.LoweredValuesLift.{fields-lower-kinds}
use Rattle.lift_lower.specs.Crossing.{AreLowered, LowerFails}
use Rattle.lift_lower.specs.NoValue.{AnswerStands}
use Rattle.lift_lower.specs.Lowered.{PassesParamsBy}
use Rattle.lift_lower.specs.Placing.{IsAreaIn, IsAreaAsked, AreaFails}
use Rattle.lift_lower.specs.Scripts.{IsDone, HasEnded, GrantsBlock}
use Rattle.values.specs.Val.{value_of}
use Rattle.values.specs.declared.val.Val.{Val}
use Rattle.lift_lower.proofs.OneFieldRecords.{alone-align, alone-size, first-place}
use Rattle.std.specs.Prelude.{option_to_list}

-- ---- the arguments

pub is-record : (t : ClosedType) (fs : Fields) → t ≡ record_type fs → t ≡ record_type (record_fields t)
is-record t fs e = e ∙ ap (λ u. record_type (record_fields u)) (sym e)

-- at most as many core values carry arguments as go flat
pub passes-few : (limit : ℕ) (ts : Fields) (vs : List Value) (es : List Event) (flats : List Flat) → 1 ≤ limit → PassesParams limit ts vs es flats → length flats ≤ limit
passes-few limit ts vs es flats some (inl (fits, l)) =
    let kinds : length flats ≡ length (field_kinds ts) = sym (length-map flats kind_of) ∙ ap length (fields-lower-kinds ts vs es flats l) in
    omega (arith, leb-true _ _ fits, kinds)
passes-few limit ts vs es flats some (inr s) = let one : length flats ≡ 1 = ap length s.1.5 in omega (arith, one, some)

module _ (allocates : Allocation) (ts us : Fields) (same : ts ≡ us) (vs : List Value) (old new : Memory) where
  pub is-lowered : (flats : List Flat) → IsDone 16777216 allocates (λ es. PassesParams 16 ts vs es flats) old new → AreLowered allocates us vs old flats new
  is-lowered flats d = (d.events, subst (λ xs. PassesParams 16 xs vs d.events flats) same d.scripted, d.within, d.leads)

  pub lower-fails : (k : TrapKind) (fault : Fault) → fault ≡ ended.Trap (record { kind = k; step = step.Place }) → HasEnded 16777216 allocates (PassesParamsBy 16 ts vs) old k new
      → LowerFails allocates us vs old fault new
  lower-fails k fault is e =
      rw is (refl, e.events, e.scripted.0, subst (λ xs. PassesParams 16 xs vs e.events e.scripted.0) same e.scripted.1, e.ends)

-- ---- the return area

module _ (t : ClosedType) (alignment n : ℕ) (is_align : alignment ≡ align t) (is_size : n ≡ size t) (allocates : Allocation) (old new : Memory) where
  own_align : alignment ≡ align (record_type (field t no_field))
  own_align = is_align ∙ sym (alone-align t)

  own_size : n ≡ size (record_type (field t no_field))
  own_size = is_size ∙ sym (alone-size t)

  pub area-asked : (at : ℕ) → IsDone 16777216 allocates (GrantsBlock alignment n at) old new → IsAreaAsked allocates (field t no_field) old (Some at) new
  area-asked at d =
      let blocks : GrantsBlock (align (record_type (field t no_field))) n at d.events = subst (λ a. GrantsBlock a n at d.events) own_align d.scripted in
      (d.events, subst (λ s. GrantsBlock (align (record_type (field t no_field))) s at d.events) own_size blocks, d.within, d.leads)

  pub area-in : (at : ℕ) → fits_flat max_flat_results (field t no_field) ≡ false → IsDone 16777216 allocates (GrantsBlock alignment n at) old new
      → IsAreaIn (field t no_field) new.bytes (Some at)
  area-in at spilled d =
      let g = d.scripted.0 in
      let leads : TraceLeads allocates old (grant g ∷ []) new = subst (λ es. TraceLeads allocates old es new) d.scripted.3 d.leads in
      let placed = leads.1.1 in
      let here : at % g.align ≡ 0 = subst (λ a. a % g.align ≡ 0) d.scripted.2 placed.aligned in
      let aligned : at % align (record_type (field t no_field)) ≡ 0 = subst (λ a. at % a ≡ 0) (d.scripted.1.0 ∙ own_align) here in
      let whole : g.size ≡ size (record_type (field t no_field)) = d.scripted.1.1 ∙ own_size in
      let last : length new.bytes ≡ length leads.0.bytes = ap (λ m. length m.bytes) leads.2 in
      (spilled, (aligned, omega (arith, placed.inside, whole, d.scripted.2, last)))

  pub area-fails : (k : TrapKind) (fault : Fault) → fault ≡ ended.Trap (record { kind = k; step = step.Place }) → fits_flat max_flat_results (field t no_field) ≡ false
      → RequestEnds 16777216 allocates old alignment n k new → AreaFails allocates (field t no_field) old fault new
  area-fails k fault is spilled ends =
      let asked : RequestEnds 16777216 allocates old (align (record_type (field t no_field))) n k new = subst (λ a. RequestEnds 16777216 allocates old a n k new) own_align ends in
      rw is (spilled, refl, subst (λ s. RequestEnds 16777216 allocates old (align (record_type (field t no_field))) s k new) own_size asked)

-- ---- the result

module _ (t : ClosedType) (m : List ℕ) (at : ℕ) (spilled : fits_flat max_flat_results (field t no_field) ≡ false) (flats : List Flat) where
  own_place : at ≡ at + next_multiple_of 0 (align t)
  own_place = let here = first-place t in omega (arith, here)

  holds-result : (v : Value) → BlockHolds m at (align (record_type (field t no_field))) (size (record_type (field t no_field))) → HoldsInBlock t m at v
      → HasResult (field t no_field) m flats at (v ∷ [])
  holds-result v block h = inr (spilled, block, (v, [], refl, subst (λ a. Holds t m a v) own_place h.1, refl))

  no-fault : (k : TrapKind) → BlockHolds m at (align t) (size t) → BlockFaulty m at (align t) (size t) k → ⊥
  no-fault k h (inl (not, is)) = not h.0
  no-fault k h (inr (aligned, past, is)) = omega (arith, h.1, past)

  fault-result : (k : TrapKind) → BlockHolds m at (align t) (size t) → FaultyInBlock t m at k → HasResultFault (field t no_field) m flats at k
  fault-result k block (inl bad) = absurd (no-fault k block bad)
  fault-result k block (inr (holds, faulty)) = inr (spilled, inl (subst (λ a. Faulty t m a k) own_place faulty))

  -- the block of the value is that of the area
  pub value-block : BlockHolds m at (align (record_type (field t no_field))) (size (record_type (field t no_field))) → BlockHolds m at (align t) (size t)
  value-block h = (subst (λ a. at % a ≡ 0) (alone-align t) h.0, omega (arith, h.1, alone-size t))

  pub value-taken : (v : Val) → BlockHolds m at (align (record_type (field t no_field))) (size (record_type (field t no_field))) → HoldsInBlock t m at (value_of v)
      → HasResult (field t no_field) m flats at (option_to_list (option_map value_of (Some v)))
  value-taken v block h = holds-result (value_of v) block h

  pub fault-taken : (fault : Fault) → BlockHolds m at (align t) (size t)
      → AnswerStands step.Take (λ v. HoldsInBlock t m at (value_of v)) (FaultyInBlock t m at) (Err fault)
      → AnswerStands step.Take (λ v. HasResult (field t no_field) m flats at (option_to_list (option_map value_of v))) (HasResultFault (field t no_field) m flats at) (Err fault)
  fault-taken (ended.Trap trap) block h = (h.0, fault-result trap.kind block h.1)
  fault-taken ended.NoMemory block h = tt
