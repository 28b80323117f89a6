-- A typed call keeps the promise: its words follow from those of the call of flat values in it, over tame and over honest guests.
use Rattle.std.proofs.Common.{◌≡◌, ◌⊎◌, inl, inr, ℕ, zero, suc, ◌%◌, ◌^◌, ◌<◌, Bool, true, false, cond, List, [], ◌∷◌, ◌++◌, length, map, take, Option, Some, Result, Ok, Err, refl, sym, ap, ◌∙◌, subst, arith}
use Rattle.std.specs.Prelude.{slice_index, option_to_list, IfErr}
use Rattle.std.proofs.Math.Nat.{mod-eq_of_lt}
use Rattle.canonical_abi.specs.Types.{record_type, Fields, FunctionType, result_fields}
use Rattle.canonical_abi.specs.Values.{Value}
use Rattle.canonical_abi.specs.Layout.{align, size, max_flat_params, max_flat_results, fits_flat, passed_kinds, lifted_signature}
use Rattle.canonical_abi.specs.Reading.{low_bits, kind_of, number_of, denoting}
use Rattle.canonical_abi.specs.Memory.{BlockHolds, BlockFaulty, FieldsHold}
use Rattle.canonical_abi.specs.Flat.{Denotes, DenotesFault}
use Rattle.canonical_abi.specs.Guest.{Memory, Release, IsLimited, IsWithin, IsAlignment, Allocation}
use Rattle.canonical_abi.specs.Trace.{Event, grant, TraceLeads}
use Rattle.canonical_abi.specs.Stands.{AreAligned, IsGranted, Carries}
use Rattle.canonical_abi.specs.Laws.{IsOneOutcome}
use Rattle.canonical_abi.specs.Call.{Parties, CallState, Order, either, exact, Ways, Traps, GivesUp, Calls, KindsFit, AreaStands, ReturnAreaFaulty, argument_flats, area_of}
use Rattle.canonical_abi.specs.Session.{AsksArea, Prepares, HasResult, HasResultFault, Placed, PlaceFails, CameBack, TypedTraps, TypedCall}
use Rattle.canonical_abi.specs.Headline.{AreHonest, IsStandardFunction, FindsAndRunsOnce, RunsOnce, LiftsExactly, CallerIsUnchanged, CalleeIsUnchanged, IsBeforeBody, EntersBody, WasEntered, IsPosted, AfterTrap, AfterRun, IsOwnTrap, CallKeepsPromise, LendsArea, AreArguments, IsArgumentFault, TrapStands}
use Rattle.canonical_abi.specs.AnyHonest.{AnyGrant, AnyRelease}
use Rattle.canonical_abi.specs.Tame.{AreTame, LeavesLive, RunsLive}
use Rattle.canonical_abi.specs.declared.flat.CoreKind.{CoreKind}
use Rattle.canonical_abi.specs.declared.flat.CoreKind.TheVariants as kind
use Rattle.canonical_abi.specs.declared.flat.Flat.{Flat}
use Rattle.canonical_abi.specs.declared.flat.Flat.TheVariants.{I32}
use Rattle.canonical_abi.specs.declared.trap.Fault.{Fault}
use Rattle.canonical_abi.specs.declared.trap.Fault.TheVariants.{Trap, NoMemory}
use Rattle.canonical_abi.specs.declared.trap.TrapKind.{TrapKind}
use Rattle.canonical_abi.specs.declared.trap.TrapKind.TheVariants as trap
use Rattle.canonical_abi.specs.declared.trap.Step.{Step}
use Rattle.canonical_abi.specs.declared.trap.Step.TheVariants as step
use Rattle.canonical_abi.proofs.Layouts.AlignmentsAndSizes.{is-alignment}
use Rattle.canonical_abi.proofs.ReadValues.ReadsExactly.{one_outcome, tells-if, denoting-tells, fields-tell}
use Rattle.canonical_abi.proofs.Traces.WhatTracesKeep.{not-both, runs-keep, granted-second, carries-first, carries-second, aligned-both}
use Rattle.canonical_abi.proofs.StoredValues.WritesOwnPlaceAndBlocks.{Confined, confined-then, own-confined}
use Rattle.canonical_abi.proofs.StoredValues.StoredBytesStand.{Carrying, carrying-then, carrying-none, carrying-grant}
use Rattle.canonical_abi.proofs.FlatValues.LoweredIsDenoted.{Nowhere, passes-own, passes-confined, passes-aligned, passes-denoted, passes-carrying}
use Rattle.canonical_abi.proofs.Traces.ConfinedTraces.{Fine, leads-both, small, confined-granted, Went, went-same}
use Rattle.canonical_abi.proofs.Calls.WaysOfCalls.{InArea, own-outside}
use Rattle.canonical_abi.proofs.Calls.LinkKeepsPromise.{call-went, answered-found, posted, completed-once, traps-once, gives-up-once, traps-own, result-given, AnswerFaulty, Found, Goes, Linked, OwnTrap, Waits, are-tame, before-or-after, finds-and-runs, goes-as, traps-wait, waits-unchanged}
use Rattle.canonical_abi.proofs.Traces.TameTraces.{typed-broken, any-is-honest, calm-trace}

-- ---- the arguments and the return area in the caller

index-at : (xs ys : List ℕ) (y n : ℕ) → length xs ≡ n → slice_index (xs ++ y ∷ ys) n ≡ y
index-at [] ys y zero e = refl
index-at [] ys y (suc n) e = absurd (omega arith)
index-at (x ∷ xs) ys y zero e = absurd (omega arith)
index-at (x ∷ xs) ys y (suc n) e = index-at xs ys y n (omega arith)

low-at : (xs ys : List ℕ) (y n : ℕ) → length xs ≡ n → y < 2 ^ 32 → low_bits (xs ++ y ∷ ys) n 32 ≡ y
unfolding low_bits
low-at xs ys y n e h = ap (λ k. k % 2 ^ 32) (index-at xs ys y n e) ∙ mod-eq_of_lt h

take-front : (xs ys : List Flat) (n : ℕ) → length xs ≡ n → take n (xs ++ ys) ≡ xs
take-front [] ys zero e = refl
take-front [] ys (suc n) e = absurd (omega arith)
take-front (x ∷ xs) ys zero e = absurd (omega arith)
take-front (x ∷ xs) ys (suc n) e = ap (λ l. x ∷ l) (take-front xs ys n (omega arith))

no-more : (xs : List Flat) → xs ++ [] ≡ xs
no-more [] = refl
no-more (x ∷ xs) = ap (λ l. x ∷ l) (no-more xs)

map-numbers : (xs ys : List Flat) → map number_of (xs ++ ys) ≡ map number_of xs ++ map number_of ys
map-numbers [] ys = refl
map-numbers (x ∷ xs) ys = ap (λ l. number_of x ∷ l) (map-numbers xs ys)

map-kinds : (xs ys : List Flat) → map kind_of (xs ++ ys) ≡ map kind_of xs ++ map kind_of ys
map-kinds [] ys = refl
map-kinds (x ∷ xs) ys = ap (λ l. kind_of x ∷ l) (map-kinds xs ys)

-- a block that stands is not at fault
not-faulty : (m : List ℕ) (at alignment n : ℕ) (k : TrapKind) → BlockHolds m at alignment n → BlockFaulty m at alignment n k → ⊥
not-faulty m at alignment n k h (inl f) = f.0 h.0
not-faulty m at alignment n k h (inr f) = let inside = h.1 in let past = f.1 in absurd (omega arith)

length-map : {A : Type 0} (g : Flat → A) (xs : List Flat) → length (map g xs) ≡ length xs
length-map g [] = refl
length-map g (x ∷ xs) = let h = length-map g xs in omega arith

module _ (f : FunctionType) (arguments : List Value) (es : List Event) (flats : List Flat) (area : ℕ) (p : Prepares f arguments es flats area) where
  prepares-aligned : AreAligned es
  prepares-aligned = by p.3
    where
      first : AreAligned p.0
      first = passes-aligned max_flat_params f.params arguments p.0 p.1 p.2

      by : AsksArea (result_fields f.result) p.0 p.1 es flats area → AreAligned es
      by (inl s) = subst AreAligned (sym s.1) first
      by (inr s) = subst AreAligned (sym s.3) (aligned-both p.0 (grant s.1 ∷ []) first (subst IsAlignment (sym s.2.0) (is-alignment (record_type (result_fields f.result))), tt))

  prepares-confined : Confined Nowhere es
  prepares-confined = by p.3
    where
      first : Confined Nowhere p.0
      first = passes-confined max_flat_params f.params arguments p.0 p.1 p.2

      by : AsksArea (result_fields f.result) p.0 p.1 es flats area → Confined Nowhere es
      by (inl s) = subst (Confined Nowhere) (sym s.1) first
      by (inr s) = subst (Confined Nowhere) (sym s.3) (confined-then Nowhere Nowhere Nowhere p.0 (grant s.1 ∷ []) first tt (λ x i. i) (λ x i. i))

  prepares-fine : (allocates : Allocation) (old new : Memory) → TraceLeads allocates old es new → Fine allocates Nowhere old es new
  prepares-fine allocates old new leads = record { aligned = prepares-aligned; confined = prepares-confined; leads = leads }

  -- all of the events still stand in an honest caller
  prepares-carried : (old new : Memory) → TraceLeads AnyGrant old es new → Carries new.bytes es
  prepares-carried old new leads = by p.3
    where
      first : Carrying AnyGrant AnyRelease any-is-honest Nowhere p.0
      first = passes-carrying AnyGrant AnyRelease any-is-honest max_flat_params f.params arguments p.0 p.1 p.2

      by : AsksArea (result_fields f.result) p.0 p.1 es flats area → Carries new.bytes es
      by (inl s) = subst (Carries new.bytes) (sym s.1) (first old new (λ x i. absurd i) (subst AreAligned s.1 prepares-aligned) (subst (λ l. TraceLeads AnyGrant old l new) s.1 leads))
      by (inr s) =
          subst (Carries new.bytes) (sym s.3) (carrying-then AnyGrant AnyRelease any-is-honest Nowhere Nowhere Nowhere p.0 (grant s.1 ∷ [])
          (passes-own max_flat_params f.params arguments p.0 p.1 p.2) (own-confined Nowhere (grant s.1 ∷ []) tt) (λ x i j. i) (λ x i. i) (λ x i. i) first
          (carrying-grant AnyGrant AnyRelease any-is-honest Nowhere s.1 [] (λ apart. carrying-none AnyGrant AnyRelease any-is-honest _))
          old new (λ x i. absurd i) (subst AreAligned s.3 prepares-aligned) (subst (λ l. TraceLeads AnyGrant old l new) s.3 leads))

  -- the area was granted
  area-granted : (x : ℕ) → InArea (result_fields f.result) area x → IsGranted es x
  area-granted x i = by p.3
    where
      by : AsksArea (result_fields f.result) p.0 p.1 es flats area → IsGranted es x
      by (inl s) = absurd (not-both s.0 i.0)
      by (inr s) =
          let w : IsWithin x s.1.at s.1.size = subst (λ n. IsWithin x s.1.at n) (sym s.2.1) (subst (λ a. IsWithin x a (size (record_type (result_fields f.result)))) s.5 i.1) in
          subst (λ l. IsGranted l x) (sym s.3) (granted-second p.0 (grant s.1 ∷ []) x (inl w))

  module _ (standard : IsStandardFunction f) (m : Memory) (few : IsLimited m) (carried : Carries m.bytes es) where
    front-carried : Carries m.bytes p.0
    front-carried = by p.3
      where
        by : AsksArea (result_fields f.result) p.0 p.1 es flats area → Carries m.bytes p.0
        by (inl s) = subst (Carries m.bytes) s.1 carried
        by (inr s) = carries-first m.bytes p.0 (grant s.1 ∷ []) (subst (Carries m.bytes) s.3 carried)

    -- the caller's flat values denote the arguments
    passed-denoted : Denotes max_flat_params f.params m.bytes p.1 arguments
    passed-denoted = passes-denoted max_flat_params f.params arguments p.0 p.1 m.bytes (small m few) standard.params p.2 front-carried

    passed-length : length p.1 ≡ length (passed_kinds max_flat_params f.params)
    passed-length = sym (length-map kind_of p.1) ∙ ap (λ l. length l) passed-denoted.0

    arguments-are : argument_flats f flats ≡ p.1
    arguments-are = by p.3
      where
        by : AsksArea (result_fields f.result) p.0 p.1 es flats area → argument_flats f flats ≡ p.1
        by (inl s) = ap (λ fs. take (length (passed_kinds max_flat_params f.params)) fs) (s.2 ∙ sym (no-more p.1)) ∙ take-front p.1 [] _ passed-length
        by (inr s) = ap (λ fs. take (length (passed_kinds max_flat_params f.params)) fs) s.4 ∙ take-front p.1 (I32 s.1.at ∷ []) _ passed-length

    -- the flat values handed in denote the arguments alone
    placed-denoted : AreArguments f flats m arguments
    placed-denoted = subst (λ fs. Denotes max_flat_params f.params m.bytes fs arguments) (sym arguments-are) passed-denoted

    told-arguments : IsOneOutcome (AreArguments f flats m) (DenotesFault max_flat_params f.params m.bytes (argument_flats f flats))
    told-arguments = one_outcome (denoting max_flat_params f.params m.bytes (argument_flats f flats)) _ _ (denoting-tells max_flat_params f.params m.bytes (argument_flats f flats))

    same-arguments : (values : List Value) → AreArguments f flats m values → values ≡ arguments
    same-arguments values d = told-arguments.one_value values arguments d placed-denoted

    -- the kinds of the signature, where the result goes flat or not
    abbrev signed : Bool → List CoreKind
    signed b = (cond b (lifted_signature f) (record { params = (lifted_signature f).params ++ kind.I32 ∷ []; results = [] })).params

    -- the flat values have the kinds of the signature: a result that goes to memory adds the address of its area
    kinds-fit : KindsFit f flats
    kinds-fit = by p.3
      where
        by : AsksArea (result_fields f.result) p.0 p.1 es flats area → KindsFit f flats
        by (inl s) = ap (λ fs. map kind_of fs) s.2 ∙ passed-denoted.0 ∙ ap signed (sym s.0)
        by (inr s) = ap (λ fs. map kind_of fs) s.4 ∙ map-kinds p.1 (I32 s.1.at ∷ []) ∙ ap (λ ks. ks ++ kind.I32 ∷ []) passed-denoted.0 ∙ ap signed (sym s.0)

    no-argument-fault : (k : TrapKind) → IsArgumentFault f flats m k → ⊥
    no-argument-fault k (inl h) = h.0 kinds-fit
    no-argument-fault k (inr h) = told-arguments.not_both arguments k placed-denoted h.1

    -- the area is where the call takes it to be
    same-area : fits_flat max_flat_results (result_fields f.result) ≡ false → area_of f flats ≡ area
    same-area spills = by p.3
      where
        by : AsksArea (result_fields f.result) p.0 p.1 es flats area → area_of f flats ≡ area
        by (inl s) = absurd (not-both s.0 spills)
        by (inr s) =
            let block = carries-second m.bytes p.0 (grant s.1 ∷ []) (subst (Carries m.bytes) s.3 carried) in
            let low : s.1.at < 2 ^ 32 = let h = block.0.1 in omega arith in
            ap (λ fs. low_bits (map number_of fs) (length (passed_kinds max_flat_params f.params)) 32) s.4
            ∙ ap (λ ns. low_bits ns (length (passed_kinds max_flat_params f.params)) 32) (map-numbers p.1 (I32 s.1.at ∷ []))
            ∙ low-at (map number_of p.1) [] s.1.at _ (length-map number_of p.1 ∙ passed-length) low ∙ sym s.5

    in-area : (x : ℕ) → InArea (result_fields f.result) (area_of f flats) x → IsGranted es x
    in-area x i = area-granted x (i.0, subst (λ b. IsWithin x b (size (record_type (result_fields f.result)))) (same-area i.0) i.1)

    area-stands : (k : TrapKind) → ReturnAreaFaulty f flats m k → ⊥
    area-stands k (spills, faulty) = by p.3
      where
        by : AsksArea (result_fields f.result) p.0 p.1 es flats area → ⊥
        by (inl s) = not-both s.0 spills
        by (inr s) =
            let block = carries-second m.bytes p.0 (grant s.1 ∷ []) (subst (Carries m.bytes) s.3 carried) in
            let at : area_of f flats ≡ s.1.at = same-area spills ∙ s.5 in
            not-faulty m.bytes s.1.at (align (record_type (result_fields f.result))) (size (record_type (result_fields f.result))) k
            (subst (λ n. BlockHolds m.bytes s.1.at (align (record_type (result_fields f.result))) n) s.2.1 (subst (λ j. BlockHolds m.bytes s.1.at j s.1.size) s.2.0 block.0))
            (subst (λ b. BlockFaulty m.bytes b (align (record_type (result_fields f.result))) (size (record_type (result_fields f.result))) k) at faulty)

    -- the area that the call is given was granted, so it is live, and a block of the caller
    area-lent : ((x : ℕ) → IsGranted es x → m.live x ≡ true) → LendsArea f flats m
    area-lent live fit stands x w = by (fits_flat max_flat_results (result_fields f.result)) refl
      where
        by : (b : Bool) → fits_flat max_flat_results (result_fields f.result) ≡ b → m.live x ≡ true
        by true fits =
            let none = subst (λ b. IsWithin x (area_of f flats) (cond b 0 (size (record_type (result_fields f.result))))) fits w in
            absurd (omega (arith, none.0, none.1))
        by false spills = live x (in-area x (spills, subst (λ b. IsWithin x (area_of f flats) (cond b 0 (size (record_type (result_fields f.result))))) spills w))

    result-in-area : (n : List ℕ) (back : List Flat) (vs : List Value) → HasResult (result_fields f.result) n back (area_of f flats) vs → HasResult (result_fields f.result) n back area vs
    result-in-area n back vs (inl h) = inl h
    result-in-area n back vs (inr h) =
        let a = same-area h.0 in
        inr (h.0, subst (λ a. BlockHolds n a (align (record_type (result_fields f.result))) (size (record_type (result_fields f.result)))) a h.1, subst (λ a. FieldsHold (result_fields f.result) n a 0 vs) a h.2)

-- where a result is, its area stands
result-stands : (results : Fields) (m : List ℕ) (back : List Flat) (area : ℕ) (vs : List Value) → HasResult results m back area vs → AreaStands max_flat_results results area m
result-stands results m back area vs (inl h) = inl h.0
result-stands results m back area vs (inr h) = inr (h.0, h.1)

-- the result, wherever its area is
abbrev HasFields : Fields → List ℕ → List Flat → ℕ → List Value → Type 0
HasFields results m back area vs =
    ((fits_flat max_flat_results results ≡ true) × Denotes max_flat_results results m back vs) ⊎ ((fits_flat max_flat_results results ≡ false) × FieldsHold results m area 0 vs)

-- where the area stands, as the call has tested, there is one result or one first fault
told-result : (results : Fields) (m : List ℕ) (back : List Flat) (area : ℕ) → AreaStands max_flat_results results area m → IsOneOutcome (HasResult results m back area) (HasResultFault results m back area)
told-result results m back area stands = record {
  some = elim fields.some [ inl h ↦ inl (h.0, with-block h.0 h.1) | inr h ↦ inr h ];
  one_value = λ v w p q. fields.one_value v w (without-block v p) (without-block w q);
  one_fault = fields.one_fault;
  not_both = λ v k p q. fields.not_both v k (without-block v p) q;
}
  where
    fields : IsOneOutcome (HasFields results m back area) (HasResultFault results m back area)
    fields = one_outcome _ _ _ (tells-if (fits_flat max_flat_results results) _ _ _ _ _ _ (denoting-tells max_flat_results results m back) (fields-tell results m area 0))

    without-block : (vs : List Value) → HasResult results m back area vs → HasFields results m back area vs
    without-block vs (inl h) = inl h
    without-block vs (inr h) = inr (h.0, h.2)

    block-of : fits_flat max_flat_results results ≡ false → AreaStands max_flat_results results area m → BlockHolds m area (align (record_type results)) (size (record_type results))
    block-of spills (inl fits) = absurd (not-both fits spills)
    block-of spills (inr h) = h.1

    with-block : (vs : List Value) → HasFields results m back area vs → HasResult results m back area vs
    with-block vs (inl h) = inl h
    with-block vs (inr h) = inr (h.0, block-of h.0 stands, h.1)

-- ---- what is said of a typed call: the words of the promise over tame guests, each with the trace that its callee went through before the body

module _ (parties : Parties) (f : FunctionType) (arguments : List Value) (old : CallState) where
  -- the callee found the arguments, and the body made its one run
  abbrev pub Ran : (Option (List Flat) → CallState → Type 0) → Type 0
  Ran After = (runs : RunsLive parties f arguments old After) × Went parties.callee_allocates Nowhere old.callee runs.found.entered.callee

  -- the caller lifts what the body answered
  abbrev pub Lifted : CallState → Option Value → Type 0
  Lifted new v = (answer : List Flat) × (ran : CallState) × Found parties f arguments old (Some answer) ran × LiftsExactly parties f v answer ran × IsPosted parties (Some tt) new (Some answer) ran

  -- a trap that its step can end in
  abbrev pub OwnCallTrap : CallState → Step → TrapKind → Type 0
  OwnCallTrap new step.LiftResult k = AnswerFaulty parties f arguments old new k
  OwnCallTrap new s k = IsOwnTrap parties f arguments old new s k

-- ---- a typed call over tame guests

module _ (parties : Parties) (caller_releases callee_releases : Release) (order : Order) (f : FunctionType) (arguments : List Value)
    (tame : AreTame parties caller_releases callee_releases) (standard : IsStandardFunction f) (old : CallState) where
  -- the caller went through a trace that is confined to its own blocks
  abbrev CallerWent : CallState → Type 0
  CallerWent new = Went parties.caller_allocates Nowhere old.caller new.caller

  abbrev Once : (Option (List Flat) → CallState → Type 0) → Type 0
  Once After = Ran parties f arguments old After

  module _ (flats : List Flat) (area : ℕ) (placed : CallState) (p : Placed parties f arguments old flats area placed) where
    abbrev events : List Event
    events = p.puts.0

    placed-fine : Fine parties.caller_allocates Nowhere old.caller events placed.caller
    placed-fine = prepares-fine f arguments events flats area p.puts.1 parties.caller_allocates old.caller placed.caller p.puts.3

    -- an honest caller puts them there, too
    calm : (m : Memory) × LeavesLive 0 0 old.caller m × TraceLeads AnyGrant m events placed.caller
    calm = calm-trace parties.caller_allocates caller_releases tame.caller Nowhere events old.caller placed.caller (λ x i. absurd i) placed-fine

    carried : Carries placed.caller.bytes events
    carried = prepares-carried f arguments events flats area p.puts.1 calm.0 placed.caller calm.2

    pub arguments-same : (values : List Value) → AreArguments f flats placed.caller values → values ≡ arguments
    arguments-same values d = same-arguments f arguments events flats area p.puts.1 standard placed.caller p.small carried values d

    pub arguments-stand : (k : TrapKind) → IsArgumentFault f flats placed.caller k → ⊥
    arguments-stand k fault = no-argument-fault f arguments events flats area p.puts.1 standard placed.caller p.small carried k fault

    lends : LendsArea f flats placed.caller
    lends = area-lent f arguments events flats area p.puts.1 standard placed.caller p.small carried (runs-keep AnyGrant AnyRelease any-is-honest events calm.0 placed.caller placed-fine.aligned calm.2).is_live

    -- what a call makes of the caller comes behind what was placed
    went-behind : (result : Result (List Flat) Fault) (ways : Ways) (new : CallState) → Calls parties order f flats placed result ways new → CallerWent new
    went-behind result ways new c =
        let (es, mid, fine, after) = call-went parties caller_releases callee_releases order f flats tame placed result ways new c in (
          events ++ es,
          mid,
          record {
            aligned = aligned-both events es placed-fine.aligned fine.aligned;
            confined = confined-granted Nowhere (InArea (result_fields f.result) (area_of f flats)) events es placed-fine.confined fine.confined
                (λ x i. inr (in-area f arguments events flats area p.puts.1 standard placed.caller p.small carried x i));
            leads = leads-both parties.caller_allocates events es old.caller placed.caller mid p.puts.3 fine.leads;
          },
          after,
        )

    -- what is said of the call is said from the beginning on
    found-before : (values : List Value) → AreArguments f flats placed.caller values → (answer : Option (List Flat)) (ran : CallState) → Found parties f values placed answer ran → Found parties f arguments old answer ran
    found-before values held answer ran (r, went) = (
      record {
        entered = r.entered;
        handed = r.handed;
        finds = subst (λ vs. Denotes max_flat_params f.params r.entered.callee.bytes r.handed vs) (arguments-same values held) r.finds;
        run = r.run;
        same_body = r.same_body ∙ p.same_body;
        same_caller = r.same_caller;
        kept = subst (λ m. LeavesLive 0 0 m r.entered.callee) p.same_callee r.kept;
      },
      subst (λ m. Went parties.callee_allocates Nowhere m r.entered.callee) p.same_callee went,
    )

    once-before : (After : Option (List Flat) → CallState → Type 0) → Linked parties f flats placed After → Once After
    once-before After (l, went) =
        let r = l.runs in
        let (found, from) = found-before l.arguments l.held r.answer r.ran (r.found, went) in
        (record { answer = r.answer; ran = r.ran; found = found; after = r.after }, from)

    waits-before : (new : CallState) → Waits parties placed new → Waits parties old new
    waits-before new (went, body) = (subst (λ m. Went parties.callee_allocates Nowhere m new.callee) p.same_callee went, body ∙ p.same_body)

  -- ---- the caller

  came-went : (back : List Flat) (area : ℕ) (new : CallState) → CameBack parties f arguments old back area new → CallerWent new
  came-went back area new b = went-behind b.flats area b.placed b.places (Ok back) b.ways new b.completes

  -- there was no room in `place`
  place-broke : (k : TrapKind) (new : CallState) → PlaceFails parties f arguments old k new → CallerWent new × ((k ≡ trap.Full) ⊎ (k ≡ trap.Bounds))
  place-broke k new t =
      let (es, flats, area, p, breaks) = t.fails in
      typed-broken parties.caller_allocates caller_releases tame.caller Nowhere old.caller es k new.caller (prepares-aligned f arguments es flats area p) (prepares-confined f arguments es flats area p) breaks

  trapped-went : (s : Step) (k : TrapKind) (new : CallState) → TypedTraps parties order f arguments old s k new → CallerWent new
  trapped-went step.Place k new t = (place-broke k new t).0
  trapped-went step.Take k new t = came-went t.0 t.1 new t.2
  trapped-went s k new (flats, area, placed, p, ways, t) = went-behind flats area placed p (Err (Trap (record { kind = k; step = s }))) ways new t

  -- whatever a typed call answers, the caller went through a trace that is confined to its own blocks
  pub call-went-on : (result : Result (Option Value) Fault) (new : CallState) → TypedCall parties order f arguments old result new → CallerWent new
  call-went-on (Ok v) new (back, area, b, has) = came-went back area new b
  call-went-on (Err (Trap t)) new traps = trapped-went t.step t.kind new traps
  call-went-on (Err NoMemory) new (inl (flats, area, placed, p, ways, g)) = went-behind flats area placed p (Err NoMemory) ways new g
  call-went-on (Err NoMemory) new (inr (back, area, b)) = came-went back area new b

  -- ---- the callee

  trapped-waits : (s : Step) (k : TrapKind) (new : CallState) → TypedTraps parties order f arguments old s k new → IsBeforeBody s → Waits parties old new
  trapped-waits step.Place k new t b = (went-same parties.callee_allocates Nowhere old.callee new.callee t.same_callee, t.same_body)
  trapped-waits step.Take k new t b = absurd b
  trapped-waits s k new (flats, area, placed, p, ways, t) b = waits-before flats area placed p new (traps-wait parties caller_releases callee_releases order f flats tame placed s k ways new t b).0

  came-once : (back : List Flat) (area : ℕ) (new : CallState) → CameBack parties f arguments old back area new → Once (IsPosted parties (Some tt) new)
  came-once back area new b =
      once-before b.flats area b.placed b.places (IsPosted parties (Some tt) new)
      (completed-once parties caller_releases callee_releases order f b.flats tame standard b.placed back b.ways new b.completes)

  trapped-once : (s : Step) (k : TrapKind) (new : CallState) → TypedTraps parties order f arguments old s k new → EntersBody s → Once (AfterTrap parties s new)
  trapped-once step.Place k new t e = absurd e
  trapped-once step.Take k new t e = came-once t.0 t.1 new t.2
  trapped-once s k new (flats, area, placed, p, ways, t) e =
      once-before flats area placed p (AfterTrap parties s new) (traps-once parties caller_releases callee_releases order f flats tame standard placed s k ways new t e)

  -- want of the host's memory
  abbrev After : Order → CallState → Option (List Flat) → CallState → Type 0
  After o new = AfterRun {A = Option Value} parties o (Err NoMemory) new

  came-late : (o : Order) (new : CallState) → Once (IsPosted parties (Some tt) new) → Once (After o new)
  came-late either new (r, went) = (record { answer = r.answer; ran = r.ran; found = r.found; after = inr r.after }, went)
  came-late exact new r = r

  given-up : (flats : List Flat) (area : ℕ) (placed : CallState) → Placed parties f arguments old flats area placed → (o : Order) (ways : Ways) (new : CallState) → GivesUp parties f flats o placed ways new → Waits parties old new ⊎ Once (After o new)
  given-up flats area placed p o ways new g =
      elim (gives-up-once parties caller_releases callee_releases order f flats tame standard placed o ways new g) [
        | inl u ↦ inl (waits-before flats area placed p new u)
        | inr l ↦ inr (once-before flats area placed p (After o new) l)
      ]

  wanting-either : (new : CallState) → TypedCall parties order f arguments old (Err NoMemory) new → Waits parties old new ⊎ Once (After order new)
  wanting-either new (inl (flats, area, placed, p, ways, g)) = given-up flats area placed p order ways new g
  wanting-either new (inr (back, area, b)) = inr (came-late order new (came-once back area new b))

  -- in the exact order it comes after the whole crossing
  wanting-once : (o : Order) → o ≡ order → (new : CallState) → TypedCall parties order f arguments old (Err NoMemory) new → WasEntered {A = Option Value} o (Err NoMemory) → Once (After o new)
  wanting-once either is new c e = absurd e
  wanting-once exact is new (inl (flats, area, placed, p, ways, g)) e = absurd (subst (λ o. GivesUp parties f flats o placed ways new) (sym is) g)
  wanting-once exact is new (inr (back, area, b)) e = came-late exact new (came-once back area new b)

  -- ---- the result

  result-held : (back : List Flat) (area : ℕ) (new : CallState) (b : CameBack parties f arguments old back area new) → HasResult (result_fields f.result) new.caller.bytes back area b.completes.returns.values
  result-held back area new b =
      result-in-area f arguments b.places.puts.0 b.flats area b.places.puts.1 standard b.placed.caller b.places.small (carried b.flats area b.placed b.places) new.caller.bytes back b.completes.returns.values
      (result-given parties caller_releases callee_releases order f b.flats tame standard b.placed
      (lends b.flats area b.placed b.places) b.completes.answer back b.ways b.completes.returned new b.completes.returns b.completes.finishes.same_caller)

  came-lifted : (back : List Flat) (area : ℕ) (new : CallState) (b : CameBack parties f arguments old back area new) (result : Option Value) → HasResult (result_fields f.result) new.caller.bytes back area (option_to_list result)
      → Lifted parties f arguments old new result
  came-lifted back area new b result has =
      let r = b.completes.returns in
      let held = result-held back area new b in
      let stands = result-stands (result_fields f.result) new.caller.bytes back area r.values held in
      let same = (told-result (result_fields f.result) new.caller.bytes back area stands).one_value (option_to_list result) r.values has held in (
        b.completes.answer,
        r.answered,
        found-before b.flats area b.placed b.places r.answers.values r.answers.enters.denoted (Some b.completes.answer) r.answered
            (answered-found parties caller_releases callee_releases order f b.flats tame standard b.placed b.completes.answer b.ways.there r.answered r.answers),
        record { lifted = subst (λ vs. Denotes max_flat_results (result_fields f.result) r.answered.callee.bytes b.completes.answer vs) (sym same) r.returns.denoted },
        posted parties caller_releases callee_releases order f b.flats tame standard b.placed b.completes.answer back b.ways b.completes.returned new (Some tt) r b.completes.finishes,
      )

  -- ---- the traps

  call-own : (flats : List Flat) (area : ℕ) (placed : CallState) → Placed parties f arguments old flats area placed → (s : Step) (k : TrapKind) (ways : Ways) (new : CallState) → Traps parties order f flats placed s k ways new → OwnTrap parties f flats placed new s k
  call-own flats area placed p s k ways new t = traps-own parties caller_releases callee_releases order f flats tame standard placed s k ways new t

  trapped-own : (s : Step) (k : TrapKind) (new : CallState) → TypedTraps parties order f arguments old s k new → OwnCallTrap parties f arguments old new s k
  trapped-own step.Place k new t = (place-broke k new t).1
  trapped-own step.Take k new t =
      let held = result-held t.0 t.1 new t.2 in
      let stands = result-stands (result_fields f.result) new.caller.bytes t.0 t.1 t.2.completes.returns.values held in
      (told-result (result_fields f.result) new.caller.bytes t.0 t.1 stands).not_both t.2.completes.returns.values k held t.3
  trapped-own step.LiftArgs k new (flats, area, placed, p, ways, t) = arguments-stand flats area placed p k (call-own flats area placed p step.LiftArgs k ways new t)
  trapped-own step.LiftResult k new (flats, area, placed, p, ways, t) =
      let (values, held, (answer, ran, found, fault, same)) = call-own flats area placed p step.LiftResult k ways new t in
      (answer, ran, found-before flats area placed p values held (Some answer) ran found, fault, same)
  trapped-own step.LowerResult k new (flats, area, placed, p, ways, t) =
      elim (call-own flats area placed p step.LowerResult k ways new t) [
        | inl full ↦ full
        | inr faulty ↦ absurd (area-stands f arguments p.puts.0 flats area p.puts.1 standard placed.caller p.small (carried flats area placed p) k faulty)
      ]
  trapped-own s k new (flats, area, placed, p, ways, t) = call-own flats area placed p s k ways new t

  -- ---- each answer

  pub call-goes : (result : Result (Option Value) Fault) (new : CallState) → TypedCall parties order f arguments old result new
      → Goes parties order result new (Waits parties old new) Once (Lifted parties f arguments old new) (CallerWent new) (OwnCallTrap parties f arguments old new)
  call-goes (Ok v) new (back, area, b, has) = record {
    finds = λ e. came-once back area new b;
    before = λ e. absurd e;
    once = inr (came-once back area new b);
    gives = came-lifted back area new b v has;
    unchanged = came-went back area new b;
    own = tt;
  }
  call-goes (Err (Trap t)) new traps = record {
    finds = λ e. trapped-once t.step t.kind new traps e;
    before = λ b. trapped-waits t.step t.kind new traps b;
    once = elim (before-or-after t.step) [ inl b ↦ inl (trapped-waits t.step t.kind new traps b) | inr e ↦ inr (trapped-once t.step t.kind new traps e) ];
    gives = tt;
    unchanged = trapped-went t.step t.kind new traps;
    own = trapped-own t.step t.kind new traps;
  }
  call-goes (Err NoMemory) new c = record {
    finds = λ e. wanting-once order refl new c e;
    before = λ e. absurd e;
    once = wanting-either new c;
    gives = tt;
    unchanged = call-went-on (Err NoMemory) new c;
    own = tt;
  }

-- a trap that stands
pub call-stands : (parties : Parties) (order : Order) (f : FunctionType) (arguments : List Value) (old : CallState) (result : Result (Option Value) Fault) (new : CallState) → TypedCall parties order f arguments old result new
    → IfErr result (λ fault. TrapStands parties order f arguments old fault new)
call-stands parties order f arguments old (Ok v) new c = tt
call-stands parties order f arguments old (Err (Trap t)) new c = c
call-stands parties order f arguments old (Err NoMemory) new c = tt

-- ---- over honest guests all outside the blocks is kept, too

module _ (parties : Parties) (caller_releases callee_releases : Release) (honest : AreHonest parties caller_releases callee_releases) (f : FunctionType) (arguments : List Value) (old : CallState) where
  runs-once : (After : Option (List Flat) → CallState → Type 0) → Ran parties f arguments old After → RunsOnce parties f arguments old After
  runs-once After (r, went) = record { answer = r.answer; ran = r.ran; found = finds-and-runs parties caller_releases callee_releases honest f arguments old r.answer r.ran (r.found, went); after = r.after }

  lifts : (new : CallState) (v : Option Value) → Lifted parties f arguments old new v
      → (answer : List Flat) × (ran : CallState) × FindsAndRunsOnce parties f arguments old (Some answer) ran × LiftsExactly parties f v answer ran × IsPosted parties (Some tt) new (Some answer) ran
  lifts new v (answer, ran, found, lifted, post) = (answer, ran, finds-and-runs parties caller_releases callee_releases honest f arguments old (Some answer) ran found, lifted, post)

  call-trap : (new : CallState) (s : Step) (k : TrapKind) → OwnCallTrap parties f arguments old new s k → IsOwnTrap parties f arguments old new s k
  call-trap new step.LiftResult k (answer, ran, found, fault, same) = (answer, ran, finds-and-runs parties caller_releases callee_releases honest f arguments old (Some answer) ran found, fault, same)
  call-trap new s k t = t

pub keeps-promise : (parties : Parties) (caller_releases callee_releases : Release) (order : Order) → CallKeepsPromise parties caller_releases callee_releases order
keeps-promise parties caller_releases callee_releases order f arguments old result new standard called honest =
    record { finds = g.finds; before = g.before; once = g.once; lifts = g.gives; unchanged = g.unchanged; trap = call-stands parties order f arguments old result new called; own = g.own }
  where
    g : Goes parties order result new (CalleeIsUnchanged parties old new) (RunsOnce parties f arguments old)
        (λ v. (answer : List Flat) × (ran : CallState) × FindsAndRunsOnce parties f arguments old (Some answer) ran × LiftsExactly parties f v answer ran × IsPosted parties (Some tt) new (Some answer) ran)
        (CallerIsUnchanged parties old new) (IsOwnTrap parties f arguments old new)
    g = goes-as parties order new (waits-unchanged parties caller_releases callee_releases honest old new) (runs-once parties caller_releases callee_releases honest f arguments old)
        (lifts parties caller_releases callee_releases honest f arguments old new)
        (own-outside parties.caller_allocates caller_releases honest.caller old.caller new.caller)
        (call-trap parties caller_releases callee_releases honest f arguments old new) result
        (call-goes parties caller_releases callee_releases order f arguments (are-tame parties caller_releases callee_releases honest) standard old result new called)
