-- What the events of a call's two ways are confined to, and what such a way leaves in a memory of a tame and of an honest guest.
use Rattle.std.proofs.Common.{◌≡◌, ◌⊎◌, inl, inr, ℕ, ◌≤◌, false, cond, List, ◌∷◌, length, refl, sym, subst, arith}
use Rattle.canonical_abi.specs.Types.{record_type, Fields, FunctionType, result_fields, AreStandardFields}
use Rattle.canonical_abi.specs.Values.{Value}
use Rattle.canonical_abi.specs.Layout.{align, size, max_flat_params, max_flat_results, fits_flat}
use Rattle.canonical_abi.specs.Memory.{BlockHolds}
use Rattle.canonical_abi.specs.Flat.{Denotes}
use Rattle.canonical_abi.specs.Guest.{Release, IsWithin, IsAlignment, Allocation, IsLimited, Memory, IsHonest}
use Rattle.canonical_abi.specs.Trace.{Event, node, grant, TraceLeads}
use Rattle.canonical_abi.specs.Lowering.{PassesResult, PassesParams}
use Rattle.canonical_abi.specs.Stands.{AreAligned}
use Rattle.canonical_abi.specs.Script.{ParamsUntil, ParamsScript, ResultUntil, ResultScript}
use Rattle.canonical_abi.specs.Call.{Order, either, exact, IsGrantedPart, AreaStands}
use Rattle.canonical_abi.specs.Session.{HasResult}
use Rattle.canonical_abi.specs.Headline.{IsLentLive, KeepsOutside, area_size}
use Rattle.canonical_abi.specs.AnyHonest.{AnyGrant, AnyRelease}
use Rattle.canonical_abi.specs.Tame.{IsTame, LeavesLive}
use Rattle.canonical_abi.specs.declared.flat.Flat.{Flat}
use Rattle.canonical_abi.specs.declared.trap.TrapKind.{TrapKind}
use Rattle.canonical_abi.proofs.Layouts.AlignmentsAndSizes.{is-alignment}
use Rattle.canonical_abi.proofs.Traces.WhatTracesKeep.{aligned-first, not-both}
use Rattle.canonical_abi.proofs.StoredValues.WritesOwnPlaceAndBlocks.{Confined, InFields, confined-more, confined-front, stores-confined, fields-aligned}
use Rattle.canonical_abi.proofs.FlatValues.LoweredIsDenoted.{Nowhere, passes-confined, passes-aligned, fields-lower-confined, fields-lower-aligned, lowered-is-denoted}
use Rattle.canonical_abi.proofs.Calls.ResultIsHeld.{result-is-held}
use Rattle.canonical_abi.proofs.Traces.StoppedTracesAreConfined.{fields-until-confined, fields-until-aligned, fields-lower-until-confined, fields-lower-until-aligned}
use Rattle.canonical_abi.proofs.Traces.ConfinedTraces.{Fine, small, Went, went-by, went-outside}
use Rattle.canonical_abi.proofs.Traces.TameTraces.{any-is-honest, calm-trace, went-leaves}

-- the place of a result that doesn't go flat
abbrev pub InArea : Fields → ℕ → ℕ → Type 0
InArea results area x = (fits_flat max_flat_results results ≡ false) × IsWithin x area (size (record_type results))

-- ---- what the events of a result are confined to

pub passes-result-confined : (results : Fields) (area : ℕ) (vs : List Value) (es : List Event) (back : List Flat) → PassesResult max_flat_results results area vs es back → Confined (InArea results area) es
passes-result-confined results area vs es back (inl s) = confined-more Nowhere (InArea results area) es (λ x i. absurd i) (fields-lower-confined results vs es back s.1)
passes-result-confined results area vs es back (inr s) =
    confined-more (λ x. IsWithin x area (size (record_type results))) (InArea results area) es (λ x i. (s.0, i)) (stores-confined (record_type results) area _ (node ∷ es) (vs, es, refl, refl, s.1))

pub passes-result-aligned : (results : Fields) (area : ℕ) (vs : List Value) (es : List Event) (back : List Flat) → PassesResult max_flat_results results area vs es back → AreAligned es
passes-result-aligned results area vs es back (inl s) = fields-lower-aligned results vs es back s.1
passes-result-aligned results area vs es back (inr s) = fields-aligned results area 0 vs es s.1

in-whole-area : (results : Fields) (area x : ℕ) → InFields results area 0 x → IsWithin x area (size (record_type results))
in-whole-area results area x i = (omega arith, omega arith)

pub until-result-confined : (results : Fields) (m : List ℕ) (answer : List Flat) (area : ℕ) (k : TrapKind) (es : List Event) → ResultUntil max_flat_results results m answer area k es → Confined (InArea results area) es
until-result-confined results m answer area k es (stands, inl s) = confined-more Nowhere (InArea results area) es (λ x i. absurd i) (fields-lower-until-confined results m _ k es s.1)
until-result-confined results m answer area k es (stands, inr s) =
    confined-more (InFields results area 0) (InArea results area) es (λ x i. (s.0, in-whole-area results area x i)) (fields-until-confined results m _ area 0 k es s.1)

pub until-result-aligned : (results : Fields) (m : List ℕ) (answer : List Flat) (area : ℕ) (k : TrapKind) (es : List Event) → ResultUntil max_flat_results results m answer area k es → AreAligned es
until-result-aligned results m answer area k es (stands, inl s) = fields-lower-until-aligned results m _ k es s.1
until-result-aligned results m answer area k es (stands, inr s) = fields-until-aligned results m _ area 0 k es s.1

pub script-confined : (results : Fields) (m : List ℕ) (answer : List Flat) (area : ℕ) (es : List Event) → ResultScript max_flat_results results m answer area es → Confined (InArea results area) es
script-confined results m answer area es (inl s) = passes-result-confined results area s.0 es s.1 s.3
script-confined results m answer area es (inr s) = until-result-confined results m answer area s.0 es s.1

pub script-aligned : (results : Fields) (m : List ℕ) (answer : List Flat) (area : ℕ) (es : List Event) → ResultScript max_flat_results results m answer area es → AreAligned es
script-aligned results m answer area es (inl s) = passes-result-aligned results area s.0 es s.1 s.3
script-aligned results m answer area es (inr s) = until-result-aligned results m answer area s.0 es s.1

pub until-params-fine : (ts : Fields) (m : List ℕ) (flats : List Flat) (k : TrapKind) (es : List Event) → ParamsUntil max_flat_params ts m flats k es → AreAligned es × Confined Nowhere es
until-params-fine ts m flats k es (stands, inl s) = (fields-lower-until-aligned ts m _ k es s.1, fields-lower-until-confined ts m _ k es s.1)
until-params-fine ts m flats k es (stands, inr (spills, g, rest, block, is, until)) =
    let al : AreAligned (grant g ∷ rest) = (subst IsAlignment (sym block.0) (is-alignment (record_type ts)), fields-until-aligned ts m _ g.at 0 k rest until) in
    let c : Confined Nowhere (grant g ∷ rest) = confined-more (InFields ts g.at 0) (λ x. Nowhere x ⊎ IsWithin x g.at g.size) rest
    (λ x i. inr (subst (λ n. IsWithin x g.at n) (sym block.1) (in-whole-area ts g.at x i))) (fields-until-confined ts m _ g.at 0 k rest until) in
    (subst AreAligned (sym is) al, subst (Confined Nowhere) (sym is) c)

pub script-params-fine : (ts : Fields) (m : List ℕ) (flats : List Flat) (es : List Event) → ParamsScript max_flat_params ts m flats es → AreAligned es × Confined Nowhere es
script-params-fine ts m flats es (inl s) = (passes-aligned max_flat_params ts s.0 es s.1 s.3, passes-confined max_flat_params ts s.0 es s.1 s.3)
script-params-fine ts m flats es (inr s) = until-params-fine ts m flats s.0 es s.1

pub granted-part : (o : Order) (P : ℕ → Type 0) (done es : List Event) → IsGrantedPart o done es → AreAligned es → Confined P es → AreAligned done × Confined P done
granted-part either P done es (rest, is) al c = (aligned-first done rest (subst AreAligned is al), confined-front P done rest (subst (Confined P) is c))
granted-part exact P done es is al c = (subst AreAligned (sym is) al, subst (Confined P) (sym is) c)

-- ---- what is put into a memory of a tame guest

-- an area that stood stands in a memory that is not shorter
area-inside : (ts : Fields) (area : ℕ) (m n : List ℕ) → fits_flat max_flat_results ts ≡ false → AreaStands max_flat_results ts area m → length m ≤ length n
    → BlockHolds n area (align (record_type ts)) (size (record_type ts))
area-inside ts area m n spills (inl fits) longer = absurd (not-both fits spills)
area-inside ts area m n spills (inr (is, block)) longer = (block.0, let inside = block.1 in omega arith)

module _ (allocates : Allocation) (releases : Release) (tame : IsTame allocates releases) (old new : Memory) (few : IsLimited new) where
  -- parameters are denoted there
  pub params-arrive : (ts : Fields) (vs : List Value) (es : List Event) (handed : List Flat) → AreStandardFields ts → PassesParams max_flat_params ts vs es handed → TraceLeads allocates old es new
      → Denotes max_flat_params ts new.bytes handed vs × Went allocates Nowhere old new
  params-arrive ts vs es handed standard passes leads =
      let fine : Fine allocates Nowhere old es new =
      record { aligned = passes-aligned max_flat_params ts vs es handed passes; confined = passes-confined max_flat_params ts vs es handed passes; leads = leads } in
      let (calm, left, calmly) = calm-trace allocates releases tame Nowhere es old new (λ x i. absurd i) fine in
      ((lowered-is-denoted AnyGrant AnyRelease any-is-honest max_flat_params ts vs es handed calm new standard (small new few) passes calmly).denotes, went-by allocates Nowhere old es new fine)

  -- a result is there, in flat values or in an area that is live, aligned and inside
  pub result-arrives : (ts : Fields) (area : ℕ) (vs : List Value) (es : List Event) (given : List Flat) → AreStandardFields ts → (fits_flat max_flat_results ts ≡ false → IsLentLive old area (size (record_type ts)))
      → AreaStands max_flat_results ts area old.bytes → PassesResult max_flat_results ts area vs es given → TraceLeads allocates old es new → HasResult ts new.bytes given area vs
  result-arrives ts area vs es given standard live stands passes leads =
      let (calm, left, calmly) = calm-trace allocates releases tame (InArea ts area) es old new (λ x i. live i.0 x i.1)
      (record { aligned = passes-result-aligned ts area vs es given passes; confined = passes-result-confined ts area vs es given passes; leads = leads }) in
      elim (result-is-held AnyGrant AnyRelease any-is-honest max_flat_results ts area vs es given calm new standard (small new few) (λ spills x w. left.live x (live spills x w)) passes calmly) [
        | inl h ↦ inl (h.0, h.1.denotes)
        | inr h ↦ inr (h.0, area-inside ts area old.bytes new.bytes h.0 stands (let l = left.no_shorter in let k = h.2.keeps.no_shorter in omega arith), h.2.holds)
      ]

-- an area that is lent is live where the result doesn't go flat
pub lent-live : (f : FunctionType) (area : ℕ) (m : Memory) → IsLentLive m area (area_size f) → fits_flat max_flat_results (result_fields f.result) ≡ false → IsLentLive m area (size (record_type (result_fields f.result)))
lent-live f area m lent spills = subst (λ b. IsLentLive m area (cond b 0 (size (record_type (result_fields f.result))))) spills lent

in-lent : (f : FunctionType) (area x : ℕ) → InArea (result_fields f.result) area x → IsWithin x area (area_size f)
in-lent f area x i = subst (λ b. IsWithin x area (cond b 0 (size (record_type (result_fields f.result))))) (sym i.0) i.1

-- ---- what is kept over a trace that is confined to a guest's own blocks, or to a lent area and these

module _ (allocates : Allocation) (releases : Release) (tame : IsTame allocates releases) (old new : Memory) where
  pub own-left : Went allocates Nowhere old new → LeavesLive 0 0 old new
  own-left = went-leaves allocates releases tame Nowhere old new 0 0 (λ x i. absurd i)

  pub area-left : (f : FunctionType) (area : ℕ) → Went allocates (InArea (result_fields f.result) area) old new → LeavesLive area (area_size f) old new
  area-left f area = went-leaves allocates releases tame (InArea (result_fields f.result) area) old new area (area_size f) (in-lent f area)

module _ (allocates : Allocation) (releases : Release) (honest : IsHonest allocates releases) (old new : Memory) where
  pub own-outside : Went allocates Nowhere old new → KeepsOutside allocates 0 0 old new
  own-outside = went-outside allocates releases honest Nowhere old new 0 0 (λ x i. absurd i)

  pub area-outside : (f : FunctionType) (area : ℕ) → Went allocates (InArea (result_fields f.result) area) old new → KeepsOutside allocates area (area_size f) old new
  area-outside f area = went-outside allocates releases honest (InArea (result_fields f.result) area) old new area (area_size f) (in-lent f area)
