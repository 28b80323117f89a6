-- Values lowered over an honest guest are denoted in the end.
use Rattle.std.proofs.Common.{◌≡◌, ◌⊎◌, inl, inr, ℕ, zero, suc, ◌+◌, ◌%◌, ◌^◌, ◌<◌, ◌≤◌, cond, List, [], ◌∷◌, length, map, refl, sym, ap, ◌∙◌, subst, append-nil}
use Rattle.canonical_abi.specs.Types.{ClosedType, prim_type, string_type, list_type, record_type, variant_type, flags_type, Fields, no_field, field, Cases, no_case, plain_case, case_with, AreStandardFields}
use Rattle.canonical_abi.specs.Values.{Value}
use Rattle.canonical_abi.specs.Layout.{align, size, field_kinds}
use Rattle.canonical_abi.specs.Reading.{low_bits, kind_of, number_of}
use Rattle.canonical_abi.specs.Memory.{FieldsHold}
use Rattle.canonical_abi.specs.Flat.{FieldsLift, SpilledHold, Denotes}
use Rattle.canonical_abi.specs.Guest.{Allocation, Release, IsHonest, IsWithin, IsAlignment}
use Rattle.canonical_abi.specs.Trace.{Event, node, grant, write}
use Rattle.canonical_abi.specs.Storing.{Stores}
use Rattle.canonical_abi.specs.Lowering.{Lowers, FieldsLower, CaseLowers, PassesParams}
use Rattle.canonical_abi.specs.Stands.{AreAligned, Carries}
use Rattle.canonical_abi.specs.Laws.{LoweredIsDenoted}
use Rattle.canonical_abi.specs.declared.flat.CoreKind.TheVariants as kind
use Rattle.canonical_abi.specs.declared.flat.Flat.{Flat}
use Rattle.canonical_abi.proofs.Traces.TracesLeaveImages.{leaves_image}
use Rattle.canonical_abi.proofs.Layouts.AlignmentsAndSizes.{is-alignment}
use Rattle.canonical_abi.proofs.Traces.WhatTracesKeep.{runs-keep, aligned-both}
use Rattle.canonical_abi.proofs.StoredValues.WritesOwnPlaceAndBlocks.{Own, Confined, InMembers, confined-more, confined-then, confined-write, own-confined, each-confined, stores-confined, stores-own, each-aligned, stores-aligned, fields-aligned}
use Rattle.canonical_abi.proofs.StoredValues.StoredBytesStand.{Carrying, carrying-then, carrying-none, carrying-node, carrying-write, carrying-grant, each-carrying, stores-carrying, record-carrying}
use Rattle.canonical_abi.proofs.StoredValues.StandingIsHeld.{small-address, fields-held}
use Rattle.canonical_abi.proofs.FlatValues.LoweredValuesLift.{low-first, fields-lower-kinds, fields-lift}

-- no place is lent
abbrev pub Nowhere : ℕ → Type 0
Nowhere x = ⊥

mutual
  pub lowers-confined : (t : ClosedType) (v : Value) (es : List Event) (flats : List Flat) → Lowers t v es flats → Confined Nowhere es
  lowers-confined (prim_type p) v es flats s = subst (Confined Nowhere) (sym s.1) tt
  lowers-confined string_type v es flats s =
      let g = s.1 in
      subst (Confined Nowhere) (sym s.5) (confined-more (λ x. IsWithin x g.at g.size) (λ x. ⊥ ⊎ IsWithin x g.at g.size) (write g.at s.0 ∷ []) (λ x i. inr i) (confined-write g.at s.0 g.size (sym s.4.1)))
  lowers-confined (list_type t) v es flats s =
      let g = s.1 in
      subst (Confined Nowhere) (sym s.5) (confined-more (InMembers (size t) g.at (length s.0)) (λ x. ⊥ ⊎ IsWithin x g.at g.size) s.2 (λ x i. inr (subst (IsWithin x g.at) (sym s.4.1) i))
      (each-confined (Stores t) (size t) (λ b u fs p. stores-confined t b u fs p) g.at s.0 s.2 s.6))
  lowers-confined (record_type ts) v es flats s = subst (Confined Nowhere) (sym s.3) (fields-lower-confined ts s.0 s.1 flats s.4)
  lowers-confined (variant_type cs) v es flats s = subst (Confined Nowhere) (sym s.3) (case-lower-confined cs s.0 s.0 v s.1 s.2 s.4)
  lowers-confined (flags_type n) v es flats s = subst (Confined Nowhere) (sym s.3) tt

  pub fields-lower-confined : (ts : Fields) (vs : List Value) (es : List Event) (flats : List Flat) → FieldsLower ts vs es flats → Confined Nowhere es
  fields-lower-confined no_field vs es flats s = subst (Confined Nowhere) (sym s.1) tt
  fields-lower-confined (field t ts) vs es flats s =
      subst (Confined Nowhere) (sym s.7) (confined-then Nowhere Nowhere Nowhere s.2 s.3 (lowers-confined t s.0 s.2 s.4 s.9) (fields-lower-confined ts s.1 s.3 s.5 s.10) (λ x i. i) (λ x i. i))

  case-lower-confined : (cs : Cases) (i n : ℕ) (v : Value) (es : List Event) (flats : List Flat) → CaseLowers cs i n v es flats → Confined Nowhere es
  case-lower-confined no_case i n v es flats s = elim s [ ]
  case-lower-confined (plain_case cs) i zero v es flats s = subst (Confined Nowhere) (sym s.1) tt
  case-lower-confined (plain_case cs) i (suc n) v es flats s = case-lower-confined cs i n v es flats s
  case-lower-confined (case_with t cs) i zero v es flats s = lowers-confined t s.0 es flats s.2
  case-lower-confined (case_with t cs) i (suc n) v es flats s = case-lower-confined cs i n v es flats s

pub lowers-own : (t : ClosedType) (v : Value) (es : List Event) (flats : List Flat) → Lowers t v es flats → Own Nowhere es
lowers-own t v es flats s = own-confined Nowhere es (lowers-confined t v es flats s)

pub fields-lower-own : (ts : Fields) (vs : List Value) (es : List Event) (flats : List Flat) → FieldsLower ts vs es flats → Own Nowhere es
fields-lower-own ts vs es flats s = own-confined Nowhere es (fields-lower-confined ts vs es flats s)

mutual
  pub lowers-aligned : (t : ClosedType) (v : Value) (es : List Event) (flats : List Flat) → Lowers t v es flats → AreAligned es
  lowers-aligned (prim_type p) v es flats s = subst AreAligned (sym s.1) tt
  lowers-aligned string_type v es flats s = subst AreAligned (sym s.5) (subst IsAlignment (sym s.4.0) (inl refl), tt)
  lowers-aligned (list_type t) v es flats s =
      subst AreAligned (sym s.5) (subst IsAlignment (sym s.4.0) (is-alignment t), each-aligned (Stores t) (size t) (λ b w fs p. stores-aligned t b w fs p) s.1.at s.0 s.2 s.6)
  lowers-aligned (record_type ts) v es flats s = subst AreAligned (sym s.3) (fields-lower-aligned ts s.0 s.1 flats s.4)
  lowers-aligned (variant_type cs) v es flats s = subst AreAligned (sym s.3) (case-lower-aligned cs s.0 s.0 v s.1 s.2 s.4)
  lowers-aligned (flags_type n) v es flats s = subst AreAligned (sym s.3) tt

  pub fields-lower-aligned : (ts : Fields) (vs : List Value) (es : List Event) (flats : List Flat) → FieldsLower ts vs es flats → AreAligned es
  fields-lower-aligned no_field vs es flats s = subst AreAligned (sym s.1) tt
  fields-lower-aligned (field t ts) vs es flats s = subst AreAligned (sym s.7) (aligned-both s.2 s.3 (lowers-aligned t s.0 s.2 s.4 s.9) (fields-lower-aligned ts s.1 s.3 s.5 s.10))

  case-lower-aligned : (cs : Cases) (i n : ℕ) (v : Value) (es : List Event) (flats : List Flat) → CaseLowers cs i n v es flats → AreAligned es
  case-lower-aligned no_case i n v es flats s = elim s [ ]
  case-lower-aligned (plain_case cs) i zero v es flats s = subst AreAligned (sym s.1) tt
  case-lower-aligned (plain_case cs) i (suc n) v es flats s = case-lower-aligned cs i n v es flats s
  case-lower-aligned (case_with t cs) i zero v es flats s = lowers-aligned t s.0 es flats s.2
  case-lower-aligned (case_with t cs) i (suc n) v es flats s = case-lower-aligned cs i n v es flats s

pub passes-confined : (limit : ℕ) (ts : Fields) (vs : List Value) (es : List Event) (flats : List Flat) → PassesParams limit ts vs es flats → Confined Nowhere es
passes-confined limit ts vs es flats (inl s) = fields-lower-confined ts vs es flats s.1
passes-confined limit ts vs es flats (inr p) =
    let s = p.1 in
    let g = s.0 in
    subst (Confined Nowhere) (sym s.3) (confined-more (λ x. IsWithin x g.at (size (record_type ts))) (λ x. ⊥ ⊎ IsWithin x g.at g.size) s.1 (λ x i. inr (subst (IsWithin x g.at) (sym s.2.1) i))
    (stores-confined (record_type ts) g.at _ (node ∷ s.1) (vs, s.1, refl, refl, s.4)))

pub passes-own : (limit : ℕ) (ts : Fields) (vs : List Value) (es : List Event) (flats : List Flat) → PassesParams limit ts vs es flats → Own Nowhere es
passes-own limit ts vs es flats p = own-confined Nowhere es (passes-confined limit ts vs es flats p)

pub passes-aligned : (limit : ℕ) (ts : Fields) (vs : List Value) (es : List Event) (flats : List Flat) → PassesParams limit ts vs es flats → AreAligned es
passes-aligned limit ts vs es flats (inl s) = fields-lower-aligned ts vs es flats s.1
passes-aligned limit ts vs es flats (inr p) =
    let s = p.1 in
    subst AreAligned (sym s.3) (subst IsAlignment (sym s.2.0) (is-alignment (record_type ts)), fields-aligned ts s.0.at 0 vs s.1 s.4)

-- ---- what is denoted

pub passes-denoted : (limit : ℕ) (ts : Fields) (vs : List Value) (es : List Event) (flats : List Flat) (m : List ℕ) → length m < 2 ^ 32 → AreStandardFields ts
    → PassesParams limit ts vs es flats → Carries m es → Denotes limit ts m flats vs
passes-denoted limit ts vs es flats m small standard (inl s) c = (
  fields-lower-kinds ts vs es flats s.1 ∙ ap (λ b. cond b (field_kinds ts) (kind.I32 ∷ [])) (sym s.0),
  inl (s.0, subst (λ ns. FieldsLift ts m ns vs) (append-nil (map number_of flats)) (fields-lift m small ts standard vs es flats [] s.1 c)),
)
passes-denoted limit ts vs es flats m small standard (inr p) c =
    let s = p.1 in
    let g = s.0 in
    let d = subst (Carries m) s.3 c in
    let first : low_bits (g.at ∷ []) 0 32 ≡ g.at = low-first g.at g.at 32 [] refl (small-address g m small d.0.1) in
    let spilled : SpilledHold ts m (g.at ∷ []) vs = (
      subst (λ a. (a % align (record_type ts) ≡ 0) × (a + size (record_type ts) ≤ length m)) (sym first)
          (subst (λ k. g.at % k ≡ 0) s.2.0 d.0.0, subst (λ n. g.at + n ≤ length m) s.2.1 d.0.1),
      subst (λ a. FieldsHold ts m a 0 vs) (sym first) (fields-held m small ts standard g.at 0 vs s.1 s.4 d.1),
    ) in (
      ap (map kind_of) s.5 ∙ ap (λ b. cond b (field_kinds ts) (kind.I32 ∷ [])) (sym p.0),
      inr (p.0, subst (λ fs. SpilledHold ts m (map number_of fs) vs) (sym s.5) spilled),
    )

module _ (allocates : Allocation) (releases : Release) (honest : IsHonest allocates releases) where
  abbrev Carries-all : List Event → Type 0
  Carries-all es = Carrying allocates releases honest Nowhere es

  one-node : (es : List Event) → Carries-all es → Carries-all (node ∷ es)
  one-node es c = carrying-node allocates releases honest Nowhere es c

  mutual
    lowers-carrying : (t : ClosedType) (v : Value) (es : List Event) (flats : List Flat) → Lowers t v es flats → Carries-all es
    lowers-carrying (prim_type p) v es flats s = subst Carries-all (sym s.1) (one-node [] (carrying-none allocates releases honest Nowhere))
    lowers-carrying string_type v es flats s =
        let g = s.1 in
        subst Carries-all (sym s.5) (one-node (grant g ∷ write g.at s.0 ∷ []) (carrying-grant allocates releases honest Nowhere g (write g.at s.0 ∷ []) (λ apart. carrying-write allocates releases honest _ g.at s.0)))
    lowers-carrying (list_type t) v es flats s =
        let g = s.1 in
        subst Carries-all (sym s.5) (one-node (grant g ∷ s.2) (carrying-grant allocates releases honest Nowhere g s.2 (λ apart m m' live al r.
        each-carrying allocates releases honest (Stores t) (size t) (λ b w fs p. stores-own t b w fs p) (λ b w fs p. stores-carrying allocates releases honest t b w fs p) g.at s.0 s.2 s.6 m m'
        (λ x i. live x (inr (subst (IsWithin x g.at) (sym s.4.1) i))) al r)))
    lowers-carrying (record_type ts) v es flats s = subst Carries-all (sym s.3) (one-node s.1 (fields-lower-carrying ts s.0 s.1 flats s.4))
    lowers-carrying (variant_type cs) v es flats s = subst Carries-all (sym s.3) (one-node s.1 (case-lower-carrying cs s.0 s.0 v s.1 s.2 s.4))
    lowers-carrying (flags_type n) v es flats s = subst Carries-all (sym s.3) (one-node [] (carrying-none allocates releases honest Nowhere))

    pub fields-lower-carrying : (ts : Fields) (vs : List Value) (es : List Event) (flats : List Flat) → FieldsLower ts vs es flats → Carries-all es
    fields-lower-carrying no_field vs es flats s = subst Carries-all (sym s.1) (carrying-none allocates releases honest Nowhere)
    fields-lower-carrying (field t ts) vs es flats s =
        subst Carries-all (sym s.7) (carrying-then allocates releases honest Nowhere Nowhere Nowhere s.2 s.3 (lowers-own t s.0 s.2 s.4 s.9) (fields-lower-own ts s.1 s.3 s.5 s.10)
        (λ x i j. i) (λ x i. i) (λ x i. i) (lowers-carrying t s.0 s.2 s.4 s.9) (fields-lower-carrying ts s.1 s.3 s.5 s.10))

    case-lower-carrying : (cs : Cases) (i n : ℕ) (v : Value) (es : List Event) (flats : List Flat) → CaseLowers cs i n v es flats → Carries-all es
    case-lower-carrying no_case i n v es flats s = elim s [ ]
    case-lower-carrying (plain_case cs) i zero v es flats s = subst Carries-all (sym s.1) (carrying-none allocates releases honest Nowhere)
    case-lower-carrying (plain_case cs) i (suc n) v es flats s = case-lower-carrying cs i n v es flats s
    case-lower-carrying (case_with t cs) i zero v es flats s = lowers-carrying t s.0 es flats s.2
    case-lower-carrying (case_with t cs) i (suc n) v es flats s = case-lower-carrying cs i n v es flats s

  pub passes-carrying : (limit : ℕ) (ts : Fields) (vs : List Value) (es : List Event) (flats : List Flat) → PassesParams limit ts vs es flats → Carries-all es
  passes-carrying limit ts vs es flats (inl s) = fields-lower-carrying ts vs es flats s.1
  passes-carrying limit ts vs es flats (inr p) =
      let s = p.1 in
      let g = s.0 in
      subst Carries-all (sym s.3) (carrying-grant allocates releases honest Nowhere g s.1 (λ apart m m' live al r.
      record-carrying allocates releases honest ts g.at vs s.1 s.4 m m' (λ x i. live x (inr (subst (IsWithin x g.at) (sym s.2.1) i))) al r))

  pub lowered-is-denoted : LoweredIsDenoted allocates
  lowered-is-denoted limit ts vs es flats old new standard small passes leads =
      let aligned = passes-aligned limit ts vs es flats passes in
      let c = passes-carrying limit ts vs es flats passes old new (λ x i. absurd i) aligned leads in
      record {
        denotes = passes-denoted limit ts vs es flats new.bytes small standard passes c;
        carries = c;
        own = λ x w. elim (passes-own limit ts vs es flats passes x w) [ inl i ↦ absurd i | inr g ↦ g ];
        image = leaves_image allocates releases old new es honest aligned leads;
        keeps = runs-keep allocates releases honest es old new aligned leads;
      }
