-- A value that a memory holds in a block of its own: what is read of it lies in its place and its blocks, and a value that was placed is held there.
use Rattle.std.proofs.Common.{◌≡◌, ◌⊎◌, inl, inr, ℕ, zero, suc, ◌+◌, ◌*◌, ◌<◌, ◌≤◌, max, List, [], ◌∷◌, length, fold, Some, Result, Ok, Err, sym, ap, ◌∙◌, subst, arith, ◌%◌, ◌^◌, refl}
use Rattle.std.specs.Int.{w32, next_multiple_of}
use Rattle.std.proofs.Math.Nat.{mul-le-mul_right}
use Rattle.canonical_abi.specs.Types.{ClosedType, prim_type, string_type, list_type, record_type, variant_type, flags_type, Fields, no_field, field, Cases, no_case, plain_case, case_with, case_count, IsStandard, AreStandardFields, AreStandardCases}
use Rattle.canonical_abi.specs.Values.{Value}
use Rattle.canonical_abi.specs.Layout.{align, size, end_from, field_extents, payload_extents, payload_place, discriminant_size}
use Rattle.canonical_abi.specs.Reading.{number_at, case_number, reading, byte_width}
use Rattle.canonical_abi.specs.Laws.{IsOneOutcome}
use Rattle.canonical_abi.specs.Memory.{EachHolds, Holds, FieldsHold, CaseHolds, HoldsInBlock, Faulty}
use Rattle.canonical_abi.specs.Guest.{Memory, Allocation, Release, IsHonest, IsWithin}
use Rattle.canonical_abi.specs.Footprint.{Reads, FieldsRead, CaseReads}
use Rattle.canonical_abi.specs.Trace.{Grant, Event, grant, requests_of}
use Rattle.canonical_abi.specs.Requests.{requests}
use Rattle.canonical_abi.specs.Storing.{IsBlock, Stores, EachStores, FieldsStore, CaseStores}
use Rattle.canonical_abi.specs.Stands.{AreAligned, IsGranted, Carries, Keeps, IsStored}
use Rattle.canonical_abi.specs.Session.{Held, SessionAnswer, was_read, PlacesValue, ReadsValue, ReadsStep}
use Rattle.canonical_abi.specs.Headline.{IsLentLive}
use Rattle.canonical_abi.specs.Keeping.{ReadAnswers, IsPlaced}
use Rattle.canonical_abi.specs.declared.trap.Fault.{Fault}
use Rattle.canonical_abi.specs.declared.trap.Fault.TheVariants.{Trap, NoMemory}
use Rattle.canonical_abi.proofs.ReadValues.ReadsExactly.{one_outcome, reading-tells}
use Rattle.canonical_abi.proofs.Layouts.AlignmentsAndSizes.{is-alignment, end-le, greatest-le, one-size, case-fits}
use Rattle.canonical_abi.proofs.Traces.WhatTracesKeep.{runs-keep, granted-first, granted-second, carries-first, carries-second}
use Rattle.canonical_abi.proofs.StoredValues.WritesOwnPlaceAndBlocks.{Confined, confined-more, stores-confined, stores-aligned, InFields, InPayload}
use Rattle.canonical_abi.proofs.FlatValues.LoweredIsDenoted.{Nowhere}
use Rattle.canonical_abi.proofs.Traces.ConfinedTraces.{Fine, keeps-outside, outside-events}
use Rattle.canonical_abi.proofs.Traces.BytesWrittenOver.{number-there}
use Rattle.canonical_abi.proofs.StoredValues.StandingIsHeld.{header-address, header-number, small-address, small-length, case-below}
use Rattle.canonical_abi.proofs.StoredValues.StoredIsHeld.{stored-is-held}
use Rattle.canonical_abi.proofs.StoredValues.AsksRequests.{own-block, stores-asked}

-- ---- a footprint lies inside the memory

-- the i-th of n values is held at its place
each-at : (P : ℕ → Value → Type 0) (step a n : ℕ) (vs : List Value) → EachHolds P step a n vs → (i : ℕ) → i < n → (v : Value) × P (a + i * step) v
each-at P step a zero vs e i below = absurd (omega arith)
each-at P step a (suc n) vs (v, rest, is, first, others) zero below = let here : a + 0 * step ≡ a = omega arith in (v, rw here first)
each-at P step a (suc n) vs (v, rest, is, first, others) (suc i) below =
    let there : a + suc i * step ≡ a + step + i * step = omega arith in
    let found = each-at P step (a + step) n rest others i (omega arith) in
    (found.0, rw there found.1)

member-inside : (step a n i len : ℕ) → i < n → a + n * step ≤ len → a + i * step + step ≤ len
member-inside step a n i len below h =
    let more : suc i * step ≤ n * step = mul-le-mul_right step (omega arith) in omega arith

module _ (m : List ℕ) where
  mutual
    pub reads-inside : (t : ClosedType) (a : ℕ) (v : Value) → a + size t ≤ length m → Holds t m a v → (x : ℕ) → Reads t m a x → x < length m
    reads-inside (prim_type p) a v in_m h x r = let q = r.1 in omega arith
    reads-inside string_type a v in_m h x (inl r) = let q = r.1 in omega arith
    reads-inside string_type a v in_m h x (inr r) = let q = r.1 in let i = h.0 in omega arith
    reads-inside (list_type t) a v in_m h x (inl r) = let q = r.1 in omega arith
    reads-inside (list_type t) a v in_m (block, vs, each, is) x (inr (i, below, r)) =
        let found = each-at (Holds t m) (size t) (number_at m a w32) (number_at m (a + 4) w32) vs each i below in
        reads-inside t (number_at m a w32 + i * size t) found.0 (member-inside (size t) (number_at m a w32) (number_at m (a + 4) w32) i (length m) below block.1) found.1 x r
    reads-inside (record_type fs) a v in_m h x r = fields-inside fs a 0 h.0 (omega arith) h.1 x r
    reads-inside (variant_type cs) a v in_m h x (inl r) = let q = r.1 in omega arith
    reads-inside (variant_type cs) a v in_m h x (inr r) = case-inside cs 0 (a + payload_place cs) (case_number cs m a) (case_number cs m a) v (omega arith) h x r
    reads-inside (flags_type n) a v in_m h x r = let q = r.1 in omega arith

    fields-inside : (fs : Fields) (a from : ℕ) (vs : List Value) → a + end_from from (field_extents fs) ≤ length m → FieldsHold fs m a from vs → (x : ℕ) → FieldsRead fs m a from x → x < length m
    fields-inside no_field a from vs in_m h x r = absurd r
    fields-inside (field t fs) a from vs in_m (v, rest, is, first, others) x (inl r) =
        let place = next_multiple_of from (align t) in
        let more = end-le (place + size t) (field_extents fs) in
        reads-inside t (a + place) v (omega arith) first x r
    fields-inside (field t fs) a from vs in_m (v, rest, is, first, others) x (inr r) =
        fields-inside fs a (next_multiple_of from (align t) + size t) rest in_m others x r

    case-inside : (cs : Cases) (k a i n : ℕ) (v : Value) → a + fold (λ n y. max n y.size) k (payload_extents cs) ≤ length m → CaseHolds cs m a i n v → (x : ℕ) → CaseReads cs m a n x → x < length m
    case-inside no_case k a i n v in_m h x r = absurd r
    case-inside (plain_case cs) k a i zero v in_m h x r = absurd r
    case-inside (plain_case cs) k a i (suc n) v in_m h x r = case-inside cs k a i n v in_m h x r
    case-inside (case_with t cs) k a i zero v in_m (w, h, is) x r =
        let more = greatest-le (max k (size t)) (payload_extents cs) in
        reads-inside t a w (omega arith) h x r
    case-inside (case_with t cs) k a i (suc n) v in_m h x r = case-inside cs (max k (size t)) a i n v in_m h x r

-- ---- what is read of a stored value stands in its place or in its own blocks

module _ (m : List ℕ) (small : length m < 2 ^ 32) where
  members-own : (P : ℕ → Value → List Event → Type 0) (R : ℕ → ℕ → Type 0) (step : ℕ) → ((a : ℕ) (v : Value) (es : List Event) → P a v es → Carries m es → (x : ℕ) → R a x → IsWithin x a step ⊎ IsGranted es x)
      → (a : ℕ) (vs : List Value) (es : List Event) → EachStores P step a vs es → Carries m es → (i : ℕ) → i < length vs → (x : ℕ) → R (a + i * step) x → IsWithin x a (length vs * step) ⊎ IsGranted es x
  members-own P R step h a [] es s c i below x r = absurd (omega arith)
  members-own P R step h a (v ∷ vs) es s c zero below x r =
      let d = subst (Carries m) s.2 c in
      let here : a + 0 * step ≡ a = omega arith in
      elim (h a v s.0 s.3 (carries-first m s.0 s.1 d) x (subst (λ k. R k x) here r)) [
        | inl w ↦ inl (w.0, omega (arith, w.1))
        | inr g ↦ inr (subst (λ l. IsGranted l x) (sym s.2) (granted-first s.0 s.1 x g))
      ]
  members-own P R step h a (v ∷ vs) es s c (suc i) below x r =
      let d = subst (Carries m) s.2 c in
      let there : a + suc i * step ≡ a + step + i * step = omega arith in
      elim (members-own P R step h (a + step) vs s.1 s.4 (carries-second m s.0 s.1 d) i (omega arith) x (subst (λ k. R k x) there r)) [
        | inl w ↦ inl (omega (arith, w.0), omega (arith, w.1))
        | inr g ↦ inr (subst (λ l. IsGranted l x) (sym s.2) (granted-second s.0 s.1 x g))
      ]

  mutual
    reads-own : (t : ClosedType) → IsStandard t → (a : ℕ) (v : Value) (es : List Event) → Stores t a v es → Carries m es → (x : ℕ) → Reads t m a x → IsWithin x a (size t) ⊎ IsGranted es x
    reads-own (prim_type p) std a v es s c x r = inl r
    reads-own string_type std a v es s c x (inl r) = inl r
    reads-own string_type std a v es s c x (inr r) =
        let g = s.1 in
        let d = subst (Carries m) s.5 c in
        let inside = subst (λ n. g.at + n ≤ length m) s.4.1 d.0.1 in
        let at = header-address m a g.at (length s.0) (small-address g m small d.0.1) d.1.1.0 in
        let count = header-number m a g.at (length s.0) (omega arith) d.1.1.0 in
        let there : IsWithin x g.at (length s.0) = subst (λ n. IsWithin x g.at n) count (subst (λ k. IsWithin x k (number_at m (a + 4) w32)) at r) in
        inr (subst (λ l. IsGranted l x) (sym s.5) (inl (subst (λ n. IsWithin x g.at n) (sym s.4.1) there)))
    reads-own (list_type t) std a v es s c x (inl r) = inl r
    reads-own (list_type t) std a v es s c x (inr r) =
        let g = s.1 in
        let d = subst (Carries m) s.5 c in
        let at = header-address m a g.at (length s.0) (small-address g m small d.0.1) d.1.0 in
        let count = header-number m a g.at (length s.0) (small-length g m (length s.0) (size t) small d.0.1 s.4.1 (one-size t std)) d.1.0 in
        let below : r.0 < length s.0 = subst (λ n. r.0 < n) count r.1 in
        let there : Reads t m (g.at + r.0 * size t) x = subst (λ k. Reads t m (k + r.0 * size t) x) at r.2 in
        inr (subst (λ l. IsGranted l x) (sym s.5) (elim (members-own (Stores t) (Reads t m) (size t) (λ b w fs p q y h. reads-own t std b w fs p q y h) g.at s.0 s.2 s.6 d.1.1 r.0 below x there) [
          | inl w ↦ inl (subst (λ n. IsWithin x g.at n) (sym s.4.1) w)
          | inr h ↦ inr h
        ]))
    reads-own (record_type fs) std a v es s c x r =
        elim (fields-own fs std.1 a 0 s.0 s.1 s.4 (subst (Carries m) s.3 c) x r) [
          | inl i ↦ inl (omega arith, omega arith)
          | inr h ↦ inr (subst (λ l. IsGranted l x) (sym s.3) h)
        ]
    reads-own (variant_type cs) std a v es s c x (inl r) = inl (omega (arith, r.0), omega (arith, r.1))
    reads-own (variant_type cs) std a v es s c x (inr r) =
        let d = subst (Carries m) s.2 c in
        let w = byte_width (discriminant_size (case_count cs)) in
        let n = number-there m a w s.0 (case-fits (case_count cs) s.0 (case-below cs (a + payload_place cs) s.0 s.0 v s.1 s.3) std.1) d.0 in
        elim (case-own cs std.2 0 (a + payload_place cs) s.0 s.0 v s.1 s.3 d.1 x (subst (λ i. CaseReads cs m (a + payload_place cs) i x) n r)) [
          | inl i ↦ inl (omega arith, omega arith)
          | inr h ↦ inr (subst (λ l. IsGranted l x) (sym s.2) h)
        ]
    reads-own (flags_type n) std a v es s c x r = inl r

    fields-own : (fs : Fields) → AreStandardFields fs → (a from : ℕ) (vs : List Value) (es : List Event) → FieldsStore fs a from vs es → Carries m es → (x : ℕ) → FieldsRead fs m a from x → InFields fs a from x ⊎ IsGranted es x
    fields-own no_field std a from vs es s c x r = absurd r
    fields-own (field t fs) std a from vs es s c x (inl r) =
        let place = next_multiple_of from (align t) in
        let d = subst (Carries m) s.5 c in
        let more = end-le (place + size t) (field_extents fs) in
        elim (reads-own t std.0 (a + place) s.0 s.2 s.6 (carries-first m s.2 s.3 d) x r) [
          | inl w ↦ inl (omega (arith, w.0), omega (arith, w.1))
          | inr g ↦ inr (subst (λ l. IsGranted l x) (sym s.5) (granted-first s.2 s.3 x g))
        ]
    fields-own (field t fs) std a from vs es s c x (inr r) =
        let place = next_multiple_of from (align t) in
        let d = subst (Carries m) s.5 c in
        elim (fields-own fs std.1 a (place + size t) s.1 s.3 s.7 (carries-second m s.2 s.3 d) x r) [
          | inl i ↦ inl (omega (arith, i.0), i.1)
          | inr g ↦ inr (subst (λ l. IsGranted l x) (sym s.5) (granted-second s.2 s.3 x g))
        ]

    case-own : (cs : Cases) → AreStandardCases cs → (k a i n : ℕ) (v : Value) (es : List Event) → CaseStores cs a i n v es → Carries m es → (x : ℕ) → CaseReads cs m a n x → InPayload cs k a x ⊎ IsGranted es x
    case-own no_case std k a i n v es s c x r = absurd r
    case-own (plain_case cs) std k a i zero v es s c x r = absurd r
    case-own (plain_case cs) std k a i (suc n) v es s c x r = case-own cs std k a i n v es s c x r
    case-own (case_with t cs) std k a i zero v es s c x r =
        let more = greatest-le (max k (size t)) (payload_extents cs) in
        elim (reads-own t std.0 a s.0 es s.2 c x r) [ inl w ↦ inl (w.0, omega (arith, w.1)) | inr g ↦ inr g ]
    case-own (case_with t cs) std k a i (suc n) v es s c x r = case-own cs std.1 (max k (size t)) a i n v es s c x r

-- ---- a value in a block of its own

-- it is confined to its own blocks
pub block-aligned : (t : ClosedType) (v : Value) (g : Grant) (rest : List Event) → IsBlock (align t) (size t) g → Stores t g.at v rest → AreAligned (grant g ∷ rest)
block-aligned t v g rest block stores = (rw block.0 (is-alignment t), stores-aligned t g.at v rest stores)

pub block-confined : (t : ClosedType) (v : Value) (g : Grant) (rest : List Event) → IsBlock (align t) (size t) g → Stores t g.at v rest → Confined Nowhere (grant g ∷ rest)
block-confined t v g rest block stores =
    confined-more (λ x. IsWithin x g.at (size t)) (λ x. Nowhere x ⊎ IsWithin x g.at g.size) rest (λ x w. inr (subst (λ n. IsWithin x g.at n) (sym block.1) w)) (stores-confined t g.at v rest stores)

-- what is placed by an honest guest is held there
pub placed-held : (allocates : Allocation) (releases : Release) → IsHonest allocates releases → (t : ClosedType) (v : Value) (old new : Memory) (held : Held) → IsStandard t → length new.bytes < 2 ^ 32
    → PlacesValue allocates t v old (Ok held) new → IsPlaced allocates t held.at v old new
placed-held allocates releases honest t v old new held standard small (g, rest, block, stores, within, (mid, granted, leads), is) =
    rw (ap (λ (h : Held). h.at) is) (record {
      holds = ((subst (λ k. g.at % k ≡ 0) block.0 granted.1.aligned, let i = granted.1.inside in let l = stored.keeps.no_shorter in let n = block.1 in omega arith), stored.holds);
      live = λ x r. keeps.is_live x (own x r);
      kept = keeps-outside allocates releases honest Nowhere old new (grant g ∷ rest) fine 0 0 (λ x n. absurd n);
      asked = ap requests_of events ∙ own-block g.align g.size (align t) (size t) (requests_of rest) (requests t v) block.0 block.1 (stores-asked t g.at v rest stores);
      own = λ x r. subst (λ es. IsGranted es x) (sym events) (own x r);
      was_free = λ x h. keeps.was_free x (subst (λ es. IsGranted es x) events h);
    })
  where
    fine : Fine allocates Nowhere old (grant g ∷ rest) new
    fine = record { aligned = block-aligned t v g rest block stores; confined = block-confined t v g rest block stores; leads = (mid, granted, leads) }

    events : (keeps-outside allocates releases honest Nowhere old new (grant g ∷ rest) fine 0 0 (λ x n. absurd n)).events ≡ grant g ∷ rest
    events = outside-events allocates releases honest Nowhere old new (grant g ∷ rest) fine 0 0 (λ x n. absurd n)

    keeps : Keeps old (grant g ∷ rest) new
    keeps = runs-keep allocates releases honest (grant g ∷ rest) old new fine.aligned fine.leads

    lent : IsLentLive mid g.at (size t)
    lent x w = (honest.granted old g.align g.size g.at mid (subst (λ k. k) refl (rw block.0 (is-alignment t))) granted.0).is_live x (subst (λ n. IsWithin x g.at n) (sym block.1) w)

    stored : IsStored t g.at v mid rest new
    stored = stored-is-held allocates releases honest t v g.at rest mid new standard small lent stores leads

    own : (x : ℕ) → Reads t new.bytes g.at x → IsGranted (grant g ∷ rest) x
    own x r = elim (reads-own new.bytes small t standard g.at v rest stores stored.carries x r) [ inl w ↦ inl (subst (λ n. IsWithin x g.at n) (sym block.1) w) | inr h ↦ inr h ]

-- what is read of a value that is held
pub held-read : (t : ClosedType) (a : ℕ) (v : Value) (m : Memory) (answer : SessionAnswer) → HoldsInBlock t m.bytes a v → ReadsStep m (Some (record { ty = t; at = a })) answer → ReadAnswers v answer
held-read t a v m answer holds reads = by reads.0 reads.1 reads.2 holds
  where
    outcome : IsOneOutcome (Holds t m.bytes a) (Faulty t m.bytes a)
    outcome = one_outcome (reading t m.bytes a) _ _ (reading-tells t m.bytes a)

    by : (result : Result Value Fault) → answer ≡ was_read result → ReadsValue m (record { ty = t; at = a }) result → HoldsInBlock t m.bytes a v → ReadAnswers v answer
    by (Ok w) is h k = inl (is ∙ ap (λ u. was_read (Ok u)) (outcome.one_value w v h.1 k.1))
    by (Err NoMemory) is h k = inr is
    by (Err (Trap fault)) is (at, inl (inl (bad, kind))) k = absurd (bad k.0.0)
    by (Err (Trap fault)) is (at, inl (inr (ok, past, kind))) k = absurd (let i = k.0.1 in omega arith)
    by (Err (Trap fault)) is (at, inr (block, faulty)) k = absurd (outcome.not_both v fault.kind k.1 faulty)
