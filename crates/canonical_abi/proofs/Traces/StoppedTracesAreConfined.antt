-- What is asked for and written for the nodes before a fault is confined and aligned too, also where writes are left out.
use Rattle.std.proofs.Common.{◌≡◌, ◌⊎◌, inl, inr, ℕ, zero, suc, ◌+◌, max, List, [], ◌∷◌, length, refl, sym, ◌∙◌, subst, arith}
use Rattle.std.specs.Int.{w32, next_multiple_of, to_le_bytes}
use Rattle.canonical_abi.specs.Types.{ClosedType, prim_type, string_type, list_type, record_type, variant_type, flags_type, Fields, no_field, field, Cases, no_case, plain_case, case_with, case_count}
use Rattle.canonical_abi.specs.Values.{Value}
use Rattle.canonical_abi.specs.Layout.{align, size, discriminant_size, field_extents, payload_extents, payload_place}
use Rattle.canonical_abi.specs.Reading.{number_at, byte_width, case_number, low_bits}
use Rattle.canonical_abi.specs.Memory.{Holds}
use Rattle.canonical_abi.specs.Guest.{Memory, Allocation, IsWithin, IsAlignment}
use Rattle.canonical_abi.specs.Trace.{Event, node, write, grant, LeavesOutWrites, TraceIsBegun}
use Rattle.canonical_abi.specs.Storing.{pointer_pair, Stores}
use Rattle.canonical_abi.specs.Stands.{AreAligned}
use Rattle.canonical_abi.specs.Call.{Order, either, exact, AreMade, Begins, Breaks}
use Rattle.canonical_abi.specs.Script.{EachStops, StoresUntil, FieldsStoreUntil, CaseStoresUntil, LowersUntil, FieldsLowerUntil, CaseLowersUntil}
use Rattle.canonical_abi.specs.declared.trap.TrapKind.{TrapKind}
use Rattle.canonical_abi.proofs.Traces.BytesWrittenOver.{length-le_bytes}
use Rattle.canonical_abi.proofs.Layouts.AlignmentsAndSizes.{is-alignment, end-le, greatest-le, discriminant-width}
use Rattle.canonical_abi.proofs.Traces.WhatTracesKeep.{aligned-both}
use Rattle.canonical_abi.proofs.StoredValues.WritesOwnPlaceAndBlocks.{Confined, InMembers, InFields, InPayload, length-header, confined-more, confined-then, confined-write, stores-confined, stores-aligned}
use Rattle.canonical_abi.proofs.FlatValues.LoweredIsDenoted.{Nowhere, lowers-confined, lowers-aligned}

-- ---- writes that are left out

pub confined-left : (P : ℕ → Type 0) (es made : List Event) → LeavesOutWrites es made → Confined P es → Confined P made
confined-left P [] made l c = subst (Confined P) (sym l) tt
confined-left P (node ∷ es) made l c = subst (Confined P) (sym l.1) (confined-left P es l.0 l.2 c)
confined-left P (grant g ∷ es) made l c = subst (Confined P) (sym l.1) (confined-left (λ x. P x ⊎ IsWithin x g.at g.size) es l.0 l.2 c)
confined-left P (write a bs ∷ es) made (inl l) c = confined-left P es made l c.1
confined-left P (write a bs ∷ es) made (inr l) c = subst (Confined P) (sym l.1) (c.0, confined-left P es l.0 l.2 c.1)

pub aligned-left : (es made : List Event) → LeavesOutWrites es made → AreAligned es → AreAligned made
aligned-left [] made l a = subst AreAligned (sym l) tt
aligned-left (node ∷ es) made l a = subst AreAligned (sym l.1) (aligned-left es l.0 l.2 a)
aligned-left (grant g ∷ es) made l a = subst AreAligned (sym l.1) (a.0, aligned-left es l.0 l.2 a.1)
aligned-left (write b bs ∷ es) made (inl l) a = aligned-left es made l a
aligned-left (write b bs ∷ es) made (inr l) a = subst AreAligned (sym l.1) (aligned-left es l.0 l.2 a)

pub leaves-none : (es : List Event) → LeavesOutWrites es es
leaves-none [] = refl
leaves-none (node ∷ es) = (es, refl, leaves-none es)
leaves-none (grant g ∷ es) = (es, refl, leaves-none es)
leaves-none (write a bs ∷ es) = inr (es, refl, leaves-none es)

-- in each order what was made leaves out writes at most
pub made-leaves : (order : Order) (done made : List Event) → AreMade order done made → LeavesOutWrites done made
made-leaves either done made l = l
made-leaves exact done made is = subst (LeavesOutWrites done) (sym is) (leaves-none done)

pub begins-either : (order : Order) (allocates : Allocation) (old : Memory) (es : List Event) (new : Memory) → Begins order allocates old es new → TraceIsBegun allocates old es new
begins-either order allocates old es new (made, is, leads) = (made, made-leaves order es made is, leads)

pub breaks-either : (order : Order) (allocates : Allocation) (old : Memory) (es : List Event) (k : TrapKind) (new : Memory) → Breaks order allocates old es k new → Breaks either allocates old es k new
breaks-either order allocates old es k new (done, made, rest, next, asked, is, left, leads, fails) = (done, made, rest, next, asked, is, made-leaves order done made left, leads, fails)

-- ---- nodes before a fault

module _ (P : ℕ → Value → Type 0) (S : ℕ → Value → List Event → Type 0) (F : ℕ → ℕ → TrapKind → List Event → Type 0) (step : ℕ) where
  stops-confined : ((b : ℕ) (v : Value) (es : List Event) → S b v es → Confined (λ x. IsWithin x b step) es)
      → ((a b : ℕ) (k : TrapKind) (es : List Event) → F a b k es → Confined (λ x. IsWithin x b step) es)
      → (a b n : ℕ) (k : TrapKind) (es : List Event) → EachStops P S F step a b n k es → Confined (InMembers step b n) es
  stops-confined s f a b zero k es e = elim e [ ]
  stops-confined s f a b (suc n) k es (inl e) = confined-more (λ x. IsWithin x b step) (InMembers step b (suc n)) es (λ x i. (omega arith, omega arith)) (f a b k es e)
  stops-confined s f a b (suc n) k es (inr e) =
      subst (Confined (InMembers step b (suc n))) (sym e.3) (confined-then (λ x. IsWithin x b step) (InMembers step (b + step) n) (InMembers step b (suc n)) e.1 e.2
      (s b e.0 e.1 e.5) (stops-confined s f (a + step) (b + step) n k e.2 e.6) (λ x i. (omega arith, omega arith)) (λ x i. (omega arith, omega arith)))

  stops-aligned : ((b : ℕ) (v : Value) (es : List Event) → S b v es → AreAligned es) → ((a b : ℕ) (k : TrapKind) (es : List Event) → F a b k es → AreAligned es)
      → (a b n : ℕ) (k : TrapKind) (es : List Event) → EachStops P S F step a b n k es → AreAligned es
  stops-aligned s f a b zero k es e = elim e [ ]
  stops-aligned s f a b (suc n) k es (inl e) = f a b k es e
  stops-aligned s f a b (suc n) k es (inr e) = subst AreAligned (sym e.3) (aligned-both e.1 e.2 (s b e.0 e.1 e.5) (stops-aligned s f (a + step) (b + step) n k e.2 e.6))

mutual
  until-confined : (t : ClosedType) (m : List ℕ) (a b : ℕ) (k : TrapKind) (es : List Event) → StoresUntil t m a b k es → Confined (λ x. IsWithin x b (size t)) es
  until-confined (prim_type p) m a b k es s = subst (Confined (λ x. IsWithin x b (size (prim_type p)))) (sym s.1) tt
  until-confined string_type m a b k es s = subst (Confined (λ x. IsWithin x b 8)) (sym s.1) tt
  until-confined (list_type t) m a b k es (inl s) = subst (Confined (λ x. IsWithin x b 8)) (sym s.1) tt
  until-confined (list_type t) m a b k es (inr s) =
      let g = s.1 in
      let n = number_at m (a + 4) w32 in
      let near : ℕ → Type 0 = λ x. IsWithin x b 8 ⊎ IsWithin x g.at g.size in
      subst (Confined (λ x. IsWithin x b 8)) (sym s.4) (confined-then (λ x. IsWithin x b 8) (InMembers (size t) g.at n) near (write b (pointer_pair g.at n) ∷ []) s.2
      (confined-write b (pointer_pair g.at n) 8 (length-header g.at n))
      (stops-confined (Holds t m) (Stores t) (StoresUntil t m) (size t) (λ c v fs p. stores-confined t c v fs p) (λ c d j fs p. until-confined t m c d j fs p) (number_at m a w32) g.at n k s.2 s.5)
      (λ x i. inl i) (λ x i. inr (subst (IsWithin x g.at) (sym s.3.1) i)))
  until-confined (record_type fs) m a b k es s =
      subst (Confined (λ x. IsWithin x b (size (record_type fs)))) (sym s.1)
      (confined-more (InFields fs b 0) (λ x. IsWithin x b (size (record_type fs))) s.0 (λ x i. (omega arith, omega arith)) (fields-until-confined fs m a b 0 k s.0 s.2))
  until-confined (variant_type cs) m a b k es s =
      let w = byte_width (discriminant_size (case_count cs)) in
      let i = case_number cs m a in
      confined-more (λ x. IsWithin x b (discriminant_size (case_count cs)) ⊎ InPayload cs 0 (b + payload_place cs) x) (λ x. IsWithin x b (size (variant_type cs))) es
      (λ x j. elim j [ inl h ↦ (omega arith, omega arith) | inr h ↦ (omega arith, omega arith) ])
      (case-until-confined cs 0 m (a + payload_place cs) (b + payload_place cs) i b (to_le_bytes w i) (discriminant_size (case_count cs)) (length-le_bytes w i ∙ discriminant-width (case_count cs)) k es s)
  until-confined (flags_type n) m a b k es s = elim s [ ]

  pub fields-until-confined : (fs : Fields) (m : List ℕ) (a b from : ℕ) (k : TrapKind) (es : List Event) → FieldsStoreUntil fs m a b from k es → Confined (InFields fs b from) es
  fields-until-confined no_field m a b from k es s = elim s [ ]
  fields-until-confined (field t fs) m a b from k es (inl s) =
      let place = next_multiple_of from (align t) in
      let more = end-le (place + size t) (field_extents fs) in
      confined-more (λ x. IsWithin x (b + place) (size t)) (InFields (field t fs) b from) es (λ x i. (omega arith, omega arith)) (until-confined t m (a + place) (b + place) k es s)
  fields-until-confined (field t fs) m a b from k es (inr s) =
      let place = next_multiple_of from (align t) in
      let more = end-le (place + size t) (field_extents fs) in
      subst (Confined (InFields (field t fs) b from)) (sym s.3) (confined-then (λ x. IsWithin x (b + place) (size t)) (InFields fs b (place + size t)) (InFields (field t fs) b from) s.1 s.2
      (stores-confined t (b + place) s.0 s.1 s.5) (fields-until-confined fs m a b (place + size t) k s.2 s.6) (λ x i. (omega arith, omega arith)) (λ x i. (omega arith, omega arith)))

  case-until-confined : (cs : Cases) (q : ℕ) (m : List ℕ) (a b n at : ℕ) (bytes : List ℕ) (d : ℕ) → length bytes ≡ d → (k : TrapKind) (es : List Event)
      → CaseStoresUntil cs m a b n (write at bytes) k es → Confined (λ x. IsWithin x at d ⊎ InPayload cs q b x) es
  case-until-confined no_case q m a b n at bytes d l k es s = subst (Confined (λ x. IsWithin x at d ⊎ InPayload no_case q b x)) (sym s.1) tt
  case-until-confined (plain_case cs) q m a b zero at bytes d l k es s = elim s [ ]
  case-until-confined (plain_case cs) q m a b (suc n) at bytes d l k es s = case-until-confined cs q m a b n at bytes d l k es s
  case-until-confined (case_with t cs) q m a b zero at bytes d l k es s =
      let more = greatest-le (max q (size t)) (payload_extents cs) in
      subst (Confined (λ x. IsWithin x at d ⊎ InPayload (case_with t cs) q b x)) (sym s.1) (confined-then (λ x. IsWithin x at d) (λ x. IsWithin x b (size t)) (λ x. IsWithin x at d ⊎ InPayload (case_with t cs) q b x)
      (write at bytes ∷ []) s.0 (confined-write at bytes d l) (until-confined t m a b k s.0 s.2) (λ x i. inl i) (λ x i. inr (omega arith, omega arith)))
  case-until-confined (case_with t cs) q m a b (suc n) at bytes d l k es s = case-until-confined cs (max q (size t)) m a b n at bytes d l k es s

mutual
  until-aligned : (t : ClosedType) (m : List ℕ) (a b : ℕ) (k : TrapKind) (es : List Event) → StoresUntil t m a b k es → AreAligned es
  until-aligned (prim_type p) m a b k es s = subst AreAligned (sym s.1) tt
  until-aligned string_type m a b k es s = subst AreAligned (sym s.1) tt
  until-aligned (list_type t) m a b k es (inl s) = subst AreAligned (sym s.1) tt
  until-aligned (list_type t) m a b k es (inr s) =
      subst AreAligned (sym s.4) (
        subst IsAlignment (sym s.3.0) (is-alignment t),
        stops-aligned (Holds t m) (Stores t) (StoresUntil t m) (size t) (λ c v fs p. stores-aligned t c v fs p) (λ c d j fs p. until-aligned t m c d j fs p) _ s.1.at _ k s.2 s.5,
      )
  until-aligned (record_type fs) m a b k es s = subst AreAligned (sym s.1) (fields-until-aligned fs m a b 0 k s.0 s.2)
  until-aligned (variant_type cs) m a b k es s = case-until-aligned cs m (a + payload_place cs) (b + payload_place cs) _ b _ k es s
  until-aligned (flags_type n) m a b k es s = elim s [ ]

  pub fields-until-aligned : (fs : Fields) (m : List ℕ) (a b from : ℕ) (k : TrapKind) (es : List Event) → FieldsStoreUntil fs m a b from k es → AreAligned es
  fields-until-aligned no_field m a b from k es s = elim s [ ]
  fields-until-aligned (field t fs) m a b from k es (inl s) = until-aligned t m _ _ k es s
  fields-until-aligned (field t fs) m a b from k es (inr s) = subst AreAligned (sym s.3) (aligned-both s.1 s.2 (stores-aligned t _ s.0 s.1 s.5) (fields-until-aligned fs m a b _ k s.2 s.6))

  case-until-aligned : (cs : Cases) (m : List ℕ) (a b n at : ℕ) (bytes : List ℕ) (k : TrapKind) (es : List Event) → CaseStoresUntil cs m a b n (write at bytes) k es → AreAligned es
  case-until-aligned no_case m a b n at bytes k es s = subst AreAligned (sym s.1) tt
  case-until-aligned (plain_case cs) m a b zero at bytes k es s = elim s [ ]
  case-until-aligned (plain_case cs) m a b (suc n) at bytes k es s = case-until-aligned cs m a b n at bytes k es s
  case-until-aligned (case_with t cs) m a b zero at bytes k es s = subst AreAligned (sym s.1) (until-aligned t m a b k s.0 s.2)
  case-until-aligned (case_with t cs) m a b (suc n) at bytes k es s = case-until-aligned cs m a b n at bytes k es s

-- ---- the same of flat values

mutual
  lowers-until-confined : (t : ClosedType) (m fs : List ℕ) (k : TrapKind) (es : List Event) → LowersUntil t m fs k es → Confined Nowhere es
  lowers-until-confined (prim_type p) m fs k es s = subst (Confined Nowhere) (sym s.1) tt
  lowers-until-confined string_type m fs k es s = subst (Confined Nowhere) (sym s.1) tt
  lowers-until-confined (list_type t) m fs k es (inl s) = subst (Confined Nowhere) (sym s.1) tt
  lowers-until-confined (list_type t) m fs k es (inr s) =
      let g = s.1 in
      subst (Confined Nowhere) (sym s.4) (confined-more (InMembers (size t) g.at (low_bits fs 1 32)) (λ x. ⊥ ⊎ IsWithin x g.at g.size) s.2 (λ x i. inr (subst (IsWithin x g.at) (sym s.3.1) i))
      (stops-confined (Holds t m) (Stores t) (StoresUntil t m) (size t) (λ c v es p. stores-confined t c v es p) (λ c d j es p. until-confined t m c d j es p) (low_bits fs 0 32) g.at (low_bits fs 1 32) k s.2 s.5))
  lowers-until-confined (record_type ts) m fs k es s = subst (Confined Nowhere) (sym s.1) (fields-lower-until-confined ts m fs k s.0 s.2)
  lowers-until-confined (variant_type cs) m fs k es s = subst (Confined Nowhere) (sym s.1) (case-lower-until-confined cs m _ _ k s.0 s.2)
  lowers-until-confined (flags_type n) m fs k es s = elim s [ ]

  pub fields-lower-until-confined : (ts : Fields) (m fs : List ℕ) (k : TrapKind) (es : List Event) → FieldsLowerUntil ts m fs k es → Confined Nowhere es
  fields-lower-until-confined no_field m fs k es s = elim s [ ]
  fields-lower-until-confined (field t ts) m fs k es (inl s) = lowers-until-confined t m fs k es s
  fields-lower-until-confined (field t ts) m fs k es (inr s) =
      subst (Confined Nowhere) (sym s.3) (confined-then Nowhere Nowhere Nowhere s.1 s.2 (lowers-confined t s.0 s.1 s.5.0 s.5.1) (fields-lower-until-confined ts m _ k s.2 s.6) (λ x i. i) (λ x i. i))

  case-lower-until-confined : (cs : Cases) (m fs : List ℕ) (n : ℕ) (k : TrapKind) (es : List Event) → CaseLowersUntil cs m fs n k es → Confined Nowhere es
  case-lower-until-confined no_case m fs n k es s = subst (Confined Nowhere) (sym s.1) tt
  case-lower-until-confined (plain_case cs) m fs zero k es s = elim s [ ]
  case-lower-until-confined (plain_case cs) m fs (suc n) k es s = case-lower-until-confined cs m fs n k es s
  case-lower-until-confined (case_with t cs) m fs zero k es s = lowers-until-confined t m fs k es s
  case-lower-until-confined (case_with t cs) m fs (suc n) k es s = case-lower-until-confined cs m fs n k es s

mutual
  lowers-until-aligned : (t : ClosedType) (m fs : List ℕ) (k : TrapKind) (es : List Event) → LowersUntil t m fs k es → AreAligned es
  lowers-until-aligned (prim_type p) m fs k es s = subst AreAligned (sym s.1) tt
  lowers-until-aligned string_type m fs k es s = subst AreAligned (sym s.1) tt
  lowers-until-aligned (list_type t) m fs k es (inl s) = subst AreAligned (sym s.1) tt
  lowers-until-aligned (list_type t) m fs k es (inr s) =
      subst AreAligned (sym s.4) (
        subst IsAlignment (sym s.3.0) (is-alignment t),
        stops-aligned (Holds t m) (Stores t) (StoresUntil t m) (size t) (λ c v es p. stores-aligned t c v es p) (λ c d j es p. until-aligned t m c d j es p) _ s.1.at _ k s.2 s.5,
      )
  lowers-until-aligned (record_type ts) m fs k es s = subst AreAligned (sym s.1) (fields-lower-until-aligned ts m fs k s.0 s.2)
  lowers-until-aligned (variant_type cs) m fs k es s = subst AreAligned (sym s.1) (case-lower-until-aligned cs m _ _ k s.0 s.2)
  lowers-until-aligned (flags_type n) m fs k es s = elim s [ ]

  pub fields-lower-until-aligned : (ts : Fields) (m fs : List ℕ) (k : TrapKind) (es : List Event) → FieldsLowerUntil ts m fs k es → AreAligned es
  fields-lower-until-aligned no_field m fs k es s = elim s [ ]
  fields-lower-until-aligned (field t ts) m fs k es (inl s) = lowers-until-aligned t m fs k es s
  fields-lower-until-aligned (field t ts) m fs k es (inr s) =
      subst AreAligned (sym s.3) (aligned-both s.1 s.2 (lowers-aligned t s.0 s.1 s.5.0 s.5.1) (fields-lower-until-aligned ts m _ k s.2 s.6))

  case-lower-until-aligned : (cs : Cases) (m fs : List ℕ) (n : ℕ) (k : TrapKind) (es : List Event) → CaseLowersUntil cs m fs n k es → AreAligned es
  case-lower-until-aligned no_case m fs n k es s = subst AreAligned (sym s.1) tt
  case-lower-until-aligned (plain_case cs) m fs zero k es s = elim s [ ]
  case-lower-until-aligned (plain_case cs) m fs (suc n) k es s = case-lower-until-aligned cs m fs n k es s
  case-lower-until-aligned (case_with t cs) m fs zero k es s = lowers-until-aligned t m fs k es s
  case-lower-until-aligned (case_with t cs) m fs (suc n) k es s = case-lower-until-aligned cs m fs n k es s
