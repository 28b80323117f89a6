-- What has a first fault has events for its nodes before it.
use Rattle.std.proofs.Common.{inl, inr, ℕ, zero, suc, ◌+◌, ◌*◌, ◌^◌, ◌<◌, List, [], ◌∷◌, ◌++◌, length, drop, refl}
use Rattle.std.specs.Int.{w32, next_multiple_of, to_le_bytes}
use Rattle.canonical_abi.specs.Types.{ClosedType, prim_type, string_type, list_type, record_type, variant_type, flags_type, Fields, no_field, field, Cases, no_case, plain_case, case_with, case_count}
use Rattle.canonical_abi.specs.Layout.{align, size, discriminant_size, payload_place, flat_kinds}
use Rattle.canonical_abi.specs.Reading.{number_at, low_bits, byte_width, case_number}
use Rattle.canonical_abi.specs.Memory.{EachFaulty, ListFaulty, Holds, Faulty, FieldsFaulty, CaseFaulty}
use Rattle.canonical_abi.specs.Flat.{LiftFaulty, FieldsLiftFaulty, CaseLiftFaulty}
use Rattle.canonical_abi.specs.Script.{EachStops, ListStops, StoresUntil, FieldsStoreUntil, CaseStoresUntil, LowersUntil, FieldsLowerUntil, CaseLowersUntil}
use Rattle.canonical_abi.specs.Storing.{pointer_pair, Stores}
use Rattle.canonical_abi.specs.Trace.{Grant, Event, node, grant, write}
use Rattle.canonical_abi.specs.declared.trap.TrapKind.{TrapKind}
use Rattle.values.specs.Bytes.{AreBytes}
use Rattle.lift_lower.proofs.HeldValuesAreTyped.{holds-typed, lifts-typed}
use Rattle.lift_lower.proofs.EachValueHasAScript.{block, stores-script, lowers-script}

module _ (m : List ℕ) (bytes : AreBytes m) (short : length m < 2 ^ 32) where
  each-until : (t : ClosedType) → ((a at : ℕ) (k : TrapKind) → Faulty t m a k → (es : List Event) × StoresUntil t m a at k es) → (step a at n : ℕ) (k : TrapKind)
      → EachFaulty (Holds t m) (Faulty t m) step a n k → (es : List Event) × EachStops (Holds t m) (Stores t) (StoresUntil t m) step a at n k es
  each-until t until step a at zero k h = absurd h
  each-until t until step a at (suc n) k (inl here) = let es = until a at k here in (es.0, inl es.1)
  each-until t until step a at (suc n) k (inr (v, held, there)) =
      let first = stores-script t at v (holds-typed m bytes short t a v held) in
      let rest = each-until t until step (a + step) (at + step) n k there in
      (first.0 ++ rest.0, inr (v, first.0, rest.0, refl, held, first.1, rest.1))

  list-until : (t : ClosedType) → ((a at : ℕ) (k : TrapKind) → Faulty t m a k → (es : List Event) × StoresUntil t m a at k es) → (a n : ℕ) (own : Grant → List Event → List Event) (k : TrapKind)
      → ListFaulty (Holds t m) (Faulty t m) m (align t) (size t) a n k → (es : List Event) × ListStops t (StoresUntil t m) m a n own k es
  list-until t until a n own k (inl faulty) = (node ∷ [], inl (faulty, refl))
  list-until t until a n own k (inr (stands, each)) =
      let g = block (align t) (n * size t) in
      let rest = each-until t until (size t) a 0 n k each in
      (own g rest.0, inr (stands, g, rest.0, (refl, refl), refl, rest.1))

  mutual
    pub stores-until : (t : ClosedType) (a at : ℕ) (k : TrapKind) → Faulty t m a k → (es : List Event) × StoresUntil t m a at k es
    stores-until (prim_type p) a at k h = (node ∷ [], (h, refl))
    stores-until string_type a at k h = (node ∷ [], (h, refl))
    stores-until (list_type t) a at k h =
        let n = number_at m (a + 4) w32 in
        list-until t (λ b c j f. stores-until t b c j f) (number_at m a w32) n (λ g rest. node ∷ grant g ∷ write at (pointer_pair g.at n) ∷ rest) k h
    stores-until (record_type fs) a at k h = let rest = fields-store-until fs a at 0 k h in (node ∷ rest.0, (rest.0, refl, rest.1))
    stores-until (variant_type cs) a at k h =
        let i = case_number cs m a in
        case-store-until cs (a + payload_place cs) (at + payload_place cs) i (write at (to_le_bytes (byte_width (discriminant_size (case_count cs))) i)) k h
    stores-until (flags_type n) a at k h = absurd h

    fields-store-until : (fs : Fields) (a at from : ℕ) (k : TrapKind) → FieldsFaulty fs m a from k → (es : List Event) × FieldsStoreUntil fs m a at from k es
    fields-store-until no_field a at from k h = absurd h
    fields-store-until (field t fs) a at from k (inl here) =
        let place = next_multiple_of from (align t) in
        let es = stores-until t (a + place) (at + place) k here in
        (es.0, inl es.1)
    fields-store-until (field t fs) a at from k (inr (v, held, there)) =
        let place = next_multiple_of from (align t) in
        let first = stores-script t (at + place) v (holds-typed m bytes short t (a + place) v held) in
        let rest = fields-store-until fs a at (place + size t) k there in
        (first.0 ++ rest.0, inr (v, first.0, rest.0, refl, held, first.1, rest.1))

    case-store-until : (cs : Cases) (a at n : ℕ) (own : Event) (k : TrapKind) → CaseFaulty cs m a n k → (es : List Event) × CaseStoresUntil cs m a at n own k es
    case-store-until no_case a at n own k h = (node ∷ [], (h, refl))
    case-store-until (plain_case cs) a at zero own k h = absurd h
    case-store-until (plain_case cs) a at (suc n) own k h = case-store-until cs a at n own k h
    case-store-until (case_with t cs) a at zero own k h = let rest = stores-until t a at k h in (node ∷ own ∷ rest.0, (rest.0, refl, rest.1))
    case-store-until (case_with t cs) a at (suc n) own k h = case-store-until cs a at n own k h

  mutual
    pub lowers-until : (t : ClosedType) (fs : List ℕ) (k : TrapKind) → LiftFaulty t m fs k → (es : List Event) × LowersUntil t m fs k es
    lowers-until (prim_type p) fs k h = (node ∷ [], (h, refl))
    lowers-until string_type fs k h = (node ∷ [], (h, refl))
    lowers-until (list_type t) fs k h =
        list-until t (λ b c j f. stores-until t b c j f) (low_bits fs 0 32) (low_bits fs 1 32) (λ g rest. node ∷ grant g ∷ rest) k h
    lowers-until (record_type ts) fs k h = let rest = fields-lower-until ts fs k h in (node ∷ rest.0, (rest.0, refl, rest.1))
    lowers-until (variant_type cs) fs k h =
        let rest = case-lower-until cs (drop 1 fs) (low_bits fs 0 32) k h in (node ∷ rest.0, (rest.0, refl, rest.1))
    lowers-until (flags_type n) fs k h = absurd h

    pub fields-lower-until : (ts : Fields) (fs : List ℕ) (k : TrapKind) → FieldsLiftFaulty ts m fs k → (es : List Event) × FieldsLowerUntil ts m fs k es
    fields-lower-until no_field fs k h = absurd h
    fields-lower-until (field t ts) fs k (inl here) = let es = lowers-until t fs k here in (es.0, inl es.1)
    fields-lower-until (field t ts) fs k (inr (v, held, there)) =
        let first = lowers-script t v (lifts-typed m bytes short t fs v held) in
        let rest = fields-lower-until ts (drop (length (flat_kinds t)) fs) k there in
        (first.0 ++ rest.0, inr (v, first.0, rest.0, refl, held, (first.1, first.2), rest.1))

    case-lower-until : (cs : Cases) (fs : List ℕ) (n : ℕ) (k : TrapKind) → CaseLiftFaulty cs m fs n k → (es : List Event) × CaseLowersUntil cs m fs n k es
    case-lower-until no_case fs n k h = ([], (h, refl))
    case-lower-until (plain_case cs) fs zero k h = absurd h
    case-lower-until (plain_case cs) fs (suc n) k h = case-lower-until cs fs n k h
    case-lower-until (case_with t cs) fs zero k h = lowers-until t fs k h
    case-lower-until (case_with t cs) fs (suc n) k h = case-lower-until cs fs n k h
