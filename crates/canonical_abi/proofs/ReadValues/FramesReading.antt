-- Reading a value reads its footprint alone.
use Rattle.std.proofs.Common.{◌≡◌, ◌⊎◌, inl, inr, ℕ, zero, suc, ◌+◌, ◌-◌, ◌*◌, ◌<◌, ◌≤◌, List, [], ◌∷◌, length, take, drop, refl, sym, ap, ◌∙◌, arith}
use Rattle.std.specs.Prelude.{slice_get, slice_range, nat_le, Bool, true, false, if◌then◌else◌}
use Rattle.std.specs.Int.{Width, w32, byte_len, from_le_bytes, next_multiple_of}
use Rattle.std.proofs.lemmas.Option.{same_Some}
use Rattle.canonical_abi.specs.Types.{ClosedType, prim_type, string_type, list_type, record_type, variant_type, flags_type, Fields, no_field, field, Cases, no_case, plain_case, case_with, case_count}
use Rattle.canonical_abi.specs.Values.{Value}
use Rattle.canonical_abi.specs.Layout.{align, size, prim_width, flags_size, discriminant_size, payload_place}
use Rattle.canonical_abi.specs.Reading.{number_at, byte_width, case_number}
use Rattle.canonical_abi.specs.Memory.{EachHolds, TextHolds, Holds, FieldsHold, CaseHolds}
use Rattle.canonical_abi.specs.Guest.{IsWithin}
use Rattle.canonical_abi.specs.Footprint.{Reads, FieldsRead, CaseReads, KeepsBytes, SameFootprint}
use Rattle.canonical_abi.proofs.Traces.TracesLeaveImages.{slice_get-drop}

pub take-same : (n : ℕ) (xs ys : List ℕ) → ((i : ℕ) → i < n → slice_get ys i ≡ slice_get xs i) → take n ys ≡ take n xs
take-same zero xs ys h = refl
take-same (suc n) [] [] h = refl
take-same (suc n) [] (y ∷ ys) h = let e = h 0 (omega arith) in cc
take-same (suc n) (x ∷ xs) [] h = let e = h 0 (omega arith) in cc
take-same (suc n) (x ∷ xs) (y ∷ ys) h =
    let first : y ≡ x = same_Some _ _ (h 0 (omega arith)) in
    let rest : take n ys ≡ take n xs = take-same n xs ys (λ i q. h (suc i) (omega arith)) in
    cc

-- old and new have the same bytes in this range
abbrev Same : List ℕ → List ℕ → ℕ → ℕ → Type 0
Same old new a n = (x : ℕ) → IsWithin x a n → slice_get new x ≡ slice_get old x

range-same : (old new : List ℕ) (a n : ℕ) → Same old new a n → slice_range new a (a + n) ≡ slice_range old a (a + n)
range-same old new a n h =
    take-same (a + n - a) (drop a old) (drop a new)
    (λ i q. slice_get-drop a new i ∙ h (a + i) (omega arith, omega (arith, q)) ∙ sym (slice_get-drop a old i))

number-same : (old new : List ℕ) (a : ℕ) (w : Width) → Same old new a (byte_len w) → number_at new a w ≡ number_at old a w
unfolding number_at
number-same old new a w h = ap (λ bs. from_le_bytes w bs) (range-same old new a (byte_len w) h)

each-holds : (P Q : ℕ → Value → Type 0) (step a n : ℕ) (vs : List Value) → ((i : ℕ) (v : Value) → i < n → P (a + i * step) v → Q (a + i * step) v)
    → EachHolds P step a n vs → EachHolds Q step a n vs
each-holds P Q step a zero vs h e = e
each-holds P Q step a (suc n) vs h (v, rest, is, first, others) =
    let here : a + 0 * step ≡ a = omega arith in (
      v,
      rest,
      is,
      rw here at (h 0 v (omega arith) (rw here first)),
      each-holds P Q step (a + step) n rest
          (λ i w q p. let there : a + suc i * step ≡ a + step + i * step = omega arith in rw there at (h (suc i) w (omega arith) (rw there p))) others,
    )

pub discriminant-bytes : (n : ℕ) → byte_len (byte_width (discriminant_size n)) ≡ discriminant_size n
discriminant-bytes n = by_test (nat_le n 256) (nat_le n 65536)
  where
    by_test : (b c : Bool) → byte_len (byte_width (if b then 1 else (if c then 2 else 4))) ≡ (if b then 1 else (if c then 2 else 4))
    by_test true c = refl
    by_test false true = refl
    by_test false false = refl

pub flags-bytes : (n : ℕ) → byte_len (byte_width (flags_size n)) ≡ flags_size n
flags-bytes n = by_test (nat_le n 8) (nat_le n 16)
  where
    by_test : (b c : Bool) → byte_len (byte_width (if b then 1 else (if c then 2 else 4))) ≡ (if b then 1 else (if c then 2 else 4))
    by_test true c = refl
    by_test false true = refl
    by_test false false = refl

module _ (old new : List ℕ) (longer : length old ≤ length new) where
  header-same : (a : ℕ) → Same old new a 8 → (number_at new a w32 ≡ number_at old a w32) × (number_at new (a + 4) w32 ≡ number_at old (a + 4) w32)
  header-same a h = (number-same old new a w32 (λ x q. h x (q.0, omega (arith, q.1))), number-same old new (a + 4) w32 (λ x q. h x (omega (arith, q.0), omega (arith, q.1))))

  text-holds : (at n : ℕ) (v : Value) → Same old new at n → TextHolds old at n v → TextHolds new at n v
  text-holds at n v h (inside, utf8, is) = let same = range-same old new at n h in (omega (arith, inside, longer), rw same utf8, rw same is)

  mutual
    pub frames : (t : ClosedType) (a : ℕ) (v : Value) → ((x : ℕ) → Reads t old a x → slice_get new x ≡ slice_get old x) → Holds t old a v → Holds t new a v
    frames (prim_type p) a v h holds = rw (number-same old new a (prim_width p) h) holds
    frames string_type a v h holds =
        let heads = header-same a (λ x q. h x (inl q)) in
        rw (heads.0, heads.1) (text-holds (number_at old a w32) (number_at old (a + 4) w32) v (λ x q. h x (inr q)) holds)
    frames (list_type t) a v h (block, vs, each, is) =
        let heads = header-same a (λ x q. h x (inl q)) in
        rw (heads.0, heads.1) (
          (block.0, omega (arith, block.1, longer)),
          vs,
          each-holds (Holds t old) (Holds t new) (size t) (number_at old a w32) (number_at old (a + 4) w32) vs
              (λ i w q p. frames t (number_at old a w32 + i * size t) w (λ x r. h x (inr (i, q, r))) p) each,
          is,
        )
    frames (record_type fs) a v h (vs, holds, is) = (vs, frames-fields fs a 0 vs h holds, is)
    frames (variant_type cs) a v h holds =
        let same : case_number cs new a ≡ case_number cs old a = number-same old new a (byte_width (discriminant_size (case_count cs))) (λ x q. h x (inl (rw (discriminant-bytes (case_count cs)) at q))) in
        rw same (frames-case cs (a + payload_place cs) (case_number cs old a) (case_number cs old a) v (λ x q. h x (inr q)) holds)
    frames (flags_type n) a v h holds = rw (number-same old new a (byte_width (flags_size n)) (λ x q. h x (rw (flags-bytes n) at q))) holds

    frames-fields : (fs : Fields) (a from : ℕ) (vs : List Value) → ((x : ℕ) → FieldsRead fs old a from x → slice_get new x ≡ slice_get old x) → FieldsHold fs old a from vs → FieldsHold fs new a from vs
    frames-fields no_field a from vs h holds = holds
    frames-fields (field t fs) a from vs h (v, rest, is, first, others) =
        let place = next_multiple_of from (align t) in
        (v, rest, is, frames t (a + place) v (λ x q. h x (inl q)) first, frames-fields fs a (place + size t) rest (λ x q. h x (inr q)) others)

    frames-case : (cs : Cases) (a i n : ℕ) (v : Value) → ((x : ℕ) → CaseReads cs old a n x → slice_get new x ≡ slice_get old x) → CaseHolds cs old a i n v → CaseHolds cs new a i n v
    frames-case no_case a i n v h holds = holds
    frames-case (plain_case cs) a i zero v h holds = holds
    frames-case (plain_case cs) a i (suc n) v h holds = frames-case cs a i n v h holds
    frames-case (case_with t cs) a i zero v h (w, holds, is) = (w, frames t a w h holds, is)
    frames-case (case_with t cs) a i (suc n) v h holds = frames-case cs a i n v h holds

  -- both ways
  abbrev Alike : Type 0 → Type 0 → Type 0
  Alike A B = (A → B) × (B → A)

  alike-or : (A B C D : Type 0) → Alike A B → Alike C D → Alike (A ⊎ C) (B ⊎ D)
  alike-or A B C D h g = ((λ e. elim e [ inl x ↦ inl (h.0 x) | inr y ↦ inr (g.0 y) ]), (λ e. elim e [ inl x ↦ inl (h.1 x) | inr y ↦ inr (g.1 y) ]))

  mutual
    pub same-reads : (t : ClosedType) (a : ℕ) → ((x : ℕ) → Reads t old a x → slice_get new x ≡ slice_get old x) → (x : ℕ) → Alike (Reads t old a x) (Reads t new a x)
    same-reads (prim_type p) a h x = ((λ q. q), (λ q. q))
    same-reads string_type a h x =
        let heads = header-same a (λ y q. h y (inl q)) in
        rw (heads.0, heads.1) ((λ q. q), (λ q. q))
    same-reads (list_type t) a h x =
        let heads = header-same a (λ y q. h y (inl q)) in
        let at = number_at old a w32 in
        let each : (i : ℕ) → i < number_at old (a + 4) w32 → Alike (Reads t old (at + i * size t) x) (Reads t new (at + i * size t) x) =
        λ i q. same-reads t (at + i * size t) (λ y r. h y (inr (i, q, r))) x in
        rw (heads.0, heads.1) (
          (λ e. elim e [ inl q ↦ inl q | inr r ↦ inr (r.0, r.1, (each r.0 r.1).0 r.2) ]),
          (λ e. elim e [ inl q ↦ inl q | inr r ↦ inr (r.0, r.1, (each r.0 r.1).1 r.2) ]),
        )
    same-reads (record_type fs) a h x = same-reads-fields fs a 0 h x
    same-reads (variant_type cs) a h x =
        let same : case_number cs new a ≡ case_number cs old a = number-same old new a (byte_width (discriminant_size (case_count cs))) (λ y q. h y (inl (rw (discriminant-bytes (case_count cs)) at q))) in
        let payload = same-reads-case cs (a + payload_place cs) (case_number cs old a) (λ y q. h y (inr q)) x in
        rw same ((λ e. elim e [ inl q ↦ inl q | inr r ↦ inr (payload.0 r) ]), (λ e. elim e [ inl q ↦ inl q | inr r ↦ inr (payload.1 r) ]))
    same-reads (flags_type n) a h x = ((λ q. q), (λ q. q))

    same-reads-fields : (fs : Fields) (a from : ℕ) → ((x : ℕ) → FieldsRead fs old a from x → slice_get new x ≡ slice_get old x) → (x : ℕ) → Alike (FieldsRead fs old a from x) (FieldsRead fs new a from x)
    same-reads-fields no_field a from h x = ((λ q. q), (λ q. q))
    same-reads-fields (field t fs) a from h x =
        let place = next_multiple_of from (align t) in
        alike-or _ _ _ _ (same-reads t (a + place) (λ y q. h y (inl q)) x) (same-reads-fields fs a (place + size t) (λ y q. h y (inr q)) x)

    same-reads-case : (cs : Cases) (a n : ℕ) → ((x : ℕ) → CaseReads cs old a n x → slice_get new x ≡ slice_get old x) → (x : ℕ) → Alike (CaseReads cs old a n x) (CaseReads cs new a n x)
    same-reads-case no_case a n h x = ((λ q. q), (λ q. q))
    same-reads-case (plain_case cs) a zero h x = ((λ q. q), (λ q. q))
    same-reads-case (plain_case cs) a (suc n) h x = same-reads-case cs a n h x
    same-reads-case (case_with t cs) a zero h x = same-reads t a h x
    same-reads-case (case_with t cs) a (suc n) h x = same-reads-case cs a n h x

pub same_footprint : (t : ClosedType) (a : ℕ) (old new : List ℕ) → KeepsBytes t a old new → SameFootprint t a old new
same_footprint t a old new keeps x = same-reads old new keeps.no_shorter t a keeps.same x

pub frames_reading : (t : ClosedType) (a : ℕ) (v : Value) (old new : List ℕ) → KeepsBytes t a old new → Holds t old a v → Holds t new a v
frames_reading t a v old new keeps holds = frames old new keeps.no_shorter t a v keeps.same holds
