-- What memory holds and flat values denote is of its type.
use Rattle.std.proofs.Common.{◌≡◌, inl, inr, ℕ, zero, suc, ◌+◌, ◌-◌, ◌^◌, ◌<◌, ◌==◌, not, List, map, length, drop, get_or, ◌∙◌, arith}
use Rattle.std.specs.Prelude.{FitsSigned, slice_range}
use Rattle.std.specs.Int.{w8, w16, w32, w64, next_multiple_of, cast_signed}
use Rattle.std.specs.List.{AllByRecursion}
use Rattle.std.proofs.lemmas.List.{get_or-drop, get_or-take}
use Rattle.std.proofs.Math.Nat.{mod-lt}
use Rattle.std.proofs.Math.Pow.{pow_pos}
use Rattle.std.proofs.Math.Facts.{sfits_to_z}
use Rattle.canonical_abi.specs.Types.{IntWidth, int8, int16, int32, int64, width_of, bits, Prim, boolean, unsigned, signed, scalar_value, ClosedType, prim_type, string_type, list_type, record_type, variant_type, flags_type, Fields, no_field, field, Cases, no_case, plain_case, case_with}
use Rattle.canonical_abi.specs.Values.{Value, HasPrimType, HasType, HaveTypes, IsOfCase}
use Rattle.canonical_abi.specs.Layout.{align, size, prim_width, payload_place, flat_kinds}
use Rattle.canonical_abi.specs.Reading.{number_at, number_of, low_bits, flat_bits, case_number}
use Rattle.canonical_abi.specs.Memory.{PrimIs, TextHolds, EachHolds, ListHolds, Holds, FieldsHold, CaseHolds}
use Rattle.canonical_abi.specs.Flat.{Denotes, Lifts, FieldsLift, CaseLifts}
use Rattle.canonical_abi.specs.declared.flat.Flat.{Flat}
use Rattle.values.specs.Bytes.{AreBytes}

-- ---- numbers

-- a number of so many bits, where the primitive has that many
abbrev pub IsNumberOf : Prim → ℕ → Type 0
IsNumberOf boolean n = Unit {0}
IsNumberOf (unsigned w) n = n < 2 ^ bits w
IsNumberOf (signed w) n = n < 2 ^ bits w
IsNumberOf scalar_value n = Unit {0}

fits-signed : (w : IntWidth) (n : ℕ) → n < 2 ^ bits w → FitsSigned (width_of w) (cast_signed (width_of w) n)
fits-signed int8 n h = sfits_to_z {w = w8} {n = n} (record { fits = h })
fits-signed int16 n h = sfits_to_z {w = w16} {n = n} (record { fits = h })
fits-signed int32 n h = sfits_to_z {w = w32} {n = n} (record { fits = h })
fits-signed int64 n h = sfits_to_z {w = w64} {n = n} (record { fits = h })

pub prim-typed : (p : Prim) (n : ℕ) (v : Value) → IsNumberOf p n → PrimIs p n v → HasPrimType v p
prim-typed boolean n v h is = (not (n == 0), is)
prim-typed (unsigned w) n v h is = (n, h, is)
prim-typed (signed w) n v h is = (cast_signed (width_of w) n, fits-signed w n h, is)
prim-typed scalar_value n v h is = (n, is.0, is.1)

pub low-small : (fs : List ℕ) (i n : ℕ) → low_bits fs i n < 2 ^ n
unfolding low_bits
low-small fs i n = mod-lt (get_or fs i 0) (pow_pos n)

pub lifted-number : (p : Prim) (fs : List ℕ) → IsNumberOf p (low_bits fs 0 (flat_bits p))
lifted-number boolean fs = tt
lifted-number (unsigned w) fs = low-small fs 0 (bits w)
lifted-number (signed w) fs = low-small fs 0 (bits w)
lifted-number scalar_value fs = tt

-- the memory's numbers are bytes, and its length is a number of 32 bits
module _ (m : List ℕ) (bytes : AreBytes m) (short : length m < 2 ^ 32) where
  range-byte : (a n i : ℕ) → i < n → get_or (slice_range m a (a + n)) i 0 < 256
  range-byte a n i h =
      let same : get_or (slice_range m a (a + n)) i 0 ≡ get_or m (a + i) 0 = get_or-take (a + n - a) (drop a m) i 0 (omega (arith, h)) ∙ get_or-drop a m i 0 in
      rw same (bytes (a + i))

  number-small : (w : IntWidth) (a : ℕ) → number_at m a (width_of w) < 2 ^ bits w
  unfolding number_at
  number-small int8 a = range-byte a 1 0 (omega arith)
  number-small int16 a = omega (arith, range-byte a 2 0 (omega arith), range-byte a 2 1 (omega arith))
  number-small int32 a = omega (arith, range-byte a 4 0 (omega arith), range-byte a 4 1 (omega arith), range-byte a 4 2 (omega arith), range-byte a 4 3 (omega arith))
  number-small int64 a =
      omega (arith, range-byte a 8 0 (omega arith), range-byte a 8 1 (omega arith), range-byte a 8 2 (omega arith), range-byte a 8 3 (omega arith), range-byte a 8 4 (omega arith), range-byte a 8 5 (omega arith), range-byte a 8 6 (omega arith), range-byte a 8 7 (omega arith))

  held-number : (p : Prim) (a : ℕ) → IsNumberOf p (number_at m a (prim_width p))
  held-number boolean a = tt
  held-number (unsigned w) a = number-small w a
  held-number (signed w) a = number-small w a
  held-number scalar_value a = tt

  -- ---- texts and lists

  text-typed : (at n : ℕ) (v : Value) → TextHolds m at n v → HasType v string_type
  text-typed at n v (inside, utf8, is) = (slice_range m at (at + n), utf8, is)

  each-typed : (t : ClosedType) → ((a : ℕ) (v : Value) → Holds t m a v → HasType v t) → (step a n : ℕ) (vs : List Value) → EachHolds (Holds t m) step a n vs
      → AllByRecursion (λ w. HasType w t) vs
  each-typed t h step a zero vs e = rw e tt
  each-typed t h step a (suc n) vs (v, rest, is, here, there) = rw is (h a v here, each-typed t h step (a + step) n rest there)

  list-typed : (t : ClosedType) → ((a : ℕ) (v : Value) → Holds t m a v → HasType v t) → (at n : ℕ) (v : Value) → ListHolds (Holds t m) m (align t) (size t) at n v
      → HasType v (list_type t)
  list-typed t h at n v (block, vs, each, is) = (vs, each-typed t h (size t) at n vs each, is)

  -- ---- in memory

  mutual
    pub holds-typed : (t : ClosedType) (a : ℕ) (v : Value) → Holds t m a v → HasType v t
    holds-typed (prim_type p) a v h = prim-typed p (number_at m a (prim_width p)) v (held-number p a) h
    holds-typed string_type a v h = text-typed (number_at m a w32) (number_at m (a + 4) w32) v h
    holds-typed (list_type t) a v h = list-typed t (λ b w held. holds-typed t b w held) (number_at m a w32) (number_at m (a + 4) w32) v h
    holds-typed (record_type fs) a v (vs, h, is) = (vs, fields-typed fs a 0 vs h, is)
    holds-typed (variant_type cs) a v h = let i = case_number cs m a in (i, case-typed cs (a + payload_place cs) i i v h)
    holds-typed (flags_type n) a v h = (_, mod-lt _ (pow_pos n), h)

    fields-typed : (fs : Fields) (a from : ℕ) (vs : List Value) → FieldsHold fs m a from vs → HaveTypes vs fs
    fields-typed no_field a from vs h = h
    fields-typed (field t fs) a from vs (v, rest, is, here, there) =
        let place = next_multiple_of from (align t) in
        (v, rest, is, holds-typed t (a + place) v here, fields-typed fs a (place + size t) rest there)

    case-typed : (cs : Cases) (a i n : ℕ) (v : Value) → CaseHolds cs m a i n v → IsOfCase v cs i n
    case-typed no_case a i n v h = absurd h
    case-typed (plain_case cs) a i zero v h = h
    case-typed (plain_case cs) a i (suc n) v h = case-typed cs a i n v h
    case-typed (case_with t cs) a i zero v (w, h, is) = (w, holds-typed t a w h, is)
    case-typed (case_with t cs) a i (suc n) v h = case-typed cs a i n v h

  -- ---- in flat values

  mutual
    pub lifts-typed : (t : ClosedType) (fs : List ℕ) (v : Value) → Lifts t m fs v → HasType v t
    lifts-typed (prim_type p) fs v h = prim-typed p (low_bits fs 0 (flat_bits p)) v (lifted-number p fs) h
    lifts-typed string_type fs v h = text-typed (low_bits fs 0 32) (low_bits fs 1 32) v h
    lifts-typed (list_type t) fs v h = list-typed t (λ b w held. holds-typed t b w held) (low_bits fs 0 32) (low_bits fs 1 32) v h
    lifts-typed (record_type ts) fs v (vs, h, is) = (vs, fields-lift-typed ts fs vs h, is)
    lifts-typed (variant_type cs) fs v h = let i = low_bits fs 0 32 in (i, case-lift-typed cs (drop 1 fs) i i v h)
    lifts-typed (flags_type n) fs v h = (low_bits fs 0 n, low-small fs 0 n, h)

    pub fields-lift-typed : (ts : Fields) (fs : List ℕ) (vs : List Value) → FieldsLift ts m fs vs → HaveTypes vs ts
    fields-lift-typed no_field fs vs h = h
    fields-lift-typed (field t ts) fs vs (v, rest, is, here, there) =
        (v, rest, is, lifts-typed t fs v here, fields-lift-typed ts (drop (length (flat_kinds t)) fs) rest there)

    case-lift-typed : (cs : Cases) (fs : List ℕ) (i n : ℕ) (v : Value) → CaseLifts cs m fs i n v → IsOfCase v cs i n
    case-lift-typed no_case fs i n v h = absurd h
    case-lift-typed (plain_case cs) fs i zero v h = h
    case-lift-typed (plain_case cs) fs i (suc n) v h = case-lift-typed cs fs i n v h
    case-lift-typed (case_with t cs) fs i zero v (w, h, is) = (w, lifts-typed t fs w h, is)
    case-lift-typed (case_with t cs) fs i (suc n) v h = case-lift-typed cs fs i n v h

  -- ---- a whole list of values

  pub denotes-typed : (limit : ℕ) (ts : Fields) (flats : List Flat) (vs : List Value) → Denotes limit ts m flats vs → HaveTypes vs ts
  denotes-typed limit ts flats vs (kinds, inl (flat, h)) = fields-lift-typed ts (map number_of flats) vs h
  denotes-typed limit ts flats vs (kinds, inr (spilled, h)) = fields-typed ts (low_bits (map number_of flats) 0 32) 0 vs h.1
