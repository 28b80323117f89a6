-- Where all that a value's events wrote still stands, the value is held.
use Rattle.std.proofs.Common.{◌≡◌, ◌⊎◌, inl, inr, ℕ, zero, suc, ◌+◌, ◌*◌, ◌%◌, ◌^◌, ◌<◌, ◌≤◌, ◌==◌, Bool, true, false, not, ◌||◌, ◌&&◌, nat_lt, List, [], ◌∷◌, length, ℤ, FitsSigned, refl, sym, ap, ◌∙◌, subst, arith}
use Rattle.std.specs.Int.{w8, w32, next_multiple_of, to_le_bytes, from_bool, cast_signed, cast_unsigned}
use Rattle.std.specs.Str.{is_utf8}
use Rattle.std.proofs.lemmas.Bool.{ltb-true}
use Rattle.std.proofs.lemmas.Int.{to_z-of_z}
use Rattle.std.proofs.Math.Facts as facts
use Rattle.std.proofs.Math.Nat.{mod-eq_of_lt}
use Rattle.canonical_abi.specs.Types.{IntWidth, int8, int16, int32, int64, width_of, bits, Prim, boolean, unsigned, signed, scalar_value, ClosedType, prim_type, string_type, list_type, record_type, variant_type, flags_type, Fields, no_field, field, Cases, no_case, plain_case, case_with, case_count, IsStandard, AreStandardFields, AreStandardCases}
use Rattle.canonical_abi.specs.Values.{Value, is_scalar, HasPrimType, bool_value, unsigned_value, signed_value, char_value, string_value, flags_value}
use Rattle.canonical_abi.specs.Layout.{align, size, prim_width, flags_size, discriminant_size, payload_place}
use Rattle.canonical_abi.specs.Reading.{number_at, byte_width}
use Rattle.canonical_abi.specs.Memory.{PrimIs, EachHolds, TextHolds, ListHolds, Holds, FieldsHold, CaseHolds}
use Rattle.canonical_abi.specs.Trace.{Grant, Event}
use Rattle.canonical_abi.specs.Storing.{number_in, pointer_pair, EachStores, Stores, FieldsStore, CaseStores}
use Rattle.canonical_abi.specs.Stands.{HasBytes, Carries}
use Rattle.canonical_abi.proofs.Traces.BytesWrittenOver.{FitsIn, slice-of, bytes-front, bytes-back, length-le_bytes, number-there}
use Rattle.canonical_abi.proofs.Layouts.AlignmentsAndSizes.{one-size, le-times, case-fits, flags-fit}
use Rattle.canonical_abi.proofs.Traces.WhatTracesKeep.{carries-first, carries-second}

pub fits-unsigned : (w : IntWidth) (n : ℕ) → n < 2 ^ bits w → FitsIn (width_of w) n
fits-unsigned int8 n f = f
fits-unsigned int16 n f = f
fits-unsigned int32 n f = f
fits-unsigned int64 n f = f

pub fits-signed : (w : IntWidth) (z : ℤ) → FitsSigned (width_of w) z → FitsIn (width_of w) (cast_unsigned (width_of w) z)
fits-signed int8 z f = (facts.Fits-of_z f).fits
fits-signed int16 z f = (facts.Fits-of_z f).fits
fits-signed int32 z f = (facts.Fits-of_z f).fits
fits-signed int64 z f = (facts.Fits-of_z f).fits

or-cases : (x y : Bool) → (x || y) ≡ true → (x ≡ true) ⊎ (y ≡ true)
or-cases true y e = inl refl
or-cases false y e = inr e

and-right : (x y : Bool) → (x && y) ≡ true → y ≡ true
and-right true y e = e
and-right false y e = cc

pub scalar-fits : (c : ℕ) → is_scalar c ≡ true → c < 2 ^ 32
scalar-fits c e = elim (or-cases (nat_lt c 0xD800) (nat_lt 0xDFFF c && nat_lt c 0x110000) e) [
  | inl h ↦ (let f : c < 0xD800 = ltb-true c 0xD800 h in omega arith)
  | inr h ↦ (let f : c < 0x110000 = ltb-true c 0x110000 (and-right (nat_lt 0xDFFF c) (nat_lt c 0x110000) h) in omega arith)
]

pub bool-back : (b : Bool) → not (from_bool b == 0) ≡ b
bool-back true = refl
bool-back false = refl

pub bool-fits : (b : Bool) → from_bool b < 256
bool-fits true = omega arith
bool-fits false = omega arith

pub prim-held : (p : Prim) (m : List ℕ) (a : ℕ) (v : Value) → HasPrimType v p → HasBytes m a (to_le_bytes (prim_width p) (number_in (prim_width p) v)) → PrimIs p (number_at m a (prim_width p)) v
prim-held boolean m a v s h =
    let n = number-there m a w8 (from_bool s.0) (bool-fits s.0) (subst (λ u. HasBytes m a (to_le_bytes w8 (number_in w8 u))) s.1 h) in
    s.1 ∙ ap bool_value (sym (ap (λ k. not (k == 0)) n ∙ bool-back s.0))
prim-held (unsigned w) m a v s h =
    let n = number-there m a (width_of w) s.0 (fits-unsigned w s.0 s.1) (subst (λ u. HasBytes m a (to_le_bytes (width_of w) (number_in (width_of w) u))) s.2 h) in
    s.2 ∙ ap (unsigned_value w) (sym n)
prim-held (signed w) m a v s h =
    let n = number-there m a (width_of w) (cast_unsigned (width_of w) s.0) (fits-signed w s.0 s.1) (subst (λ u. HasBytes m a (to_le_bytes (width_of w) (number_in (width_of w) u))) s.2 h) in
    s.2 ∙ ap (signed_value w) (sym (ap (cast_signed (width_of w)) n ∙ to_z-of_z (width_of w) s.0 s.1))
prim-held scalar_value m a v s h =
    let n = number-there m a w32 s.0 (scalar-fits s.0 s.1) (subst (λ u. HasBytes m a (to_le_bytes w32 (number_in w32 u))) s.2 h) in
    (ap is_scalar n ∙ s.1, s.2 ∙ ap char_value (sym n))

-- ---- headers

pub header-address : (m : List ℕ) (a b n : ℕ) → b < 2 ^ 32 → HasBytes m a (pointer_pair b n) → number_at m a w32 ≡ b
header-address m a b n f h = number-there m a w32 b f (bytes-front m a (to_le_bytes w32 b) (to_le_bytes w32 n) h)

pub header-number : (m : List ℕ) (a b n : ℕ) → n < 2 ^ 32 → HasBytes m a (pointer_pair b n) → number_at m (a + 4) w32 ≡ n
header-number m a b n f h = number-there m (a + 4) w32 n f (bytes-back m a (to_le_bytes w32 b) (to_le_bytes w32 n) 4 (length-le_bytes w32 b) h)

-- what is said of two numbers, said of those that a header tells
at-header : (P : ℕ → ℕ → Type 0) (m : List ℕ) (a b n : ℕ) → b < 2 ^ 32 → n < 2 ^ 32 → HasBytes m a (pointer_pair b n) → P b n → P (number_at m a w32) (number_at m (a + 4) w32)
at-header P m a b n f g h p =
    subst (λ k. P k (number_at m (a + 4) w32)) (sym (header-address m a b n f h)) (subst (P b) (sym (header-number m a b n g h)) p)

-- ---- lists

pub each-held : (P : ℕ → Value → List Event → Type 0) (Q : ℕ → Value → Type 0) (m : List ℕ) → ((a : ℕ) (v : Value) (es : List Event) → P a v es → Carries m es → Q a v)
    → (step a : ℕ) (vs : List Value) (es : List Event) → EachStores P step a vs es → Carries m es → EachHolds Q step a (length vs) vs
each-held P Q m h step a [] es s c = refl
each-held P Q m h step a (v ∷ vs) es s c =
    let d = subst (Carries m) s.2 c in
    (v, vs, refl, h a v s.0 s.3 (carries-first m s.0 s.1 d), each-held P Q m h step (a + step) vs s.1 s.4 (carries-second m s.0 s.1 d))

-- a block inside a memory that addresses of 32 bits reach
pub small-address : (g : Grant) (m : List ℕ) → length m < 2 ^ 32 → g.at + g.size ≤ length m → g.at < 2 ^ 32
small-address g m small inside = omega arith

pub small-length : (g : Grant) (m : List ℕ) (n k : ℕ) → length m < 2 ^ 32 → g.at + g.size ≤ length m → g.size ≡ n * k → 1 ≤ k → n < 2 ^ 32
small-length g m n k small inside is one = let l = le-times n k one in omega arith

-- a number of a case is below the number of cases
pub case-below : (cs : Cases) (a i n : ℕ) (v : Value) (es : List Event) → CaseStores cs a i n v es → n < case_count cs
case-below no_case a i n v es s = elim s [ ]
case-below (plain_case cs) a i zero v es s = omega arith
case-below (plain_case cs) a i (suc n) v es s = let h = case-below cs a i n v es s in omega arith
case-below (case_with t cs) a i zero v es s = omega arith
case-below (case_with t cs) a i (suc n) v es s = let h = case-below cs a i n v es s in omega arith

module _ (m : List ℕ) (small : length m < 2 ^ 32) where
  mutual
    pub stores-held : (t : ClosedType) → IsStandard t → (a : ℕ) (v : Value) (es : List Event) → Stores t a v es → Carries m es → Holds t m a v
    stores-held (prim_type p) std a v es s c = prim-held p m a v s.0 (subst (Carries m) s.1 c).0
    stores-held string_type std a v es s c =
        let g = s.1 in
        let d = subst (Carries m) s.5 c in
        let bytes = slice-of m g.at s.0 (length s.0) refl d.1.0 in
        let inside = subst (λ n. g.at + n ≤ length m) s.4.1 d.0.1 in
        at-header (λ b n. TextHolds m b n v) m a g.at (length s.0) (small-address g m small d.0.1) (omega arith) d.1.1.0
        (inside, ap is_utf8 bytes ∙ s.3, s.2 ∙ ap string_value (sym bytes))
    stores-held (list_type t) std a v es s c =
        let g = s.1 in
        let d = subst (Carries m) s.5 c in
        at-header (λ b n. ListHolds (Holds t m) m (align t) (size t) b n v) m a g.at (length s.0) (small-address g m small d.0.1)
        (small-length g m (length s.0) (size t) small d.0.1 s.4.1 (one-size t std)) d.1.0 (
          (subst (λ k. g.at % k ≡ 0) s.4.0 d.0.0, subst (λ n. g.at + n ≤ length m) s.4.1 d.0.1),
          s.0,
          each-held (Stores t) (Holds t m) m (λ b w fs p q. stores-held t std b w fs p q) (size t) g.at s.0 s.2 s.6 d.1.1,
          s.3,
        )
    stores-held (record_type fs) std a v es s c = (s.0, fields-held fs std.1 a 0 s.0 s.1 s.4 (subst (Carries m) s.3 c), s.2)
    stores-held (variant_type cs) std a v es s c =
        let d = subst (Carries m) s.2 c in
        let w = byte_width (discriminant_size (case_count cs)) in
        let n = number-there m a w s.0 (case-fits (case_count cs) s.0 (case-below cs (a + payload_place cs) s.0 s.0 v s.1 s.3) std.1) d.0 in
        subst (λ i. CaseHolds cs m (a + payload_place cs) i i v) (sym n) (case-held cs std.2 (a + payload_place cs) s.0 s.0 v s.1 s.3 d.1)
    stores-held (flags_type n) std a v es s c =
        let d = subst (Carries m) s.3 c in
        let k = number-there m a (byte_width (flags_size n)) s.0 (flags-fit n s.0 s.2 std.1) d.0 in
        s.1 ∙ ap flags_value (sym (ap (λ x. x % 2 ^ n) k ∙ mod-eq_of_lt s.2))

    pub fields-held : (fs : Fields) → AreStandardFields fs → (a from : ℕ) (vs : List Value) (es : List Event) → FieldsStore fs a from vs es → Carries m es → FieldsHold fs m a from vs
    fields-held no_field std a from vs es s c = s.0
    fields-held (field t fs) std a from vs es s c =
        let place = next_multiple_of from (align t) in
        let d = subst (Carries m) s.5 c in
        (s.0, s.1, s.4, stores-held t std.0 (a + place) s.0 s.2 s.6 (carries-first m s.2 s.3 d), fields-held fs std.1 a (place + size t) s.1 s.3 s.7 (carries-second m s.2 s.3 d))

    case-held : (cs : Cases) → AreStandardCases cs → (a i n : ℕ) (v : Value) (es : List Event) → CaseStores cs a i n v es → Carries m es → CaseHolds cs m a i n v
    case-held no_case std a i n v es s c = elim s [ ]
    case-held (plain_case cs) std a i zero v es s c = s.0
    case-held (plain_case cs) std a i (suc n) v es s c = case-held cs std a i n v es s c
    case-held (case_with t cs) std a i zero v es s c = (s.0, stores-held t std.0 a s.0 es s.2 c, s.1)
    case-held (case_with t cs) std a i (suc n) v es s c = case-held cs std.1 a i n v es s c
