-- Core values that a value was lowered to denote it, where all that was written stands.
use Rattle.std.proofs.Common.{◌≡◌, ◌⊎◌, inl, inr, ℕ, zero, suc, ◌+◌, ◌%◌, ◌^◌, ◌<◌, ◌≤◌, ◌==◌, not, List, [], ◌∷◌, ◌++◌, length, map, drop, ℤ, pos, negsuc, FitsSigned, refl, sym, ap, ◌∙◌, subst, arith, append_assoc}
use Rattle.std.specs.Int.{w8, w16, w32, w64, from_bool, cast_signed, cast_unsigned}
use Rattle.std.specs.Str.{is_utf8}
use Rattle.std.proofs.lemmas.Int.{to_z-of_z}
use Rattle.std.proofs.Math.Facts as facts
use Rattle.std.proofs.Math.Nat.{mod-eq_of_lt}
use Rattle.canonical_abi.specs.Types.{IntWidth, int8, int16, int32, int64, width_of, Prim, boolean, unsigned, signed, scalar_value, ClosedType, prim_type, string_type, list_type, record_type, variant_type, flags_type, Fields, no_field, field, Cases, no_case, plain_case, case_with, case_count, IsStandard, AreStandardFields, AreStandardCases}
use Rattle.canonical_abi.specs.Values.{Value, is_scalar, HasPrimType, bool_value, unsigned_value, signed_value, char_value, string_value, flags_value}
use Rattle.canonical_abi.specs.Layout.{align, size, prim_kind, join, flat_kinds, field_kinds, payload_kinds}
use Rattle.canonical_abi.specs.Reading.{low_bits, flat_bits, kind_of, number_of}
use Rattle.canonical_abi.specs.Memory.{PrimIs, TextHolds, ListHolds, Holds}
use Rattle.canonical_abi.specs.Flat.{Lifts, FieldsLift, CaseLifts}
use Rattle.canonical_abi.specs.Trace.{Event}
use Rattle.canonical_abi.specs.Storing.{number_in, Stores}
use Rattle.canonical_abi.specs.Lowering.{core_of, zero_of, widened, joined_flats, Lowers, FieldsLower, CaseLowers}
use Rattle.canonical_abi.specs.Stands.{Carries}
use Rattle.canonical_abi.specs.declared.flat.CoreKind.{CoreKind}
use Rattle.canonical_abi.specs.declared.flat.CoreKind.TheVariants as kind
use Rattle.canonical_abi.specs.declared.flat.Flat.{Flat}
use Rattle.canonical_abi.specs.declared.flat.Flat.TheVariants.{I32, I64}
use Rattle.canonical_abi.proofs.Traces.BytesWrittenOver.{slice-of}
use Rattle.canonical_abi.proofs.Layouts.AlignmentsAndSizes.{one-size}
use Rattle.canonical_abi.proofs.Traces.WhatTracesKeep.{carries-first, carries-second}
use Rattle.canonical_abi.proofs.StoredValues.StandingIsHeld.{scalar-fits, bool-back, bool-fits, small-address, small-length, each-held, stores-held}

-- ---- kinds that serve others

-- each of js is the kind of ks, or the wider one
abbrev pub Covers : List CoreKind → List CoreKind → Type 0
Covers js [] = Unit {0}
Covers [] (k ∷ ks) = ⊥
Covers (j ∷ js) (k ∷ ks) = ((j ≡ k) ⊎ (j ≡ kind.I64)) × Covers js ks

covers-self : (ks : List CoreKind) → Covers ks ks
covers-self [] = tt
covers-self (k ∷ ks) = (inl refl, covers-self ks)

covers-left : (ks ls : List CoreKind) → Covers (join ks ls) ks
covers-left [] ls = tt
covers-left (k ∷ ks) [] = covers-self (k ∷ ks)
covers-left (kind.I32 ∷ ks) (kind.I32 ∷ ls) = (inl refl, covers-left ks ls)
covers-left (kind.I32 ∷ ks) (kind.I64 ∷ ls) = (inr refl, covers-left ks ls)
covers-left (kind.I64 ∷ ks) (kind.I32 ∷ ls) = (inl refl, covers-left ks ls)
covers-left (kind.I64 ∷ ks) (kind.I64 ∷ ls) = (inl refl, covers-left ks ls)

covers-right : (ks ls : List CoreKind) → Covers (join ks ls) ls
covers-right [] ls = covers-self ls
covers-right (k ∷ ks) [] = tt
covers-right (kind.I32 ∷ ks) (kind.I32 ∷ ls) = (inl refl, covers-right ks ls)
covers-right (kind.I32 ∷ ks) (kind.I64 ∷ ls) = (inl refl, covers-right ks ls)
covers-right (kind.I64 ∷ ks) (kind.I32 ∷ ls) = (inr refl, covers-right ks ls)
covers-right (kind.I64 ∷ ks) (kind.I64 ∷ ls) = (inr refl, covers-right ks ls)

covers-trans : (is js ks : List CoreKind) → Covers is js → Covers js ks → Covers is ks
covers-trans is js [] c d = tt
covers-trans is [] (k ∷ ks) c d = elim d [ ]
covers-trans [] (j ∷ js) (k ∷ ks) c d = elim c [ ]
covers-trans (i ∷ is) (j ∷ js) (k ∷ ks) c d =
    (elim c.0 [ inl e ↦ elim d.0 [ inl f ↦ inl (e ∙ f) | inr f ↦ inr (e ∙ f) ] | inr e ↦ inr e ], covers-trans is js ks c.1 d.1)

zero-kind : (k : CoreKind) → kind_of (zero_of k) ≡ k
zero-kind kind.I32 = refl
zero-kind kind.I64 = refl

widened-kind : (j : CoreKind) (f : Flat) → (j ≡ kind_of f) ⊎ (j ≡ kind.I64) → kind_of (widened j f) ≡ j
widened-kind kind.I32 (I32 n) c = refl
widened-kind kind.I32 (I64 n) (inl e) = sym e
widened-kind kind.I32 (I64 n) (inr e) = sym e
widened-kind kind.I64 (I32 n) c = refl
widened-kind kind.I64 (I64 n) c = refl

widened-number : (j : CoreKind) (f : Flat) → number_of (widened j f) ≡ number_of f
widened-number kind.I32 (I32 n) = refl
widened-number kind.I32 (I64 n) = refl
widened-number kind.I64 (I32 n) = refl
widened-number kind.I64 (I64 n) = refl

joined-kinds : (js : List CoreKind) (fs : List Flat) → Covers js (map kind_of fs) → map kind_of (joined_flats js fs) ≡ js
joined-kinds [] fs c = refl
joined-kinds (j ∷ js) [] c = let one = zero-kind j in let rest = joined-kinds js [] tt in cc
joined-kinds (j ∷ js) (f ∷ fs) c = let one = widened-kind j f c.0 in let rest = joined-kinds js fs c.1 in cc

-- what was joined begins with the same numbers
joined-numbers : (js : List CoreKind) (fs : List Flat) → Covers js (map kind_of fs) → (rest : List ℕ) × (map number_of (joined_flats js fs) ≡ map number_of fs ++ rest)
joined-numbers js [] c = (map number_of (joined_flats js []), refl)
joined-numbers [] (f ∷ fs) c = elim c [ ]
joined-numbers (j ∷ js) (f ∷ fs) c =
    let one = widened-number j f in
    let rest = joined-numbers js fs c.1 in
    let same = rest.1 in
    (rest.0, ap (λ n. n ∷ map number_of (joined_flats js fs)) one ∙ ap (λ ns. number_of f ∷ ns) same)

map-both : {A B : Type 0} (f : A → B) (xs ys : List A) → map f (xs ++ ys) ≡ map f xs ++ map f ys
map-both f [] ys = refl
map-both f (x ∷ xs) ys = ap (λ zs. f x ∷ zs) (map-both f xs ys)

length-kinds : (fs : List Flat) (ks : List CoreKind) → map kind_of fs ≡ ks → length (map number_of fs) ≡ length ks
length-kinds fs ks e = by fs ∙ ap (λ l. length l) e
  where
    by : (fs : List Flat) → length (map number_of fs) ≡ length (map kind_of fs)
    by [] = refl
    by (f ∷ fs) = let h = by fs in omega arith

drop-front : (xs ys : List ℕ) (n : ℕ) → length xs ≡ n → drop n (xs ++ ys) ≡ ys
drop-front [] ys zero e = refl
drop-front [] ys (suc n) e = absurd (omega arith)
drop-front (x ∷ xs) ys zero e = absurd (omega arith)
drop-front (x ∷ xs) ys (suc n) e = drop-front xs ys n (omega arith)

-- ---- low bits

pub low-first : (x n k : ℕ) (rest : List ℕ) → x ≡ n → n < 2 ^ k → low_bits (x ∷ rest) 0 k ≡ n
unfolding low_bits
low-first x n k rest e h = ap (λ y. y % 2 ^ k) e ∙ mod-eq_of_lt h

pub low-second : (w x n k : ℕ) (rest : List ℕ) → x ≡ n → n < 2 ^ k → low_bits (w ∷ x ∷ rest) 1 k ≡ n
unfolding low_bits
low-second w x n k rest e h = ap (λ y. y % 2 ^ k) e ∙ mod-eq_of_lt h

low-cut : (x n k : ℕ) (rest : List ℕ) → x % 2 ^ k ≡ n → low_bits (x ∷ rest) 0 k ≡ n
unfolding low_bits
low-cut x n k rest e = e

low_8 : (z : ℤ) → FitsSigned w8 z → cast_unsigned w32 z % 2 ^ 8 ≡ cast_unsigned w8 z
low_8 (pos n) f = let h : n < 2 ^ 7 = f.sfits in omega arith
low_8 (negsuc n) f = let h : n < 2 ^ 7 = f.sfits in omega arith

low_16 : (z : ℤ) → FitsSigned w16 z → cast_unsigned w32 z % 2 ^ 16 ≡ cast_unsigned w16 z
low_16 (pos n) f = let h : n < 2 ^ 15 = f.sfits in omega arith
low_16 (negsuc n) f = let h : n < 2 ^ 15 = f.sfits in omega arith

low_32 : (z : ℤ) → FitsSigned w32 z → cast_unsigned w32 z % 2 ^ 32 ≡ cast_unsigned w32 z
low_32 z f = mod-eq_of_lt (facts.Fits-of_z f).fits

low_64 : (z : ℤ) → FitsSigned w64 z → cast_unsigned w64 z % 2 ^ 64 ≡ cast_unsigned w64 z
low_64 z f = mod-eq_of_lt (facts.Fits-of_z f).fits

read_back : (w : IntWidth) (v : Value) (z : ℤ) (n : ℕ) → FitsSigned (width_of w) z → v ≡ signed_value w z → n ≡ cast_unsigned (width_of w) z → v ≡ signed_value w (cast_signed (width_of w) n)
read_back w v z n f e h = e ∙ ap (signed_value w) (sym (ap (cast_signed (width_of w)) h ∙ to_z-of_z (width_of w) z f))

-- ---- primitives

prim-lifts : (p : Prim) (v : Value) (rest : List ℕ) → HasPrimType v p → PrimIs p (low_bits (number_of (core_of (prim_kind p) v) ∷ rest) 0 (flat_bits p)) v
prim-lifts boolean v rest s =
    let n = low-first (number_in w32 v) (from_bool s.0) 32 rest (ap (number_in w32) s.1) (let h = bool-fits s.0 in omega arith) in
    s.1 ∙ ap bool_value (sym (ap (λ k. not (k == 0)) n ∙ bool-back s.0))
prim-lifts (unsigned int8) v rest s = s.2 ∙ ap (unsigned_value int8) (sym (low-first (number_in w32 v) s.0 8 rest (ap (number_in w32) s.2) s.1))
prim-lifts (unsigned int16) v rest s = s.2 ∙ ap (unsigned_value int16) (sym (low-first (number_in w32 v) s.0 16 rest (ap (number_in w32) s.2) s.1))
prim-lifts (unsigned int32) v rest s = s.2 ∙ ap (unsigned_value int32) (sym (low-first (number_in w32 v) s.0 32 rest (ap (number_in w32) s.2) s.1))
prim-lifts (unsigned int64) v rest s = s.2 ∙ ap (unsigned_value int64) (sym (low-first (number_in w64 v) s.0 64 rest (ap (number_in w64) s.2) s.1))
prim-lifts (signed int8) v rest s = read_back int8 v s.0 _ s.1 s.2 (low-cut (number_in w32 v) _ 8 rest (ap (λ u. number_in w32 u % 2 ^ 8) s.2 ∙ low_8 s.0 s.1))
prim-lifts (signed int16) v rest s = read_back int16 v s.0 _ s.1 s.2 (low-cut (number_in w32 v) _ 16 rest (ap (λ u. number_in w32 u % 2 ^ 16) s.2 ∙ low_16 s.0 s.1))
prim-lifts (signed int32) v rest s = read_back int32 v s.0 _ s.1 s.2 (low-cut (number_in w32 v) _ 32 rest (ap (λ u. number_in w32 u % 2 ^ 32) s.2 ∙ low_32 s.0 s.1))
prim-lifts (signed int64) v rest s = read_back int64 v s.0 _ s.1 s.2 (low-cut (number_in w64 v) _ 64 rest (ap (λ u. number_in w64 u % 2 ^ 64) s.2 ∙ low_64 s.0 s.1))
prim-lifts scalar_value v rest s =
    let n = low-first (number_in w32 v) s.0 32 rest (ap (number_in w32) s.2) (scalar-fits s.0 s.1) in
    (ap is_scalar n ∙ s.1, s.2 ∙ ap char_value (sym n))

core-kind : (k : CoreKind) (v : Value) → kind_of (core_of k v) ≡ k
core-kind kind.I32 v = refl
core-kind kind.I64 v = refl

-- ---- kinds of what is lowered

mutual
  pub lowers-kinds : (t : ClosedType) (v : Value) (es : List Event) (flats : List Flat) → Lowers t v es flats → map kind_of flats ≡ flat_kinds t
  lowers-kinds (prim_type p) v es flats s = ap (map kind_of) s.2 ∙ ap (λ k. k ∷ []) (core-kind (prim_kind p) v)
  lowers-kinds string_type v es flats s = ap (map kind_of) s.6
  lowers-kinds (list_type t) v es flats s = ap (map kind_of) s.7
  lowers-kinds (record_type ts) v es flats s = fields-lower-kinds ts s.0 s.1 flats s.4
  lowers-kinds (variant_type cs) v es flats s =
      ap (map kind_of) s.5 ∙ ap (λ ks. kind.I32 ∷ ks) (joined-kinds (payload_kinds cs) s.2 (case-covers cs s.0 s.0 v s.1 s.2 s.4))
  lowers-kinds (flags_type n) v es flats s = ap (map kind_of) s.4

  pub fields-lower-kinds : (ts : Fields) (vs : List Value) (es : List Event) (flats : List Flat) → FieldsLower ts vs es flats → map kind_of flats ≡ field_kinds ts
  fields-lower-kinds no_field vs es flats s = ap (map kind_of) s.2
  fields-lower-kinds (field t ts) vs es flats s =
      ap (map kind_of) s.8 ∙ map-both kind_of s.4 s.5 ∙ ap (λ ks. ks ++ map kind_of s.5) (lowers-kinds t s.0 s.2 s.4 s.9)
      ∙ ap (λ ks. flat_kinds t ++ ks) (fields-lower-kinds ts s.1 s.3 s.5 s.10)

  case-covers : (cs : Cases) (i n : ℕ) (v : Value) (es : List Event) (payload : List Flat) → CaseLowers cs i n v es payload → Covers (payload_kinds cs) (map kind_of payload)
  case-covers no_case i n v es payload s = elim s [ ]
  case-covers (plain_case cs) i zero v es payload s = subst (λ fs. Covers (payload_kinds cs) (map kind_of fs)) (sym s.2) tt
  case-covers (plain_case cs) i (suc n) v es payload s = case-covers cs i n v es payload s
  case-covers (case_with t cs) i zero v es payload s =
      subst (Covers (join (flat_kinds t) (payload_kinds cs))) (sym (lowers-kinds t s.0 es payload s.2)) (covers-left (flat_kinds t) (payload_kinds cs))
  case-covers (case_with t cs) i (suc n) v es payload s =
      covers-trans (join (flat_kinds t) (payload_kinds cs)) (payload_kinds cs) (map kind_of payload) (covers-right (flat_kinds t) (payload_kinds cs)) (case-covers cs i n v es payload s)

-- ---- what is lifted again

lower-below : (cs : Cases) (i n : ℕ) (v : Value) (es : List Event) (payload : List Flat) → CaseLowers cs i n v es payload → n < case_count cs
lower-below no_case i n v es payload s = elim s [ ]
lower-below (plain_case cs) i zero v es payload s = omega arith
lower-below (plain_case cs) i (suc n) v es payload s = let h = lower-below cs i n v es payload s in omega arith
lower-below (case_with t cs) i zero v es payload s = omega arith
lower-below (case_with t cs) i (suc n) v es payload s = let h = lower-below cs i n v es payload s in omega arith

-- what is said of two numbers, said of the first two flat values
at-flats : (P : ℕ → ℕ → Type 0) (b n : ℕ) (flats : List Flat) (rest : List ℕ) → flats ≡ I32 b ∷ I32 n ∷ [] → b < 2 ^ 32 → n < 2 ^ 32 → P b n
    → P (low_bits (map number_of flats ++ rest) 0 32) (low_bits (map number_of flats ++ rest) 1 32)
at-flats P b n flats rest e f g p =
    subst (λ fs. P (low_bits (map number_of fs ++ rest) 0 32) (low_bits (map number_of fs ++ rest) 1 32)) (sym e)
    (subst (λ k. P k (low_bits (b ∷ n ∷ rest) 1 32)) (sym (low-first b b 32 (n ∷ rest) refl f)) (subst (P b) (sym (low-second b n n 32 rest refl g)) p))

module _ (m : List ℕ) (small : length m < 2 ^ 32) where
  mutual
    pub lowers-lifts : (t : ClosedType) → IsStandard t → (v : Value) (es : List Event) (flats : List Flat) (rest : List ℕ) → Lowers t v es flats → Carries m es → Lifts t m (map number_of flats ++ rest) v
    lowers-lifts (prim_type p) std v es flats rest s c = subst (λ fs. PrimIs p (low_bits (map number_of fs ++ rest) 0 (flat_bits p)) v) (sym s.2) (prim-lifts p v rest s.0)
    lowers-lifts string_type std v es flats rest s c =
        let g = s.1 in
        let d = subst (Carries m) s.5 c in
        let bytes = slice-of m g.at s.0 (length s.0) refl d.1.0 in
        let inside = subst (λ n. g.at + n ≤ length m) s.4.1 d.0.1 in
        at-flats (λ b n. TextHolds m b n v) g.at (length s.0) flats rest s.6 (small-address g m small d.0.1) (omega arith)
        (inside, ap is_utf8 bytes ∙ s.3, s.2 ∙ ap string_value (sym bytes))
    lowers-lifts (list_type t) std v es flats rest s c =
        let g = s.1 in
        let d = subst (Carries m) s.5 c in
        at-flats (λ b n. ListHolds (Holds t m) m (align t) (size t) b n v) g.at (length s.0) flats rest s.7 (small-address g m small d.0.1)
        (small-length g m (length s.0) (size t) small d.0.1 s.4.1 (one-size t std)) (
          (subst (λ k. g.at % k ≡ 0) s.4.0 d.0.0, subst (λ n. g.at + n ≤ length m) s.4.1 d.0.1),
          s.0,
          each-held (Stores t) (Holds t m) m (λ b w fs p q. stores-held m small t std b w fs p q) (size t) g.at s.0 s.2 s.6 d.1,
          s.3,
        )
    lowers-lifts (record_type ts) std v es flats rest s c = (s.0, fields-lift ts std.1 s.0 s.1 flats rest s.4 (subst (Carries m) s.3 c), s.2)
    lowers-lifts (variant_type cs) std v es flats rest s c =
        let joined = joined-numbers (payload_kinds cs) s.2 (case-covers cs s.0 s.0 v s.1 s.2 s.4) in
        let lifted = case-lift cs std.2 s.0 s.0 v s.1 s.2 (joined.0 ++ rest) s.4 (subst (Carries m) s.3 c) in
        let numbers : map number_of (joined_flats (payload_kinds cs) s.2) ++ rest ≡ map number_of s.2 ++ (joined.0 ++ rest) =
        ap (λ ns. ns ++ rest) joined.1 ∙ append_assoc (map number_of s.2) joined.0 rest in
        let below = lower-below cs s.0 s.0 v s.1 s.2 s.4 in
        let few = std.1 in
        let first : low_bits (s.0 ∷ (map number_of (joined_flats (payload_kinds cs) s.2) ++ rest)) 0 32 ≡ s.0 = low-first s.0 s.0 32 _ refl (omega arith) in
        subst (λ fs. Lifts (variant_type cs) m (map number_of fs ++ rest) v) (sym s.5)
        (subst (λ k. CaseLifts cs m (map number_of (joined_flats (payload_kinds cs) s.2) ++ rest) k k v) (sym first)
        (subst (λ ns. CaseLifts cs m ns s.0 s.0 v) (sym numbers) lifted))
    lowers-lifts (flags_type n) std v es flats rest s c =
        subst (λ fs. v ≡ flags_value (low_bits (map number_of fs ++ rest) 0 n)) (sym s.4) (s.1 ∙ ap flags_value (sym (low-first s.0 s.0 n rest refl s.2)))

    pub fields-lift : (ts : Fields) → AreStandardFields ts → (vs : List Value) (es : List Event) (flats : List Flat) (rest : List ℕ) → FieldsLower ts vs es flats → Carries m es → FieldsLift ts m (map number_of flats ++ rest) vs
    fields-lift no_field std vs es flats rest s c = s.0
    fields-lift (field t ts) std vs es flats rest s c =
        let d = subst (Carries m) s.7 c in
        let numbers : map number_of flats ++ rest ≡ map number_of s.4 ++ (map number_of s.5 ++ rest) =
        ap (λ fs. map number_of fs ++ rest) s.8 ∙ ap (λ ns. ns ++ rest) (map-both number_of s.4 s.5) ∙ append_assoc (map number_of s.4) (map number_of s.5) rest in
        let behind = drop-front (map number_of s.4) (map number_of s.5 ++ rest) (length (flat_kinds t)) (length-kinds s.4 (flat_kinds t) (lowers-kinds t s.0 s.2 s.4 s.9)) in
        let one = lowers-lifts t std.0 s.0 s.2 s.4 (map number_of s.5 ++ rest) s.9 (carries-first m s.2 s.3 d) in
        let others = fields-lift ts std.1 s.1 s.3 s.5 rest s.10 (carries-second m s.2 s.3 d) in
        subst (λ ns. FieldsLift (field t ts) m ns vs) (sym numbers) (s.0, s.1, s.6, one, subst (λ ns. FieldsLift ts m ns s.1) (sym behind) others)

    case-lift : (cs : Cases) → AreStandardCases cs → (i n : ℕ) (v : Value) (es : List Event) (payload : List Flat) (rest : List ℕ) → CaseLowers cs i n v es payload → Carries m es
        → CaseLifts cs m (map number_of payload ++ rest) i n v
    case-lift no_case std i n v es payload rest s c = elim s [ ]
    case-lift (plain_case cs) std i zero v es payload rest s c = s.0
    case-lift (plain_case cs) std i (suc n) v es payload rest s c = case-lift cs std i n v es payload rest s c
    case-lift (case_with t cs) std i zero v es payload rest s c = (s.0, lowers-lifts t std.0 s.0 es payload rest s.2 c, s.1)
    case-lift (case_with t cs) std i (suc n) v es payload rest s c = case-lift cs std.1 i n v es payload rest s c
