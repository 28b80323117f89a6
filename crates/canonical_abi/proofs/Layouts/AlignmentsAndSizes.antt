-- Alignments are 1, 2, 4 or 8, standard types have a size, and numbers of cases and labels fit their widths.
use Rattle.std.proofs.Common.{◌≡◌, inl, inr, ℕ, ◌+◌, ◌*◌, ◌^◌, ◌<◌, ◌≤◌, max, Bool, true, false, cond, nat_le, List, [], ◌∷◌, fold, refl, subst, arith}
use Rattle.std.specs.Int.{byte_len, next_multiple_of}
use Rattle.std.proofs.lemmas.Bool.{cases_lt, leb-true}
use Rattle.std.proofs.Math.Nat.{mul-le-mul_right}
use Rattle.std.proofs.Math.Pow.{pow_mono}
use Rattle.canonical_abi.specs.Types.{int8, int16, int32, int64, Prim, boolean, unsigned, signed, scalar_value, ClosedType, prim_type, string_type, list_type, record_type, variant_type, flags_type, Fields, no_field, field, Cases, no_case, plain_case, case_with, case_count, IsStandard}
use Rattle.canonical_abi.specs.Layout.{Extent, size, align, prim_width, flags_size, discriminant_size, greatest_align, end_from, field_extents, payload_extents}
use Rattle.canonical_abi.specs.Reading.{byte_width}
use Rattle.canonical_abi.specs.Guest.{IsAlignment}
use Rattle.canonical_abi.proofs.Layouts.LeastPlaces.{one-discriminant_size, one-flags_size}
use Rattle.canonical_abi.proofs.Traces.BytesWrittenOver.{FitsIn}

-- ---- alignments

pub max-alignment : (x y : ℕ) → IsAlignment x → IsAlignment y → IsAlignment (max x y)
max-alignment x y p q = elim (cases_lt x y) [
  | inl h ↦ (let e : y ≡ max x y = omega arith in subst IsAlignment e q)
  | inr h ↦ (let e : x ≡ max x y = omega arith in subst IsAlignment e p)
]

-- the size of a number of labels or cases
abbrev pub stepped : Bool → Bool → ℕ
stepped b c = cond b 1 (cond c 2 4)

stepped-alignment : (b c : Bool) → IsAlignment (stepped b c)
stepped-alignment true c = inl refl
stepped-alignment false true = inr (inl refl)
stepped-alignment false false = inr (inr (inl refl))

prim-alignment : (p : Prim) → IsAlignment (byte_len (prim_width p))
prim-alignment boolean = inl refl
prim-alignment (unsigned int8) = inl refl
prim-alignment (unsigned int16) = inr (inl refl)
prim-alignment (unsigned int32) = inr (inr (inl refl))
prim-alignment (unsigned int64) = inr (inr (inr refl))
prim-alignment (signed int8) = inl refl
prim-alignment (signed int16) = inr (inl refl)
prim-alignment (signed int32) = inr (inr (inl refl))
prim-alignment (signed int64) = inr (inr (inr refl))
prim-alignment scalar_value = inr (inr (inl refl))

mutual
  pub is-alignment : (t : ClosedType) → IsAlignment (align t)
  is-alignment (prim_type p) = prim-alignment p
  is-alignment string_type = inr (inr (inl refl))
  is-alignment (list_type t) = inr (inr (inl refl))
  is-alignment (record_type fs) = fields-alignment 1 fs (inl refl)
  is-alignment (variant_type cs) =
      max-alignment (discriminant_size (case_count cs)) (greatest_align (payload_extents cs)) (stepped-alignment (nat_le (case_count cs) 256) (nat_le (case_count cs) 65536)) (payloads-alignment 1 cs (inl refl))
  is-alignment (flags_type n) = stepped-alignment (nat_le n 8) (nat_le n 16)

  fields-alignment : (k : ℕ) (fs : Fields) → IsAlignment k → IsAlignment (fold (λ n x. max n x.align) k (field_extents fs))
  fields-alignment k no_field h = h
  fields-alignment k (field t fs) h = fields-alignment (max k (align t)) fs (max-alignment k (align t) h (is-alignment t))

  payloads-alignment : (k : ℕ) (cs : Cases) → IsAlignment k → IsAlignment (fold (λ n x. max n x.align) k (payload_extents cs))
  payloads-alignment k no_case h = h
  payloads-alignment k (plain_case cs) h = payloads-alignment k cs h
  payloads-alignment k (case_with t cs) h = payloads-alignment (max k (align t)) cs (max-alignment k (align t) h (is-alignment t))

-- ---- ends and sizes

pub end-le : (from : ℕ) (xs : List Extent) → from ≤ end_from from xs
end-le from [] = omega arith
end-le from (x ∷ xs) = let h = end-le (next_multiple_of from x.align + x.size) xs in omega arith

pub greatest-le : (k : ℕ) (xs : List Extent) → k ≤ fold (λ n x. max n x.size) k xs
greatest-le k [] = omega arith
greatest-le k (x ∷ xs) = let h = greatest-le (max k x.size) xs in omega arith

one-prim : (p : Prim) → 1 ≤ byte_len (prim_width p)
one-prim boolean = omega arith
one-prim (unsigned int8) = omega arith
one-prim (unsigned int16) = omega arith
one-prim (unsigned int32) = omega arith
one-prim (unsigned int64) = omega arith
one-prim (signed int8) = omega arith
one-prim (signed int16) = omega arith
one-prim (signed int32) = omega arith
one-prim (signed int64) = omega arith
one-prim scalar_value = omega arith

pub one-size : (t : ClosedType) → IsStandard t → 1 ≤ size t
one-size (prim_type p) h = one-prim p
one-size string_type h = omega arith
one-size (list_type t) h = omega arith
one-size (record_type no_field) h = absurd (omega (arith, h.0))
one-size (record_type (field t fs)) h =
    let one = one-size t h.1.0 in
    let more = end-le (next_multiple_of 0 (align t) + size t) (field_extents fs) in omega arith
one-size (variant_type cs) h = let one = one-discriminant_size (case_count cs) in omega arith
one-size (flags_type n) h = one-flags_size n

pub le-times : (n k : ℕ) → 1 ≤ k → n ≤ n * k
le-times n k h = let l : 1 * n ≤ k * n = mul-le-mul_right n h in omega arith

-- ---- numbers of cases and labels

fits-by : (b c : Bool) (i : ℕ) → (b ≡ true → i < 2 ^ 8) → (c ≡ true → i < 2 ^ 16) → i < 2 ^ 32 → FitsIn (byte_width (stepped b c)) i
fits-by true c i p q r = p refl
fits-by false true i p q r = q refl
fits-by false false i p q r = r

width-by : (b c : Bool) → byte_len (byte_width (stepped b c)) ≡ stepped b c
width-by true c = refl
width-by false true = refl
width-by false false = refl

pub case-fits : (n i : ℕ) → i < n → n ≤ 100000 → FitsIn (byte_width (discriminant_size n)) i
case-fits n i below h =
    fits-by (nat_le n 256) (nat_le n 65536) i (λ e. let g = leb-true n 256 e in omega arith) (λ e. let g = leb-true n 65536 e in omega arith) (omega arith)

pub flags-fit : (n k : ℕ) → k < 2 ^ n → n ≤ 32 → FitsIn (byte_width (flags_size n)) k
flags-fit n k below h =
    fits-by (nat_le n 8) (nat_le n 16) k (λ e. let g = pow_mono (leb-true n 8 e) in omega arith) (λ e. let g = pow_mono (leb-true n 16 e) in omega arith) (let g = pow_mono h in omega arith)

pub discriminant-width : (n : ℕ) → byte_len (byte_width (discriminant_size n)) ≡ discriminant_size n
discriminant-width n = width-by (nat_le n 256) (nat_le n 65536)

pub flags-width : (n : ℕ) → byte_len (byte_width (flags_size n)) ≡ flags_size n
flags-width n = width-by (nat_le n 8) (nat_le n 16)
