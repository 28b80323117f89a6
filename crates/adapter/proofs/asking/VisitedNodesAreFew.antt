-- How many values are visited, part by part.
use Rattle.std.proofs.Common.{◌≡◌, ℕ, zero, suc, ◌+◌, ◌*◌, ◌≤◌, length, Some, None, sym, ap, subst, length-append, arith}
use Rattle.std.proofs.lemmas.Nat.{mul-le}
use Rattle.canonical_abi.specs.Types.{ClosedType, IsStandard, AreStandardFields, AreStandardCases, prim_type, string_type, list_type, record_type, variant_type, flags_type, Fields, no_field, field, Cases, no_case, plain_case, case_with, nth_field, nth_case, depth, fields_depth, cases_depth}
use Rattle.canonical_abi.specs.Layout.{size, fields_size, flat_kinds, field_kinds, payload_kinds}
use Rattle.canonical_abi.proofs.Layouts.AlignmentsAndSizes.{one-size}
use Rattle.values.proofs.FieldsFromAPlace.{fields_from, fields-next}
use Rattle.canonical_abi.proofs.Calls.VisitsFewNodes.{times-both, no-depth, record-le}
use Rattle.adapter.specs.Asking.{IsFew}

pub few-none : (d s l n m : ℕ) → m ≤ n → IsFew d s l l n m
few-none d s l n m le = record { spent = 0; is = omega arith; few = omega (arith, le) }

pub few-both : (d s t l k j n m p : ℕ) → IsFew d s l k n m → IsFew d t k j m p → IsFew d (s + t) l j n p
few-both d s t l k j n m p a b = record {
  spent = a.spent + b.spent;
  is = omega (arith, a.is, b.is);
  few =
      let sum = times-both d (s + a.spent) (t + b.spent) in
      let same : s + a.spent + (t + b.spent) ≡ s + t + (a.spent + b.spent) = omega arith in
      omega (arith, a.few, b.few, sum, ap (λ x. d * x) same);
}

pub few-more : (d s t l k n m : ℕ) → s ≤ t → IsFew d s l k n m → IsFew d t l k n m
few-more d s t l k n m le a = record {
  spent = a.spent;
  is = a.is;
  few = let wide : d * (s + a.spent) ≤ d * (t + a.spent) = mul-le d (s + a.spent) d (t + a.spent) (omega arith) (omega (arith, le)) in omega (arith, a.few, wide);
}

-- one value more, and one more for each byte
pub few-node : (d s l k n m p : ℕ) → 1 ≤ s → m ≤ n + 1 → IsFew d s l k m p → IsFew (suc d) s l k n p
few-node d s l k n m p one le a = record { spent = a.spent; is = a.is; few = omega (arith, a.few, one, le) }

-- bytes that are taken first stand for the elements
pub few-block : (d s l k j n m : ℕ) → l ≡ k + s → IsFew d s k j n m → IsFew d 0 l j n m
few-block d s l k j n m is a = record {
  spent = s + a.spent;
  is = omega (arith, is, a.is);
  few = let same : 0 + (s + a.spent) ≡ s + a.spent = omega arith in omega (arith, a.few, ap (λ x. d * x) same);
}

-- the member at a place, and what is behind it
pub sizes-next : (fs : Fields) (i : ℕ) (t : ClosedType) → nth_field fs i ≡ Some t → fields_size (fields_from i fs) ≡ size t + fields_size (fields_from (i + 1) fs)
sizes-next fs i t h = ap fields_size (fields-next fs i t h)

pub member-standard : (fs : Fields) (i : ℕ) (t : ClosedType) → AreStandardFields fs → nth_field fs i ≡ Some t → IsStandard t
member-standard no_field i t h e = absurd (let n : None ≡ Some t = e in cc)
member-standard (field u fs) zero t h e = let s : u ≡ t = cc in subst IsStandard s h.0
member-standard (field u fs) (suc i) t h e = member-standard fs i t h.1 e

pub case-standard : (cs : Cases) (i : ℕ) (t : ClosedType) → AreStandardCases cs → nth_case cs i ≡ Some (Some t) → IsStandard t
case-standard no_case i t h e = absurd (let n : None ≡ Some (Some t) = e in cc)
case-standard (plain_case cs) zero t h e = absurd (cc)
case-standard (plain_case cs) (suc i) t h e = case-standard cs i t h e
case-standard (case_with u cs) zero t h e = let s : u ≡ t = cc in subst IsStandard s h.0
case-standard (case_with u cs) (suc i) t h e = case-standard cs i t h.1 e

pub one-kind : (t : ClosedType) → IsStandard t → 1 ≤ length (flat_kinds t)
one-kind (prim_type p) h = omega arith
one-kind string_type h = omega arith
one-kind (list_type t) h = omega arith
one-kind (record_type no_field) h = absurd (omega (arith, h.0))
one-kind (record_type (field t fs)) h = let one = one-kind t h.1.0 in omega (arith, one, length-append (flat_kinds t) (field_kinds fs))
one-kind (variant_type cs) h = omega arith
one-kind (flags_type n) h = omega arith

-- ---- values, by what is visited below them

pub list-few : (t u : ClosedType) (l k n m p : ℕ) → t ≡ list_type u → IsStandard t → (d : ℕ) → depth t ≤ d → m ≤ n + 1
    → ((e : ℕ) → IsStandard u → depth u ≤ e → IsFew e 0 l k m p) → IsFew d (size t) l k n p
list-few t u l k n m p is h zero deep le inner = absurd (no-depth t deep)
list-few t u l k n m p is h (suc d) deep le inner =
    subst (λ (t : ClosedType). IsStandard t → depth t ≤ suc d → IsFew (suc d) (size t) l k n p) (sym is)
    (λ h deep. few-node d 8 l k n m p (omega arith) le (few-more d 0 8 l k m p (omega arith) (inner d h (omega (arith, deep))))) h deep

pub record-few : (t : ClosedType) (fs : Fields) (l k n m p : ℕ) → t ≡ record_type fs → IsStandard t → (d : ℕ) → depth t ≤ d → m ≤ n + 1
    → ((e : ℕ) → AreStandardFields fs → fields_depth fs ≤ e → IsFew e (fields_size fs) l k m p) → IsFew d (size t) l k n p
record-few t fs l k n m p is h zero deep le inner = absurd (no-depth t deep)
record-few t fs l k n m p is h (suc d) deep le inner =
    subst (λ (t : ClosedType). IsStandard t → depth t ≤ suc d → IsFew (suc d) (size t) l k n p) (sym is)
    (λ h deep. few-node d (size (record_type fs)) l k n m p (one-size (record_type fs) h) le (few-more d (fields_size fs) (size (record_type fs)) l k m p (record-le fs) (inner d h.1 (omega (arith, deep))))) h deep

pub variant-few : (t : ClosedType) (cs : Cases) (l k n m p : ℕ) → t ≡ variant_type cs → IsStandard t → (d : ℕ) → depth t ≤ d → m ≤ n + 1
    → ((e : ℕ) → AreStandardCases cs → cases_depth cs ≤ e → IsFew e (size (variant_type cs)) l k m p) → IsFew d (size t) l k n p
variant-few t cs l k n m p is h zero deep le inner = absurd (no-depth t deep)
variant-few t cs l k n m p is h (suc d) deep le inner =
    subst (λ (t : ClosedType). IsStandard t → depth t ≤ suc d → IsFew (suc d) (size t) l k n p) (sym is)
    (λ h deep. few-node d (size (variant_type cs)) l k n m p (one-size (variant_type cs) h) le (inner d h.2 (omega (arith, deep)))) h deep

pub list-flat-few : (t u : ClosedType) (l k n m p : ℕ) → t ≡ list_type u → IsStandard t → (d : ℕ) → depth t ≤ d → m ≤ n + 1
    → ((e : ℕ) → IsStandard u → depth u ≤ e → IsFew e 0 l k m p) → IsFew d (length (flat_kinds t)) l k n p
list-flat-few t u l k n m p is h zero deep le inner = absurd (no-depth t deep)
list-flat-few t u l k n m p is h (suc d) deep le inner =
    subst (λ (t : ClosedType). IsStandard t → depth t ≤ suc d → IsFew (suc d) (length (flat_kinds t)) l k n p) (sym is)
    (λ h deep. few-node d 2 l k n m p (omega arith) le (few-more d 0 2 l k m p (omega arith) (inner d h (omega (arith, deep))))) h deep

pub record-flat-few : (t : ClosedType) (fs : Fields) (l k n m p : ℕ) → t ≡ record_type fs → IsStandard t → (d : ℕ) → depth t ≤ d → m ≤ n + 1
    → ((e : ℕ) → AreStandardFields fs → fields_depth fs ≤ e → IsFew e (length (field_kinds fs)) l k m p) → IsFew d (length (flat_kinds t)) l k n p
record-flat-few t fs l k n m p is h zero deep le inner = absurd (no-depth t deep)
record-flat-few t fs l k n m p is h (suc d) deep le inner =
    subst (λ (t : ClosedType). IsStandard t → depth t ≤ suc d → IsFew (suc d) (length (flat_kinds t)) l k n p) (sym is)
    (λ h deep. few-node d (length (field_kinds fs)) l k n m p (one-kind (record_type fs) h) le (inner d h.1 (omega (arith, deep)))) h deep

pub variant-flat-few : (t : ClosedType) (cs : Cases) (l k n m p : ℕ) → t ≡ variant_type cs → IsStandard t → (d : ℕ) → depth t ≤ d → m ≤ n + 1
    → ((e : ℕ) → AreStandardCases cs → cases_depth cs ≤ e → IsFew e (length (payload_kinds cs)) l k m p) → IsFew d (length (flat_kinds t)) l k n p
variant-flat-few t cs l k n m p is h zero deep le inner = absurd (no-depth t deep)
variant-flat-few t cs l k n m p is h (suc d) deep le inner =
    subst (λ (t : ClosedType). IsStandard t → depth t ≤ suc d → IsFew (suc d) (length (flat_kinds t)) l k n p) (sym is)
    (λ h deep. few-node d (suc (length (payload_kinds cs))) l k n m p (omega arith) le
    (few-more d (length (payload_kinds cs)) (suc (length (payload_kinds cs))) l k m p (omega arith) (inner d h.2 (omega (arith, deep))))) h deep

-- all that is visited, within what may be asked for
pub few-within : (d s l k m b : ℕ) → s + l ≤ b → IsFew d s l k 0 m → m ≤ d * b
few-within d s l k m b le a = let wide : d * (s + a.spent) ≤ d * b = mul-le d (s + a.spent) d b (omega arith) (omega (arith, le, a.is)) in omega (arith, a.few, wide)
