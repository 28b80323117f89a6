-- Rows of caps, one for each case of a variant.
use Rattle.std.proofs.Common.{◌≡◌, inl, inr, ℕ, zero, suc, ◌+◌, ◌-◌, ◌*◌, ◌<◌, ◌≤◌, List, get_or, Some, None, refl, sym, ap, ◌∙◌, subst, arith}
use Rattle.std.proofs.lemmas.Bool.{cases_lt, lt-ltb, le-ltb, le-leb}
use Rattle.std.proofs.lemmas.Option.{same_Some}
use Rattle.canonical_abi.specs.Types.{ClosedType, variant_type, Cases, no_case, plain_case, case_with, case_count, nth_case}
use Rattle.canonical_abi.specs.Layout.{size, discriminant_size, payload_place}
use Rattle.canonical_abi.specs.Reading.{case_number, number_at, byte_width}
use Rattle.ranges.specs.Bytewise.{IsBytewise, AreBytewiseCases, IsTested, IsTestedCase, caps, cap_at, case_cap, nodes_at, nodes_of_case, HasRows}
use Rattle.ranges.specs.Plan.{Fills, IsRow, row_cap}
use Rattle.ranges.proofs.CapsAndBlends.{caps-below, caps-past, tag-below}
use Rattle.ranges.proofs.OneNumberCrosses.{byte-at}

-- ---- one case

-- the payload of a case is all that its values have beside the case's number
record HasPayload (cs : Cases) (n : ℕ) (u : ClosedType) (m : List ℕ) (b : ℕ) : Type 0 where
  pub capped : (i : ℕ) → case_cap cs m b n i ≡ cap_at u m b i
  pub tested : IsTested u m b → IsTestedCase cs m b n
  pub visited : nodes_of_case cs m b n ≡ nodes_at u m b

has-payload : (cs : Cases) (n : ℕ) (u : ClosedType) → nth_case cs n ≡ Some (Some u) → (m : List ℕ) (b : ℕ) → HasPayload cs n u m b
has-payload no_case n u e m b = absurd (cc)
has-payload (plain_case cs) zero u e m b = absurd (cc)
has-payload (plain_case cs) (suc n) u e m b = let h = has-payload cs n u e m b in record { capped = h.capped; tested = h.tested; visited = h.visited }
has-payload (case_with t cs) zero u e m b = subst (λ x. HasPayload (case_with t cs) zero x m b) (same_Some _ _ (same_Some _ _ e)) (record { capped = λ i. refl; tested = λ h. h; visited = refl })
has-payload (case_with t cs) (suc n) u e m b = let h = has-payload cs n u e m b in record { capped = h.capped; tested = h.tested; visited = h.visited }

-- a case without a payload
record IsPlain (cs : Cases) (n : ℕ) (m : List ℕ) (b : ℕ) : Type 0 where
  pub capped : (i : ℕ) → case_cap cs m b n i ≡ 0
  pub tested : IsTestedCase cs m b n
  pub visited : nodes_of_case cs m b n ≡ 0

is-plain : (cs : Cases) (n : ℕ) → nth_case cs n ≡ Some None → (m : List ℕ) (b : ℕ) → IsPlain cs n m b
is-plain no_case n e m b = absurd (cc)
is-plain (plain_case cs) zero e m b = record { capped = λ i. refl; tested = tt; visited = refl }
is-plain (plain_case cs) (suc n) e m b = let h = is-plain cs n e m b in record { capped = h.capped; tested = h.tested; visited = h.visited }
is-plain (case_with t cs) zero e m b = absurd (cc)
is-plain (case_with t cs) (suc n) e m b = let h = is-plain cs n e m b in record { capped = h.capped; tested = h.tested; visited = h.visited }

-- where all payloads cross byte by byte, the variant does
all-bytewise : (cs : Cases) → ((n : ℕ) (u : ClosedType) → nth_case cs n ≡ Some (Some u) → IsBytewise u) → AreBytewiseCases cs
all-bytewise no_case each = tt
all-bytewise (plain_case cs) each = all-bytewise cs (λ n u e. each (suc n) u e)
all-bytewise (case_with t cs) each = (each 0 t refl, all-bytewise cs (λ n u e. each (suc n) u e))

-- nothing was put behind a byte
pub blank-behind : (filled : List ℕ) (at : ℕ) → ((i : ℕ) → get_or filled (at + i) 0 ≡ caps 1 255 i) → (i : ℕ) → at + 1 ≤ i → get_or filled i 0 ≡ 0
blank-behind filled at put i h =
    let here : at + (i - at) ≡ i = omega (arith, h) in
    let cap = put (i - at) in
    rw here at cap ∙ caps-past 1 255 (i - at) (omega (arith, h))

pub one-byte : (n : ℕ) → n ≤ 16 → discriminant_size n ≡ 1
one-byte n few = let e = le-leb n 256 (omega (arith, few)) in rw e refl

module _ (cs : Cases) (n : ℕ) (few : case_count cs ≤ 16) where
  tag : discriminant_size (case_count cs) ≡ 1
  tag = one-byte (case_count cs) few

  row-first : (m : List ℕ) (b i : ℕ) → i < 1 → row_cap cs m b n i ≡ 255
  row-first m b i h = rw (lt-ltb i (discriminant_size (case_count cs)) (omega (arith, tag, h))) refl

  row-between : (m : List ℕ) (b i : ℕ) → 1 ≤ i → i < payload_place cs → row_cap cs m b n i ≡ 0
  row-between m b i h g = rw (le-ltb i (discriminant_size (case_count cs)) (omega (arith, tag, h)), lt-ltb i (payload_place cs) g) refl

  row-behind : (m : List ℕ) (b i : ℕ) → payload_place cs ≤ i → row_cap cs m b n i ≡ case_cap cs m b n (i - payload_place cs)
  row-behind m b i g = rw (le-ltb i (discriminant_size (case_count cs)) (omega (arith, tag-below cs, g)), le-ltb i (payload_place cs) g) refl

  -- the number of the case was put, and nothing behind it
  pub plain-row : nth_case cs n ≡ Some None → (filled : List ℕ) → ((i : ℕ) → get_or filled (n * 16 + i) 0 ≡ caps 1 255 i) → IsRow cs n filled 1
  plain-row found filled put = record {
    bytewise = λ u e. absurd (let h = sym found ∙ e in cc);
    tested = λ m b. (is-plain cs n found m b).tested;
    caps_are = λ m b i h. put i ∙ by m b i;
    visited = λ m b. ap suc (is-plain cs n found m b).visited;
  }
    where
      by : (m : List ℕ) (b i : ℕ) → caps 1 255 i ≡ row_cap cs m b n i
      by m b i = elim (cases_lt i 1) [
        | inl h ↦ caps-below 1 255 i h ∙ sym (row-first m b i h)
        | inr g ↦ caps-past 1 255 i g ∙ elim (cases_lt i (payload_place cs)) [
          | inl h ↦ sym (row-between m b i g h)
          | inr h ↦ sym (row-behind m b i h ∙ (is-plain cs n found m b).capped (i - payload_place cs))
        ]
      ]

  -- the number of the case was put, and its payload's caps behind it
  pub payload-row : (u : ClosedType) → nth_case cs n ≡ Some (Some u) → (mid filled : List ℕ) (k : ℕ) → ((i : ℕ) → get_or mid (n * 16 + i) 0 ≡ caps 1 255 i)
      → Fills u (n * 16 + payload_place cs) mid filled k → IsRow cs n filled (suc k)
  payload-row u found mid filled k put fills = record {
    bytewise = λ v e. subst IsBytewise (same_Some _ _ (same_Some _ _ (sym found ∙ e))) fills.bytewise;
    tested = λ m b. (has-payload cs n u found m b).tested (fills.tested m b);
    caps_are = λ m b i h. by m b i;
    visited = λ m b. ap suc ((has-payload cs n u found m b).visited ∙ fills.visited m b);
  }
    where
      by : (m : List ℕ) (b i : ℕ) → get_or filled (n * 16 + i) 0 ≡ row_cap cs m b n i
      by m b i = elim (cases_lt i (payload_place cs)) [
        | inl h ↦ fills.below (n * 16 + i) (omega (arith, h)) ∙ put i ∙ elim (cases_lt i 1) [
          | inl g ↦ caps-below 1 255 i g ∙ sym (row-first m b i g)
          | inr g ↦ caps-past 1 255 i g ∙ sym (row-between m b i g h)
        ]
        | inr h ↦
            let there : n * 16 + payload_place cs + (i - payload_place cs) ≡ n * 16 + i = omega (arith, h) in
            let c = fills.caps m b (i - payload_place cs) in
            rw there at c ∙ sym (row-behind m b i h ∙ (has-payload cs n u found m b).capped (i - payload_place cs))
      ]

-- a row stays where what is put later stands behind it
pub row-stays : (cs : Cases) (n : ℕ) (old new : List ℕ) (k l : ℕ) → ((i : ℕ) → i < n * 16 + 16 → get_or new i 0 ≡ get_or old i 0) → k ≡ l → IsRow cs n old k → IsRow cs n new l
row-stays cs n old new k l same e r = record {
  bytewise = r.bytewise;
  tested = r.tested;
  caps_are = λ m b i h. same (n * 16 + i) (omega (arith, h)) ∙ r.caps_are m b i h;
  visited = λ m b. r.visited m b ∙ e;
}

-- ---- all cases

missing-case : (cs : Cases) (n : ℕ) → case_count cs ≤ n → nth_case cs n ≡ None
missing-case no_case n h = refl
missing-case (plain_case cs) zero h = absurd (omega (arith, h))
missing-case (plain_case cs) (suc n) h = missing-case cs n (omega (arith, h))
missing-case (case_with t cs) zero h = absurd (omega (arith, h))
missing-case (case_with t cs) (suc n) h = missing-case cs n (omega (arith, h))

module _ (cs : Cases) (filled nodes : List ℕ) (rows : (n : ℕ) → n < case_count cs → IsRow cs n filled (get_or nodes n 0)) where
  pub rows-bytewise : IsBytewise (variant_type cs)
  rows-bytewise = all-bytewise cs (λ n u e. elim (cases_lt n (case_count cs)) [
    | inl h ↦ (rows n h).bytewise u e
    | inr h ↦ absurd (let g = sym (missing-case cs n h) ∙ e in cc)
  ])

  case-byte : case_count cs ≤ 16 → (m : List ℕ) (a : ℕ) → case_number cs m a ≡ get_or m a 0
  case-byte few m a = ap (λ n. number_at m a (byte_width n)) (one-byte (case_count cs) few) ∙ byte-at m a

  pub rows-told : case_count cs ≤ 16 → (step : ℕ) → step ≡ size (variant_type cs) → step ≤ 16 → HasRows (variant_type cs) step (case_count cs) filled nodes
  rows-told few step is short = record {
    step_is = is;
    tested = λ m a h. (let e = sym (case-byte few m a) in subst (λ n. IsTestedCase cs m (a + payload_place cs) n) e ((rows (get_or m a 0) h).tested m (a + payload_place cs)));
    caps_are = λ m a i h below. (rows (get_or m a 0) h).caps_are m (a + payload_place cs) i (omega (arith, below, short)) ∙ ap (λ n. row_cap cs m (a + payload_place cs) n i) (sym (case-byte few m a));
    nodes_are = λ m a h. ap (λ n. suc (nodes_of_case cs m (a + payload_place cs) n)) (case-byte few m a) ∙ (rows (get_or m a 0) h).visited m (a + payload_place cs);
  }
