-- Caps of bytes past a value's place, and blends one after another.
use Rattle.std.proofs.Common.{◌≡◌, inl, inr, ℕ, zero, suc, ◌+◌, ◌-◌, ◌<◌, ◌≤◌, max, fold, List, get_or, refl, ap, ◌∙◌, arith}
use Rattle.std.specs.Int.{byte_len, next_multiple_of}
use Rattle.std.proofs.lemmas.Bool.{cases_lt, lt-ltb, le-ltb}
use Rattle.canonical_abi.specs.Types.{ClosedType, prim_type, string_type, list_type, record_type, variant_type, flags_type, Fields, no_field, field, Cases, no_case, plain_case, case_with, case_count}
use Rattle.canonical_abi.specs.Layout.{align, size, prim_width, discriminant_size, flags_size, end_from, field_extents, payload_extents, greatest_align, greatest_size, payload_place, variant_align}
use Rattle.canonical_abi.specs.Reading.{case_number}
use Rattle.canonical_abi.proofs.Layouts.LeastPlaces.{le-next_multiple_of}
use Rattle.canonical_abi.proofs.Layouts.AlignmentsAndSizes.{end-le, greatest-le}
use Rattle.ranges.specs.Bytewise.{capped_byte, caps, cap_at, fields_cap, case_cap, Blends, each_cap}

pub caps-below : (n cap i : ℕ) → i < n → caps n cap i ≡ cap
caps-below n cap i h = rw (lt-ltb i n h) refl

pub caps-past : (n cap i : ℕ) → n ≤ i → caps n cap i ≡ 0
caps-past n cap i h = rw (le-ltb i n h) refl

-- ---- the cap of a byte of a record

module _ (t : ClosedType) (fs : Fields) (m : List ℕ) (a from i : ℕ) where
  abbrev place : ℕ
  place = next_multiple_of from (align t)

  pub field-before : i < place → fields_cap (field t fs) m a from i ≡ 0
  field-before h = rw (lt-ltb i place h) refl

  pub field-within : place ≤ i → i < place + size t → fields_cap (field t fs) m a from i ≡ cap_at t m (a + place) (i - place)
  field-within h g = rw (le-ltb i place h, lt-ltb i (place + size t) g) refl

  pub field-after : place + size t ≤ i → fields_cap (field t fs) m a from i ≡ fields_cap fs m a (place + size t) i
  field-after h = let g : place ≤ i = omega arith in rw (le-ltb i place g, le-ltb i (place + size t) h) refl

pub fields-below : (fs : Fields) (m : List ℕ) (a from i : ℕ) → i < from → fields_cap fs m a from i ≡ 0
fields-below no_field m a from i h = refl
fields-below (field t fs) m a from i h = field-before t fs m a from i (omega (arith, le-next_multiple_of from (align t)))

-- ---- the cap of a byte of a variant

module _ (cs : Cases) (m : List ℕ) (a i : ℕ) where
  pub case-tag : i < discriminant_size (case_count cs) → cap_at (variant_type cs) m a i ≡ 255
  case-tag h = rw (lt-ltb i (discriminant_size (case_count cs)) h) refl

  pub case-between : discriminant_size (case_count cs) ≤ i → i < payload_place cs → cap_at (variant_type cs) m a i ≡ 0
  case-between h g = rw (le-ltb i (discriminant_size (case_count cs)) h, lt-ltb i (payload_place cs) g) refl

  pub case-payload : discriminant_size (case_count cs) ≤ i → payload_place cs ≤ i
      → cap_at (variant_type cs) m a i ≡ case_cap cs m (a + payload_place cs) (case_number cs m a) (i - payload_place cs)
  case-payload h g = rw (le-ltb i (discriminant_size (case_count cs)) h, le-ltb i (payload_place cs) g) refl

pub tag-below : (cs : Cases) → discriminant_size (case_count cs) ≤ payload_place cs
tag-below cs = le-next_multiple_of (discriminant_size (case_count cs)) (greatest_align (payload_extents cs))

pub payload-inside : (cs : Cases) → payload_place cs + greatest_size (payload_extents cs) ≤ size (variant_type cs)
payload-inside cs = le-next_multiple_of (payload_place cs + greatest_size (payload_extents cs)) (variant_align (case_count cs) (payload_extents cs))

mutual
  pub cap-past : (t : ClosedType) (m : List ℕ) (a i : ℕ) → size t ≤ i → cap_at t m a i ≡ 0
  cap-past (prim_type p) m a i h = caps-past (byte_len (prim_width p)) _ i h
  cap-past string_type m a i h = refl
  cap-past (list_type t) m a i h = refl
  cap-past (record_type fs) m a i h = fields-past fs m a 0 i (omega (arith, h, le-next_multiple_of (end_from 0 (field_extents fs)) (align (record_type fs))))
  cap-past (variant_type cs) m a i h =
      let p = tag-below cs in
      let q = payload-inside cs in
      case-payload cs m a i (omega (arith, p, q, h)) (omega (arith, q, h))
      ∙ case-past 0 cs m (a + payload_place cs) (case_number cs m a) (i - payload_place cs) (omega (arith, q, h))
  cap-past (flags_type n) m a i h = caps-past (flags_size n) 255 i h

  pub fields-past : (fs : Fields) (m : List ℕ) (a from i : ℕ) → end_from from (field_extents fs) ≤ i → fields_cap fs m a from i ≡ 0
  fields-past no_field m a from i h = refl
  fields-past (field t fs) m a from i h =
      let end = next_multiple_of from (align t) + size t in
      let le = end-le end (field_extents fs) in
      field-after t fs m a from i (omega (arith, le, h)) ∙ fields-past fs m a end i h

  pub case-past : (k : ℕ) (cs : Cases) (m : List ℕ) (b n i : ℕ) → fold (λ n x. max n x.size) k (payload_extents cs) ≤ i → case_cap cs m b n i ≡ 0
  case-past k no_case m b n i h = refl
  case-past k (plain_case cs) m b zero i h = refl
  case-past k (plain_case cs) m b (suc n) i h = case-past k cs m b n i h
  case-past k (case_with t cs) m b zero i h = cap-past t m b i (omega (arith, h, greatest-le (max k (size t)) (payload_extents cs)))
  case-past k (case_with t cs) m b (suc n) i h = case-past (max k (size t)) cs m b n i h

-- ---- a byte under a cap

pub kept : (cap old new : ℕ) → cap ≡ 0 → capped_byte cap old new ≡ old
kept cap old new e = ap (λ c. capped_byte c old new) e

pub taken : (old new : ℕ) → new < 256 → capped_byte 255 old new ≡ new
taken old new h = omega arith

-- ---- blends one after another

-- nothing is changed
pub blends-nothing : (m : List ℕ) (a : ℕ) (old : List ℕ) (at : ℕ) → Blends (λ i. 0) m a old at old
blends-nothing m a old at = record { same_length = refl; below = λ x h. refl; over = λ i. refl }

module _ (t : ClosedType) (fs : Fields) (from : ℕ) (m : List ℕ) (a : ℕ) (old : List ℕ) (at : ℕ) (mid new : List ℕ) where
  abbrev start : ℕ
  start = next_multiple_of from (align t)

  -- a field's blend, and then those of the fields behind it
  pub blends-field : Blends (cap_at t m (a + start)) m (a + start) old (at + start) mid → Blends (fields_cap fs m a (start + size t)) m a mid at new
      → Blends (fields_cap (field t fs) m a from) m a old at new
  blends-field first rest = record {
    same_length = rest.same_length ∙ first.same_length;
    below = λ x h. rest.below x h ∙ first.below x (omega (arith, h));
    over = λ i. by i;
  }
    where
      -- where the first left the byte as it was
      untouched : (i : ℕ) → get_or mid (at + i) 0 ≡ get_or old (at + i) 0
          → get_or new (at + i) 0 ≡ capped_byte (fields_cap fs m a (start + size t) i) (get_or old (at + i) 0) (get_or m (a + i) 0)
      untouched i e = rest.over i ∙ ap (λ b. capped_byte (fields_cap fs m a (start + size t) i) b (get_or m (a + i) 0)) e

      by : (i : ℕ) → get_or new (at + i) 0 ≡ capped_byte (fields_cap (field t fs) m a from i) (get_or old (at + i) 0) (get_or m (a + i) 0)
      by i = elim (cases_lt i start) [
        | inl h ↦
            rw (field-before t fs m a from i h) (untouched i (first.below (at + i) (omega (arith, h))) ∙ kept _ _ _ (fields-below fs m a (start + size t) i (omega (arith, h))))
        | inr g ↦
            let to : at + start + (i - start) ≡ at + i = omega (arith, g) in
            let of : a + start + (i - start) ≡ a + i = omega (arith, g) in
            let raw = first.over (i - start) in
            let own = rw (to, of) at raw in
            elim (cases_lt i (start + size t)) [
              | inl h ↦ rw (field-within t fs m a from i g h) (rest.over i ∙ kept _ _ _ (fields-below fs m a (start + size t) i h) ∙ own)
              | inr h ↦ rw (field-after t fs m a from i h) (untouched i (own ∙ kept _ _ _ (cap-past t m (a + start) (i - start) (omega (arith, h)))))
            ]
      ]

module _ (cs : Cases) (m : List ℕ) (a : ℕ) (old : List ℕ) (at : ℕ) (mid new : List ℕ) where
  abbrev tag : ℕ
  tag = discriminant_size (case_count cs)

  abbrev payload : ℕ → ℕ
  payload = case_cap cs m (a + payload_place cs) (case_number cs m a)

  -- the case's number, and then its payload
  pub blends-case : Blends (caps tag 255) m a old at mid → Blends payload m (a + payload_place cs) mid (at + payload_place cs) new → Blends (cap_at (variant_type cs) m a) m a old at new
  blends-case first rest = record {
    same_length = rest.same_length ∙ first.same_length;
    below = λ x h. rest.below x (omega (arith, h)) ∙ first.below x h;
    over = λ i. by i;
  }
    where
      by : (i : ℕ) → get_or new (at + i) 0 ≡ capped_byte (cap_at (variant_type cs) m a i) (get_or old (at + i) 0) (get_or m (a + i) 0)
      by i = elim (cases_lt i tag) [
        | inl h ↦ rw (case-tag cs m a i h) (rest.below (at + i) (omega (arith, h, tag-below cs)) ∙ first.over i ∙ ap (λ c. capped_byte c (get_or old (at + i) 0) (get_or m (a + i) 0)) (caps-below tag 255 i h))
        | inr g ↦
            let was : get_or mid (at + i) 0 ≡ get_or old (at + i) 0 = first.over i ∙ kept _ _ _ (caps-past tag 255 i g) in
            elim (cases_lt i (payload_place cs)) [
              | inl h ↦ rw (case-between cs m a i g h) (rest.below (at + i) (omega (arith, h)) ∙ was)
              | inr h ↦
                  let to : at + payload_place cs + (i - payload_place cs) ≡ at + i = omega (arith, h) in
                  let of : a + payload_place cs + (i - payload_place cs) ≡ a + i = omega (arith, h) in
                  let raw = rest.over (i - payload_place cs) in
                  let own = rw (to, of) at raw in
                  rw (case-payload cs m a i g h) (own ∙ ap (λ b. capped_byte (payload (i - payload_place cs)) b (get_or m (a + i) 0)) was)
            ]
      ]

module _ (t : ClosedType) (n : ℕ) (m : List ℕ) (a : ℕ) (old : List ℕ) (at : ℕ) (mid new : List ℕ) where
  -- an element's blend, and then those of the elements behind it
  pub blends-element : Blends (cap_at t m a) m a old at mid → Blends (each_cap t m (a + size t) n) m (a + size t) mid (at + size t) new → Blends (each_cap t m a (suc n)) m a old at new
  blends-element first rest = record {
    same_length = rest.same_length ∙ first.same_length;
    below = λ x h. rest.below x (omega (arith, h)) ∙ first.below x h;
    over = λ i. by i;
  }
    where
      by : (i : ℕ) → get_or new (at + i) 0 ≡ capped_byte (each_cap t m a (suc n) i) (get_or old (at + i) 0) (get_or m (a + i) 0)
      by i = elim (cases_lt i (size t)) [
        | inl h ↦ rw (lt-ltb i (size t) h) (rest.below (at + i) (omega (arith, h)) ∙ first.over i)
        | inr g ↦
            let to : at + size t + (i - size t) ≡ at + i = omega (arith, g) in
            let of : a + size t + (i - size t) ≡ a + i = omega (arith, g) in
            let raw = rest.over (i - size t) in
            let own = rw (to, of) at raw in
            let was = first.over i ∙ kept _ _ _ (cap-past t m a i g) in
            rw (le-ltb i (size t) g) (own ∙ ap (λ b. capped_byte (each_cap t m (a + size t) n (i - size t)) b (get_or m (a + i) 0)) was)
      ]
