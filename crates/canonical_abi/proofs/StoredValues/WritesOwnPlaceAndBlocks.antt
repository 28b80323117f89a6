-- What a stored value writes: its own place and its own blocks. The blocks have alignments that a guest may be asked for.
use Rattle.std.proofs.Common.{◌≡◌, ◌⊎◌, inl, inr, ℕ, zero, suc, ◌+◌, ◌*◌, ◌<◌, ◌≤◌, max, List, [], ◌∷◌, ◌++◌, length, fold, refl, sym, ◌∙◌, subst, arith}
use Rattle.std.specs.Int.{byte_len, next_multiple_of, to_le_bytes}
use Rattle.canonical_abi.specs.Types.{ClosedType, prim_type, string_type, list_type, record_type, variant_type, flags_type, Fields, no_field, field, Cases, no_case, plain_case, case_with, case_count}
use Rattle.canonical_abi.specs.Values.{Value}
use Rattle.canonical_abi.specs.Layout.{align, size, prim_width, flags_size, discriminant_size, end_from, field_extents, payload_extents, payload_place}
use Rattle.canonical_abi.specs.Reading.{byte_width}
use Rattle.canonical_abi.specs.Guest.{IsWithin, IsAlignment}
use Rattle.canonical_abi.specs.Trace.{Event, node, write, grant}
use Rattle.canonical_abi.specs.Storing.{number_in, pointer_pair, EachStores, Stores, FieldsStore, CaseStores}
use Rattle.canonical_abi.specs.Stands.{AreAligned, IsGranted, IsWritten}
use Rattle.canonical_abi.proofs.Traces.BytesWrittenOver.{length-le_bytes}
use Rattle.canonical_abi.proofs.Layouts.AlignmentsAndSizes.{is-alignment, end-le, greatest-le, discriminant-width, flags-width}
use Rattle.canonical_abi.proofs.Traces.WhatTracesKeep.{granted-first, granted-second, written-in, aligned-both}

-- all that is written is allowed by P or in a block that was granted
abbrev pub Own : (ℕ → Type 0) → List Event → Type 0
Own P es = (x : ℕ) → IsWritten es x → P x ⊎ IsGranted es x

-- each write is allowed by P or in a block that was granted before it
abbrev pub Confined : (ℕ → Type 0) → List Event → Type 0
Confined P [] = Unit {0}
Confined P (node ∷ es) = Confined P es
Confined P (grant g ∷ es) = Confined (λ x. P x ⊎ IsWithin x g.at g.size) es
Confined P (write a bs ∷ es) = ((x : ℕ) → IsWithin x a (length bs) → P x) × Confined P es

pub confined-more : (P Q : ℕ → Type 0) (es : List Event) → ((x : ℕ) → P x → Q x) → Confined P es → Confined Q es
confined-more P Q [] more c = tt
confined-more P Q (node ∷ es) more c = confined-more P Q es more c
confined-more P Q (grant g ∷ es) more c =
    confined-more (λ x. P x ⊎ IsWithin x g.at g.size) (λ x. Q x ⊎ IsWithin x g.at g.size) es (λ x i. elim i [ inl p ↦ inl (more x p) | inr w ↦ inr w ]) c
confined-more P Q (write a bs ∷ es) more c = ((λ x w. more x (c.0 x w)), confined-more P Q es more c.1)

pub confined-then : (P Q R : ℕ → Type 0) (es fs : List Event) → Confined P es → Confined Q fs → ((x : ℕ) → P x → R x) → ((x : ℕ) → Q x → R x) → Confined R (es ++ fs)
confined-then P Q R [] fs p q pr qr = confined-more Q R fs qr q
confined-then P Q R (node ∷ es) fs p q pr qr = confined-then P Q R es fs p q pr qr
confined-then P Q R (grant g ∷ es) fs p q pr qr =
    confined-then (λ x. P x ⊎ IsWithin x g.at g.size) Q (λ x. R x ⊎ IsWithin x g.at g.size) es fs p q (λ x i. elim i [ inl h ↦ inl (pr x h) | inr w ↦ inr w ]) (λ x h. inl (qr x h))
confined-then P Q R (write a bs ∷ es) fs p q pr qr = ((λ x w. pr x (p.0 x w)), confined-then P Q R es fs p.1 q pr qr)

-- so is a beginning
pub confined-front : (P : ℕ → Type 0) (es fs : List Event) → Confined P (es ++ fs) → Confined P es
confined-front P [] fs c = tt
confined-front P (node ∷ es) fs c = confined-front P es fs c
confined-front P (grant g ∷ es) fs c = confined-front (λ x. P x ⊎ IsWithin x g.at g.size) es fs c
confined-front P (write a bs ∷ es) fs c = (c.0, confined-front P es fs c.1)

pub own-confined : (P : ℕ → Type 0) (es : List Event) → Confined P es → Own P es
own-confined P [] c x w = elim w [ ]
own-confined P (node ∷ es) c x w = own-confined P es c x w
own-confined P (grant g ∷ es) c x w =
    elim (own-confined (λ x. P x ⊎ IsWithin x g.at g.size) es c x w) [ inl (inl p) ↦ inl p | inl (inr i) ↦ inr (inl i) | inr r ↦ inr (inr r) ]
own-confined P (write a bs ∷ es) c x (inl w) = inl (c.0 x w)
own-confined P (write a bs ∷ es) c x (inr w) = own-confined P es c.1 x w

pub confined-write : (a : ℕ) (bs : List ℕ) (n : ℕ) → length bs ≡ n → Confined (λ x. IsWithin x a n) (write a bs ∷ [])
confined-write a bs n l = ((λ x w. (w.0, let h = w.1 in omega arith)), tt)

pub own-none : (P : ℕ → Type 0) → Own P []
own-none P x w = elim w [ ]

pub own-then : (P Q R : ℕ → Type 0) (es fs : List Event) → Own P es → Own Q fs → ((x : ℕ) → P x → R x) → ((x : ℕ) → Q x → R x) → Own R (es ++ fs)
own-then P Q R es fs p q pr qr x w = elim (written-in es fs x w) [
  | inl v ↦ elim (p x v) [ inl i ↦ inl (pr x i) | inr g ↦ inr (granted-first es fs x g) ]
  | inr v ↦ elim (q x v) [ inl i ↦ inl (qr x i) | inr g ↦ inr (granted-second es fs x g) ]
]

pub own-write : (a : ℕ) (bs : List ℕ) (n : ℕ) → length bs ≡ n → Own (λ x. IsWithin x a n) (write a bs ∷ [])
own-write a bs n l = own-confined (λ x. IsWithin x a n) (write a bs ∷ []) (confined-write a bs n l)

pub length-header : (a n : ℕ) → length (pointer_pair a n) ≡ 8
length-header a n = refl

-- the bytes of a list's members, those of a record's fields from an end on, and those of payloads, of which the greatest before has k
abbrev pub InMembers : ℕ → ℕ → ℕ → ℕ → Type 0
InMembers step a n x = IsWithin x a (n * step)

abbrev pub InFields : Fields → ℕ → ℕ → ℕ → Type 0
InFields fs a from x = (a + from ≤ x) × (x < a + end_from from (field_extents fs))

abbrev pub InPayload : Cases → ℕ → ℕ → ℕ → Type 0
InPayload cs k a x = IsWithin x a (fold (λ n y. max n y.size) k (payload_extents cs))

pub each-confined : (P : ℕ → Value → List Event → Type 0) (step : ℕ) → ((a : ℕ) (v : Value) (es : List Event) → P a v es → Confined (λ x. IsWithin x a step) es)
    → (a : ℕ) (vs : List Value) (es : List Event) → EachStores P step a vs es → Confined (InMembers step a (length vs)) es
each-confined P step h a [] es s = subst (Confined (InMembers step a 0)) (sym s) tt
each-confined P step h a (v ∷ vs) es s =
    subst (Confined (InMembers step a (suc (length vs)))) (sym s.2) (confined-then (λ x. IsWithin x a step) (InMembers step (a + step) (length vs)) (InMembers step a (suc (length vs))) s.0 s.1
    (h a v s.0 s.3) (each-confined P step h (a + step) vs s.1 s.4) (λ x i. (omega arith, omega arith)) (λ x i. (omega arith, omega arith)))

pub each-own : (P : ℕ → Value → List Event → Type 0) (step : ℕ) → ((a : ℕ) (v : Value) (es : List Event) → P a v es → Own (λ x. IsWithin x a step) es)
    → (a : ℕ) (vs : List Value) (es : List Event) → EachStores P step a vs es → Own (InMembers step a (length vs)) es
each-own P step h a [] es s = subst (Own (InMembers step a 0)) (sym s) (own-none (InMembers step a 0))
each-own P step h a (v ∷ vs) es s =
    subst (Own (InMembers step a (suc (length vs)))) (sym s.2) (own-then (λ x. IsWithin x a step) (InMembers step (a + step) (length vs)) _ s.0 s.1 (h a v s.0 s.3) (each-own P step h (a + step) vs s.1 s.4)
    (λ x i. (omega arith, omega arith)) (λ x i. (omega arith, omega arith)))

mutual
  pub stores-confined : (t : ClosedType) (a : ℕ) (v : Value) (es : List Event) → Stores t a v es → Confined (λ x. IsWithin x a (size t)) es
  stores-confined (prim_type p) a v es s =
      let bytes = to_le_bytes (prim_width p) (number_in (prim_width p) v) in
      subst (Confined (λ x. IsWithin x a (byte_len (prim_width p)))) (sym s.1) (confined-write a bytes (byte_len (prim_width p)) (length-le_bytes (prim_width p) _))
  stores-confined string_type a v es s =
      let g = s.1 in
      let near : ℕ → Type 0 = λ x. IsWithin x a 8 ⊎ IsWithin x g.at g.size in
      subst (Confined (λ x. IsWithin x a 8)) (sym s.5) (confined-then (λ x. IsWithin x g.at g.size) (λ x. IsWithin x a 8) near (write g.at s.0 ∷ []) (write a (pointer_pair g.at (length s.0)) ∷ [])
      (confined-write g.at s.0 g.size (sym s.4.1)) (confined-write a (pointer_pair g.at (length s.0)) 8 (length-header g.at (length s.0))) (λ x i. inr i) (λ x i. inl i))
  stores-confined (list_type t) a v es s =
      let g = s.1 in
      let near : ℕ → Type 0 = λ x. IsWithin x a 8 ⊎ IsWithin x g.at g.size in
      subst (Confined (λ x. IsWithin x a 8)) (sym s.5) (confined-then (λ x. IsWithin x a 8) (InMembers (size t) g.at (length s.0)) near (write a (pointer_pair g.at (length s.0)) ∷ []) s.2
      (confined-write a (pointer_pair g.at (length s.0)) 8 (length-header g.at (length s.0))) (each-confined (Stores t) (size t) (λ b w fs p. stores-confined t b w fs p) g.at s.0 s.2 s.6)
      (λ x i. inl i) (λ x i. inr (subst (IsWithin x g.at) (sym s.4.1) i)))
  stores-confined (record_type fs) a v es s =
      subst (Confined (λ x. IsWithin x a (size (record_type fs)))) (sym s.3)
      (confined-more (InFields fs a 0) (λ x. IsWithin x a (size (record_type fs))) s.1 (λ x i. (omega arith, omega arith)) (fields-confined fs a 0 s.0 s.1 s.4))
  stores-confined (variant_type cs) a v es s =
      let w = byte_width (discriminant_size (case_count cs)) in
      subst (Confined (λ x. IsWithin x a (size (variant_type cs)))) (sym s.2) (confined-then (λ x. IsWithin x a (discriminant_size (case_count cs))) (InPayload cs 0 (a + payload_place cs)) (λ x. IsWithin x a (size (variant_type cs)))
      (write a (to_le_bytes w s.0) ∷ []) s.1
      (confined-write a (to_le_bytes w s.0) (discriminant_size (case_count cs)) (length-le_bytes w s.0 ∙ discriminant-width (case_count cs))) (case-confined cs 0 (a + payload_place cs) s.0 s.0 v s.1 s.3)
      (λ x i. (omega arith, omega arith)) (λ x i. (omega arith, omega arith)))
  stores-confined (flags_type n) a v es s =
      let w = byte_width (flags_size n) in
      subst (Confined (λ x. IsWithin x a (flags_size n))) (sym s.3) (confined-write a (to_le_bytes w s.0) (flags_size n) (length-le_bytes w s.0 ∙ flags-width n))

  pub fields-confined : (fs : Fields) (a from : ℕ) (vs : List Value) (es : List Event) → FieldsStore fs a from vs es → Confined (InFields fs a from) es
  fields-confined no_field a from vs es s = subst (Confined (InFields no_field a from)) (sym s.1) tt
  fields-confined (field t fs) a from vs es s =
      let place = next_multiple_of from (align t) in
      let more = end-le (place + size t) (field_extents fs) in
      subst (Confined (InFields (field t fs) a from)) (sym s.5) (confined-then (λ x. IsWithin x (a + place) (size t)) (InFields fs a (place + size t)) (InFields (field t fs) a from) s.2 s.3
      (stores-confined t (a + place) s.0 s.2 s.6) (fields-confined fs a (place + size t) s.1 s.3 s.7)
      (λ x i. (omega arith, omega arith)) (λ x i. (omega arith, omega arith)))

  pub case-confined : (cs : Cases) (k a i n : ℕ) (v : Value) (es : List Event) → CaseStores cs a i n v es → Confined (InPayload cs k a) es
  case-confined no_case k a i n v es s = elim s [ ]
  case-confined (plain_case cs) k a i zero v es s = subst (Confined (InPayload (plain_case cs) k a)) (sym s.1) tt
  case-confined (plain_case cs) k a i (suc n) v es s = case-confined cs k a i n v es s
  case-confined (case_with t cs) k a i zero v es s =
      let more = greatest-le (max k (size t)) (payload_extents cs) in
      confined-more (λ x. IsWithin x a (size t)) (InPayload (case_with t cs) k a) es (λ x p. (omega arith, omega arith)) (stores-confined t a s.0 es s.2)
  case-confined (case_with t cs) k a i (suc n) v es s = case-confined cs (max k (size t)) a i n v es s

pub stores-own : (t : ClosedType) (a : ℕ) (v : Value) (es : List Event) → Stores t a v es → Own (λ x. IsWithin x a (size t)) es
stores-own t a v es s = own-confined (λ x. IsWithin x a (size t)) es (stores-confined t a v es s)

pub fields-own : (fs : Fields) (a from : ℕ) (vs : List Value) (es : List Event) → FieldsStore fs a from vs es → Own (InFields fs a from) es
fields-own fs a from vs es s = own-confined (InFields fs a from) es (fields-confined fs a from vs es s)

pub case-own : (cs : Cases) (k a i n : ℕ) (v : Value) (es : List Event) → CaseStores cs a i n v es → Own (InPayload cs k a) es
case-own cs k a i n v es s = own-confined (InPayload cs k a) es (case-confined cs k a i n v es s)

-- ---- alignments of the blocks

pub each-aligned : (P : ℕ → Value → List Event → Type 0) (step : ℕ) → ((a : ℕ) (v : Value) (es : List Event) → P a v es → AreAligned es)
    → (a : ℕ) (vs : List Value) (es : List Event) → EachStores P step a vs es → AreAligned es
each-aligned P step h a [] es s = subst AreAligned (sym s) tt
each-aligned P step h a (v ∷ vs) es s = subst AreAligned (sym s.2) (aligned-both s.0 s.1 (h a v s.0 s.3) (each-aligned P step h (a + step) vs s.1 s.4))

mutual
  pub stores-aligned : (t : ClosedType) (a : ℕ) (v : Value) (es : List Event) → Stores t a v es → AreAligned es
  stores-aligned (prim_type p) a v es s = subst AreAligned (sym s.1) tt
  stores-aligned string_type a v es s = subst AreAligned (sym s.5) (subst IsAlignment (sym s.4.0) (inl refl), tt)
  stores-aligned (list_type t) a v es s =
      subst AreAligned (sym s.5) (subst IsAlignment (sym s.4.0) (is-alignment t), each-aligned (Stores t) (size t) (λ b w fs p. stores-aligned t b w fs p) s.1.at s.0 s.2 s.6)
  stores-aligned (record_type fs) a v es s = subst AreAligned (sym s.3) (fields-aligned fs a 0 s.0 s.1 s.4)
  stores-aligned (variant_type cs) a v es s = subst AreAligned (sym s.2) (case-aligned cs (a + payload_place cs) s.0 s.0 v s.1 s.3)
  stores-aligned (flags_type n) a v es s = subst AreAligned (sym s.3) tt

  pub fields-aligned : (fs : Fields) (a from : ℕ) (vs : List Value) (es : List Event) → FieldsStore fs a from vs es → AreAligned es
  fields-aligned no_field a from vs es s = subst AreAligned (sym s.1) tt
  fields-aligned (field t fs) a from vs es s =
      let place = next_multiple_of from (align t) in
      subst AreAligned (sym s.5) (aligned-both s.2 s.3 (stores-aligned t (a + place) s.0 s.2 s.6) (fields-aligned fs a (place + size t) s.1 s.3 s.7))

  case-aligned : (cs : Cases) (a i n : ℕ) (v : Value) (es : List Event) → CaseStores cs a i n v es → AreAligned es
  case-aligned no_case a i n v es s = elim s [ ]
  case-aligned (plain_case cs) a i zero v es s = subst AreAligned (sym s.1) tt
  case-aligned (plain_case cs) a i (suc n) v es s = case-aligned cs a i n v es s
  case-aligned (case_with t cs) a i zero v es s = stores-aligned t a s.0 es s.2
  case-aligned (case_with t cs) a i (suc n) v es s = case-aligned cs a i n v es s
