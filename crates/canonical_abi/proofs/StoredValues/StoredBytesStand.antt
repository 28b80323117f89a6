-- What is stored over an honest guest still stands in the end.
use Rattle.std.proofs.Common.{◌≡◌, ◌⊎◌, inl, inr, ℕ, zero, suc, ◌+◌, ◌<◌, max, true, List, [], ◌∷◌, ◌++◌, length, get_or, sym, ap, ◌∙◌, subst, arith}
use Rattle.std.specs.Int.{byte_len, next_multiple_of, to_le_bytes}
use Rattle.canonical_abi.specs.Types.{ClosedType, prim_type, string_type, list_type, record_type, variant_type, flags_type, Fields, no_field, field, Cases, no_case, plain_case, case_with, case_count}
use Rattle.canonical_abi.specs.Values.{Value}
use Rattle.canonical_abi.specs.Layout.{align, size, prim_width, flags_size, discriminant_size, field_extents, payload_extents, payload_place}
use Rattle.canonical_abi.specs.Reading.{byte_width}
use Rattle.canonical_abi.specs.Guest.{Memory, Allocation, Release, IsHonest, IsWithin, overwrite}
use Rattle.canonical_abi.specs.Trace.{Grant, Event, node, write, grant, TraceLeads}
use Rattle.canonical_abi.specs.Storing.{number_in, pointer_pair, EachStores, Stores, FieldsStore, CaseStores}
use Rattle.canonical_abi.specs.Stands.{AreAligned, IsWritten, HasBytes, Carries, Keeps}
use Rattle.canonical_abi.proofs.Traces.BytesWrittenOver.{length-overwrite, overwrite-in, length-le_bytes}
use Rattle.canonical_abi.proofs.Layouts.AlignmentsAndSizes.{end-le, greatest-le, discriminant-width}
use Rattle.canonical_abi.proofs.Traces.WhatTracesKeep.{not-both, runs-split, runs-keep, carries-both, carries-on, aligned-first, aligned-second}
use Rattle.canonical_abi.proofs.StoredValues.WritesOwnPlaceAndBlocks.{Own, own-write, length-header, InMembers, InFields, InPayload, each-own, stores-own, fields-own, case-own}

-- P allows live addresses alone
abbrev pub Live : Memory → (ℕ → Type 0) → Type 0
Live s P = (x : ℕ) → P x → s.live x ≡ true

-- what the first of two runs wrote stands after the second, where their places are apart
pub carries-then : (P Q : ℕ → Type 0) (es fs : List Event) (s m s' : Memory) → Keeps s es m → Keeps m fs s' → Own P es → Own Q fs → ((x : ℕ) → P x → Q x → ⊥) → Live s P → Live s Q
    → Carries m.bytes es → Carries s'.bytes fs → Carries s'.bytes (es ++ fs)
carries-then P Q es fs s m s' k l p q apart live_p live_q c d = carries-both s'.bytes es fs (carries-on m.bytes s'.bytes es l.no_shorter same c) d
  where
    is_live : (x : ℕ) → IsWritten es x → m.live x ≡ true
    is_live x w = elim (p x w) [ inl i ↦ k.stays_live x (live_p x i) | inr g ↦ k.is_live x g ]

    in_place : (x : ℕ) → IsWritten es x → Q x → ⊥
    in_place x w j = elim (p x w) [ inl i ↦ apart x i j | inr g ↦ not-both (live_q x j) (k.was_free x g) ]

    not_written : (x : ℕ) → IsWritten es x → ¬ IsWritten fs x
    not_written x w u = elim (q x u) [ inl j ↦ in_place x w j | inr g ↦ not-both (is_live x w) (l.was_free x g) ]

    same : (x : ℕ) → x < length m.bytes → IsWritten es x → get_or s'.bytes x 0 ≡ get_or m.bytes x 0
    same x below w = l.same x below (λ g. not-both (is_live x w) (l.was_free x g)) (not_written x w)

module _ (allocates : Allocation) (releases : Release) (honest : IsHonest allocates releases) where
  -- who stores at P: what is written stands in the end
  abbrev pub Carrying : (ℕ → Type 0) → List Event → Type 0
  Carrying P es = (s s' : Memory) → Live s P → AreAligned es → TraceLeads allocates s es s' → Carries s'.bytes es

  pub carrying-then : (P Q R : ℕ → Type 0) (es fs : List Event) → Own P es → Own Q fs → ((x : ℕ) → P x → Q x → ⊥) → ((x : ℕ) → P x → R x) → ((x : ℕ) → Q x → R x)
      → Carrying P es → Carrying Q fs → Carrying R (es ++ fs)
  carrying-then P Q R es fs p q apart pr qr c d s s' live al r =
      let split = runs-split allocates es fs s s' r in
      let front = aligned-first es fs al in
      let back = aligned-second es fs al in
      let k = runs-keep allocates releases honest es s split.0 front split.1 in
      let l = runs-keep allocates releases honest fs split.0 s' back split.2 in
      carries-then P Q es fs s split.0 s' k l p q apart (λ x i. live x (pr x i)) (λ x i. live x (qr x i))
      (c s split.0 (λ x i. live x (pr x i)) front split.1) (d split.0 s' (λ x i. k.stays_live x (live x (qr x i))) back split.2)

  pub carrying-none : (P : ℕ → Type 0) → Carrying P []
  carrying-none P s s' live al r = tt

  pub carrying-node : (P : ℕ → Type 0) (es : List Event) → Carrying P es → Carrying P (node ∷ es)
  carrying-node P es c s s' live al r = c s s' live al (subst (λ m. TraceLeads allocates m es s') r.1 r.2)

  pub carrying-write : (P : ℕ → Type 0) (a : ℕ) (bs : List ℕ) → Carrying P (write a bs ∷ [])
  carrying-write P a bs s s' live al r =
      let inside = r.1.0 in
      let e : s'.bytes ≡ overwrite s.bytes a bs = ap (λ m. m.bytes) (r.2 ∙ r.1.1) in
      (subst (λ m. HasBytes m a bs) (sym e) (record { inside = omega (arith, length-overwrite s.bytes a bs inside, inside); same = overwrite-in s.bytes a bs inside }), tt)

  -- a block that is granted, and then its own part and P's, which are apart
  pub carrying-grant : (P : ℕ → Type 0) (b : Grant) (es : List Event)
      → (((x : ℕ) → P x → IsWithin x b.at b.size → ⊥) → Carrying (λ x. P x ⊎ IsWithin x b.at b.size) es) → Carrying P (grant b ∷ es)
  carrying-grant P b es c s s' live al r =
      let g = honest.granted s b.align b.size b.at r.0 al.0 r.1.0 in
      let k = runs-keep allocates releases honest es r.0 s' al.1 r.2 in (
        (g.aligned, let i = g.inside in let j = k.no_shorter in omega arith),
        c (λ x i j. not-both (live x i) (g.was_free x j)) r.0 s' (λ x i. elim i [ inl p ↦ g.stays_live x (live x p) | inr w ↦ g.is_live x w ]) al.1 r.2,
      )

  pub each-carrying : (P : ℕ → Value → List Event → Type 0) (step : ℕ) → ((a : ℕ) (v : Value) (es : List Event) → P a v es → Own (λ x. IsWithin x a step) es)
      → ((a : ℕ) (v : Value) (es : List Event) → P a v es → Carrying (λ x. IsWithin x a step) es)
      → (a : ℕ) (vs : List Value) (es : List Event) → EachStores P step a vs es → Carrying (InMembers step a (length vs)) es
  each-carrying P step o c a [] es s = subst (Carrying (InMembers step a 0)) (sym s) (carrying-none _)
  each-carrying P step o c a (v ∷ vs) es s =
      subst (Carrying (InMembers step a (suc (length vs)))) (sym s.2) (carrying-then (λ x. IsWithin x a step) (InMembers step (a + step) (length vs)) (InMembers step a (suc (length vs))) s.0 s.1
      (o a v s.0 s.3) (each-own P step o (a + step) vs s.1 s.4) (λ x i j. omega arith) (λ x i. (omega arith, omega arith)) (λ x i. (omega arith, omega arith))
      (c a v s.0 s.3) (each-carrying P step o c (a + step) vs s.1 s.4))

  mutual
    pub stores-carrying : (t : ClosedType) (a : ℕ) (v : Value) (es : List Event) → Stores t a v es → Carrying (λ x. IsWithin x a (size t)) es
    stores-carrying (prim_type p) a v es s =
        let bytes = to_le_bytes (prim_width p) (number_in (prim_width p) v) in
        subst (Carrying (λ x. IsWithin x a (byte_len (prim_width p)))) (sym s.1) (carrying-node (λ x. IsWithin x a (byte_len (prim_width p))) (write a bytes ∷ []) (carrying-write _ a bytes))
    stores-carrying string_type a v es s =
        let g = s.1 in
        subst (Carrying (λ x. IsWithin x a 8)) (sym s.5) (carrying-node (λ x. IsWithin x a 8) (grant g ∷ write g.at s.0 ∷ write a (pointer_pair g.at (length s.0)) ∷ []) (carrying-grant (λ x. IsWithin x a 8) g (write g.at s.0 ∷ write a (pointer_pair g.at (length s.0)) ∷ []) (λ apart.
        carrying-then (λ x. IsWithin x g.at g.size) (λ x. IsWithin x a 8) _ (write g.at s.0 ∷ []) (write a (pointer_pair g.at (length s.0)) ∷ [])
        (own-write g.at s.0 g.size (sym s.4.1)) (own-write a (pointer_pair g.at (length s.0)) 8 (length-header g.at (length s.0))) (λ x i j. apart x j i) (λ x i. inr i) (λ x i. inl i)
        (carrying-write _ g.at s.0) (carrying-write _ a _))))
    stores-carrying (list_type t) a v es s =
        let g = s.1 in
        subst (Carrying (λ x. IsWithin x a 8)) (sym s.5) (carrying-node (λ x. IsWithin x a 8) (grant g ∷ write a (pointer_pair g.at (length s.0)) ∷ s.2) (carrying-grant (λ x. IsWithin x a 8) g (write a (pointer_pair g.at (length s.0)) ∷ s.2) (λ apart.
        carrying-then (λ x. IsWithin x a 8) (InMembers (size t) g.at (length s.0)) _ (write a (pointer_pair g.at (length s.0)) ∷ []) s.2
        (own-write a (pointer_pair g.at (length s.0)) 8 (length-header g.at (length s.0))) (each-own (Stores t) (size t) (λ b w fs p. stores-own t b w fs p) g.at s.0 s.2 s.6)
        (λ x i j. apart x i (subst (IsWithin x g.at) (sym s.4.1) j)) (λ x i. inl i) (λ x i. inr (subst (IsWithin x g.at) (sym s.4.1) i))
        (carrying-write _ a _) (each-carrying (Stores t) (size t) (λ b w fs p. stores-own t b w fs p) (λ b w fs p. stores-carrying t b w fs p) g.at s.0 s.2 s.6))))
    stores-carrying (record_type fs) a v es s = subst (Carrying (λ x. IsWithin x a (size (record_type fs)))) (sym s.3) (carrying-node (λ x. IsWithin x a (size (record_type fs))) s.1 (λ m m' live al r.
        fields-carrying fs a 0 s.0 s.1 s.4 m m' (λ x i. let h = i.1 in live x (omega arith, omega arith)) al r))
    stores-carrying (variant_type cs) a v es s =
        let w = byte_width (discriminant_size (case_count cs)) in
        subst (Carrying (λ x. IsWithin x a (size (variant_type cs)))) (sym s.2) (carrying-node (λ x. IsWithin x a (size (variant_type cs))) (write a (to_le_bytes w s.0) ∷ s.1) (carrying-then (λ x. IsWithin x a (discriminant_size (case_count cs))) (InPayload cs 0 (a + payload_place cs)) _ (write a (to_le_bytes w s.0) ∷ []) s.1
        (own-write a (to_le_bytes w s.0) (discriminant_size (case_count cs)) (length-le_bytes w s.0 ∙ discriminant-width (case_count cs))) (case-own cs 0 (a + payload_place cs) s.0 s.0 v s.1 s.3) (λ x i j. omega arith)
        (λ x i. (omega arith, omega arith)) (λ x i. (omega arith, omega arith))
        (carrying-write _ a _) (case-carrying cs 0 (a + payload_place cs) s.0 s.0 v s.1 s.3)))
    stores-carrying (flags_type n) a v es s =
        let bytes = to_le_bytes (byte_width (flags_size n)) s.0 in
        subst (Carrying (λ x. IsWithin x a (flags_size n))) (sym s.3) (carrying-node (λ x. IsWithin x a (flags_size n)) (write a bytes ∷ []) (carrying-write _ a bytes))

    pub fields-carrying : (fs : Fields) (a from : ℕ) (vs : List Value) (es : List Event) → FieldsStore fs a from vs es → Carrying (InFields fs a from) es
    fields-carrying no_field a from vs es s = subst (Carrying (InFields no_field a from)) (sym s.1) (carrying-none _)
    fields-carrying (field t fs) a from vs es s =
        let place = next_multiple_of from (align t) in
        let more = end-le (place + size t) (field_extents fs) in
        subst (Carrying (InFields (field t fs) a from)) (sym s.5) (carrying-then (λ x. IsWithin x (a + place) (size t)) (InFields fs a (place + size t)) (InFields (field t fs) a from) s.2 s.3
        (stores-own t (a + place) s.0 s.2 s.6) (fields-own fs a (place + size t) s.1 s.3 s.7) (λ x i j. omega arith) (λ x i. (omega arith, omega arith)) (λ x i. (omega arith, omega arith))
        (stores-carrying t (a + place) s.0 s.2 s.6) (fields-carrying fs a (place + size t) s.1 s.3 s.7))

    case-carrying : (cs : Cases) (k a i n : ℕ) (v : Value) (es : List Event) → CaseStores cs a i n v es → Carrying (InPayload cs k a) es
    case-carrying no_case k a i n v es s = elim s [ ]
    case-carrying (plain_case cs) k a i zero v es s = subst (Carrying (InPayload (plain_case cs) k a)) (sym s.1) (carrying-none _)
    case-carrying (plain_case cs) k a i (suc n) v es s = case-carrying cs k a i n v es s
    case-carrying (case_with t cs) k a i zero v es s =
        let more = greatest-le (max k (size t)) (payload_extents cs) in
        λ m m' live al r. stores-carrying t a s.0 es s.2 m m' (λ x p. live x (omega arith, omega arith)) al r
    case-carrying (case_with t cs) k a i (suc n) v es s = case-carrying cs (max k (size t)) a i n v es s

  -- the fields of a whole record
  pub record-carrying : (fs : Fields) (a : ℕ) (vs : List Value) (es : List Event) → FieldsStore fs a 0 vs es → Carrying (λ x. IsWithin x a (size (record_type fs))) es
  record-carrying fs a vs es s = λ m m' live al r. fields-carrying fs a 0 vs es s m m' (λ x i. let h = i.1 in live x (omega arith, omega arith)) al r
