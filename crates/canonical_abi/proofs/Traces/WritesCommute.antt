-- Two writes apart from each other leave the same memory in either order.
use Rattle.std.proofs.Common.{◌≡◌, ◌⊎◌, inl, inr, ℕ, ◌+◌, ◌<◌, ◌≤◌, List, length, refl, sym, ap, ◌∙◌, subst, arith}
use Rattle.std.specs.Prelude.{slice_get, Option}
use Rattle.std.proofs.lemmas.Bool.{cases_lt}
use Rattle.std.proofs.lemmas.List.{ext_get_or}
use Rattle.std.proofs.lemmas.Option.{unwrap_or-slice_get}
use Rattle.std.specs.Option.{unwrap_or}
use Rattle.canonical_abi.specs.Guest.{Allocation, overwrite, with_bytes}
use Rattle.canonical_abi.specs.Trace.{byte_over, TraceLeads}
use Rattle.canonical_abi.specs.Laws.{WritesCommute}
use Rattle.canonical_abi.proofs.Traces.BytesWrittenOver.{length-overwrite}
use Rattle.canonical_abi.proofs.Traces.TracesLeaveImages.{byte_over-before, byte_over-after, overwrite-get}

-- outside a write the byte is the one that was there
over-outside : (at : ℕ) (part : List ℕ) (i : ℕ) (x : Option ℕ) → (i < at) ⊎ (at + length part ≤ i) → byte_over at part i x ≡ x
over-outside at part i x (inl l) = byte_over-before at part i x l
over-outside at part i x (inr q) = byte_over-after at part i x (omega arith) q

-- a byte under two writes, of which it lies in one at most
both-over : (a b : ℕ) (xs ys : List ℕ) (i : ℕ) (x : Option ℕ) → (a + length xs ≤ b) ⊎ (b + length ys ≤ a)
    → byte_over b ys i (byte_over a xs i x) ≡ byte_over a xs i (byte_over b ys i x)
both-over a b xs ys i x apart = elim (place b ys) [
  | inl out ↦ over-outside b ys i (byte_over a xs i x) out ∙ ap (byte_over a xs i) (sym (over-outside b ys i x out))
  | inr in_b ↦
      let out : (i < a) ⊎ (a + length xs ≤ i) = elim apart [ inl l ↦ inr (let h = in_b.0 in omega arith) | inr l ↦ inl (let h = in_b.1 in omega arith) ] in
      ap (byte_over b ys i) (over-outside a xs i x out) ∙ sym (over-outside a xs i (byte_over b ys i x) out)
]
  where
    place : (at : ℕ) (part : List ℕ) → ((i < at) ⊎ (at + length part ≤ i)) ⊎ ((at ≤ i) × (i < at + length part))
    place at part = elim (cases_lt i at) [
      | inl l ↦ inl (inl l)
      | inr g ↦ elim (cases_lt i (at + length part)) [ inl l ↦ inr (g, l) | inr q ↦ inl (inr q) ]
    ]

same-bytes : (old : List ℕ) (a b : ℕ) (xs ys : List ℕ) → a + length xs ≤ length old → b + length ys ≤ length old → (a + length xs ≤ b) ⊎ (b + length ys ≤ a)
    → overwrite (overwrite old a xs) b ys ≡ overwrite (overwrite old b ys) a xs
same-bytes old a b xs ys in_a in_b apart =
    let la : length (overwrite old a xs) ≡ length old = length-overwrite old a xs in_a in
    let lb : length (overwrite old b ys) ≡ length old = length-overwrite old b ys in_b in
    let fits_b : b + length ys ≤ length (overwrite old a xs) = omega (arith, la, in_b) in
    let fits_a : a + length xs ≤ length (overwrite old b ys) = omega (arith, lb, in_a) in
    let one : length (overwrite (overwrite old a xs) b ys) ≡ length old = length-overwrite (overwrite old a xs) b ys fits_b ∙ la in
    let two : length (overwrite (overwrite old b ys) a xs) ≡ length old = length-overwrite (overwrite old b ys) a xs fits_a ∙ lb in
    ext_get_or 0 (overwrite (overwrite old a xs) b ys) (overwrite (overwrite old b ys) a xs) (one ∙ sym two) (λ i below.
    sym (unwrap_or-slice_get (overwrite (overwrite old a xs) b ys) i 0)
    ∙ ap (λ o. unwrap_or o 0) (
    overwrite-get (overwrite old a xs) ys b i fits_b ∙ ap (byte_over b ys i) (overwrite-get old xs a i in_a)
    ∙ both-over a b xs ys i (slice_get old i) apart
    ∙ sym (overwrite-get (overwrite old b ys) xs a i fits_a ∙ ap (byte_over a xs i) (overwrite-get old ys b i in_b))
    )
    ∙ unwrap_or-slice_get (overwrite (overwrite old b ys) a xs) i 0)

pub writes-commute : (allocates : Allocation) → WritesCommute allocates
writes-commute allocates a b xs ys es old new apart (first, (in_a, one), (second, (in_b, two), rest)) =
    let la : length first.bytes ≡ length old.bytes = ap (λ m. length m.bytes) one ∙ length-overwrite old.bytes a xs in_a in
    let fits_b : b + length ys ≤ length old.bytes = omega (arith, la, in_b) in
    let lb : length (overwrite old.bytes b ys) ≡ length old.bytes = length-overwrite old.bytes b ys fits_b in
    let ends : second ≡ with_bytes old (overwrite (overwrite old.bytes b ys) a xs) =
    two ∙ ap (λ m. with_bytes m (overwrite m.bytes b ys)) one ∙ ap (with_bytes old) (same-bytes old.bytes a b xs ys in_a fits_b apart) in (
      with_bytes old (overwrite old.bytes b ys),
      (fits_b, refl),
      (with_bytes old (overwrite (overwrite old.bytes b ys) a xs), (omega (arith, lb, in_a), refl), subst (λ m. TraceLeads allocates m es new) ends rest),
    )
