-- A trace that is confined to a place and to its own blocks, and a refusal after it: over an honest guest nothing else is changed.
use Rattle.std.proofs.Common.{◌≡◌, ◌⊎◌, inl, inr, ℕ, ◌^◌, ◌<◌, ◌≤◌, true, List, [], ◌∷◌, ◌++◌, length, get_or, Some, refl, sym, ap, ◌∙◌, subst, arith, None}
use Rattle.std.specs.Prelude.{slice_get}
use Rattle.std.proofs.lemmas.Option.{slice_get-get_or}
use Rattle.canonical_abi.specs.Guest.{Memory, Allocation, Release, IsHonest, IsLimited, KeepsLimit, IsWithin, IsOutside}
use Rattle.canonical_abi.specs.Trace.{Event, node, write, grant, grants_of, TraceLeads}
use Rattle.canonical_abi.specs.Stands.{AreAligned, IsGranted, IsWritten, Keeps}
use Rattle.canonical_abi.specs.Headline.{IsOutsideAll, AreLive, KeepsOutside}
use Rattle.canonical_abi.proofs.Traces.BytesWrittenOver.{length-overwrite}
use Rattle.canonical_abi.proofs.Traces.WhatTracesKeep.{not-both, runs-keep}
use Rattle.canonical_abi.proofs.StoredValues.WritesOwnPlaceAndBlocks.{Confined, confined-more, own-confined}
use Rattle.canonical_abi.proofs.Traces.StoppedTracesAreConfined.{leaves-none}

-- ---- traces one behind the other

pub leads-both : (allocates : Allocation) (es fs : List Event) (s m s' : Memory) → TraceLeads allocates s es m → TraceLeads allocates m fs s' → TraceLeads allocates s (es ++ fs) s'
leads-both allocates [] fs s m s' r q = subst (λ x. TraceLeads allocates x fs s') r q
leads-both allocates (e ∷ es) fs s m s' r q = (r.0, r.1, leads-both allocates es fs r.0 m s' r.2 q)

pub trace-limited : (allocates : Allocation) → KeepsLimit allocates → (es : List Event) (s s' : Memory) → TraceLeads allocates s es s' → IsLimited s → IsLimited s'
trace-limited allocates keeps [] s s' r h = subst IsLimited (sym r) h
trace-limited allocates keeps (node ∷ es) s s' r h = trace-limited allocates keeps es r.0 s' r.2 (subst IsLimited (sym r.1) h)
trace-limited allocates keeps (grant g ∷ es) s s' r h = trace-limited allocates keeps es r.0 s' r.2 (keeps s r.0 g.align g.size (Some g.at) r.1.0 h)
trace-limited allocates keeps (write a bs ∷ es) s s' r h =
    let same : length r.0.bytes ≡ length s.bytes = ap (λ m. length m.bytes) r.1.1 ∙ length-overwrite s.bytes a bs r.1.0 in
    trace-limited allocates keeps es r.0 s' r.2 (omega arith)

pub small : (m : Memory) → IsLimited m → length m.bytes < 2 ^ 32
small m h = omega arith

-- what follows is confined to what was granted before
pub confined-granted : (P Q : ℕ → Type 0) (es fs : List Event) → Confined P es → Confined Q fs → ((x : ℕ) → Q x → P x ⊎ IsGranted es x) → Confined P (es ++ fs)
confined-granted P Q [] fs c d h = confined-more Q P fs (λ x q. elim (h x q) [ inl p ↦ p | inr g ↦ absurd g ]) d
confined-granted P Q (node ∷ es) fs c d h = confined-granted P Q es fs c d h
confined-granted P Q (grant g ∷ es) fs c d h =
    confined-granted (λ x. P x ⊎ IsWithin x g.at g.size) Q es fs c d (λ x q. elim (h x q) [ inl p ↦ inl (inl p) | inr (inl w) ↦ inl (inr w) | inr (inr r) ↦ inr r ])
confined-granted P Q (write a bs ∷ es) fs c d h = (c.0, confined-granted P Q es fs c.1 d h)

-- ---- what a trace leaves as it was

outside-not-granted : (es : List Event) (x : ℕ) → IsOutsideAll (grants_of es) x → IsGranted es x → ⊥
outside-not-granted [] x o g = elim g [ ]
outside-not-granted (node ∷ es) x o g = outside-not-granted es x o g
outside-not-granted (write a bs ∷ es) x o g = outside-not-granted es x o g
outside-not-granted (grant b ∷ es) x o (inl w) = elim o.0 [ inl l ↦ (let h = w.0 in omega arith) | inr l ↦ (let h = w.1 in omega arith) ]
outside-not-granted (grant b ∷ es) x o (inr g) = outside-not-granted es x o.1 g

all-live : (es : List Event) (m : Memory) → ((x : ℕ) → IsGranted es x → m.live x ≡ true) → AreLive (grants_of es) m
all-live [] m h = tt
all-live (node ∷ es) m h = all-live es m h
all-live (write a bs ∷ es) m h = all-live es m h
all-live (grant b ∷ es) m h = ((λ x w. h x (inl w)), all-live es m (λ x g. h x (inr g)))

-- equal bytes at an address inside both
same-byte : (xs ys : List ℕ) (x : ℕ) → x < length xs → length xs ≤ length ys → get_or ys x 0 ≡ get_or xs x 0 → slice_get ys x ≡ slice_get xs x
same-byte xs ys x below long e = slice_get-get_or ys x 0 (omega arith) ∙ ap (λ b. Some b) e ∙ sym (slice_get-get_or xs x 0 below)

-- a trace that a guest went through, confined to a place and to its own blocks
pub record Fine (allocates : Allocation) (P : ℕ → Type 0) (old : Memory) (es : List Event) (new : Memory) : Type 0 where
  pub aligned : AreAligned es
  pub confined : Confined P es
  pub leads : TraceLeads allocates old es new

-- nothing came after a trace, or a request that was refused
abbrev pub Refuses : Allocation → Memory → Memory → Type 0
Refuses allocates mid new = (new ≡ mid) ⊎ ((alignment size : ℕ) × allocates mid alignment size None new)

-- such a trace, and a refusal after it or none
abbrev pub Went : Allocation → (ℕ → Type 0) → Memory → Memory → Type 0
Went allocates P old new = (es : List Event) × (mid : Memory) × Fine allocates P old es mid × Refuses allocates mid new

pub went-by : (allocates : Allocation) (P : ℕ → Type 0) (old : Memory) (es : List Event) (new : Memory) → Fine allocates P old es new → Went allocates P old new
went-by allocates P old es new fine = (es, new, fine, inl refl)

pub went-same : (allocates : Allocation) (P : ℕ → Type 0) (old new : Memory) → new ≡ old → Went allocates P old new
went-same allocates P old new same = ([], old, record { aligned = tt; confined = tt; leads = refl }, inl same)

module _ (allocates : Allocation) (releases : Release) (honest : IsHonest allocates releases) (P : ℕ → Type 0) (old new : Memory) (es : List Event) (fine : Fine allocates P old es new) where
  kept : Keeps old es new
  kept = runs-keep allocates releases honest es old new fine.aligned fine.leads

  not-written : (x : ℕ) → ¬ P x → ¬ IsGranted es x → ¬ IsWritten es x
  not-written x apart out w = elim (own-confined P es fine.confined x w) [ inl n ↦ apart n | inr g ↦ out g ]

  pub stays : (x : ℕ) → x < length old.bytes → ¬ P x → ¬ IsGranted es x → slice_get new.bytes x ≡ slice_get old.bytes x
  stays x below apart out = same-byte old.bytes new.bytes x below kept.no_shorter (kept.same x below out (not-written x apart out))

  -- nothing outside a place that has all of P is changed
  pub keeps-outside : (lent size : ℕ) → ((x : ℕ) → P x → IsWithin x lent size) → KeepsOutside allocates lent size old new
  keeps-outside lent size inside = record {
    events = es;
    granted = (es, leaves-none es, fine.leads);
    unchanged = λ x below out o. stays x below (apart x o) (outside-not-granted es x out);
    live = all-live es new kept.is_live;
    keeps_live = record {
      live = kept.stays_live;
      bytes = λ x is below o. stays x below (apart x o) (λ g. not-both is (kept.was_free x g));
    };
  }
    where
      apart : (x : ℕ) → IsOutside x lent size → ¬ P x
      apart x (inl l) p = let w = inside x p in let h = w.0 in omega arith
      apart x (inr l) p = let w = inside x p in let h = w.1 in omega arith

  pub outside-events : (lent size : ℕ) (inside : (x : ℕ) → P x → IsWithin x lent size) → (keeps-outside lent size inside).events ≡ es
  unfolding keeps-outside
  outside-events lent size inside = refl

-- a refusal of an honest guest changes nothing
pub refuses-same : (allocates : Allocation) (releases : Release) → IsHonest allocates releases → (mid new : Memory) → Refuses allocates mid new → new ≡ mid
refuses-same allocates releases honest mid new (inl same) = same
refuses-same allocates releases honest mid new (inr (alignment, size, full)) = honest.full mid alignment size new full

pub went-fine : (allocates : Allocation) (releases : Release) → IsHonest allocates releases → (P : ℕ → Type 0) (old new : Memory) → Went allocates P old new → (es : List Event) × Fine allocates P old es new
went-fine allocates releases honest P old new (es, mid, fine, after) = (es, subst (λ m. Fine allocates P old es m) (sym (refuses-same allocates releases honest mid new after)) fine)

pub went-outside : (allocates : Allocation) (releases : Release) → IsHonest allocates releases → (P : ℕ → Type 0) (old new : Memory) (lent size : ℕ) → ((x : ℕ) → P x → IsWithin x lent size) → Went allocates P old new
    → KeepsOutside allocates lent size old new
went-outside allocates releases honest P old new lent size inside went =
    let (es, fine) = went-fine allocates releases honest P old new went in keeps-outside allocates releases honest P old new es fine lent size inside
