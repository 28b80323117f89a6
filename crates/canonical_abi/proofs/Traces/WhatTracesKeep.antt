-- What a trace over an honest guest keeps.
use Rattle.std.proofs.Common.{◌≡◌, ◌⊎◌, inl, inr, ℕ, ◌+◌, ◌<◌, ◌≤◌, Bool, true, false, List, [], ◌∷◌, ◌++◌, length, get_or, Some, refl, sym, ◌∙◌, subst, arith}
use Rattle.std.specs.Prelude.{slice_get}
use Rattle.std.proofs.lemmas.Option.{slice_get_within, slice_get-get_or}
use Rattle.std.proofs.lemmas.Bool.{cases_lt}
use Rattle.canonical_abi.specs.Guest.{Memory, Allocation, Release, IsHonest, IsGrant, overwrite, with_bytes, IsWithin, IsOutside}
use Rattle.canonical_abi.specs.Trace.{Grant, Event, node, write, grant, TraceLeads}
use Rattle.canonical_abi.specs.Stands.{AreAligned, IsGranted, IsWritten, Carries, Keeps}
use Rattle.canonical_abi.proofs.Traces.BytesWrittenOver.{same_byte, length-overwrite, overwrite-out, within_or_not}

pub not-true : {b : Bool} → ¬ (b ≡ true) → b ≡ false
not-true {b = true} h = absurd (h refl)
not-true {b = false} h = refl

pub not-both : {b : Bool} → b ≡ true → b ≡ false → ⊥
not-both t f = let e : true ≡ false = sym t ∙ f in cc

-- ---- what was granted and written, of two runs

pub granted-first : (es fs : List Event) (x : ℕ) → IsGranted es x → IsGranted (es ++ fs) x
granted-first [] fs x g = elim g [ ]
granted-first (node ∷ es) fs x g = granted-first es fs x g
granted-first (write a bs ∷ es) fs x g = granted-first es fs x g
granted-first (grant b ∷ es) fs x (inl g) = inl g
granted-first (grant b ∷ es) fs x (inr g) = inr (granted-first es fs x g)

pub granted-second : (es fs : List Event) (x : ℕ) → IsGranted fs x → IsGranted (es ++ fs) x
granted-second [] fs x g = g
granted-second (node ∷ es) fs x g = granted-second es fs x g
granted-second (write a bs ∷ es) fs x g = granted-second es fs x g
granted-second (grant b ∷ es) fs x g = inr (granted-second es fs x g)

pub written-in : (es fs : List Event) (x : ℕ) → IsWritten (es ++ fs) x → IsWritten es x ⊎ IsWritten fs x
written-in [] fs x w = inr w
written-in (node ∷ es) fs x w = written-in es fs x w
written-in (write a bs ∷ es) fs x (inl w) = inl (inl w)
written-in (write a bs ∷ es) fs x (inr w) = elim (written-in es fs x w) [ inl v ↦ inl (inr v) | inr v ↦ inr v ]
written-in (grant g ∷ es) fs x w = written-in es fs x w

pub runs-split : (allocates : Allocation) (es fs : List Event) (s s' : Memory) → TraceLeads allocates s (es ++ fs) s' → (between : Memory) × TraceLeads allocates s es between × TraceLeads allocates between fs s'
runs-split allocates [] fs s s' r = (s, refl, r)
runs-split allocates (e ∷ es) fs s s' r = let p = runs-split allocates es fs r.0 s' r.2 in (p.0, (r.0, r.1, p.1), p.2)

pub carries-both : (m : List ℕ) (es fs : List Event) → Carries m es → Carries m fs → Carries m (es ++ fs)
carries-both m [] fs c d = d
carries-both m (node ∷ es) fs c d = carries-both m es fs c d
carries-both m (write a bs ∷ es) fs c d = (c.0, carries-both m es fs c.1 d)
carries-both m (grant g ∷ es) fs c d = (c.0, carries-both m es fs c.1 d)

pub carries-first : (m : List ℕ) (es fs : List Event) → Carries m (es ++ fs) → Carries m es
carries-first m [] fs c = tt
carries-first m (node ∷ es) fs c = carries-first m es fs c
carries-first m (write a bs ∷ es) fs c = (c.0, carries-first m es fs c.1)
carries-first m (grant g ∷ es) fs c = (c.0, carries-first m es fs c.1)

pub carries-second : (m : List ℕ) (es fs : List Event) → Carries m (es ++ fs) → Carries m fs
carries-second m [] fs c = c
carries-second m (node ∷ es) fs c = carries-second m es fs c
carries-second m (write a bs ∷ es) fs c = carries-second m es fs c.1
carries-second m (grant g ∷ es) fs c = carries-second m es fs c.1

-- what stands stays, where the bytes that were written are as before
pub carries-on : (m m' : List ℕ) (es : List Event) → length m ≤ length m' → ((x : ℕ) → x < length m → IsWritten es x → get_or m' x 0 ≡ get_or m x 0) → Carries m es → Carries m' es
carries-on m m' [] long same c = tt
carries-on m m' (node ∷ es) long same c = carries-on m m' es long same c
carries-on m m' (write a bs ∷ es) long same c =
    let inside = c.0.inside in (
      record { inside = omega arith; same = λ i below. same (a + i) (omega arith) (inl (omega arith, omega arith)) ∙ c.0.same i below },
      carries-on m m' es long (λ x h w. same x h (inr w)) c.1,
    )
carries-on m m' (grant g ∷ es) long same c = ((c.0.0, let inside = c.0.1 in omega arith), carries-on m m' es long same c.1)

-- ---- alignments of the blocks

pub aligned-both : (es fs : List Event) → AreAligned es → AreAligned fs → AreAligned (es ++ fs)
aligned-both [] fs a b = b
aligned-both (node ∷ es) fs a b = aligned-both es fs a b
aligned-both (write at part ∷ es) fs a b = aligned-both es fs a b
aligned-both (grant g ∷ es) fs a b = (a.0, aligned-both es fs a.1 b)

pub aligned-first : (es fs : List Event) → AreAligned (es ++ fs) → AreAligned es
aligned-first [] fs a = tt
aligned-first (node ∷ es) fs a = aligned-first es fs a
aligned-first (write at part ∷ es) fs a = aligned-first es fs a
aligned-first (grant g ∷ es) fs a = (a.0, aligned-first es fs a.1)

pub aligned-second : (es fs : List Event) → AreAligned (es ++ fs) → AreAligned fs
aligned-second [] fs a = a
aligned-second (node ∷ es) fs a = aligned-second es fs a
aligned-second (write at part ∷ es) fs a = aligned-second es fs a
aligned-second (grant g ∷ es) fs a = aligned-second es fs a.1

-- an honest guest's memory gets no shorter by a grant
pub grant-longer : (old new : Memory) (align size at : ℕ) → IsGrant old align size at new → length old.bytes ≤ length new.bytes
grant-longer old new align size at g = elim (cases_lt (length new.bytes) (length old.bytes)) [
  | inl l ↦ elim (within_or_not (length new.bytes) at size) [
    | inl w ↦ absurd (omega (arith, w.1, g.inside))
    | inr o ↦
        let was : slice_get old.bytes (length new.bytes) ≡ Some (get_or old.bytes (length new.bytes) 0) = slice_get-get_or old.bytes (length new.bytes) 0 l in
        absurd (omega (arith, slice_get_within new.bytes (length new.bytes) (get_or old.bytes (length new.bytes) 0) (g.same_outside (length new.bytes) l o ∙ was)))
  ]
  | inr q ↦ q
]

-- ---- what a run keeps

module _ (allocates : Allocation) (releases : Release) (honest : IsHonest allocates releases) where
  after-write : (a : ℕ) (bs : List ℕ) (es : List Event) (s s' : Memory) → a + length bs ≤ length s.bytes → Keeps (with_bytes s (overwrite s.bytes a bs)) es s' → Keeps s (write a bs ∷ es) s'
  after-write a bs es s s' inside k =
      let e = length-overwrite s.bytes a bs inside in
      record {
        no_shorter = let h = k.no_shorter in omega arith;
        stays_live = k.stays_live;
        was_free = k.was_free;
        is_live = k.is_live;
        same = λ x below g w. k.same x (omega arith) g (λ v. w (inr v)) ∙ overwrite-out s.bytes a bs inside x (λ v. w (inl v));
      }

  after-grant : (b : Grant) (es : List Event) (s m s' : Memory) → IsGrant s b.align b.size b.at m → length s.bytes ≤ length m.bytes → Keeps m es s' → Keeps s (grant b ∷ es) s'
  after-grant b es s m s' g long k = record {
    no_shorter = let h = k.no_shorter in omega arith;
    stays_live = λ x l. k.stays_live x (g.stays_live x l);
    was_free = λ x w. elim w [ inl i ↦ g.was_free x i | inr i ↦ not-true (λ l. not-both (g.stays_live x l) (k.was_free x i)) ];
    is_live = λ x w. elim w [ inl i ↦ k.stays_live x (g.is_live x i) | inr i ↦ k.is_live x i ];
    same = λ x below out w. k.same x (omega arith) (λ i. out (inr i)) w ∙ same_byte m.bytes s.bytes x (g.same_outside x below (outside x (λ i. out (inl i))));
  }
    where
      outside : (x : ℕ) → ¬ IsWithin x b.at b.size → IsOutside x b.at b.size
      outside x out = elim (within_or_not x b.at b.size) [ inl i ↦ absurd (out i) | inr i ↦ i ]

  after-node : (es : List Event) (s s' : Memory) → Keeps s es s' → Keeps s (node ∷ es) s'
  after-node es s s' k = record { no_shorter = k.no_shorter; stays_live = k.stays_live; was_free = k.was_free; is_live = k.is_live; same = k.same }

  pub runs-keep : (es : List Event) (s s' : Memory) → AreAligned es → TraceLeads allocates s es s' → Keeps s es s'
  runs-keep [] s s' al r = subst (λ m. Keeps s [] m) (sym r) (record { no_shorter = omega arith; stays_live = λ x l. l; was_free = λ x g. absurd g; is_live = λ x g. absurd g; same = λ x below g w. refl })
  runs-keep (node ∷ es) s s' al r = after-node es s s' (runs-keep es s s' al (subst (λ m. TraceLeads allocates m es s') r.1 r.2))
  runs-keep (write a bs ∷ es) s s' al r = after-write a bs es s s' r.1.0 (runs-keep es _ s' al (subst (λ m. TraceLeads allocates m es s') r.1.1 r.2))
  runs-keep (grant b ∷ es) s s' al r =
      let g = honest.granted s b.align b.size b.at r.0 al.0 r.1.0 in
      after-grant b es s r.0 s' g (grant-longer s r.0 b.align b.size b.at g) (runs-keep es r.0 s' al.1 r.2)
