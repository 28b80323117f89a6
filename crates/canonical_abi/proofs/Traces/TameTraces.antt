-- What a trace over a tame guest keeps, and the trace of an honest guest that it stands for: one from a memory with the same live bytes, by the
-- same events and to the same memory.
use Rattle.std.proofs.Common.{◌≡◌, ◌⊎◌, inl, inr, ℕ, ◌+◌, ◌-◌, ◌<◌, ◌≤◌, true, List, [], ◌∷◌, length, get_or, drop, Some, refl, sym, ap, ◌∙◌, subst, arith, length-drop, None, ◌++◌}
use Rattle.std.specs.Prelude.{slice_get, slice_range}
use Rattle.std.proofs.lemmas.List.{ext_get_or, get_or-take, get_or-drop, length-take-le}
use Rattle.std.proofs.lemmas.Option.{slice_get-get_or}
use Rattle.canonical_abi.specs.AnyHonest.{AnyGrant, AnyRelease}
use Rattle.canonical_abi.specs.Guest.{Memory, Allocation, Release, IsHonest, IsGrant, IsWithin, IsOutside, IsAlignment, overwrite, with_bytes}
use Rattle.canonical_abi.specs.Trace.{Event, node, write, grant, TraceLeads, RequestFails, Grant, LeavesOutWrites}
use Rattle.canonical_abi.specs.Stands.{AreAligned}
use Rattle.canonical_abi.specs.Call.{either, Breaks}
use Rattle.canonical_abi.specs.Session.{TypedTraceBreaks, TypedRequestFails}
use Rattle.canonical_abi.specs.Tame.{LeavesLive, IsTame}
use Rattle.canonical_abi.specs.declared.trap.TrapKind.{TrapKind}
use Rattle.canonical_abi.specs.declared.trap.TrapKind.TheVariants as trap
use Rattle.canonical_abi.proofs.Traces.BytesWrittenOver.{same_byte, length-overwrite, overwrite-in, overwrite-out, within_or_not, slice-of}
use Rattle.canonical_abi.proofs.Traces.WhatTracesKeep.{not-both, aligned-first, aligned-second}
use Rattle.canonical_abi.proofs.StoredValues.WritesOwnPlaceAndBlocks.{Confined, confined-front}
use Rattle.canonical_abi.proofs.Traces.StoppedTracesAreConfined.{confined-left, aligned-left}
use Rattle.canonical_abi.proofs.Traces.ConfinedTraces.{Fine, Refuses, Went}

-- equal bytes at an address inside both
byte-of : (xs ys : List ℕ) (x : ℕ) → x < length xs → length xs ≤ length ys → get_or ys x 0 ≡ get_or xs x 0 → slice_get ys x ≡ slice_get xs x
byte-of xs ys x below long e = slice_get-get_or ys x 0 (omega arith) ∙ ap (λ b. Some b) e ∙ sym (slice_get-get_or xs x 0 below)

-- ---- live bytes that stay

pub leaves-same : (lent size : ℕ) (m : Memory) → LeavesLive lent size m m
leaves-same lent size m = record { no_shorter = omega arith; live = λ a l. l; bytes = λ a l below out. refl }

leaves-then : (lent size : ℕ) (old mid new : Memory) → LeavesLive lent size old mid → LeavesLive 0 0 mid new → LeavesLive lent size old new
leaves-then lent size old mid new k l = record {
  no_shorter = let h = k.no_shorter in let i = l.no_shorter in omega arith;
  live = λ a is. l.live a (k.live a is);
  bytes = λ a is below out. l.bytes a (k.live a is) (let h = k.no_shorter in omega arith) (inr (omega arith)) ∙ k.bytes a is below out;
}

byte-left : (old new : Memory) → LeavesLive 0 0 old new → (a : ℕ) → old.live a ≡ true → a < length old.bytes → slice_get new.bytes a ≡ slice_get old.bytes a
byte-left old new k a is below = k.bytes a is below (inr (omega arith))

-- the weakest honest guest
pub any-is-honest : IsHonest AnyGrant AnyRelease
any-is-honest = record {
  granted = λ old align size at new is step. step;
  full = λ old align size new step. step;
  taken = λ old at size new step. step;
  not_taken = λ old at size new step. step;
}

-- ---- bytes of a part that is put back

part-size : (m : List ℕ) (a n : ℕ) → a + n ≤ length m → length (slice_range m a (a + n)) ≡ n
part-size m a n fits = let e : a + n - a ≡ n = omega arith in rw e (length-take-le n (drop a m) (omega (arith, length-drop a m)))

part-byte : (m : List ℕ) (a n i : ℕ) → i < n → get_or (slice_range m a (a + n)) i 0 ≡ get_or m (a + i) 0
part-byte m a n i h = let e : a + n - a ≡ n = omega arith in rw e (get_or-take n (drop a m) i 0 h ∙ get_or-drop a m i 0)

-- equal bytes make equal parts
same-part : (m n : List ℕ) (a k : ℕ) → a + k ≤ length m → length m ≤ length n → ((x : ℕ) → IsWithin x a k → slice_get n x ≡ slice_get m x) → slice_range n a (a + k) ≡ slice_range m a (a + k)
same-part m n a k fits long same =
    slice-of n a (slice_range m a (a + k)) k (part-size m a k fits) (record {
      inside = omega (arith, part-size m a k fits);
      same = λ i below. let less : i < k = omega (arith, part-size m a k fits) in same_byte n m (a + i) (same (a + i) (omega arith, omega arith)) ∙ sym (part-byte m a k i less);
    })

-- a part that is written over and put back
over-again : (m n bs : List ℕ) (a : ℕ) → a + length bs ≤ length m → length m ≤ length n → ((x : ℕ) → IsWithin x a (length bs) → slice_get n x ≡ slice_get (overwrite m a bs) x)
    → overwrite (overwrite n a (slice_range m a (a + length bs))) a bs ≡ n
over-again m n bs a fits long same =
    let part = slice_range m a (a + length bs) in
    let size : length part ≡ length bs = part-size m a (length bs) fits in
    let fits_n : a + length part ≤ length n = omega (arith, size) in
    let one : length (overwrite n a part) ≡ length n = length-overwrite n a part fits_n in
    let fits_o : a + length bs ≤ length (overwrite n a part) = omega (arith, one) in
    ext_get_or 0 (overwrite (overwrite n a part) a bs) n (length-overwrite (overwrite n a part) a bs fits_o ∙ one) (λ x below. elim (within_or_not x a (length bs)) [
      | inl w ↦
          let back : a + (x - a) ≡ x = let h = w.0 in omega arith in
          let less : x - a < length bs = let h = w.0 in let g = w.1 in omega arith in
          ap (λ y. get_or (overwrite (overwrite n a part) a bs) y 0) (sym back) ∙ overwrite-in (overwrite n a part) a bs fits_o (x - a) less
          ∙ sym (overwrite-in m a bs fits (x - a) less) ∙ ap (λ y. get_or (overwrite m a bs) y 0) back ∙ sym (same_byte n (overwrite m a bs) x (same x w))
      | inr o ↦
          let out : ¬ IsWithin x a (length bs) = λ w. apart x a (length bs) o w in
          overwrite-out (overwrite n a part) a bs fits_o x out ∙ overwrite-out n a part fits_n x (λ w. out (w.0, let h = w.1 in omega (arith, size)))
    ])
  where
    apart : (x at k : ℕ) → IsOutside x at k → IsWithin x at k → ⊥
    apart x at k (inl l) w = let h = w.0 in absurd (omega arith)
    apart x at k (inr l) w = let h = w.1 in absurd (omega arith)

module _ (allocates : Allocation) (releases : Release) (tame : IsTame allocates releases) where
  -- ---- what a trace leaves

  pub trace-leaves : (P : ℕ → Type 0) (es : List Event) (old new : Memory) → AreAligned es → Confined P es → TraceLeads allocates old es new
      → (length old.bytes ≤ length new.bytes) × ((x : ℕ) → old.live x ≡ true → (new.live x ≡ true) × (x < length old.bytes → ¬ P x → slice_get new.bytes x ≡ slice_get old.bytes x))
  trace-leaves P [] old new al c r = subst (λ m. (length old.bytes ≤ length m.bytes) × ((x : ℕ) → old.live x ≡ true → (m.live x ≡ true) × (x < length old.bytes → ¬ P x → slice_get m.bytes x ≡ slice_get old.bytes x))) (sym r)
      (omega arith, λ x is. (is, λ below out. refl))
  trace-leaves P (node ∷ es) old new al c r = trace-leaves P es old new al c (subst (λ m. TraceLeads allocates m es new) r.1 r.2)
  trace-leaves P (grant g ∷ es) old new al c r =
      let t = tame.granted old g.align g.size g.at r.0 al.0 r.1.0 in
      let long = t.leaves.no_shorter in
      let rest = trace-leaves (λ x. P x ⊎ IsWithin x g.at g.size) es r.0 new al.1 c r.2 in (
        (let h = rest.0 in omega arith),
        λ x is. (
          (rest.1 x (t.leaves.live x is)).0,
          λ below out. (rest.1 x (t.leaves.live x is)).1 (omega arith) (λ i. elim i [ inl p ↦ out p | inr w ↦ not-both is (t.was_free x w) ]) ∙ byte-left old r.0 t.leaves x is below,
        ),
      )
  trace-leaves P (write a bs ∷ es) old new al c r =
      let fits = r.1.0 in
      let size = length-overwrite old.bytes a bs fits in
      let rest = trace-leaves P es (with_bytes old (overwrite old.bytes a bs)) new al c.1 (subst (λ m. TraceLeads allocates m es new) r.1.1 r.2) in (
        (let h = rest.0 in omega arith),
        λ x is. (
          (rest.1 x is).0,
          λ below out. (rest.1 x is).1 (omega arith) out ∙ byte-of old.bytes (overwrite old.bytes a bs) x below (omega arith) (overwrite-out old.bytes a bs fits x (λ w. out (c.0 x w))),
        ),
      )

  pub refuses-leaves : (mid new : Memory) → Refuses allocates mid new → LeavesLive 0 0 mid new
  refuses-leaves mid new (inl same) = subst (λ m. LeavesLive 0 0 mid m) (sym same) (leaves-same 0 0 mid)
  refuses-leaves mid new (inr (alignment, n, full)) = tame.full mid alignment n new full

  -- where it went through a trace that is confined to a place and to its own blocks, and through a refusal after it or none
  pub went-leaves : (P : ℕ → Type 0) (old new : Memory) (lent size : ℕ) → ((x : ℕ) → P x → IsWithin x lent size) → Went allocates P old new → LeavesLive lent size old new
  went-leaves P old new lent size inside (es, mid, fine, after) =
      let t = trace-leaves P es old mid fine.aligned fine.confined fine.leads in
      leaves-then lent size old mid new (record { no_shorter = t.0; live = λ a is. (t.1 a is).0; bytes = λ a is below out. (t.1 a is).1 below (apart a out) }) (refuses-leaves mid new after)
    where
      apart : (x : ℕ) → IsOutside x lent size → ¬ P x
      apart x (inl l) p = let w = inside x p in let h = w.0 in omega arith
      apart x (inr l) p = let w = inside x p in let h = w.1 in omega arith

  -- ---- the honest trace that it stands for

  -- where only live bytes are written: the weakest honest guest goes from a memory that has all live bytes of the old, by these events, to the
  -- new one, or to one with all live bytes of that
  as-honest : (P : ℕ → Type 0) (es : List Event) (old new target : Memory) → AreAligned es → Confined P es → ((x : ℕ) → P x → old.live x ≡ true)
      → TraceLeads allocates old es new → LeavesLive 0 0 new target → (m : Memory) × LeavesLive 0 0 old m × TraceLeads AnyGrant m es target
  as-honest P [] old new target al c live r t = (target, subst (λ m. LeavesLive 0 0 m target) r t, refl)
  as-honest P (node ∷ es) old new target al c live r t =
      let (m, left, leads) = as-honest P es old new target al c live (subst (λ n. TraceLeads allocates n es new) r.1 r.2) t in
      (m, left, (m, refl, leads))
  as-honest P (grant g ∷ es) old new target al c live r t =
      let is = tame.granted old g.align g.size g.at r.0 al.0 r.1.0 in
      let (m, left, leads) = as-honest (λ x. P x ⊎ IsWithin x g.at g.size) es r.0 new target al.1 c (λ x i. elim i [ inl p ↦ is.leaves.live x (live x p) | inr w ↦ is.is_live x w ]) r.2 t in
      let inside : g.at + g.size ≤ length m.bytes = let h = is.inside in let j = left.no_shorter in omega arith in
      let before : Memory = record { bytes = m.bytes; live = old.live; state = [] } in
      let part : slice_range m.bytes g.at (g.at + g.size) ≡ slice_range r.0.bytes g.at (g.at + g.size) =
      same-part r.0.bytes m.bytes g.at g.size is.inside left.no_shorter (λ x w. byte-left r.0 m left x (is.is_live x w) (let h = is.inside in let j = w.1 in omega arith)) in
      let granted : IsGrant before g.align g.size g.at m = record {
        aligned = is.aligned;
        inside = inside;
        was_free = is.was_free;
        is_live = λ a w. left.live a (is.is_live a w);
        stays_live = λ a l. left.live a (is.leaves.live a l);
        same_outside = λ a below out. refl;
        added = λ a past below out. absurd (omega arith);
      } in (
        before,
        leaves-again old r.0 m is.leaves left,
        (m, (granted, record { aligned = is.aligned; inside = inside }, r.1.2 ∙ sym part), leads),
      )
    where
      leaves-again : (old mid m : Memory) → LeavesLive 0 0 old mid → LeavesLive 0 0 mid m → LeavesLive 0 0 old (record { bytes = m.bytes; live = old.live; state = [] })
      leaves-again old mid m k l = let whole = leaves-then 0 0 old mid m k l in record { no_shorter = whole.no_shorter; live = λ a i. i; bytes = whole.bytes }
  as-honest P (write a bs ∷ es) old new target al c live r t =
      let fits = r.1.0 in
      let over = overwrite old.bytes a bs in
      let size : length over ≡ length old.bytes = length-overwrite old.bytes a bs fits in
      let (m, left, leads) = as-honest P es (with_bytes old over) new target al c.1 live (subst (λ n. TraceLeads allocates n es new) r.1.1 r.2) t in
      let long : length old.bytes ≤ length m.bytes = let h = left.no_shorter in omega (arith, size) in
      let part = slice_range old.bytes a (a + length bs) in
      let part_size : length part ≡ length bs = part-size old.bytes a (length bs) fits in
      let fits_m : a + length part ≤ length m.bytes = omega (arith, part_size) in
      let size_m : length (overwrite m.bytes a part) ≡ length m.bytes = length-overwrite m.bytes a part fits_m in
      let again : overwrite (overwrite m.bytes a part) a bs ≡ m.bytes =
      over-again old.bytes m.bytes bs a fits long (λ x w. byte-left (with_bytes old over) m left x (live x (c.0 x w)) (let h = w.1 in omega (arith, size))) in (
        with_bytes m (overwrite m.bytes a part),
        record {
          no_shorter = omega (arith, size_m);
          live = left.live;
          bytes = λ x is below out. byte-of old.bytes (overwrite m.bytes a part) x below (omega (arith, size_m)) (elim (within_or_not x a (length bs)) [
            | inl w ↦
                let back : a + (x - a) ≡ x = let h = w.0 in omega arith in
                let less : x - a < length bs = let h = w.0 in let g = w.1 in omega arith in
                ap (λ y. get_or (overwrite m.bytes a part) y 0) (sym back) ∙ overwrite-in m.bytes a part fits_m (x - a) (omega (arith, part_size)) ∙ part-byte old.bytes a (length bs) (x - a) less
                ∙ ap (λ y. get_or old.bytes y 0) back
            | inr o ↦
                let out_m : ¬ IsWithin x a (length part) = λ w. apart x o (w.0, let h = w.1 in omega (arith, part_size)) in
                overwrite-out m.bytes a part fits_m x out_m ∙ same_byte m.bytes over x (byte-left (with_bytes old over) m left x is (omega (arith, size))) ∙ overwrite-out old.bytes a bs fits x (apart x o)
          ]);
        },
        (m, ((let h = fits_m in omega (arith, part_size, size_m)), ap (with_bytes m) (sym again)), leads),
      )
    where
      apart : (x : ℕ) → IsOutside x a (length bs) → IsWithin x a (length bs) → ⊥
      apart x (inl l) w = let h = w.0 in absurd (omega arith)
      apart x (inr l) w = let h = w.1 in absurd (omega arith)

  -- the weakest honest guest goes so to the new memory itself, if the place is live
  pub calm-trace : (P : ℕ → Type 0) (es : List Event) (old new : Memory) → ((x : ℕ) → P x → old.live x ≡ true) → Fine allocates P old es new → (m : Memory) × LeavesLive 0 0 old m × TraceLeads AnyGrant m es new
  calm-trace P es old new live fine = as-honest P es old new new fine.aligned fine.confined live fine.leads (leaves-same 0 0 new)

  -- ---- requests that fail

  -- such a request was refused
  pub request-refused : (old : Memory) (alignment n : ℕ) (k : TrapKind) (new : Memory) → IsAlignment alignment → RequestFails allocates old alignment n k new → (k ≡ trap.Full) × allocates old alignment n None new
  request-refused old alignment n trap.Full new al r = (refl, r)
  request-refused old alignment n trap.Align new al (at, r, bad) = absurd (bad (tame.granted old alignment n at new al r).aligned)
  request-refused old alignment n trap.Bounds new al (at, r, ok, bad) = let inside = (tame.granted old alignment n at new al r).inside in absurd (omega arith)
  request-refused old alignment n k new al r = absurd r

  typed-refused : (old : Memory) (alignment n : ℕ) (k : TrapKind) (new : Memory) → IsAlignment alignment → TypedRequestFails allocates old alignment n k new → ((k ≡ trap.Full) ⊎ (k ≡ trap.Bounds)) × Refuses allocates old new
  typed-refused old alignment n k new al (inl r) = (inr r.1, inl r.2)
  typed-refused old alignment n k new al (inr r) = let refused = request-refused old alignment n k new al r.1 in (inl refused.0, inr (alignment, n, refused.1))

  -- what was made of a trace up to a request that failed
  made-went : (P : ℕ → Type 0) (old : Memory) (es done made rest : List Event) (next : Grant) (asked new : Memory) → AreAligned es → Confined P es → es ≡ done ++ grant next ∷ rest → LeavesOutWrites done made
      → TraceLeads allocates old made asked → Refuses allocates asked new → Went allocates P old new
  made-went P old es done made rest next asked new al c is left leads refuses = (
    made,
    asked,
    record {
      aligned = aligned-left done made left (aligned-first done (grant next ∷ rest) (subst AreAligned is al));
      confined = confined-left P done made left (confined-front P done (grant next ∷ rest) (subst (Confined P) is c));
      leads = leads;
    },
    refuses,
  )

  next-aligned : (es done rest : List Event) (next : Grant) → AreAligned es → es ≡ done ++ grant next ∷ rest → IsAlignment next.align
  next-aligned es done rest next al is = (aligned-second done (grant next ∷ rest) (subst AreAligned is al)).0

  -- a trace that breaks went as far as the request that was refused
  pub broken : (P : ℕ → Type 0) (old : Memory) (es : List Event) (k : TrapKind) (new : Memory) → AreAligned es → Confined P es → Breaks either allocates old es k new → Went allocates P old new × (k ≡ trap.Full)
  broken P old es k new al c (done, made, rest, next, asked, is, left, leads, fails) =
      let refused = request-refused asked next.align next.size k new (next-aligned es done rest next al is) fails in
      (made-went P old es done made rest next asked new al c is left leads (inr (next.align, next.size, refused.1)), refused.0)

  pub typed-broken : (P : ℕ → Type 0) (old : Memory) (es : List Event) (k : TrapKind) (new : Memory) → AreAligned es → Confined P es → TypedTraceBreaks allocates old es k new
      → Went allocates P old new × ((k ≡ trap.Full) ⊎ (k ≡ trap.Bounds))
  typed-broken P old es k new al c (done, made, rest, next, asked, is, within, left, leads, fails) =
      let refused = typed-refused asked next.align next.size k new (next-aligned es done rest next al is) fails in
      (made-went P old es done made rest next asked new al c is left leads refused.1, refused.0)
