-- An allocator with headers answers in one way, and is told nothing by the bytes that are live: each note that it reads is in addresses that are not.
use Rattle.std.proofs.Common.{◌≡◌, ◌⊎◌, inl, inr, ◌+◌, ◌-◌, ◌*◌, ◌/◌, ◌%◌, ◌<◌, ◌≤◌, ℕ, zero, suc, Bool, true, false, List, [], ◌∷◌, ◌++◌, length, drop, Option, Some, None, refl, sym, ap, ◌∙◌, subst, arith}
use Rattle.std.specs.Prelude.{slice_get, max, ◌||◌}
use Rattle.std.specs.Int.{w32, from_le_bytes, to_le_bytes}
use Rattle.std.proofs.lemmas.Bool.{cases_lt}
use mathlib.Core.Path.{fun_ext}
use Rattle.canonical_abi.specs.Guest.{Memory, Allocation, IsAlignment, IsWithin, IsOutside, overwrite, rounded_to_eight, with_bytes}
use Rattle.canonical_abi.specs.Reading.{number_at}
use Rattle.canonical_abi.specs.TameValues.{SameButLive, IgnoresLive}
use Rattle.canonical_abi.specs.Told.{AllocatesInOneWay}
use Rattle.canonical_abi.proofs.ReadValues.FramesReading.{take-same}
use Rattle.canonical_abi.proofs.Traces.BytesWrittenOver.{length-le_bytes, within_or_not}
use Rattle.canonical_abi.proofs.Traces.TracesLeaveImages.{slice_get-drop, byte_over-within, overwrite-get}
use Rattle.memory.specs.FirstFit.{TakesBlock, is_address_within}
use Rattle.memory.specs.Growth.{with_pages, IsLeastGrowth, ReachesEnd}
use Rattle.memory.specs.GrowthLaws.{length-with_pages, same_bytes, zero_bytes}
use Rattle.memory.specs.Headers.{word, with_word, top, HasNotes, IsFree, HasRoom, HasTop, Leads, LeadsTo, TakesListed, TakesTop, HeadersAllocates}
use Rattle.memory.specs.HeadersLaws.{led, same_length, beside, link_fits}

-- ---- what is read of two memories that are the same but for what is live

number_same : (m n : List ℕ) (at : ℕ) → ((x : ℕ) → IsWithin x at 4 → slice_get m x ≡ slice_get n x) → number_at m at w32 ≡ number_at n at w32
unfolding number_at
number_same m n at h =
    ap (λ bs. from_le_bytes w32 bs) (take-same (at + 4 - at) (drop at n) (drop at m)
    (λ i q. slice_get-drop at m i ∙ h (at + i) (omega arith, omega (arith, q)) ∙ sym (slice_get-drop at n i)))

turned : (m n : Memory) → SameButLive m n → SameButLive n m
turned m n s = record {
  same_length = sym s.same_length;
  same_live = λ a. sym (s.same_live a);
  same_state = sym s.same_state;
  same_notes = λ a h. sym (s.same_notes a (s.same_live a ∙ h));
}

module _ (m n : Memory) (s : SameButLive m n) where
  same_word : (at : ℕ) → ((x : ℕ) → IsWithin x at 4 → m.live x ≡ false) → word m at ≡ word n at
  same_word at free = number_same m.bytes n.bytes at (λ x w. s.same_notes x (free x w))

  same_note : HasNotes m → (at : ℕ) → at + 4 ≤ 16 → word m at ≡ word n at
  same_note notes at low = same_word at (λ x w. notes.free x (omega (arith, w.1)))

  same_link : HasNotes m → (link : ℕ) → (link ≡ 8) ⊎ IsFree m link 8 → word m link ≡ word n link
  same_link notes link (inl is) = same_note notes link (omega arith)
  same_link notes link (inr free) = same_word link (λ x w. free.free x (omega (arith, w.0)) (omega (arith, w.1)))

  free_too : (at size : ℕ) → IsFree m at size → IsFree n at size
  free_too at size f = record {
    unit = f.unit;
    behind = f.behind;
    inside = omega (arith, f.inside, s.same_length);
    free = λ a low high. sym (s.same_live a) ∙ f.free a low high;
  }

  same_size : (at size : ℕ) → IsFree m at size → word m (at - 8) ≡ word n (at - 8)
  same_size at size f = same_word (at - 8) (λ x w. f.free x (omega (arith, w.0)) (omega (arith, w.1, f.behind)))

  room_too : (at size : ℕ) → HasRoom m at size → HasRoom n at size
  room_too at size r = record { told = subst (λ w. size ≤ w) (same_size at size r.block) r.told; block = free_too at size r.block }

  same_top : HasNotes m → top m ≡ top n
  same_top notes = ap (λ w. max w 16) (same_note notes 12 (omega arith))

  top_too : HasNotes m → (most size : ℕ) → HasTop m most size → HasTop n most size
  top_too notes most size h =
      let is = same_top notes in
      record {
        unit = subst (λ t. t % 8 ≡ 0) is h.unit;
        within = subst (λ t. t + 8 + size ≤ most) is h.within;
        free = λ a low high. sym (s.same_live a) ∙ h.free a (omega (arith, low, is)) (omega (arith, high, is));
      }

leads_too : (m n : Memory) → SameButLive m n → HasNotes m → (size steps link found : ℕ) → (link ≡ 8) ⊎ IsFree m link 8 → Leads m size steps link found → Leads n size steps link found
leads_too m n s notes size zero link found from leads = leads
leads_too m n s notes size (suc steps) link found from (free, inl (room, is)) =
    subst (λ at. IsFree n at 8 × ((HasRoom n at size × (found ≡ link)) ⊎ ((word n (at - 8) < size) × Leads n size steps at found))) (same_link m n s notes link from)
    (free_too m n s (word m link) 8 free, inl (room_too m n s (word m link) size room, is))
leads_too m n s notes size (suc steps) link found from (free, inr (less, more)) =
    subst (λ at. IsFree n at 8 × ((HasRoom n at size × (found ≡ link)) ⊎ ((word n (at - 8) < size) × Leads n size steps at found))) (same_link m n s notes link from)
    (free_too m n s (word m link) 8 free, inr (subst (λ w. w < size) (same_size m n s (word m link) 8 free) less, leads_too m n s notes size steps (word m link) found (inr free) more))

one_found : (m : Memory) (size steps link f g : ℕ) → Leads m size steps link f → Leads m size steps link g → f ≡ g
one_found m size zero link f g p q = absurd p
one_found m size (suc steps) link f g (free, inl (room, is)) (free', inl (room', is')) = is ∙ sym is'
one_found m size (suc steps) link f g (free, inl (room, is)) (free', inr (less, more)) = absurd (omega (arith, less, room.told))
one_found m size (suc steps) link f g (free, inr (less, more)) (free', inl (room, is)) = absurd (omega (arith, less, room.told))
one_found m size (suc steps) link f g (free, inr (less, more)) (free', inr (less', more')) = one_found m size steps (word m link) f g more more'

leads_to_too : (m n : Memory) → SameButLive m n → HasNotes m → (size found : ℕ) → LeadsTo m size found → LeadsTo n size found
leads_to_too m n s notes size found leads =
    subst (λ k. Leads n size (k / 8) 8 found) s.same_length (leads_too m n s notes size (length m.bytes / 8) 8 found (inl refl) leads)

-- ---- what is written of two such memories

-- a word over bytes that are alike at an address leaves them alike there
word_over : (m n : List ℕ) (at x y a : ℕ) → at + 4 ≤ length m → at + 4 ≤ length n → x ≡ y → slice_get m a ≡ slice_get n a
    → slice_get (overwrite m at (to_le_bytes w32 x)) a ≡ slice_get (overwrite n at (to_le_bytes w32 y)) a
word_over m n at x y a fits too same alike = elim (within_or_not a at 4) [
  | inl w ↦
      let p = w.0 in
      let q = w.1 in
      overwrite-get m (to_le_bytes w32 x) at a (omega (arith, length-le_bytes w32 x))
      ∙ byte_over-within at (to_le_bytes w32 x) a (slice_get m a) p (omega (arith, length-le_bytes w32 x))
      ∙ ap (λ z. slice_get (to_le_bytes w32 z) (a - at)) same
      ∙ sym (byte_over-within at (to_le_bytes w32 y) a (slice_get n a) p (omega (arith, length-le_bytes w32 y)))
      ∙ sym (overwrite-get n (to_le_bytes w32 y) at a (omega (arith, length-le_bytes w32 y)))
  | inr out ↦ beside m at x fits a out ∙ alike ∙ sym (beside n at y too a out)
]

-- what is not live after a block was taken was not live before
was_free : (m : Memory) (at size : ℕ) (new : Memory) → TakesBlock m at size new → (a : ℕ) → new.live a ≡ false → m.live a ≡ false
was_free m at size new t a h = first (m.live a) (is_address_within a at size) (sym (t.live a) ∙ h)
  where
    first : (x y : Bool) → (x || y) ≡ false → x ≡ false
    first true y e = e
    first false y e = refl

get_past : (xs : List ℕ) (i : ℕ) → length xs ≤ i → slice_get xs i ≡ None
get_past [] i h = refl
get_past (x ∷ xs) zero h = absurd (omega arith)
get_past (x ∷ xs) (suc i) h = get_past xs i (omega arith)

-- bytes that grow by the same pages are alike where they were, and behind that
pages_alike : (m n : List ℕ) (p x : ℕ) → length m ≡ length n → (x < length m → slice_get m x ≡ slice_get n x) → slice_get (with_pages m p) x ≡ slice_get (with_pages n p) x
pages_alike m n p x same alike =
    let long = length-with_pages m p in
    let tall = length-with_pages n p in
    elim (cases_lt x (length m)) [
      | inl l ↦ same_bytes m p x l ∙ alike l ∙ sym (same_bytes n p x (omega (arith, l, same)))
      | inr g ↦ elim (cases_lt x (length (with_pages m p))) [
        | inl l ↦ zero_bytes m p x g l ∙ sym (zero_bytes n p x (omega (arith, g, same)) (omega (arith, l, same)))
        | inr h ↦ get_past (with_pages m p) x h ∙ sym (get_past (with_pages n p) x (omega (arith, h, same)))
      ]
    ]

one_growth : (len most : ℕ) (E : ℕ → Type 0) (p q : ℕ) → IsLeastGrowth len most E p → IsLeastGrowth len most E q → p ≡ q
one_growth len most E p q g h = elim (cases_lt p q) [
  | inl l ↦ absurd (h.least p l g.enough)
  | inr k ↦ elim (cases_lt q p) [
    | inl l ↦ absurd (g.least q l h.enough)
    | inr j ↦ omega (arith, k, j)
  ]
]

first_of_state : {x y : ℕ} → x ∷ [] ≡ y ∷ [] → x ≡ y
first_of_state e = cc

-- ---- grants

module _ (m n : Memory) (s : SameButLive m n) (notes : HasNotes m) (size a b : ℕ) (m' n' : Memory) where
  one_link : (p : TakesListed m size a m') (q : TakesListed n size b n') → p.link ≡ q.link
  one_link p q = one_found n size (length n.bytes / 8) 8 p.link q.link (leads_to_too m n s notes size p.link p.leads) q.leads

  listed_alike : 8 ≤ size → TakesListed m size a m' → TakesListed n size b n' → (a ≡ b) × SameButLive m' n'
  listed_alike some p q =
      let link = one_link p q in
      let l = led m size (length m.bytes / 8) 8 p.link p.leads (inl refl) in
      let same : a ≡ b = p.there ∙ same_link m n s notes p.link l.0 ∙ ap (word n) link ∙ sym q.there in
      let free : IsFree m a size = subst (λ t. IsFree m t size) (sym p.there) l.1.block in
      let next : word m a ≡ word n b = same_word m n s a (λ x w. free.free x (omega (arith, w.0)) (omega (arith, w.1))) ∙ ap (word n) same in
      let fits : p.link + 4 ≤ length m.bytes = link_fits m notes p.link l.0 in
      let too : p.link + 4 ≤ length n.bytes = omega (arith, s.same_length) in
      let m_bytes : m'.bytes ≡ overwrite m.bytes p.link (to_le_bytes w32 (word m a)) = p.takes.same_bytes in
      let n_bytes : n'.bytes ≡ overwrite n.bytes p.link (to_le_bytes w32 (word n b)) = q.takes.same_bytes ∙ ap (λ k. overwrite n.bytes k (to_le_bytes w32 (word n b))) (sym link) in (
        same,
        record {
          same_length =
              ap (λ bs. length bs) m_bytes ∙ same_length m.bytes p.link (word m a) fits ∙ s.same_length ∙ sym (same_length n.bytes p.link (word n b) too)
              ∙ sym (ap (λ bs. length bs) n_bytes);
          same_live = λ x.
              p.takes.live x ∙ ap (λ v. v || is_address_within x a size) (s.same_live x) ∙ ap (λ t. n.live x || is_address_within x t size) same ∙ sym (q.takes.live x);
          same_state = p.takes.same_state ∙ s.same_state ∙ sym q.takes.same_state;
          same_notes = λ x h.
              ap (λ bs. slice_get bs x) m_bytes
              ∙ word_over m.bytes n.bytes p.link (word m a) (word n b) x fits too next (s.same_notes x (was_free (with_word m p.link (word m a)) a size m' p.takes x h))
              ∙ sym (ap (λ bs. slice_get bs x) n_bytes);
        },
      )

  one_page : (p : TakesTop m size a m') (q : TakesTop n size b n') → p.grown.0 ≡ q.grown.0
  one_page p q =
      let most : p.most ≡ q.most = first_of_state (sym p.state ∙ s.same_state ∙ q.state) in
      let G : ℕ → ℕ → ℕ → Type 0 = λ k most t. IsLeastGrowth k most (ReachesEnd k (t + 8 + size)) q.grown.0 in
      one_growth (length m.bytes) p.most (ReachesEnd (length m.bytes) (top m + 8 + size)) p.grown.0 q.grown.0 p.grown.1
      (subst (λ t. G (length m.bytes) p.most t) (sym (same_top m n s notes))
      (subst (λ k. G (length m.bytes) k (top n)) (sym most) (subst (λ k. G k q.most (top n)) (sym s.same_length) q.grown.1)))

  tops_alike : TakesTop m size a m' → TakesTop n size b n' → (a ≡ b) × SameButLive m' n'
  tops_alike p q =
      let is = same_top m n s notes in
      let same : a ≡ b = p.there ∙ ap (λ t. t + 8) is ∙ sym q.there in
      let pages = one_page p q in
      let p_bytes : p.bytes ≡ with_pages m.bytes p.grown.0 = p.grown.2 in
      let q_bytes : q.bytes ≡ with_pages n.bytes p.grown.0 = q.grown.2 ∙ ap (with_pages n.bytes) (sym pages) in
      let p_long : length p.bytes ≡ length m.bytes + p.grown.0 * 65536 = ap (λ bs. length bs) p_bytes ∙ length-with_pages m.bytes p.grown.0 in
      let q_long : length q.bytes ≡ length n.bytes + p.grown.0 * 65536 = ap (λ bs. length bs) q_bytes ∙ length-with_pages n.bytes p.grown.0 in
      let enough : top m + 8 + size ≤ length m.bytes + p.grown.0 * 65536 = p.grown.1.enough in
      let low = notes.inside in
      let equal = s.same_length in
      let fits : top m + 4 ≤ length p.bytes = omega arith in
      let too : top m + 4 ≤ length q.bytes = omega arith in
      let h = overwrite p.bytes (top m) (to_le_bytes w32 size) in
      let k = overwrite q.bytes (top m) (to_le_bytes w32 size) in
      let h_long : length h ≡ length p.bytes = same_length p.bytes (top m) size fits in
      let k_long : length k ≡ length q.bytes = same_length q.bytes (top m) size too in
      let h_fits : 12 + 4 ≤ length h = omega arith in
      let k_fits : 12 + 4 ≤ length k = omega arith in
      let m_bytes : m'.bytes ≡ overwrite h 12 (to_le_bytes w32 (a + size)) = p.takes.same_bytes in
      let n_bytes : n'.bytes ≡ overwrite k 12 (to_le_bytes w32 (b + size)) =
      q.takes.same_bytes ∙ ap (λ t. overwrite (overwrite q.bytes t (to_le_bytes w32 size)) 12 (to_le_bytes w32 (b + size))) (sym is) in (
        same,
        record {
          same_length =
              ap (λ bs. length bs) m_bytes ∙ same_length h 12 (a + size) h_fits ∙ h_long ∙ p_long ∙ ap (λ l. l + p.grown.0 * 65536) equal
              ∙ sym q_long ∙ sym k_long ∙ sym (same_length k 12 (b + size) k_fits) ∙ sym (ap (λ bs. length bs) n_bytes);
          same_live = λ x.
              p.takes.live x ∙ ap (λ v. v || is_address_within x a size) (s.same_live x) ∙ ap (λ t. n.live x || is_address_within x t size) same ∙ sym (q.takes.live x);
          same_state = p.takes.same_state ∙ s.same_state ∙ sym q.takes.same_state;
          same_notes = λ x dead.
              let were : m.live x ≡ false = was_free (with_word (with_word (with_bytes m p.bytes) (top m) size) 12 (a + size)) a size m' p.takes x dead in
              let grown : slice_get p.bytes x ≡ slice_get q.bytes x =
              ap (λ bs. slice_get bs x) p_bytes ∙ pages_alike m.bytes n.bytes p.grown.0 x equal (λ l. s.same_notes x were) ∙ sym (ap (λ bs. slice_get bs x) q_bytes) in
              ap (λ bs. slice_get bs x) m_bytes
              ∙ word_over h k 12 (a + size) (b + size) x h_fits k_fits (ap (λ t. t + size) same) (word_over p.bytes q.bytes (top m) size size x fits too refl grown)
              ∙ sym (ap (λ bs. slice_get bs x) n_bytes);
        },
      )

at_least_eight : (size : ℕ) → 0 < size → 8 ≤ rounded_to_eight size
at_least_eight size some = omega arith

-- a list that leads somewhere in one memory does so in the other
elsewhere : (m n : Memory) → SameButLive m n → HasNotes m → (size a : ℕ) (m' : Memory) → TakesListed m size a m' → ((found : ℕ) → LeadsTo n size found → ⊥) → ⊥
elsewhere m n s notes size a m' p nowhere = nowhere p.link (leads_to_too m n s notes size p.link p.leads)

no_top : (m n : Memory) → SameButLive m n → HasNotes m → (size a : ℕ) (m' : Memory) → TakesTop m size a m' → ((most : ℕ) → n.state ≡ most ∷ [] → HasTop n most size → ⊥) → ⊥
no_top m n s notes size a m' p full = full p.most (sym s.same_state ∙ p.state) (top_too m n s notes p.most size p.room)

refused_alike : (m n m' n' : Memory) → SameButLive m n → HasNotes m → m' ≡ with_word m 4 48 → n' ≡ with_word n 4 48 → SameButLive m' n'
refused_alike m n m' n' s notes m_is n_is =
    let fits : 4 + 4 ≤ length m.bytes = omega (arith, notes.inside) in
    let too : 4 + 4 ≤ length n.bytes = omega (arith, notes.inside, s.same_length) in
    subst (λ k. SameButLive k n') (sym m_is) (subst (λ k. SameButLive (with_word m 4 48) k) (sym n_is) (record {
      same_length = same_length m.bytes 4 48 fits ∙ s.same_length ∙ sym (same_length n.bytes 4 48 too);
      same_live = s.same_live;
      same_state = s.same_state;
      same_notes = λ x h. word_over m.bytes n.bytes 4 48 48 x fits too refl (s.same_notes x h);
    }))

-- which bytes are live is nothing to an allocator with headers
pub headers_ignore_live : IgnoresLive HeadersAllocates
headers_ignore_live m n align size (Some a) (Some b) m' n' legal s (inl (none, zero_is, m_is)) (inl (nil, zero_too, n_is)) =
    (ap Some (zero_is ∙ sym zero_too), subst (λ k. SameButLive k n') (sym m_is) (subst (λ k. SameButLive m k) (sym n_is) s))
headers_ignore_live m n align size (Some a) (Some b) m' n' legal s (inl (none, zero_is, m_is)) (inr (some, notes, step)) = absurd (omega arith)
headers_ignore_live m n align size (Some a) (Some b) m' n' legal s (inr (some, notes, step)) (inl (none, zero_is, n_is)) = absurd (omega arith)
headers_ignore_live m n align size (Some a) (Some b) m' n' legal s (inr (some, notes, inl p)) (inr (more, also, inl q)) =
    let both = listed_alike m n s notes (rounded_to_eight size) a b m' n' (at_least_eight size some) p q in (ap Some both.0, both.1)
headers_ignore_live m n align size (Some a) (Some b) m' n' legal s (inr (some, notes, inl p)) (inr (more, also, inr (nowhere, q))) =
    absurd (elsewhere m n s notes (rounded_to_eight size) a m' p nowhere)
headers_ignore_live m n align size (Some a) (Some b) m' n' legal s (inr (some, notes, inr (nowhere, p))) (inr (more, also, inl q)) =
    absurd (elsewhere n m (turned m n s) also (rounded_to_eight size) b n' q nowhere)
headers_ignore_live m n align size (Some a) (Some b) m' n' legal s (inr (some, notes, inr (nowhere, p))) (inr (more, also, inr (never, q))) =
    let both = tops_alike m n s notes (rounded_to_eight size) a b m' n' p q in (ap Some both.0, both.1)
headers_ignore_live m n align size (Some a) None m' n' legal s (inl (none, zero_is, m_is)) (some, notes, nowhere, full, is) = absurd (omega arith)
headers_ignore_live m n align size (Some a) None m' n' legal s (inr (some, notes, inl p)) (more, also, nowhere, full, n_is) =
    absurd (elsewhere m n s notes (rounded_to_eight size) a m' p nowhere)
headers_ignore_live m n align size (Some a) None m' n' legal s (inr (some, notes, inr (never, p))) (more, also, nowhere, full, n_is) =
    absurd (no_top m n s notes (rounded_to_eight size) a m' p full)
headers_ignore_live m n align size None (Some b) m' n' legal s (some, notes, nowhere, full, is) (inl (none, zero_is, n_is)) = absurd (omega arith)
headers_ignore_live m n align size None (Some b) m' n' legal s (some, notes, nowhere, full, m_is) (inr (more, also, inl q)) =
    absurd (elsewhere n m (turned m n s) also (rounded_to_eight size) b n' q nowhere)
headers_ignore_live m n align size None (Some b) m' n' legal s (some, notes, nowhere, full, m_is) (inr (more, also, inr (never, q))) =
    absurd (no_top n m (turned m n s) also (rounded_to_eight size) b n' q full)
headers_ignore_live m n align size None None m' n' legal s (some, notes, nowhere, full, m_is) (more, also, never, too, n_is) =
    (refl, refused_alike m n m' n' s notes m_is n_is)

-- ---- one memory

itself : (m : Memory) → SameButLive m m
itself m = record { same_length = refl; same_live = λ a. refl; same_state = refl; same_notes = λ a h. refl }

some_same : {a b : ℕ} → Some a ≡ Some b → a ≡ b
some_same e = cc

module _ (old : Memory) (align size : ℕ) (m n : Memory) where
  one_bytes : (a b : Option ℕ) → a ≡ b → HeadersAllocates old align size a m → HeadersAllocates old align size b n → m.bytes ≡ n.bytes
  one_bytes (Some a) (Some b) same (inl (none, zero_is, m_is)) (inl (nil, zero_too, n_is)) = ap (λ k. k.bytes) m_is ∙ sym (ap (λ k. k.bytes) n_is)
  one_bytes (Some a) (Some b) same (inl (none, zero_is, m_is)) (inr (some, notes, step)) = absurd (omega arith)
  one_bytes (Some a) (Some b) same (inr (some, notes, step)) (inl (none, zero_is, n_is)) = absurd (omega arith)
  one_bytes (Some a) (Some b) same (inr (some, notes, inl p)) (inr (more, also, inl q)) =
      let link = one_link old old (itself old) notes (rounded_to_eight size) a b m n p q in
      p.takes.same_bytes ∙ ap (λ k. overwrite old.bytes k (to_le_bytes w32 (word old a))) link
      ∙ ap (λ k. overwrite old.bytes q.link (to_le_bytes w32 (word old k))) (some_same same) ∙ sym q.takes.same_bytes
  one_bytes (Some a) (Some b) same (inr (some, notes, inl p)) (inr (more, also, inr (nowhere, q))) = absurd (nowhere p.link p.leads)
  one_bytes (Some a) (Some b) same (inr (some, notes, inr (nowhere, p))) (inr (more, also, inl q)) = absurd (nowhere q.link q.leads)
  one_bytes (Some a) (Some b) same (inr (some, notes, inr (nowhere, p))) (inr (more, also, inr (never, q))) =
      let pages = one_page old old (itself old) notes (rounded_to_eight size) a b m n p q in
      let grown : p.bytes ≡ q.bytes = p.grown.2 ∙ ap (with_pages old.bytes) pages ∙ sym q.grown.2 in
      p.takes.same_bytes ∙ ap (λ bs. overwrite (overwrite bs (top old) (to_le_bytes w32 (rounded_to_eight size))) 12 (to_le_bytes w32 (a + rounded_to_eight size))) grown
      ∙ ap (λ k. overwrite (overwrite q.bytes (top old) (to_le_bytes w32 (rounded_to_eight size))) 12 (to_le_bytes w32 (k + rounded_to_eight size))) (some_same same)
      ∙ sym q.takes.same_bytes
  one_bytes (Some a) None same p q = absurd (cc)
  one_bytes None (Some b) same p q = absurd (cc)
  one_bytes None None same (some, notes, nowhere, full, m_is) (more, also, never, too, n_is) = ap (λ k. k.bytes) m_is ∙ sym (ap (λ k. k.bytes) n_is)

-- one memory and one request have one answer
pub headers_in_one_way : AllocatesInOneWay HeadersAllocates
headers_in_one_way old align size a b m n legal p q =
    let both = headers_ignore_live old old align size a b m n legal (itself old) p q in
    let bytes = one_bytes old align size m n a b both.0 p q in
    let live = fun_ext both.1.same_live in
    let state = both.1.same_state in
    (both.0, rw (bytes, live, state) refl)
