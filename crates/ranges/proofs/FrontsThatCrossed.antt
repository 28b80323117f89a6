-- A front of a block that has crossed.
use Rattle.std.proofs.Common.{◌≡◌, ◌⊎◌, inl, inr, ℕ, zero, suc, ◌+◌, ◌-◌, ◌*◌, ◌%◌, ◌<◌, ◌≤◌, cond, List, ◌++◌, length, get_or, take, drop, length-drop, refl, sym, ap, ◌∙◌, subst, arith}
use Rattle.std.specs.Prelude.{nat_lt, slice_range}
use Rattle.std.proofs.lemmas.Bool.{cases_lt, lt-ltb, le-ltb}
use Rattle.std.proofs.lemmas.List.{ext_get_or, get_or-take, get_or-append-add, length-take-le}
use Rattle.std.proofs.Math.Nat.{mod-lt, mod-eq_of_lt, add-mod_left, mul-le-mul_right}
use Rattle.canonical_abi.specs.Types.{ClosedType}
use Rattle.canonical_abi.specs.Layout.{size}
use Rattle.canonical_abi.specs.Guest.{Memory, Allocation, overwrite, with_bytes}
use Rattle.std.specs.Int.{Width, w8, w16, w32, byte_len, from_le_bytes}
use Rattle.canonical_abi.specs.Reading.{number_at, byte_width}
use Rattle.canonical_abi.specs.Trace.{TraceLeads}
use Rattle.canonical_abi.proofs.Traces.BytesWrittenOver.{length-overwrite, overwrite-in, overwrite-before, overwrite-after}
use Rattle.values.specs.Bytes.{AreBytes}
use Rattle.ranges.specs.Bytewise.{capped_byte, each_cap, IsBytewise, IsTested, HasCaps, Blends, Crosses}
use Rattle.ranges.proofs.TracesThatOnlyWrite.{puts-lead}
use Rattle.ranges.proofs.CapsAndBlends.{kept, taken}
use Rattle.ranges.proofs.OneNumberCrosses.{part-get}
use Rattle.ranges.proofs.ValuesCrossByteByByte.{each-cross}

-- the caps of the first k bytes
abbrev pub upto : (ℕ → ℕ) → ℕ → ℕ → ℕ
upto cap k i = cond (nat_lt i k) (cap i) 0

-- the caps of one element, again and again
abbrev pub periodic : List ℕ → ℕ → ℕ → ℕ
periodic bytes step i = get_or bytes (i % step) 0

upto-in : (cap : ℕ → ℕ) (k i : ℕ) → i < k → upto cap k i ≡ cap i
upto-in cap k i h = rw (lt-ltb i k h) refl

upto-out : (cap : ℕ → ℕ) (k i : ℕ) → k ≤ i → upto cap k i ≡ 0
upto-out cap k i h = rw (le-ltb i k h) refl

-- the first k bytes from a on came over those from `at` on, and nothing else changed
pub record Front (cap : ℕ → ℕ) (m : List ℕ) (a : ℕ) (old : Memory) (at k : ℕ) (now : Memory) : Type 0 where
  pub bytes_alone : now ≡ with_bytes old now.bytes
  pub blends : Blends (upto cap k) m a old.bytes at now.bytes

pub front-none : (cap : ℕ → ℕ) (m : List ℕ) (a : ℕ) (old : Memory) (at k : ℕ) → k ≡ 0 → Front cap m a old at k old
front-none cap m a old at k e = record {
  bytes_alone = refl;
  blends = record { same_length = refl; below = λ x h. refl; over = λ i. sym (kept _ _ _ (upto-out cap k i (omega (arith, e)))) };
}

-- a part more
pub front-more : (cap : ℕ → ℕ) (m : List ℕ) (a : ℕ) (old : Memory) (at k : ℕ) (now new : Memory) (part : List ℕ) → Front cap m a old at k now
    → at + k + length part ≤ length now.bytes → new ≡ with_bytes now (overwrite now.bytes (at + k) part)
    → ((j : ℕ) → j < length part → get_or part j 0 ≡ capped_byte (cap (k + j)) (get_or now.bytes (at + k + j) 0) (get_or m (a + k + j) 0))
    → Front cap m a old at (k + length part) new
front-more cap m a old at k now new part f fits e told =
    subst (λ n. Front cap m a old at (k + length part) n) (sym e) (record {
      bytes_alone = ap (λ n. with_bytes n (overwrite now.bytes (at + k) part)) f.bytes_alone;
      blends = record {
        same_length = length-overwrite now.bytes (at + k) part fits ∙ f.blends.same_length;
        below = λ x h. overwrite-before now.bytes (at + k) part fits x (omega (arith, h)) ∙ f.blends.below x h;
        over = λ i. by i;
      };
    })
  where
    by : (i : ℕ) → get_or (overwrite now.bytes (at + k) part) (at + i) 0 ≡ capped_byte (upto cap (k + length part) i) (get_or old.bytes (at + i) 0) (get_or m (a + i) 0)
    by i = elim (cases_lt i k) [
      | inl h ↦ rw (upto-in cap (k + length part) i (omega (arith, h)))
          (overwrite-before now.bytes (at + k) part fits (at + i) (omega (arith, h)) ∙ f.blends.over i ∙ ap (λ c. capped_byte c (get_or old.bytes (at + i) 0) (get_or m (a + i) 0)) (upto-in cap k i h))
      | inr g ↦
          let was : get_or now.bytes (at + i) 0 ≡ get_or old.bytes (at + i) 0 = f.blends.over i ∙ kept _ _ _ (upto-out cap k i g) in
          elim (cases_lt i (k + length part)) [
            | inl h ↦
                let j : at + k + (i - k) ≡ at + i = omega (arith, g) in
                let l : a + k + (i - k) ≡ a + i = omega (arith, g) in
                let o : k + (i - k) ≡ i = omega (arith, g) in
                let there = overwrite-in now.bytes (at + k) part fits (i - k) (omega (arith, h, g)) in
                let here = told (i - k) (omega (arith, h, g)) in
                rw (upto-in cap (k + length part) i h) (rw j at there ∙ rw (j, l, o) at here ∙ ap (λ b. capped_byte (cap i) b (get_or m (a + i) 0)) was)
            | inr h ↦ rw (upto-out cap (k + length part) i h) (overwrite-after now.bytes (at + k) part fits (at + i) (omega (arith, h)) ∙ was)
          ]
    ]

-- two lists that the same bytes came over in the same way are the same
blends-same : (cap other : ℕ → ℕ) (m : List ℕ) (a : ℕ) (old : List ℕ) (at : ℕ) (xs ys : List ℕ) → ((i : ℕ) → cap i ≡ other i)
    → Blends cap m a old at xs → Blends other m a old at ys → xs ≡ ys
blends-same cap other m a old at xs ys same p q = ext_get_or 0 xs ys (p.same_length ∙ sym q.same_length) (λ x below. by x)
  where
    by : (x : ℕ) → get_or xs x 0 ≡ get_or ys x 0
    by x = elim (cases_lt x at) [
      | inl h ↦ p.below x h ∙ sym (q.below x h)
      | inr g ↦
          let e : at + (x - at) ≡ x = omega (arith, g) in
          let one = p.over (x - at) in
          let two = q.over (x - at) in
          rw e at one ∙ ap (λ c. capped_byte c (get_or old x 0) (get_or m (a + (x - at)) 0)) (same (x - at)) ∙ sym (rw e at two)
    ]

-- where all elements have crossed, the values held are stored
pub front-crosses : (allocates : Allocation) (t : ClosedType) (m : List ℕ) (a n : ℕ) (old : Memory) (at k : ℕ) (cap : ℕ → ℕ) (new : Memory) → AreBytes m → IsBytewise t
    → ((i : ℕ) → each_cap t m a n i ≡ upto cap k i) → ((i : ℕ) → i < n → IsTested t m (a + i * size t)) → a + n * size t ≤ length m → at + n * size t ≤ length old.bytes
    → Front cap m a old at k new → Crosses t m a n allocates old at new
front-crosses allocates t m a n old at k cap new bytes bytewise alike tested inside fits front =
    let c = each-cross m bytes t bytewise n a old.bytes at tested inside fits in
    let same : c.new ≡ new.bytes = blends-same (each_cap t m a n) (upto cap k) m a old.bytes at c.new new.bytes alike c.blends front.blends in
    let there : with_bytes old c.new ≡ new = ap (with_bytes old) same ∙ sym front.bytes_alone in
    record { values = c.values; held = c.held; events = c.events; stored = c.stored; leads = subst (TraceLeads allocates old c.events) there (puts-lead allocates c.events old c.new c.puts); visited = c.visited }

-- caps that are the same for each element
pub same-caps : (t : ClosedType) (m : List ℕ) (step : ℕ) (caps : List ℕ) → 0 < step → HasCaps t step caps → (n a i : ℕ) → each_cap t m a n i ≡ upto (periodic caps step) (n * step) i
same-caps t m step caps some has zero a i = sym (upto-out (periodic caps step) (0 * step) i (omega arith))
same-caps t m step caps some has (suc n) a i = elim (cases_lt i step) [
  | inl h ↦
      let h' : i < size t = omega (arith, h, has.step_is) in
      let low : i % step ≡ i = mod-eq_of_lt h in
      rw (lt-ltb i (size t) h') (sym (upto-in (periodic caps step) (suc n * step) i (omega (arith, h)) ∙ ap (λ k. get_or caps k 0) low ∙ has.caps_are m a i h))
  | inr g ↦
      let g' : size t ≤ i = omega (arith, g, has.step_is) in
      rw (le-ltb i (size t) g') (ap (λ s. each_cap t m (a + size t) n (i - s)) (sym has.step_is) ∙ same-caps t m step caps some has n (a + size t) (i - step) ∙ shift g)
]
  where
    shift : step ≤ i → upto (periodic caps step) (n * step) (i - step) ≡ upto (periodic caps step) (suc n * step) i
    shift g =
        let e : step + (i - step) ≡ i = omega (arith, g) in
        let round : (i - step) % step ≡ i % step = sym (add-mod_left step (i - step)) ∙ ap (λ k. k % step) e in
        elim (cases_lt i (suc n * step)) [
          | inl h ↦ upto-in (periodic caps step) (n * step) (i - step) (omega (arith, h, g, some)) ∙ ap (λ k. get_or caps k 0) round ∙ sym (upto-in (periodic caps step) (suc n * step) i h)
          | inr h ↦ upto-out (periodic caps step) (n * step) (i - step) (omega (arith, h, g)) ∙ sym (upto-out (periodic caps step) (suc n * step) i h)
        ]

-- ---- chunks

-- past the last element
each-past : (t : ClosedType) (m : List ℕ) (a n i : ℕ) → n * size t ≤ i → each_cap t m a n i ≡ 0
each-past t m a zero i h = refl
each-past t m a (suc n) i h =
    let g : size t ≤ i = omega (arith, h) in
    rw (le-ltb i (size t) g) (each-past t m (a + size t) n (i - size t) (omega (arith, h)))

pub part-length : (xs : List ℕ) (a n : ℕ) → a + n ≤ length xs → length (slice_range xs a (a + n)) ≡ n
part-length xs a n h = let size : a + n - a ≡ n = omega arith in rw size (length-take-le n (drop a xs) (omega (arith, length-drop a xs, h)))

-- an element of what was put into the middle of a list
pub mid-get : (a n : ℕ) (xs ys zs : List ℕ) (j : ℕ) → j < n → a ≤ length xs → take (a + n) zs ≡ take a xs ++ ys → get_or zs (a + j) 0 ≡ get_or ys j 0
mid-get a n xs ys zs j h inside e =
    let front : length (take a xs) ≡ a = length-take-le a xs inside in
    let there = get_or-append-add (take a xs) ys j 0 in
    sym (get_or-take (a + n) zs (a + j) 0 (omega (arith, h))) ∙ ap (λ l. get_or l (a + j) 0) e ∙ rw front at there

-- a number in a part of a memory
pub part-number : (w : Width) (m : List ℕ) (s n j : ℕ) → j + byte_len w ≤ n → s + n ≤ length m → number_at (slice_range m s (s + n)) j w ≡ number_at m (s + j) w
unfolding number_at
part-number w m s n j h inside =
    let k = byte_len w in
    let long = part-length m s n inside in
    let here = part-length (slice_range m s (s + n)) j k (omega (arith, long, h)) in
    let there = part-length m (s + j) k (omega (arith, h, inside)) in
    ap (from_le_bytes w) (ext_get_or 0 (slice_range (slice_range m s (s + n)) j (j + k)) (slice_range m (s + j) (s + j + k)) (here ∙ sym there)
    (λ i g.
    let low : i < k = omega (arith, here, g) in
    let e : s + (j + i) ≡ s + j + i = omega arith in
    part-get (slice_range m s (s + n)) j k i low ∙ part-get m s n (j + i) (omega (arith, h, low)) ∙ ap (λ x. get_or m x 0) e ∙ sym (part-get m (s + j) k i low)))

-- the same of a number of so many bytes
pub part-sized : (k : ℕ) → (k ≡ 1) ⊎ ((k ≡ 2) ⊎ (k ≡ 4)) → (m : List ℕ) (s n j : ℕ) → j + k ≤ n → s + n ≤ length m → number_at (slice_range m s (s + n)) j (byte_width k) ≡ number_at m (s + j) (byte_width k)
part-sized k (inl e) m s n j h inside = rw e (part-number w8 m s n j (omega (arith, h, e)) inside)
part-sized k (inr (inl e)) m s n j h inside = rw e (part-number w16 m s n j (omega (arith, h, e)) inside)
part-sized k (inr (inr e)) m s n j h inside = rw e (part-number w32 m s n j (omega (arith, h, e)) inside)

-- a chunk whose bytes were merged in a buffer
pub chunk-merged : (allocates : Allocation) (t : ClosedType) (n : ℕ) (m : List ℕ) (a : ℕ) (old : Memory) (at part : ℕ) (new : Memory) (buffer : List ℕ) → AreBytes m → IsBytewise t
    → n * size t ≡ part → part ≤ 2048 → length buffer ≡ 2048 → a + part ≤ length m → at + part ≤ length old.bytes → ((i : ℕ) → i < n → IsTested t m (a + i * size t))
    → ((i : ℕ) → i < part → get_or buffer i 0 ≡ capped_byte (each_cap t m a n i) (get_or old.bytes (at + i) 0) (get_or m (a + i) 0))
    → new ≡ with_bytes old (overwrite old.bytes at (take part buffer)) → Crosses t m a n allocates old at new
chunk-merged allocates t m_n m a old at part new buffer bytes bytewise whole few long inside fits tested merged wrote =
    front-crosses allocates t m a m_n old at part (each_cap t m a m_n) new bytes bytewise alike tested (omega (arith, whole, inside)) (omega (arith, whole, fits)) front
  where
    alike : (i : ℕ) → each_cap t m a m_n i ≡ upto (each_cap t m a m_n) part i
    alike i = elim (cases_lt i part) [
      | inl h ↦ sym (upto-in (each_cap t m a m_n) part i h)
      | inr g ↦ each-past t m a m_n i (omega (arith, whole, g)) ∙ sym (upto-out (each_cap t m a m_n) part i g)
    ]

    front : Front (each_cap t m a m_n) m a old at part new
    front =
        let size : length (take part buffer) ≡ part = length-take-le part buffer (omega (arith, long, few)) in
        let to : at + 0 ≡ at = omega arith in
        let of : a + 0 ≡ a = omega arith in
        let more = front-more (each_cap t m a m_n) m a old at 0 old new (take part buffer) (front-none (each_cap t m a m_n) m a old at 0 refl) (omega (arith, size, fits)) (rw to wrote)
        (λ j h.
        let low : j < part = omega (arith, size, h) in
        let none : 0 + j ≡ j = omega arith in
        rw (none, to, of) (get_or-take part buffer j 0 low ∙ merged j low)) in
        let all : 0 + part ≡ part = omega arith in
        rw (size, all) at more

-- a chunk whose bytes were blended in a buffer
pub chunk-crosses : (allocates : Allocation) (t : ClosedType) (n : ℕ) (m : List ℕ) (a : ℕ) (old : Memory) (at part : ℕ) (new : Memory) (seen caps buffer : List ℕ) → AreBytes m → IsBytewise t
    → n * size t ≡ part → part ≤ 2048 → length buffer ≡ 2048 → a + part ≤ length m → at + part ≤ length old.bytes
    → ((i : ℕ) → i < part → get_or caps i 0 ≡ each_cap t m a n i) → ((i : ℕ) → i < n → IsTested t m (a + i * size t)) → seen ≡ old.bytes
    → ((i : ℕ) → i < length (slice_range m a (a + part)) → get_or buffer i 0 ≡ capped_byte (get_or caps i 0) (get_or (slice_range seen at (at + part)) i 0) (get_or (slice_range m a (a + part)) i 0))
    → new ≡ with_bytes old (overwrite old.bytes at (take part buffer)) → Crosses t m a n allocates old at new
chunk-crosses allocates t m_n m a old at part new seen caps buffer bytes bytewise whole few long inside fits told tested same blended wrote =
    chunk-merged allocates t m_n m a old at part new buffer bytes bytewise whole few long inside fits tested byte wrote
  where
    byte : (j : ℕ) → j < part → get_or buffer j 0 ≡ capped_byte (each_cap t m a m_n j) (get_or old.bytes (at + j) 0) (get_or m (a + j) 0)
    byte j h =
        let long_m = part-length m a part inside in
        blended j (omega (arith, long_m, h))
        ∙ ap (λ c. capped_byte c (get_or (slice_range seen at (at + part)) j 0) (get_or (slice_range m a (a + part)) j 0)) (told j h)
        ∙ ap (λ b. capped_byte (each_cap t m a m_n j) b (get_or (slice_range m a (a + part)) j 0)) (part-get seen at part j h ∙ ap (λ l. get_or l (at + j) 0) same)
        ∙ ap (capped_byte (each_cap t m a m_n j) (get_or old.bytes (at + j) 0)) (part-get m a part j h)

-- the caps of a chunk of elements that all have the same
pub chunk-caps : (t : ClosedType) (m : List ℕ) (step : ℕ) (bytes caps : List ℕ) (len n a i : ℕ) → 0 < step → HasCaps t step bytes
    → ((i : ℕ) → i < len → get_or caps i 0 ≡ get_or bytes (i % step) 0) → i < n * step → n * step ≤ len → get_or caps i 0 ≡ each_cap t m a n i
chunk-caps t m step bytes caps len n a i some has repeated below few =
    repeated i (omega (arith, below, few)) ∙ sym (same-caps t m step bytes some has n a i ∙ upto-in (periodic bytes step) (n * step) i below)

-- ---- a whole range

pub range-front : (bytes : List ℕ) (step : ℕ) (m : List ℕ) (a : ℕ) (old : Memory) (at total : ℕ) (new : Memory)
    → ((j : ℕ) → j < total → capped_byte (periodic bytes step j) (get_or old.bytes (at + j) 0) (get_or m (a + j) 0) ≡ get_or m (a + j) 0) → a + total ≤ length m → at + total ≤ length old.bytes
    → new ≡ with_bytes old (overwrite old.bytes at (slice_range m a (a + total))) → Front (periodic bytes step) m a old at total new
range-front bytes step m a old at total new same inside fits wrote =
    let size : length (slice_range m a (a + total)) ≡ total = part-length m a total inside in
    let to : at + 0 ≡ at = omega arith in
    let of : a + 0 ≡ a = omega arith in
    let none : 0 + total ≡ total = omega arith in
    let more = front-more (periodic bytes step) m a old at 0 old new (slice_range m a (a + total)) (front-none (periodic bytes step) m a old at 0 refl) (omega (arith, size, fits))
    (rw to wrote)
    (λ j h. let e : 0 + j ≡ j = omega arith in rw (to, of, e) (part-get m a total j (omega (arith, size, h)) ∙ sym (same j (omega (arith, size, h))))) in
    rw (size, none) at more

-- bytes that cross as they are
pub as-they-are : (bytes : List ℕ) (step : ℕ) (m : List ℕ) (a : ℕ) (old : List ℕ) (at j : ℕ) → 0 < step → AreBytes m → ((i : ℕ) → i < step → get_or bytes i 0 ≡ 255)
    → capped_byte (periodic bytes step j) (get_or old (at + j) 0) (get_or m (a + j) 0) ≡ get_or m (a + j) 0
as-they-are bytes step m a old at j some are_bytes whole =
    let cap : periodic bytes step j ≡ 255 = whole (j % step) (mod-lt j some) in
    rw cap (taken (get_or old (at + j) 0) (get_or m (a + j) 0) (are_bytes (a + j)))

-- bytes of at most 1 that cross under the cap 1
pub ones-and-zeros : (bytes : List ℕ) (m : List ℕ) (a : ℕ) (old : List ℕ) (at j : ℕ) → get_or bytes 0 0 ≡ 1 → get_or m (a + j) 0 ≤ 1
    → capped_byte (periodic bytes 1 j) (get_or old (at + j) 0) (get_or m (a + j) 0) ≡ get_or m (a + j) 0
ones-and-zeros bytes m a old at j one low =
    let first : j % 1 ≡ 0 = (let h : j % 1 < 1 = mod-lt j (omega arith) in omega (arith, h)) in
    let cap : periodic bytes 1 j ≡ 1 = ap (λ i. get_or bytes i 0) first ∙ one in
    rw cap (omega (arith, low))

-- elements behind others, all within so many
pub parts-fit : (done part count step : ℕ) → part ≤ count - done → done ≤ count → done * step + part * step ≤ count * step
parts-fit done part count step h le =
    let g : (done + part) * step ≤ count * step = mul-le-mul_right step (omega (arith, h, le)) in
    let e : (done + part) * step ≡ done * step + part * step = omega arith in
    omega (arith, g, e)
