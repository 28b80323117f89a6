-- Variants of eight bytes, of which each is merged with an old one under the mask of its case.
use Rattle.std.proofs.Common.{◌≡◌, ◌⊎◌, inl, inr, ℕ, zero, suc, ◌+◌, ◌-◌, ◌*◌, ◌/◌, ◌%◌, ◌<◌, ◌≤◌, List, [], ◌∷◌, length, take, get_or, sym, ap, ◌∙◌, subst, arith}
use Rattle.std.proofs.lemmas.Bool.{cases_lt}
use Rattle.std.proofs.lemmas.Nat.{div-add-mod'}
use Rattle.std.proofs.Math.Nat.{mod-lt, mul-le-mul_right}
use Rattle.std.specs.Prelude.{slice_range}
use Rattle.canonical_abi.specs.Types.{ClosedType}
use Rattle.canonical_abi.specs.Layout.{size}
use Rattle.canonical_abi.specs.Guest.{Memory, Allocation, overwrite, with_bytes}
use Rattle.values.specs.Bytes.{AreBytes}
use Rattle.ranges.specs.Bytewise.{capped_byte, cap_at, IsBytewise, IsTested, each_cap, Crosses}
use Rattle.ranges.specs.Columns.{AreMasks, case_in, column_nodes, columns_seen, HaveCases, HasPlan}
use Rattle.ranges.specs.declared.columns.Column.{Column}
use Rattle.ranges.specs.declared.planned.Plan.{Plan}
use Rattle.ranges.specs.declared.rows.Rows.{Rows}
use Rattle.ranges.proofs.ColumnsLaidOverCaps.{laid-within}
use Rattle.ranges.proofs.FrontsThatCrossed.{chunk-merged}
use Rattle.ranges.proofs.OneNumberCrosses.{part-get}
use Rattle.ranges.proofs.VariantElementsByCase.{each-at, below-by, element-fits}
use Rattle.ranges.proofs.WordsUnderMasks.{byte}

-- a byte of a word, by the words that it was chosen from
pub merged-byte : (rows : Rows) → AreMasks rows → (row : ℕ) → row + 8 ≤ rows.cases * 16 → (xs ys zs : List ℕ) (at j word was mask put : ℕ) → j < 8
    → byte word j ≡ get_or xs (at + j) 0 → byte was j ≡ get_or ys (at + j) 0 → byte mask j ≡ get_or rows.caps (row + j) 0
    → ((byte mask j ≡ 0) ⊎ (byte mask j ≡ 255) → byte put j ≡ capped_byte (byte mask j) (byte was j) (byte word j))
    → get_or zs (at + j) 0 ≡ byte put j
    → get_or zs (at + j) 0 ≡ capped_byte (get_or rows.caps (row + j) 0) (get_or ys (at + j) 0) (get_or xs (at + j) 0)
merged-byte rows masks row known xs ys zs at j word was mask put low of from of_case chosen is =
    let fine = masks (row + j) (omega (arith, known, low)) in
    let picked = chosen (rw (sym of_case) at fine) in
    is ∙ picked ∙ ap (λ x. capped_byte x (byte was j) (byte word j)) of_case
    ∙ ap (λ x. capped_byte (get_or rows.caps (row + j) 0) x (byte word j)) from
    ∙ ap (capped_byte (get_or rows.caps (row + j) 0) (get_or ys (at + j) 0)) of

-- byte j of an element of two words
pub merged-words : (rows : Rows) (row width : ℕ) → 8 ≤ width → width ≤ 16 → (xs ys mid zs : List ℕ) (at j : ℕ) → j < width
    → ((k : ℕ) → k < 8 → get_or mid (at + k) 0 ≡ capped_byte (get_or rows.caps (row + k) 0) (get_or ys (at + k) 0) (get_or xs (at + k) 0))
    → ((k : ℕ) → k < 8 → get_or zs (at + (width - 8) + k) 0
    ≡ capped_byte (get_or rows.caps (row + (width - 8) + k) 0) (get_or ys (at + (width - 8) + k) 0) (get_or xs (at + (width - 8) + k) 0))
    → ((i : ℕ) → i < at + (width - 8) → get_or zs i 0 ≡ get_or mid i 0)
    → get_or zs (at + j) 0 ≡ capped_byte (get_or rows.caps (row + j) 0) (get_or ys (at + j) 0) (get_or xs (at + j) 0)
merged-words rows row width long short xs ys mid zs at j low first second below = elim (cases_lt j (width - 8)) [
  | inl h ↦ below (at + j) (omega (arith, h)) ∙ first j (omega (arith, h, short))
  | inr g ↦
      let of : at + (width - 8) + (j - (width - 8)) ≡ at + j = omega (arith, g) in
      let to : row + (width - 8) + (j - (width - 8)) ≡ row + j = omega (arith, g) in
      let is = second (j - (width - 8)) (omega (arith, g, low, long)) in
      rw (of, to) at is
]

-- the case of an element in a part of a memory
pub part-case : (c : Column) → c.at ≡ 0 → (step : ℕ) → 0 < step → (m : List ℕ) (a n e : ℕ) → e < n → case_in c (slice_range m a (a + n * step)) (0 + e * step) ≡ case_in c m (a + e * step)
part-case c front step some m a n e h =
    let place : a + (0 + e * step + c.at) ≡ a + e * step + c.at = omega arith in
    part-get m a (n * step) (0 + e * step + c.at) (omega (arith, element-fits e n step h, front, some)) ∙ ap (λ x. get_or m x 0) place

-- so many elements as go into a chunk
pub chunk-fits : (n step : ℕ) → n ≤ 2048 / step → n * step ≤ 2048
chunk-fits n step h =
    let most : n * step ≤ 2048 / step * step = mul-le-mul_right step h in
    omega (arith, most, div-add-mod' 2048 step)

-- the nodes of elements behind others
pub seen-more : (cs : List Column) (step : ℕ) (m : List ℕ) (a n k : ℕ) → columns_seen cs step m a (n + k) ≡ columns_seen cs step m a n + columns_seen cs step m (a + n * step) k
seen-more cs step m a n zero = (let e : n + 0 ≡ n = omega arith in rw e (omega arith))
seen-more cs step m a n (suc k) =
    let e : n + suc k ≡ suc (n + k) = omega arith in
    let h = seen-more cs step m a n k in
    let place : a + (n + k) * step ≡ a + n * step + k * step = omega arith in
    let last = ap (column_nodes cs m) place in
    rw e (omega (arith, h, last))

-- elements that were merged cross
pub words-cross : (allocates : Allocation) (t : ClosedType) (c : Column) (m : List ℕ) (a n : ℕ) (old : Memory) (at : ℕ) (new : Memory) (buffer : List ℕ) → AreBytes m → IsBytewise t
    → size t ≡ c.rows.size → 0 < c.rows.size → n * c.rows.size ≤ 2048 → length buffer ≡ 2048 → a + n * c.rows.size ≤ length m → at + n * c.rows.size ≤ length old.bytes
    → ((b : ℕ) → case_in c m b < c.rows.cases → IsTested t m b)
    → ((b j : ℕ) → case_in c m b < c.rows.cases → j < c.rows.size → get_or c.rows.caps (case_in c m b * 16 + j) 0 ≡ cap_at t m b j)
    → ((e : ℕ) → e < n → case_in c m (a + e * c.rows.size) < c.rows.cases)
    → ((e j : ℕ) → e < n → j < c.rows.size → get_or buffer (e * c.rows.size + j) 0
    ≡ capped_byte (get_or c.rows.caps (case_in c m (a + e * c.rows.size) * 16 + j) 0) (get_or old.bytes (at + (e * c.rows.size + j)) 0) (get_or m (a + (e * c.rows.size + j)) 0))
    → new ≡ with_bytes old (overwrite old.bytes at (take (n * c.rows.size) buffer)) → Crosses t m a n allocates old at new
words-cross allocates t c m a n old at new buffer bytes bytewise is some few long inside room tested caps good merged wrote =
    let whole : n * size t ≡ n * c.rows.size = ap (λ s. n * s) is in
    chunk-merged allocates t n m a old at (n * c.rows.size) new buffer bytes bytewise whole few long inside room each by wrote
  where
    step : ℕ
    step = c.rows.size

    place : (e : ℕ) → a + e * size t ≡ a + e * step
    place e = ap (λ s. a + e * s) is

    each : (e : ℕ) → e < n → IsTested t m (a + e * size t)
    each e h = subst (IsTested t m) (sym (place e)) (tested (a + e * step) (good e h))

    by : (i : ℕ) → i < n * step → get_or buffer i 0 ≡ capped_byte (each_cap t m a n i) (get_or old.bytes (at + i) 0) (get_or m (a + i) 0)
    by i h =
        let e = i / step in
        let j = i % step in
        let low : j < step = mod-lt i some in
        let whole : e * step + j ≡ i = omega (arith, div-add-mod' i step) in
        let below : e < n = below-by e n step (omega (arith, whole, h)) in
        let own_place : e * size t + j ≡ i = ap (λ s. e * s + j) is ∙ whole in
        let there = each-at t m n a e j below (omega (arith, low, is)) in
        let cap : each_cap t m a n i ≡ cap_at t m (a + e * step) j = ap (each_cap t m a n) (sym own_place) ∙ there ∙ ap (λ b. cap_at t m b j) (place e) in
        let own = caps (a + e * step) j (good e below) low in
        let byte_is = merged e j below low in
        let here = rw whole at byte_is in
        here ∙ ap (λ x. capped_byte x (get_or old.bytes (at + i) 0) (get_or m (a + i) 0)) (own ∙ sym cap)

-- what a plan tells of its one column, of eight bytes
module _ (t : ClosedType) (p : Plan) (c : Column) (has : HasPlan t p) (one : p.columns.items ≡ c ∷ []) (m : List ℕ) where
  have : (a : ℕ) → case_in c m a < c.rows.cases → HaveCases p.columns.items m a
  have a h = subst (λ cs. HaveCases cs m a) (sym one) (h, tt)

  pub word-tested : (a : ℕ) → case_in c m a < c.rows.cases → IsTested t m a
  word-tested a h = has.tested m a (have a h)

  pub word-caps : c.at ≡ 0 → (a j : ℕ) → case_in c m a < c.rows.cases → j < c.rows.size → get_or c.rows.caps (case_in c m a * 16 + j) 0 ≡ cap_at t m a j
  word-caps front a j h low =
      let is = has.caps_are m a j (have a h) in
      let row = laid-within c (case_in c m a) j (get_or p.plain.bytes j 0) (omega (arith, front)) (omega (arith, low)) in
      let place : case_in c m a * 16 + (j - c.at) ≡ case_in c m a * 16 + j = omega (arith, front) in
      ap (λ i. get_or c.rows.caps i 0) (sym place) ∙ sym row ∙ rw one at is

  pub word-cases : (a n : ℕ) → ((e : ℕ) → e < n → case_in c m (a + e * c.rows.size) < c.rows.cases) → p.plain.size ≡ c.rows.size → (e : ℕ) → e < n → HaveCases p.columns.items m (a + e * p.plain.size)
  word-cases a n good is e h = subst (λ s. HaveCases p.columns.items m (a + e * s)) (sym is) (have (a + e * c.rows.size) (good e h))
