-- Rows of columns, laid over the caps of an element.
use Rattle.std.proofs.Common.{◌≡◌, inl, inr, ℕ, zero, suc, ◌+◌, ◌-◌, ◌*◌, ◌/◌, ◌%◌, ◌<◌, ◌≤◌, List, [], ◌∷◌, ◌++◌, length, take, drop, get_or, refl, sym, ap, ◌∙◌, arith}
use Rattle.std.proofs.lemmas.Bool.{cases_lt, lt-ltb, le-ltb}
use Rattle.std.proofs.lemmas.Nat.{div-add-mod'}
use Rattle.std.proofs.Math.Nat.{mod-lt}
use Rattle.std.proofs.Math.Seq.{take-length}
use Rattle.canonical_abi.specs.Types.{ClosedType}
use Rattle.canonical_abi.specs.Layout.{size}
use Rattle.ranges.specs.Bytewise.{each_cap, nodes_at, each_nodes}
use Rattle.ranges.specs.Columns.{case_in, laid, overlaid, HaveCases, column_nodes, columns_seen, AreBefore, planned_cap, planned_nodes, HasPlan}
use Rattle.ranges.specs.declared.columns.Column.{Column}
use Rattle.ranges.specs.declared.planned.Plan.{Plan}
use Rattle.ranges.proofs.CrossedElementsAppend.{nodes-both}
use Rattle.ranges.proofs.VariantElementsByCase.{each-at, below-by}

-- ---- one column

pub laid-before : (c : Column) (n i cap : ℕ) → i < c.at → laid c n i cap ≡ cap
laid-before c n i cap h = rw (lt-ltb i c.at h) refl

pub laid-within : (c : Column) (n i cap : ℕ) → c.at ≤ i → i < c.at + c.rows.size → laid c n i cap ≡ get_or c.rows.caps (n * 16 + (i - c.at)) 0
laid-within c n i cap g h = rw (le-ltb i c.at g, lt-ltb i (c.at + c.rows.size) h) refl

pub laid-after : (c : Column) (n i cap : ℕ) → c.at + c.rows.size ≤ i → laid c n i cap ≡ cap
laid-after c n i cap h = let g : c.at ≤ i = omega arith in rw (le-ltb i c.at g, le-ltb i (c.at + c.rows.size) h) refl

-- ---- all columns

-- rows that are laid over others leave nothing of these
pub laid-again : (cs : List Column) (m : List ℕ) (a : ℕ) (k : List ℕ) (b i cap : ℕ) → overlaid cs m a i (overlaid cs k b i cap) ≡ overlaid cs m a i cap
laid-again [] m a k b i cap = refl
laid-again (c ∷ cs) m a k b i cap = (let rest = laid-again cs m a k b i cap in elim (cases_lt i c.at) [
  | inl h ↦ through rest (λ n x. laid-before c n i x h)
  | inr g ↦ elim (cases_lt i (c.at + c.rows.size)) [
    | inl h ↦ ap (overlaid cs m a i) (laid-within c (case_in c m a) i _ g h ∙ sym (laid-within c (case_in c m a) i cap g h))
    | inr h ↦ through rest (λ n x. laid-after c n i x h)
  ]
])
  where
    through : overlaid cs m a i (overlaid cs k b i cap) ≡ overlaid cs m a i cap → ((n x : ℕ) → laid c n i x ≡ x) → overlaid (c ∷ cs) m a i (overlaid (c ∷ cs) k b i cap) ≡ overlaid (c ∷ cs) m a i cap
    through rest out =
        ap (overlaid cs m a i) (out (case_in c m a) (overlaid cs k b i (laid c (case_in c k b) i cap)))
        ∙ ap (λ x. overlaid cs m a i (overlaid cs k b i x)) (out (case_in c k b) cap)
        ∙ rest
        ∙ sym (ap (overlaid cs m a i) (out (case_in c m a) cap))

pub laid-past : (cs : List Column) (m : List ℕ) (a end i cap : ℕ) → AreBefore end cs → end ≤ i → overlaid cs m a i cap ≡ cap
laid-past [] m a end i cap before h = refl
laid-past (c ∷ cs) m a end i cap before h = ap (overlaid cs m a i) (laid-after c (case_in c m a) i cap (omega (arith, before.0, h))) ∙ laid-past cs m a end i cap before.4 h

-- ---- a column more

module _ (c : Column) (m : List ℕ) (a : ℕ) where
  pub laid-last : (cs : List Column) (i cap : ℕ) → overlaid (cs ++ c ∷ []) m a i cap ≡ laid c (case_in c m a) i (overlaid cs m a i cap)
  laid-last [] i cap = refl
  laid-last (d ∷ cs) i cap = laid-last cs i (laid d (case_in d m a) i cap)

  pub cases-before : (cs : List Column) → HaveCases (cs ++ c ∷ []) m a → HaveCases cs m a
  cases-before [] h = tt
  cases-before (d ∷ cs) h = (h.0, cases-before cs h.1)

  pub case-last : (cs : List Column) → HaveCases (cs ++ c ∷ []) m a → case_in c m a < c.rows.cases
  case-last [] h = h.0
  case-last (d ∷ cs) h = case-last cs h.1

  pub nodes-last : (cs : List Column) → column_nodes (cs ++ c ∷ []) m a ≡ column_nodes cs m a + get_or c.rows.nodes (case_in c m a) 0
  nodes-last [] = omega arith
  nodes-last (d ∷ cs) = let h = nodes-last cs in omega (arith, h)

pub before-more : (cs : List Column) (end more : ℕ) → end ≤ more → AreBefore end cs → AreBefore more cs
before-more [] end more h before = tt
before-more (c ∷ cs) end more h before = (omega (arith, before.0, h), before.1, before.2, before.3, before-more cs end more h before.4)

pub before-last : (cs : List Column) (c : Column) (end more : ℕ) → end ≤ more → AreBefore end cs → AreBefore more (c ∷ []) → AreBefore more (cs ++ c ∷ [])
before-last [] c end more h before last = last
before-last (d ∷ cs) c end more h before last = (omega (arith, before.0, h), before.1, before.2, before.3, before-last cs c end more h before.4 last)

-- ---- nodes of many elements

pub seen-none : (step : ℕ) (m : List ℕ) (a n : ℕ) → columns_seen [] step m a n ≡ 0
seen-none step m a zero = refl
seen-none step m a (suc n) = let h = seen-none step m a n in omega (arith, h)

pub seen-first : (c : Column) (cs : List Column) (step : ℕ) (m : List ℕ) (a n : ℕ) → columns_seen (c ∷ cs) step m a n ≡ columns_seen (c ∷ []) step m a n + columns_seen cs step m a n
seen-first c cs step m a zero = refl
seen-first c cs step m a (suc n) = let h = seen-first c cs step m a n in omega (arith, h)

-- the nodes by a column's cases, where these are the same in another memory
pub seen-same : (c : Column) (step : ℕ) (m : List ℕ) (a : ℕ) (k : List ℕ) (b n : ℕ) → ((e : ℕ) → e < n → case_in c m (a + e * step) ≡ case_in c k (b + e * step))
    → columns_seen (c ∷ []) step m a n ≡ columns_seen (c ∷ []) step k b n
seen-same c step m a k b zero same = refl
seen-same c step m a k b (suc n) same =
    let h = seen-same c step m a k b n (λ e l. same e (omega (arith, l))) in
    let last = ap (λ x. get_or c.rows.nodes x 0) (same n (omega arith)) in
    omega (arith, h, last)

-- no column has nodes
pub seen-nothing : (cs : List Column) (step : ℕ) (m : List ℕ) (a n : ℕ) → length cs < 1 → 0 ≡ columns_seen cs step m a n
seen-nothing [] step m a n h = sym (seen-none step m a n)
seen-nothing (c ∷ cs) step m a n h = absurd (omega (arith, h))

-- the first column's, and then those of the others
pub seen-both : (cs : List Column) (d : Column) (step : ℕ) (m : List ℕ) (a n : ℕ) → 1 ≤ length cs
    → columns_seen (get_or cs 0 d ∷ []) step m a n + columns_seen (take (length cs - 1) (drop 1 cs)) step m a n ≡ columns_seen cs step m a n
seen-both [] d step m a n h = absurd (omega (arith, h))
seen-both (c ∷ cs) d step m a n h =
    let rest : take (length (c ∷ cs) - 1) cs ≡ cs = (let l : length (c ∷ cs) - 1 ≡ length cs = omega arith in rw l (take-length cs)) in
    ap (λ l. columns_seen (c ∷ []) step m a n + columns_seen l step m a n) rest ∙ sym (seen-first c cs step m a n)

-- ---- a chunk

module _ (t : ClosedType) (p : Plan) (has : HasPlan t p) (m : List ℕ) (a : ℕ) where
  pub planned-caps : (n : ℕ) (filled : List ℕ) → 0 < p.plain.size → ((e : ℕ) → e < n → HaveCases p.columns.items m (a + e * p.plain.size))
      → ((e j : ℕ) → e < n → j < p.plain.size → get_or filled (e * p.plain.size + j) 0 ≡ planned_cap p m (a + e * p.plain.size) j) → (i : ℕ) → i < n * p.plain.size → get_or filled i 0 ≡ each_cap t m a n i
  planned-caps n filled some good told i h =
      let step = p.plain.size in
      let e = i / step in
      let j = i % step in
      let low : j < step = mod-lt i some in
      let whole : e * step + j ≡ i = omega (arith, div-add-mod' i step) in
      let below : e < n = below-by e n step (omega (arith, whole, h)) in
      let place : e * size t ≡ e * step = ap (λ s. e * s) (sym has.step_is) in
      let there = each-at t m n a e j below (omega (arith, low, has.step_is)) in
      let here = rw (place, whole) at there in
      ap (λ k. get_or filled k 0) (sym whole) ∙ told e j below low ∙ has.caps_are m (a + e * step) j (good e below) ∙ sym here

  pub planned-visited : (n : ℕ) → ((e : ℕ) → e < n → HaveCases p.columns.items m (a + e * p.plain.size)) → each_nodes t m a n ≡ columns_seen p.columns.items p.plain.size m a n + n * p.plain.nodes
  planned-visited zero good = omega arith
  planned-visited (suc n) good =
      let h = planned-visited n (λ e b. good e (omega (arith, b))) in
      let place : a + n * size t ≡ a + n * p.plain.size = ap (λ s. a + n * s) (sym has.step_is) in
      let last : nodes_at t m (a + n * size t) ≡ planned_nodes p m (a + n * p.plain.size) = ap (nodes_at t m) place ∙ has.nodes_are m (a + n * p.plain.size) (good n (omega arith)) in
      let one : each_nodes t m (a + n * size t) 1 ≡ nodes_at t m (a + n * size t) = (let e : nodes_at t m (a + n * size t) + 0 ≡ nodes_at t m (a + n * size t) = omega arith in e) in
      let more : n + 1 ≡ suc n = omega arith in
      let both = nodes-both t m a n 1 in
      let b = rw more at both in
      omega (arith, b, one, h, last)
