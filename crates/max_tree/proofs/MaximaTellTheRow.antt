-- A tree of maxima tells of the row below it.
use Rattle.std.proofs.Common.{◌≡◌, ◌⊎◌, inl, inr, Some, None, ℕ, zero, suc, ◌+◌, ◌-◌, ◌*◌, ◌/◌, ◌%◌, ◌^◌, ◌<◌, ◌≤◌, List, replicate, drop, get_or, sym, ap, ◌∙◌, arith}
use Rattle.std.proofs.Math.Nat.{pow-suc, mul_comm, mul-le-mul_right, mod-eq_of_lt}
use Rattle.std.proofs.Math.Pow.{pow_mono}
use Rattle.std.proofs.lemmas.Bool.{cases_lt}
use Rattle.std.proofs.lemmas.List.{drop-replicate, get_or-drop, length-drop}
use Rattle.max_tree.specs.MaxTree.{AreMaxima, IsMaxTree, FirstFrom, IsLastUnder, LastBefore}

-- powers and products, as sums
pub record Halves (node h p : ℕ) : Type 0 where
  pub whole : node * 2 ^ suc h ≡ 2 * p
  pub wide : 2 ^ suc h ≡ 2 ^ h + 2 ^ h
  pub left : (2 * node) * 2 ^ h ≡ 2 * p
  pub right : (2 * node + 1) * 2 ^ h ≡ 2 * p + 2 ^ h
  pub some : 0 < 2 ^ h
  pub more : node ≤ p

two : (h : ℕ) → 2 ^ suc h ≡ 2 * 2 ^ h
two h = pow-suc 2 h ∙ mul_comm (2 ^ h) 2

pow_positive : (h : ℕ) → 0 < 2 ^ h
pow_positive zero = omega arith
pow_positive (suc h) = let more = pow_positive h in omega (arith, two h)

double : (node p : ℕ) → node * (2 * p) ≡ 2 * (node * p)
double node p = grind arith

again : (node p : ℕ) → (2 * node) * p ≡ 2 * (node * p)
again node p = grind arith

odd : (node p : ℕ) → (2 * node + 1) * p ≡ 2 * (node * p) + p
odd node p = grind arith

at_least : (node p : ℕ) → 0 < p → node ≤ node * p
at_least node p h = let l : 1 * node ≤ p * node = mul-le-mul_right node h in omega (arith, mul_comm node p)

pub halves : (node h : ℕ) → Halves node h (node * 2 ^ h)
halves node h = record {
  whole = ap (λ k. node * k) (two h) ∙ double node (2 ^ h);
  wide = omega (arith, two h);
  left = again node (2 ^ h);
  right = odd node (2 ^ h);
  some = pow_positive h;
  more = at_least node (2 ^ h) (pow_positive h);
}

-- where a node is too small, so is each number below it
pub all_below : (h : ℕ) (tree : List ℕ) (count node size : ℕ) → AreMaxima tree count → 0 < node → node * 2 ^ h + 2 ^ h ≤ 2 * count → get_or tree node 0 < size
    → (j : ℕ) → node * 2 ^ h ≤ j → j < node * 2 ^ h + 2 ^ h → get_or tree j 0 < size
all_below zero tree count node size maxima some fits small j from to = let is : j ≡ node = omega arith in rw is small
all_below (suc h) tree count node size maxima some fits small j from to =
    let n = halves node h in
    let is = maxima node some (omega (arith, n.whole, n.wide, n.some, n.more)) in
    elim (cases_lt j ((2 * node) * 2 ^ h + 2 ^ h)) [
      | inl left ↦ all_below h tree count (2 * node) size maxima (omega arith) (omega (arith, n.whole, n.wide, n.left)) (omega arith) j (omega (arith, n.whole, n.left)) left
      | inr right ↦ all_below h tree count (2 * node + 1) size maxima (omega arith) (omega (arith, n.whole, n.wide, n.right)) (omega arith) j (omega (arith, n.left, n.right)) (omega (arith, n.whole, n.wide, n.right))
    ]

-- the numbers to the left of a node, which is so high above the row, are too small
pub record Passed (tree : List ℕ) (count node size : ℕ) : Type 0 where
  pub height : ℕ
  pub from : count ≤ node * 2 ^ height
  pub fits : node * 2 ^ height + 2 ^ height ≤ 2 * count
  pub small : (j : ℕ) → count ≤ j → j < node * 2 ^ height → get_or tree j 0 < size

-- a node at which the row is reached
at_row : (tree : List ℕ) (count node size : ℕ) → Passed tree count node size → 0 < node → count ≤ node → (node < 2 * count) × ((j : ℕ) → count ≤ j → j < node → get_or tree j 0 < size)
at_row tree count node size p some far = by p.height p.fits p.small
  where
    by : (h : ℕ) → node * 2 ^ h + 2 ^ h ≤ 2 * count → ((j : ℕ) → count ≤ j → j < node * 2 ^ h → get_or tree j 0 < size) → (node < 2 * count) × ((j : ℕ) → count ≤ j → j < node → get_or tree j 0 < size)
    by zero fits small = (omega arith, λ j a b. small j a (omega arith))
    by (suc h) fits small = let n = halves node h in absurd (omega (arith, n.whole, n.wide, n.some, n.more))

pub first_found : (tree : List ℕ) (depth count node size : ℕ) → IsMaxTree tree depth count → Passed tree count node size → 0 < node → count ≤ node → size ≤ get_or tree node 0
    → FirstFrom (drop count tree) size (Some (node - count))
first_found tree depth count node size t p some far enough =
    let row = at_row tree count node size p some far in
    let sized = t.sized in
    let long = length-drop count tree in
    let at : count + (node - count) ≡ node = omega arith in (
      omega (arith, row.0),
      rw (get_or-drop count tree (node - count) 0, at) enough,
      λ k less. rw (get_or-drop count tree k 0) (row.1 (count + k) (omega arith) (omega arith)),
    )

pub none_found : (tree : List ℕ) (depth count size : ℕ) → IsMaxTree tree depth count → get_or tree 1 0 < size → FirstFrom (drop count tree) size None
none_found tree depth count size t small k less =
    let sized = t.sized in
    let powers = t.powers in
    let long = length-drop count tree in
    let below : k < count = omega arith in
    rw (get_or-drop count tree k 0) (all_below depth tree count 1 size t.maxima (omega arith) (omega arith) small (count + k) (omega arith) (omega arith))

-- one node further down
pub passed_below : (tree : List ℕ) (count node size next : ℕ) → AreMaxima tree count → Passed tree count node size → 0 < node → node < count
    → ((next ≡ 2 * node) × (size ≤ get_or tree (2 * node) 0)) ⊎ ((next ≡ 2 * node + 1) × (get_or tree (2 * node) 0 < size)) → Passed tree count next size
passed_below tree count node size next maxima p some near step = by p.height p.from p.fits p.small step
  where
    by : (h : ℕ) → count ≤ node * 2 ^ h → node * 2 ^ h + 2 ^ h ≤ 2 * count → ((j : ℕ) → count ≤ j → j < node * 2 ^ h → get_or tree j 0 < size)
        → ((next ≡ 2 * node) × (size ≤ get_or tree (2 * node) 0)) ⊎ ((next ≡ 2 * node + 1) × (get_or tree (2 * node) 0 < size)) → Passed tree count next size
    by zero from fits small step = absurd (omega arith)
    by (suc h) from fits small (inl (is, enough)) =
        let n = halves node h in
        rw is (record {
          height = h;
          from = omega (arith, n.whole, n.left);
          fits = omega (arith, n.whole, n.wide, n.left);
          small = λ j a b. small j a (omega (arith, n.whole, n.left));
        })
    by (suc h) from fits small (inr (is, short)) =
        let n = halves node h in
        rw is (record {
          height = h;
          from = omega (arith, n.whole, n.right);
          fits = omega (arith, n.whole, n.wide, n.right);
          small = λ j a b. elim (cases_lt j (node * 2 ^ suc h)) [
            | inl less ↦ small j a less
            | inr past ↦ all_below h tree count (2 * node) size maxima (omega arith) (omega (arith, n.whole, n.wide, n.left)) short j (omega (arith, n.whole, n.left)) (omega (arith, n.whole, n.left, n.right))
          ];
        })

-- ---- from the right

-- where a node is 0, so is each number below it
pub all_zero : (h : ℕ) (tree : List ℕ) (count node : ℕ) → AreMaxima tree count → 0 < node → node * 2 ^ h + 2 ^ h ≤ 2 * count → get_or tree node 0 ≡ 0
    → (j : ℕ) → node * 2 ^ h ≤ j → j < node * 2 ^ h + 2 ^ h → get_or tree j 0 ≡ 0
all_zero h tree count node maxima some fits none j from to =
    let small = all_below h tree count node 1 maxima some fits (omega arith) j from to in omega arith

-- what comes behind a node, up to an end, is 0, and the node is not; the node is so high above the row
pub record Trailed (tree : List ℕ) (count from to node : ℕ) : Type 0 where
  pub height : ℕ
  pub reaches : count ≤ node * 2 ^ height
  pub after : from ≤ node * 2 ^ height
  pub fits : node * 2 ^ height + 2 ^ height ≤ to
  pub within : to ≤ 2 * count
  pub some : 0 < get_or tree node 0
  pub rest : (j : ℕ) → node * 2 ^ height + 2 ^ height ≤ j → j < to → get_or tree j 0 ≡ 0

pub trailed_below : (tree : List ℕ) (count from to node next : ℕ) → AreMaxima tree count → Trailed tree count from to node → 0 < node → node < count
    → ((next ≡ 2 * node + 1) × (0 < get_or tree (2 * node + 1) 0)) ⊎ ((next ≡ 2 * node) × (get_or tree (2 * node + 1) 0 ≡ 0)) → Trailed tree count from to next
trailed_below tree count from to node next maxima t some near step = by t.height t.reaches t.after t.fits t.rest step
  where
    by : (h : ℕ) → count ≤ node * 2 ^ h → from ≤ node * 2 ^ h → node * 2 ^ h + 2 ^ h ≤ to → ((j : ℕ) → node * 2 ^ h + 2 ^ h ≤ j → j < to → get_or tree j 0 ≡ 0)
        → ((next ≡ 2 * node + 1) × (0 < get_or tree (2 * node + 1) 0)) ⊎ ((next ≡ 2 * node) × (get_or tree (2 * node + 1) 0 ≡ 0)) → Trailed tree count from to next
    by zero reaches after fits rest step = absurd (omega arith)
    by (suc h) reaches after fits rest (inl (is, held)) =
        let n = halves node h in
        rw is (record {
          height = h;
          reaches = omega (arith, n.whole, n.right);
          after = omega (arith, n.whole, n.right);
          fits = omega (arith, n.whole, n.wide, n.right);
          within = t.within;
          some = held;
          rest = λ j a b. rest j (omega (arith, n.whole, n.wide, n.right)) b;
        })
    by (suc h) reaches after fits rest (inr (is, none)) =
        let n = halves node h in
        let up = maxima node some near in
        let held = t.some in
        let most = t.within in
        rw is (record {
          height = h;
          reaches = omega (arith, n.whole, n.left);
          after = omega (arith, n.whole, n.left);
          fits = omega (arith, n.whole, n.wide, n.left);
          within = t.within;
          some = omega arith;
          rest = λ j a b. elim (cases_lt j (node * 2 ^ suc h + 2 ^ suc h)) [
            | inl less ↦ all_zero h tree count (2 * node + 1) maxima (omega arith) (omega (arith, n.whole, n.wide, n.right)) none j (omega (arith, n.left, n.right)) (omega (arith, n.whole, n.wide, n.right))
            | inr past ↦ rest j past b
          ];
        })

pub trailed_end : (tree : List ℕ) (count from to node : ℕ) → Trailed tree count from to node → 0 < node → count ≤ node → (place : ℕ) → count + place ≡ node → IsLastUnder tree count from to place
trailed_end tree count from to node t some far place is = by t.height t.after t.fits t.rest
  where
    by : (h : ℕ) → from ≤ node * 2 ^ h → node * 2 ^ h + 2 ^ h ≤ to → ((j : ℕ) → node * 2 ^ h + 2 ^ h ≤ j → j < to → get_or tree j 0 ≡ 0) → IsLastUnder tree count from to place
    by zero after fits rest = record {
      after = omega arith;
      before = omega arith;
      some = rw is t.some;
      rest = λ j a b. rest j (omega arith) b;
    }
    by (suc h) after fits rest = let n = halves node h in let most = t.within in absurd (omega (arith, n.whole, n.wide, n.some, n.more))

-- ---- climbing: from a place's own node up, all numbers between the node's first and the place are 0

pub record Climbed (tree : List ℕ) (count i node : ℕ) : Type 0 where
  pub height : ℕ
  pub level : ℕ
  pub whole : 2 ^ level * 2 ^ height ≡ count
  pub low : 2 ^ level ≤ node
  pub high : node < 2 * 2 ^ level
  pub under : node * 2 ^ height ≤ count + i
  pub zeros : (j : ℕ) → node * 2 ^ height ≤ j → j < count + i → get_or tree j 0 ≡ 0

pub climbed_first : (tree : List ℕ) (count depth i : ℕ) → count ≡ 2 ^ depth → 0 < i → i ≤ count → get_or tree (count + (i - 1)) 0 ≡ 0 → Climbed tree count i (count + (i - 1))
climbed_first tree count depth i is some within none = record {
  height = 0;
  level = depth;
  whole = omega arith;
  low = omega arith;
  high = omega arith;
  under = omega arith;
  zeros = λ j a b. (let at : j ≡ count + (i - 1) = omega arith in rw at none);
}

-- the block of a node that stands among those of its level
record InLevel (count h b : ℕ) : Type 0 where
  reaches : count ≤ b * 2 ^ h
  fits : b * 2 ^ h + 2 ^ h ≤ 2 * count

in_level : (count l h b : ℕ) → 2 ^ l * 2 ^ h ≡ count → 2 ^ l ≤ b → b < 2 * 2 ^ l → InLevel count h b
in_level count l h b whole low high =
    let p : 2 ^ l * 2 ^ h ≤ b * 2 ^ h = mul-le-mul_right (2 ^ h) low in
    let more : b + 1 ≤ 2 * 2 ^ l = omega arith in
    let q : (b + 1) * 2 ^ h ≤ 2 * 2 ^ l * 2 ^ h = mul-le-mul_right (2 ^ h) more in
    let next : (b + 1) * 2 ^ h ≡ b * 2 ^ h + 2 ^ h = grind arith in
    let most : 2 * 2 ^ l * 2 ^ h ≡ 2 * (2 ^ l * 2 ^ h) = again (2 ^ l) (2 ^ h) in
    record { reaches = omega arith; fits = omega arith }

-- the node before one that is the second of two
pub record Before (count h node : ℕ) : Type 0 where
  pub reaches : count ≤ (node - 1) * 2 ^ h
  pub fits : (node - 1) * 2 ^ h + 2 ^ h ≤ 2 * count
  pub ends : (node - 1) * 2 ^ h + 2 ^ h ≡ node * 2 ^ h

pub before_odd : (tree : List ℕ) (count i node : ℕ) (c : Climbed tree count i node) → 1 < node → node % 2 ≡ 1 → Before count c.height node
before_odd tree count i node c more odd_ = by c.level c.whole c.low c.high
  where
    by : (l : ℕ) → 2 ^ l * 2 ^ c.height ≡ count → 2 ^ l ≤ node → node < 2 * 2 ^ l → Before count c.height node
    by zero whole low high = absurd (omega arith)
    by (suc l) whole low high =
        let two_l = two l in
        let level = in_level count (suc l) c.height (node - 1) whole (omega arith) (omega arith) in
        let back : node ≡ (node - 1) + 1 = omega arith in
        let next : ((node - 1) + 1) * 2 ^ c.height ≡ (node - 1) * 2 ^ c.height + 2 ^ c.height = grind arith in
        record { reaches = level.reaches; fits = level.fits; ends = sym next ∙ ap (λ k. k * 2 ^ c.height) (sym back) }

pub climbed_up : (tree : List ℕ) (count i node : ℕ) → AreMaxima tree count → Climbed tree count i node → 1 < node → (node % 2 ≡ 1 → get_or tree (node - 1) 0 ≡ 0) → Climbed tree count i (node / 2)
climbed_up tree count i node maxima c more none = by c.level c.whole c.low c.high
  where
    h : ℕ
    h = c.height

    k : ℕ
    k = node / 2

    by : (l : ℕ) → 2 ^ l * 2 ^ c.height ≡ count → 2 ^ l ≤ node → node < 2 * 2 ^ l → Climbed tree count i (node / 2)
    by zero whole low high = absurd (omega arith)
    by (suc l) whole low high =
        let two_l = two l in
        let n = halves (node / 2) c.height in
        let wider : 2 ^ l * 2 ^ suc c.height ≡ 2 ^ suc l * 2 ^ c.height = ap (λ x. 2 ^ l * x) (two c.height) ∙ double (2 ^ l) (2 ^ c.height) ∙ sym (again (2 ^ l) (2 ^ c.height)) ∙ ap (λ x. x * 2 ^ c.height) (sym two_l) in
        elim (cases_lt (node % 2) 1) [
          | inl even ↦
              let is : node ≡ 2 * (node / 2) = omega arith in
              let same : node * 2 ^ c.height ≡ (node / 2) * 2 ^ suc c.height = ap (λ x. x * 2 ^ c.height) is ∙ n.left ∙ sym n.whole in
              record {
                height = suc c.height;
                level = l;
                whole = wider ∙ whole;
                low = omega arith;
                high = omega arith;
                under = omega (arith, same, c.under);
                zeros = λ j a b. c.zeros j (omega (arith, same)) b;
              }
          | inr odd_one ↦
              let is : node ≡ 2 * (node / 2) + 1 = omega arith in
              let rest : node % 2 ≡ 1 = omega arith in
              let before = before_odd tree count i node c more rest in
              let start : (node - 1) * 2 ^ c.height ≡ (node / 2) * 2 ^ suc c.height = ap (λ x. x * 2 ^ c.height) (omega arith) ∙ n.left ∙ sym n.whole in
              record {
                height = suc c.height;
                level = l;
                whole = wider ∙ whole;
                low = omega arith;
                high = omega arith;
                under = omega (arith, start, before.ends, c.under);
                zeros = λ j a b. elim (cases_lt j (node * 2 ^ c.height)) [
                  | inl less ↦ all_zero c.height tree count (node - 1) maxima (omega arith) before.fits (none rest) j (omega (arith, start)) (omega (arith, before.ends))
                  | inr past ↦ c.zeros j past b
                ];
              }
        ]

pub climbed_found : (tree : List ℕ) (count i node p : ℕ) (c : Climbed tree count i node) → Before count c.height node → IsLastUnder tree count ((node - 1) * 2 ^ c.height) ((node - 1) * 2 ^ c.height + 2 ^ c.height) p
    → LastBefore (drop count tree) i (Some p)
climbed_found tree count i node p c before last = (
  omega (arith, last.before, before.ends, c.under),
  rw (get_or-drop count tree p 0) last.some,
  λ k a b. rw (get_or-drop count tree k 0) (zero_at k a b),
)
  where
    zero_at : (k : ℕ) → p < k → k < i → get_or tree (count + k) 0 ≡ 0
    zero_at k a b = elim (cases_lt (count + k) (node * 2 ^ c.height)) [
      | inl less ↦ last.rest (count + k) (omega arith) (omega (arith, before.ends))
      | inr past ↦ c.zeros (count + k) past (omega arith)
    ]

pub climbed_out : (tree : List ℕ) (count i node : ℕ) → Climbed tree count i node → node ≤ 1 → 0 < node → LastBefore (drop count tree) i None
climbed_out tree count i node c few some = by c.level c.whole c.low c.high
  where
    by : (l : ℕ) → 2 ^ l * 2 ^ c.height ≡ count → 2 ^ l ≤ node → node < 2 * 2 ^ l → LastBefore (drop count tree) i None
    by zero whole low high = λ k a. rw (get_or-drop count tree k 0) (let one : node ≡ 1 = omega arith in let at : node * 2 ^ c.height ≡ 2 ^ c.height = ap (λ x. x * 2 ^ c.height) one ∙ omega arith in c.zeros (count + k) (omega arith) (omega arith))
    by (suc l) whole low high = let two_l = two l in let positive = pow_positive l in absurd (omega arith)

-- ---- the first row

small_power : (depth : ℕ) → depth ≤ 31 → 1 * 2 ^ depth % 18446744073709551616 ≡ 2 ^ depth
small_power depth shallow =
    let most : 2 ^ depth ≤ 2 ^ 31 = pow_mono shallow in
    let few : 1 * 2 ^ depth < 18446744073709551616 = omega arith in
    mod-eq_of_lt few ∙ omega arith

pub all_zeros : (depth count : ℕ) (tree : List ℕ) → depth ≤ 31 → count ≡ 1 * 2 ^ depth % 18446744073709551616 → tree ≡ replicate (2 * count) 0 → drop count tree ≡ replicate (2 ^ depth) 0
all_zeros depth count tree shallow is zeros =
    let power : count ≡ 2 ^ depth = is ∙ small_power depth shallow in
    let half : 2 * count - count ≡ 2 ^ depth = omega arith in
    ap (drop count) zeros ∙ drop-replicate count (2 * count) 0 ∙ ap (λ n. replicate n 0) half
