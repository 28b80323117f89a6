-- Blocks that rise are apart, and blocks that are apart rise once they are in the order of their addresses.
use Rattle.std.proofs.Common.{◌≡◌, ◌+◌, ◌<◌, ◌≤◌, ℕ, suc, Bool, true, false, ◌&&◌, ◌||◌, cond, ◌==◌, nat_le, List, [], ◌∷◌, length, get_or, refl, sym, ap, ◌∙◌, arith, inl, inr}
use Rattle.std.specs.List.{list_all, sum_by}
use Rattle.std.specs.List.Sorted.{IsPermutation, IsNonDecreasingBy}
use Rattle.std.proofs.lemmas.Bool.{both_ways, false≢true, and_from, and_parts, cases_Bool, eqb-true, leb-true, le-leb, or_left, or_right}
use Rattle.std.proofs.lemmas.Bool.Decides.{nat_tests}
use Rattle.std.proofs.lemmas.List.Sorted.{sum_by-IsPermutation, IsPermutation-sym}
use Rattle.std.proofs.lemmas.List.Sums.{sum_by-cons}
use Rattle.memory.specs.Blocks.{is_in_block, is_apart, are_blocks_apart, rise, IsRisingByAddress}
use Rattle.memory.specs.declared.block.Block.{Block}

-- ---- tests of blocks

-- a test that follows from another one
all_imply : (p q : Block → Bool) → ((b : Block) → p b ≡ true → q b ≡ true) → (bs : List Block) → list_all p bs ≡ true → list_all q bs ≡ true
all_imply p q imply [] h = refl
all_imply p q imply (b ∷ bs) h = let t = and_parts (p b) (list_all p bs) h in and_from (q b) (list_all q bs) (imply b t.0) (all_imply p q imply bs t.1)

all_join : (p q r : Block → Bool) → ((b : Block) → p b ≡ true → q b ≡ true → r b ≡ true) → (bs : List Block) → list_all p bs ≡ true → list_all q bs ≡ true → list_all r bs ≡ true
all_join p q r imply [] h i = refl
all_join p q r imply (b ∷ bs) h i =
    let t = and_parts (p b) (list_all p bs) h in
    let u = and_parts (q b) (list_all q bs) i in
    and_from (r b) (list_all r bs) (imply b t.0 u.0) (all_join p q r imply bs t.1 u.1)

-- what one of two choices shows
from_choice : (t x y : Bool) (P : Type 0) → (t ≡ true → x ≡ true → P) → (t ≡ false → y ≡ true → P) → cond t x y ≡ true → P
from_choice true x y P f g h = f refl h
from_choice false x y P f g h = g refl h

chosen : (t x y : Bool) → (t ≡ true → x ≡ true) → (t ≡ false → y ≡ true) → cond t x y ≡ true
chosen true x y f g = f refl
chosen false x y f g = g refl

-- the block has no address, or begins here at least
abbrev is_behind : ℕ → Block → Bool
is_behind low b = b.size == 0 || nat_le low b.at

empty_apart : (b c : Block) → b.size ≡ 0 → is_apart b c ≡ true
unfolding is_apart
empty_apart b c h = grind (arith, nat_tests)

behind_apart : (b c : Block) → is_behind (b.at + b.size) c ≡ true → is_apart b c ≡ true
unfolding is_apart
behind_apart b c h = grind (arith, nat_tests)

apart_behind : (b c : Block) → (b.size == 0) ≡ false → is_apart b c ≡ true → nat_le b.at c.at ≡ true → is_behind (b.at + b.size) c ≡ true
unfolding is_apart
apart_behind b c some h i = grind (arith, nat_tests)

-- ---- blocks that rise

-- they are all behind
rise_behind : (low end : ℕ) (bs : List Block) → low ≤ end → rise end bs ≡ true → list_all (is_behind low) bs ≡ true
rise_behind low end [] le h = refl
rise_behind low end (b ∷ bs) le h =
    from_choice (b.size == 0) (rise end bs) (nat_le end b.at && rise (b.at + b.size) bs) (list_all (is_behind low) (b ∷ bs) ≡ true)
    (λ none more. and_from (is_behind low b) (list_all (is_behind low) bs) (or_left (b.size == 0) (nat_le low b.at) none) (rise_behind low end bs le more))
    (λ some more.
    let t = and_parts (nat_le end b.at) (rise (b.at + b.size) bs) more in
    let from = leb-true end b.at t.0 in
    and_from (is_behind low b) (list_all (is_behind low) bs) (or_right (b.size == 0) (nat_le low b.at) (le-leb low b.at (omega arith)))
    (rise_behind low (b.at + b.size) bs (omega arith) t.1))
    h

-- so no two meet
pub apart_from_rise : (end : ℕ) (bs : List Block) → rise end bs ≡ true → are_blocks_apart bs ≡ true
apart_from_rise end [] h = refl
apart_from_rise end (b ∷ bs) h =
    from_choice (b.size == 0) (rise end bs) (nat_le end b.at && rise (b.at + b.size) bs) (are_blocks_apart (b ∷ bs) ≡ true)
    (λ none more.
    let beside = all_imply (λ c. true) (is_apart b) (λ c x. empty_apart b c (eqb-true b.size 0 none)) bs (all_true bs) in
    and_from (list_all (is_apart b) bs) (are_blocks_apart bs) beside (apart_from_rise end bs more))
    (λ some more.
    let t = and_parts (nat_le end b.at) (rise (b.at + b.size) bs) more in
    let beside = all_imply (is_behind (b.at + b.size)) (is_apart b) (λ c x. behind_apart b c x) bs (rise_behind (b.at + b.size) (b.at + b.size) bs (omega arith) t.1) in
    and_from (list_all (is_apart b) bs) (are_blocks_apart bs) beside (apart_from_rise (b.at + b.size) bs t.1))
    h
  where
    all_true : (cs : List Block) → list_all (λ c. true) cs ≡ true
    all_true [] = refl
    all_true (c ∷ cs) = all_true cs

-- ---- blocks by their addresses

least_first : (low : ℕ) (bs : List Block) → ((j : ℕ) (d : Block) → j < length bs → low ≤ (get_or bs j d).at) → list_all (λ c. nat_le low c.at) bs ≡ true
least_first low [] h = refl
least_first low (b ∷ bs) h =
    and_from (nat_le low b.at) (list_all (λ c. nat_le low c.at) bs) (le-leb low b.at (h 0 b (omega arith)))
    (least_first low bs (λ j d below. h (suc j) d (omega arith)))

rise_in_order : (end : ℕ) (bs : List Block) → list_all (is_behind end) bs ≡ true → are_blocks_apart bs ≡ true → IsNonDecreasingBy (λ b. b.at) bs → rise end bs ≡ true
rise_in_order end [] behind apart sorted = refl
rise_in_order end (b ∷ bs) behind apart sorted =
    let first = and_parts (is_behind end b) (list_all (is_behind end) bs) behind in
    let t = and_parts (list_all (is_apart b) bs) (are_blocks_apart bs) apart in
    let rest : IsNonDecreasingBy (λ b. b.at) bs = λ i j d le below. sorted (suc i) (suc j) d (omega arith) (omega arith) in
    let low : list_all (λ c. nat_le b.at c.at) bs ≡ true = least_first b.at bs (λ j d below. sorted 0 (suc j) d (omega arith) (omega arith)) in
    chosen (b.size == 0) (rise end bs) (nat_le end b.at && rise (b.at + b.size) bs)
    (λ none. rise_in_order end bs first.1 t.1 rest)
    (λ some.
    let next = all_join (is_apart b) (λ c. nat_le b.at c.at) (is_behind (b.at + b.size)) (λ c x y. apart_behind b c some x y) bs t.0 low in
    and_from (nat_le end b.at) (rise (b.at + b.size) bs) (second (b.size == 0) (nat_le end b.at) some first.0) (rise_in_order (b.at + b.size) bs next t.1 rest))
  where
    second : (x y : Bool) → x ≡ false → (x || y) ≡ true → y ≡ true
    second true y none h = absurd (false≢true (sym none))
    second false y none h = h

-- ---- blocks that are apart, by their addresses: none lies in two of them

abbrev one_in : ℕ → Block → ℕ
one_in a b = cond (is_in_block b a) 1 0

abbrev count_at : ℕ → List Block → ℕ
count_at a bs = sum_by (one_in a) bs

apart_at : (b c : Block) (a : ℕ) → is_apart b c ≡ true → is_in_block b a ≡ true → one_in a c ≡ 0
unfolding is_apart
apart_at b c a h i = grind (arith, nat_tests)

none_at : (b : Block) (bs : List Block) (a : ℕ) → list_all (is_apart b) bs ≡ true → is_in_block b a ≡ true → count_at a bs ≡ 0
none_at b [] a h i = refl
none_at b (c ∷ cs) a h i =
    let t = and_parts (is_apart b c) (list_all (is_apart b) cs) h in
    let here = apart_at b c a t.0 i in
    let more = none_at b cs a t.1 i in
    omega (arith, sum_by-cons (one_in a) c cs)

one_at : (bs : List Block) (a : ℕ) → are_blocks_apart bs ≡ true → count_at a bs ≤ 1
one_at [] a h = omega arith
one_at (b ∷ bs) a h =
    let t = and_parts (list_all (is_apart b) bs) (are_blocks_apart bs) h in
    elim (cases_Bool (is_in_block b a)) [
      | inl is ↦ let none = none_at b bs a t.0 is in let here : one_in a b ≡ 1 = ap (λ x. cond x 1 0) is in omega (arith, sum_by-cons (one_in a) b bs)
      | inr out ↦ let more = one_at bs a t.1 in let here : one_in a b ≡ 0 = ap (λ x. cond x 1 0) out in omega (arith, sum_by-cons (one_in a) b bs)
    ]

-- the address at which two blocks meet
abbrev meeting : Block → Block → ℕ
meeting b c = cond (nat_le b.at c.at) c.at b.at

meets : (b c : Block) → is_apart b c ≡ false → (is_in_block b (meeting b c) ≡ true) × (one_in (meeting b c) c ≡ 1)
unfolding is_apart
meets b c h = (grind (arith, nat_tests), grind (arith, nat_tests))

beside : (b : Block) (bs : List Block) → ((a : ℕ) → is_in_block b a ≡ true → count_at a bs ≡ 0) → list_all (is_apart b) bs ≡ true
beside b [] h = refl
beside b (c ∷ cs) h =
    let rest = beside b cs (λ a is. let all = h a is in omega (arith, sum_by-cons (one_in a) c cs)) in
    elim (cases_Bool (is_apart b c)) [
      | inl apart ↦ and_from (is_apart b c) (list_all (is_apart b) cs) apart rest
      | inr not_apart ↦ let m = meets b c not_apart in let none = h (meeting b c) m.0 in absurd (omega (arith, sum_by-cons (one_in (meeting b c)) c cs))
    ]

apart_from_one : (bs : List Block) → ((a : ℕ) → count_at a bs ≤ 1) → are_blocks_apart bs ≡ true
apart_from_one [] h = refl
apart_from_one (b ∷ bs) h =
    and_from (list_all (is_apart b) bs) (are_blocks_apart bs)
    (beside b bs (λ a is. let here : one_in a b ≡ 1 = ap (λ x. cond x 1 0) is in let all = h a in omega (arith, sum_by-cons (one_in a) b bs)))
    (apart_from_one bs (λ a. let all = h a in omega (arith, sum_by-cons (one_in a) b bs)))

-- in another order they are apart as well
are_apart-IsPermutation : (xs ys : List Block) → IsPermutation xs ys → are_blocks_apart xs ≡ true → are_blocks_apart ys ≡ true
are_apart-IsPermutation xs ys same h =
    apart_from_one ys (λ a. let e = sum_by-IsPermutation (one_in a) xs ys same in let one = one_at xs a h in omega arith)

-- blocks by their addresses rise exactly where they are apart
pub rise_by_address : (bs sorted : List Block) → IsRisingByAddress bs sorted → rise 0 sorted ≡ are_blocks_apart bs
rise_by_address bs sorted (same, rising) =
    elim (cases_Bool (rise 0 sorted)) [
      | inl is ↦ is ∙ sym (are_apart-IsPermutation sorted bs (IsPermutation-sym bs sorted same) (apart_from_rise 0 sorted is))
      | inr not_so ↦
          elim (cases_Bool (are_blocks_apart bs)) [
            | inl apart ↦ absurd (both_ways (rise 0 sorted) not_so (rise_in_order 0 sorted (all_behind sorted) (are_apart-IsPermutation bs sorted same apart) rising))
            | inr meet ↦ not_so ∙ sym meet
          ]
    ]
  where
    all_behind : (cs : List Block) → list_all (is_behind 0) cs ≡ true
    all_behind [] = refl
    all_behind (c ∷ cs) = and_from (is_behind 0 c) (list_all (is_behind 0) cs) (or_right (c.size == 0) (nat_le 0 c.at) (le-leb 0 c.at (omega arith))) (all_behind cs)
