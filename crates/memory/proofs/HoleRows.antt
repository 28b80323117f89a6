-- The holes for which a row of units stands, and what a change of the row does to their list.
use Rattle.std.proofs.Common.{◌≡◌, ◌≢◌, ◌+◌, ◌*◌, ◌%◌, ◌<◌, ◌≤◌, ℕ, zero, suc, List, [], ◌∷◌, length, set, get_or, replicate, refl, ap, ◌∙◌, arith, inl, inr}
use Rattle.std.specs.Prelude.{remove, insert}
use Rattle.std.proofs.lemmas.List.{get_or-set_other, length-set}
use Rattle.std.proofs.lemmas.Bool.{cases_lt}
use Rattle.memory.specs.Holes.{Hole, AreHolesApart, start_of, hole_end, holes_of, whole}
use Rattle.memory.proofs.HoleLists.{holes_rise, end_below}

-- ---- lists

insert-remove : (i : ℕ) (holes : List Hole) (hole : Hole) → i < length holes → insert (remove holes i) i hole ≡ set holes i hole
insert-remove i [] hole below = absurd (omega arith)
insert-remove zero (one ∷ holes) hole below = refl
insert-remove (suc i) (one ∷ holes) hole below = ap (λ rest. one ∷ rest) (insert-remove i holes hole (omega arith))

set-remove : (i : ℕ) (holes : List Hole) (hole : Hole) → set (remove holes (suc i)) i hole ≡ remove (set holes i hole) (suc i)
set-remove i [] hole = refl
set-remove zero (one ∷ holes) hole = refl
set-remove (suc i) (one ∷ holes) hole = ap (λ rest. one ∷ rest) (set-remove i holes hole)

-- ---- the place of a unit's hole in the list

-- how many holes begin before a unit
abbrev pub rank : ℕ → List ℕ → ℕ
rank zero row = 0
rank (suc v) [] = 0
rank (suc v) (zero ∷ row) = rank v row
rank (suc v) (suc n ∷ row) = suc (rank v row)

pub rank_within : (v unit : ℕ) (row : List ℕ) → rank v row ≤ length (holes_of unit row)
rank_within zero unit row = omega arith
rank_within (suc v) unit [] = omega arith
rank_within (suc v) unit (zero ∷ row) = rank_within v (suc unit) row
rank_within (suc v) unit (suc n ∷ row) = let rest = rank_within v (suc unit) row in omega arith

pub rank_all : (unit : ℕ) (row : List ℕ) → rank (length row) row ≡ length (holes_of unit row)
rank_all unit [] = refl
rank_all unit (zero ∷ row) = rank_all (suc unit) row
rank_all unit (suc n ∷ row) = ap suc (rank_all (suc unit) row)

-- no hole begins between two units
pub rank_same : (v w : ℕ) (row : List ℕ) → v ≤ w → ((k : ℕ) → v ≤ k → k < w → get_or row k 0 ≡ 0) → rank w row ≡ rank v row
rank_same zero zero row order none = refl
rank_same (suc v) zero row order none = absurd (omega arith)
rank_same zero (suc w) [] order none = refl
rank_same zero (suc w) (zero ∷ row) order none = rank_same zero w row (omega arith) (λ k a b. none (suc k) (omega arith) (omega arith))
rank_same zero (suc w) (suc n ∷ row) order none = let is = none 0 (omega arith) (omega arith) in absurd (omega arith)
rank_same (suc v) (suc w) [] order none = refl
rank_same (suc v) (suc w) (zero ∷ row) order none = rank_same v w row (omega arith) (λ k a b. none (suc k) (omega arith) (omega arith))
rank_same (suc v) (suc w) (suc n ∷ row) order none = ap suc (rank_same v w row (omega arith) (λ k a b. none (suc k) (omega arith) (omega arith)))

pub rank_past : (v : ℕ) (row : List ℕ) → 0 < get_or row v 0 → rank (suc v) row ≡ suc (rank v row)
rank_past v [] some = absurd (omega arith)
rank_past zero (zero ∷ row) some = absurd (omega arith)
rank_past zero (suc n ∷ row) some = refl
rank_past (suc v) (zero ∷ row) some = rank_past v row some
rank_past (suc v) (suc n ∷ row) some = ap suc (rank_past v row some)

pub rank_rises : (v w : ℕ) (row : List ℕ) → 0 < get_or row v 0 → v < w → rank v row < rank w row
rank_rises v w [] some order = absurd (omega arith)
rank_rises v zero (n ∷ row) some order = absurd (omega arith)
rank_rises zero (suc w) (zero ∷ row) some order = absurd (omega arith)
rank_rises zero (suc w) (suc n ∷ row) some order = omega arith
rank_rises (suc v) (suc w) (zero ∷ row) some order = rank_rises v w row some (omega arith)
rank_rises (suc v) (suc w) (suc n ∷ row) some order = let rest = rank_rises v w row some (omega arith) in omega arith

-- a change behind leaves the place
rank-set : (v w n : ℕ) (row : List ℕ) → v ≤ w → rank v (set row w n) ≡ rank v row
rank-set zero w n row order = refl
rank-set (suc v) w n [] order = refl
rank-set (suc v) zero n (m ∷ row) order = absurd (omega arith)
rank-set (suc v) (suc w) n (zero ∷ row) order = rank-set v w n row (omega arith)
rank-set (suc v) (suc w) n (suc m ∷ row) order = ap suc (rank-set v w n row (omega arith))

-- a hole before that is gone counts no more
rank-cleared : (v w : ℕ) (row : List ℕ) → 0 < get_or row v 0 → v < w → suc (rank w (set row v 0)) ≡ rank w row
rank-cleared v w [] some order = absurd (omega arith)
rank-cleared v zero (n ∷ row) some order = absurd (omega arith)
rank-cleared zero (suc w) (zero ∷ row) some order = absurd (omega arith)
rank-cleared zero (suc w) (suc n ∷ row) some order = refl
rank-cleared (suc v) (suc w) (zero ∷ row) some order = rank-cleared v w row some (omega arith)
rank-cleared (suc v) (suc w) (suc n ∷ row) some order = ap suc (rank-cleared v w row some (omega arith))

-- ---- the hole that begins at a unit

pub record Begins (unit : ℕ) (row : List ℕ) (v : ℕ) : Type 0 where
  pub below : rank v row < length (holes_of unit row)
  pub starts : start_of (holes_of unit row) (rank v row) ≡ 8 * (unit + v)
  pub ends : hole_end (holes_of unit row) (rank v row) ≡ 8 * (unit + v + get_or row v 0)

pub begins : (v unit : ℕ) (row : List ℕ) → 0 < get_or row v 0 → Begins unit row v
begins v unit [] some = absurd (omega arith)
begins zero unit (zero ∷ row) some = absurd (omega arith)
begins zero unit (suc n ∷ row) some = record { below = omega arith; starts = omega arith; ends = omega arith }
begins (suc v) unit (zero ∷ row) some =
    let rest = begins v (suc unit) row some in
    record { below = rest.below; starts = omega (arith, rest.starts); ends = omega (arith, rest.ends) }
begins (suc v) unit (suc n ∷ row) some =
    let rest = begins v (suc unit) row some in
    record { below = omega (arith, rest.below); starts = omega (arith, rest.starts); ends = omega (arith, rest.ends) }

-- a hole that is behind those before a unit begins there or behind
pub starts_from : (v unit : ℕ) (row : List ℕ) → rank v row < length (holes_of unit row) → 8 * (unit + v) ≤ start_of (holes_of unit row) (rank v row)
starts_from zero unit [] below = absurd (omega arith)
starts_from zero unit (zero ∷ row) below = let rest = starts_from zero (suc unit) row below in omega arith
starts_from zero unit (suc n ∷ row) below = omega arith
starts_from (suc v) unit [] below = absurd (omega arith)
starts_from (suc v) unit (zero ∷ row) below = let rest = starts_from v (suc unit) row below in omega arith
starts_from (suc v) unit (suc n ∷ row) below = let rest = starts_from v (suc unit) row (omega arith) in omega arith

-- where all numbers before a unit are too small, so are the holes that begin before it
pub are_short : (v unit n : ℕ) (row : List ℕ) (k : ℕ) → ((j : ℕ) → j < v → get_or row j 0 < n) → k < rank v row → hole_end (holes_of unit row) k < start_of (holes_of unit row) k + 8 * n
are_short zero unit n row k few less = absurd (omega arith)
are_short (suc v) unit n [] k few less = absurd (omega arith)
are_short (suc v) unit n (zero ∷ row) k few less = are_short v (suc unit) n row k (λ j a. few (suc j) (omega arith)) less
are_short (suc v) unit n (suc m ∷ row) zero few less = let is = few 0 (omega arith) in omega arith
are_short (suc v) unit n (suc m ∷ row) (suc k) few less = are_short v (suc unit) n row k (λ j a. few (suc j) (omega arith)) (omega arith)

-- no hole begins inside another or where it ends
pub none_inside : (row : List ℕ) (high v k : ℕ) → AreHolesApart 0 (holes_of 0 row) high → 0 < get_or row v 0 → v < k → k ≤ v + get_or row v 0 → get_or row k 0 ≡ 0
none_inside row high v k apart some order inside =
    elim (cases_lt 0 (get_or row k 0)) [
      | inr none ↦ omega arith
      | inl other ↦
          let one = begins v 0 row some in
          let two = begins k 0 row other in
          let rise = holes_rise (rank v row) (rank k row) 0 (holes_of 0 row) high apart (rank_rises v k row some order) two.below in
          absurd (omega (arith, one.ends, two.starts))
    ]

-- a hole lies below the limit
pub ends_inside : (row : List ℕ) (high v : ℕ) → AreHolesApart 0 (holes_of 0 row) high → 0 < get_or row v 0 → 8 * (v + get_or row v 0) ≤ high
ends_inside row high v apart some =
    let one = begins v 0 row some in
    let most = end_below (rank v row) 0 (holes_of 0 row) high apart one.below in
    omega (arith, one.ends)

-- ---- a change of one number

pub cleared : (v unit : ℕ) (row : List ℕ) → 0 < get_or row v 0 → holes_of unit (set row v 0) ≡ remove (holes_of unit row) (rank v row)
cleared v unit [] some = absurd (omega arith)
cleared zero unit (zero ∷ row) some = absurd (omega arith)
cleared zero unit (suc n ∷ row) some = refl
cleared (suc v) unit (zero ∷ row) some = cleared v (suc unit) row some
cleared (suc v) unit (suc n ∷ row) some = ap (λ rest. record { start = 8 * unit; end = 8 * (unit + suc n) } ∷ rest) (cleared v (suc unit) row some)

pub filled : (v unit n from to : ℕ) (row : List ℕ) → 0 < n → v < length row → get_or row v 0 ≡ 0 → from ≡ 8 * (unit + v) → to ≡ 8 * (unit + v + n)
    → holes_of unit (set row v n) ≡ insert (holes_of unit row) (rank v row) (record { start = from; end = to })
filled v unit n from to [] some below none s e = absurd (omega arith)
filled zero unit zero from to (m ∷ row) some below none s e = absurd (omega arith)
filled zero unit (suc n) from to (suc m ∷ row) some below none s e = absurd (omega arith)
filled zero unit (suc n) from to (zero ∷ row) some below none s e =
    let starts : from ≡ 8 * unit = omega arith in
    let ends : to ≡ 8 * (unit + suc n) = omega arith in
    rw (starts, ends) refl
filled (suc v) unit n from to (zero ∷ row) some below none s e = filled v (suc unit) n from to row some (omega arith) none (omega arith) (omega arith)
filled (suc v) unit n from to (suc m ∷ row) some below none s e =
    ap (λ rest. record { start = 8 * unit; end = 8 * (unit + suc m) } ∷ rest) (filled v (suc unit) n from to row some (omega arith) none (omega arith) (omega arith))

pub changed : (v unit n from to : ℕ) (row : List ℕ) → 0 < n → 0 < get_or row v 0 → from ≡ 8 * (unit + v) → to ≡ 8 * (unit + v + n)
    → holes_of unit (set row v n) ≡ set (holes_of unit row) (rank v row) (record { start = from; end = to })
changed v unit n from to [] some held s e = absurd (omega arith)
changed zero unit n from to (zero ∷ row) some held s e = absurd (omega arith)
changed zero unit zero from to (suc m ∷ row) some held s e = absurd (omega arith)
changed zero unit (suc n) from to (suc m ∷ row) some held s e =
    let starts : from ≡ 8 * unit = omega arith in
    let ends : to ≡ 8 * (unit + suc n) = omega arith in
    rw (starts, ends) refl
changed (suc v) unit n from to (zero ∷ row) some held s e = changed v (suc unit) n from to row some held (omega arith) (omega arith)
changed (suc v) unit n from to (suc m ∷ row) some held s e =
    ap (λ rest. record { start = 8 * unit; end = 8 * (unit + suc m) } ∷ rest) (changed v (suc unit) n from to row some held (omega arith) (omega arith))

-- ---- and of two

-- a hole begins further behind
pub front_taken : (v w m from to : ℕ) (row : List ℕ) → 0 < m → 0 < get_or row v 0 → v < w → w < length row → ((k : ℕ) → v < k → k ≤ w → get_or row k 0 ≡ 0) → from ≡ 8 * w → to ≡ 8 * (w + m)
    → holes_of 0 (set (set row v 0) w m) ≡ set (holes_of 0 row) (rank v row) (record { start = from; end = to })
front_taken v w m from to row some held order below none s e =
    let apart : w ≢ v = λ is. absurd (omega arith) in
    let empty : get_or (set row v 0) w 0 ≡ 0 = get_or-set_other row v w 0 0 apart ∙ none w order (omega arith) in
    let long = length-set row v 0 in
    let place : rank w (set row v 0) ≡ rank v row =
    (let one = rank-cleared v w row held order in
    let two = rank_same (suc v) w row (omega arith) (λ k a b. none k (omega arith) (omega arith)) in
    let three = rank_past v row held in
    omega arith) in
    filled w 0 m from to (set row v 0) some (omega arith) empty (omega arith) (omega arith)
    ∙ ap (λ i. insert (holes_of 0 (set row v 0)) i (record { start = from; end = to })) place
    ∙ ap (λ holes. insert holes (rank v row) (record { start = from; end = to })) (cleared v 0 row held)
    ∙ insert-remove (rank v row) (holes_of 0 row) (record { start = from; end = to }) ((begins v 0 row held).below)

-- a hole begins further before
pub front_given : (v w n from to : ℕ) (row : List ℕ) → 0 < n → 0 < get_or row w 0 → v < w → ((k : ℕ) → v ≤ k → k < w → get_or row k 0 ≡ 0) → v < length row → from ≡ 8 * v → to ≡ 8 * (v + n)
    → holes_of 0 (set (set row w 0) v n) ≡ set (holes_of 0 row) (rank v row) (record { start = from; end = to })
front_given v w n from to row some held order none below s e =
    let apart : v ≢ w = λ is. absurd (omega arith) in
    let empty : get_or (set row w 0) v 0 ≡ 0 = get_or-set_other row w v 0 0 apart ∙ none v (omega arith) order in
    let long = length-set row w 0 in
    let one : rank v (set row w 0) ≡ rank v row = rank-set v w 0 row (omega arith) in
    let two : rank w row ≡ rank v row = rank_same v w row (omega arith) none in
    let within = (begins w 0 row held).below in
    filled v 0 n from to (set row w 0) some (omega arith) empty (omega arith) (omega arith)
    ∙ ap (λ i. insert (holes_of 0 (set row w 0)) i (record { start = from; end = to })) one
    ∙ ap (λ holes. insert holes (rank v row) (record { start = from; end = to })) (cleared w 0 row held ∙ ap (remove (holes_of 0 row)) two)
    ∙ insert-remove (rank v row) (holes_of 0 row) (record { start = from; end = to }) (omega arith)

-- two holes become one
pub joined : (v w n from to : ℕ) (row : List ℕ) → 0 < n → 0 < get_or row v 0 → 0 < get_or row w 0 → v < w → ((k : ℕ) → v < k → k < w → get_or row k 0 ≡ 0) → from ≡ 8 * v → to ≡ 8 * (v + n)
    → holes_of 0 (set (set row w 0) v n) ≡ remove (set (holes_of 0 row) (rank v row) (record { start = from; end = to })) (suc (rank v row))
joined v w n from to row some held behind order none s e =
    let apart : v ≢ w = λ is. absurd (omega arith) in
    let kept : get_or (set row w 0) v 0 ≡ get_or row v 0 = get_or-set_other row w v 0 0 apart in
    let one : rank v (set row w 0) ≡ rank v row = rank-set v w 0 row (omega arith) in
    let two : rank w row ≡ suc (rank v row) = rank_same (suc v) w row (omega arith) (λ k a b. none k (omega arith) b) ∙ rank_past v row held in
    changed v 0 n from to (set row w 0) some (omega arith) (omega arith) (omega arith)
    ∙ ap (λ i. set (holes_of 0 (set row w 0)) i (record { start = from; end = to })) one
    ∙ ap (λ holes. set holes (rank v row) (record { start = from; end = to })) (cleared w 0 row behind ∙ ap (remove (holes_of 0 row)) two)
    ∙ set-remove (rank v row) (holes_of 0 row) (record { start = from; end = to })

-- ---- the first row

none_yet : (n unit : ℕ) → holes_of unit (replicate n 0) ≡ []
none_yet zero unit = refl
none_yet (suc n) unit = none_yet n (suc unit)

pub one_hole : (n units limit : ℕ) → 0 < n → limit ≡ 8 * units → holes_of 0 (set (replicate n 0) 0 units) ≡ whole limit
one_hole zero units limit some is = absurd (omega arith)
one_hole (suc n) zero limit some is = let none : limit ≡ 0 = omega arith in rw none (none_yet n 1)
one_hole (suc n) (suc u) limit some is = whole_of limit (omega arith)
  where
    whole_of : (l : ℕ) → l ≡ 8 * (0 + suc u) → record { start = 8 * 0; end = 8 * (0 + suc u) } ∷ holes_of 1 (replicate n 0) ≡ whole l
    whole_of zero e = absurd (omega arith)
    whole_of (suc m) e = rw (none_yet n 1, ← e) refl

pub whole_apart : (limit : ℕ) → limit % 8 ≡ 0 → AreHolesApart 0 (whole limit) limit
whole_apart zero units = tt
whole_apart (suc n) units = (omega arith, omega arith, omega arith, omega arith, units, tt)
